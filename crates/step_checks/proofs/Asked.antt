-- A request by the number of its kind, and its conditions as the model has them. Assumes nothing.
-- A kind is 1 to 6.
use mathlib.Core.Path.{◌≡◌, refl}
use mathlib.Core.Bool.{Bool, true, false, cond, ◌&&◌, ◌||◌, not}
use mathlib.Core.List.{List}
use Prim.Native.Nat.{ℕ, zero, suc, ◌*◌, ◌<◌, ◌≤◌}
use native.Mathlib.Omega.{arith}
use lib.Dec.{eqb, ltb, leb}
use lib.ListN.{length}
use borrow.Author.Tests.{ltb-true, leb-true, leb-false}
use Rattle.laws.specs.Checks.{first_met}
use Rattle.laws.proofs.Bools.{split, and_l, and_r}
use Rattle.model.specs.Job.{Job}
use Rattle.model.specs.Step.{Asked, is_kind, boxes_fit, step_rules}
use Rattle.model.specs.Steps.{Kind, kind_number, kind_of, Steps, one_box}
use Rattle.step_places.specs.Marks.{MarksIn}
use Rattle.step_rules.specs.Rules.{ReceiversOf, WaitsOf}
use Rattle.step_checks.specs.Request.{boxes_fit_by, rules_by}
use Rattle.step_rules.proofs.InModel.{fits_is, ready_is}

pub kind_from : (n : ℕ) → is_kind n ≡ true → 1 ≤ n
unfolding is_kind
kind_from n h = leb-true 1 n (and_l (leb 1 n) (leb n 6) h)

pub kind_to : (n : ℕ) → is_kind n ≡ true → n ≤ 6
unfolding is_kind
kind_to n h = leb-true n 6 (and_r (leb 1 n) (leb n 6) h)

-- Kinds 2 and 5 have one box.
pub one_box_lem : (n : ℕ) → 1 ≤ n → n ≤ 6 → (eqb n 2 || eqb n 5) ≡ one_box (kind_of n)
unfolding one_box kind_of
one_box_lem zero h l = absurd (omega arith)
one_box_lem (suc zero) h l = refl
one_box_lem (suc (suc zero)) h l = refl
one_box_lem (suc (suc (suc zero))) h l = refl
one_box_lem (suc (suc (suc (suc zero)))) h l = refl
one_box_lem (suc (suc (suc (suc (suc zero))))) h l = refl
one_box_lem (suc (suc (suc (suc (suc (suc zero)))))) h l = refl
one_box_lem (suc (suc (suc (suc (suc (suc (suc n))))))) h l = absurd (omega arith)

pub as_asked : (t s : Bool) → (t && s || not t && not s) ≡ cond t s (not s)
as_asked true true = refl
as_asked true false = refl
as_asked false s = refl

-- Kinds up to 3 are those of prices, the others those of totals.
price_side : (n : ℕ) → n ≤ 3 → kind_number (kind_of n) ≤ 3
unfolding kind_number kind_of
price_side zero h = omega arith
price_side (suc zero) h = omega arith
price_side (suc (suc zero)) h = omega arith
price_side (suc (suc (suc zero))) h = omega arith
price_side (suc (suc (suc (suc n)))) h = absurd (omega arith)

total_side : (n : ℕ) → 4 ≤ n → 4 ≤ kind_number (kind_of n)
unfolding kind_number kind_of
total_side zero h = absurd (omega arith)
total_side (suc zero) h = absurd (omega arith)
total_side (suc (suc zero)) h = absurd (omega arith)
total_side (suc (suc (suc zero))) h = absurd (omega arith)
total_side (suc (suc (suc (suc zero)))) h = omega arith
total_side (suc (suc (suc (suc (suc zero))))) h = omega arith
total_side (suc (suc (suc (suc (suc (suc n)))))) h = omega arith

-- Boxes that fit are below k.
first_in : (k : ℕ) (q : Kind) (a b : ℕ) → boxes_fit_by k q a b ≡ true → a < k
unfolding boxes_fit_by
first_in k q a b h = ltb-true a k (and_l (ltb a k) _ h)

second_in : (k : ℕ) (q : Kind) (a b : ℕ) → boxes_fit_by k q a b ≡ true → b < k
unfolding boxes_fit_by
second_in k q a b h = ltb-true b k (and_l (ltb b k) _ (and_r (ltb a k) _ h))

-- A kind from 1 to 6 with boxes that fit has a mark.
pub marks_in : (k kind a b : ℕ) (done : List ℕ) → k ≤ 16 → 6 * k * k ≤ length done → is_kind kind ≡ true → boxes_fit_by k (kind_of kind) a b ≡ true → MarksIn k kind a b done
marks_in k kind a b done lk long e h = record {
  kind_from = kind_from kind e;
  kind_to = kind_to kind e;
  boxes_in = lk;
  a_in = first_in k (kind_of kind) a b h;
  b_in = second_in k (kind_of kind) a b h;
  done_long = long;
}

-- A number is at most n, or more.
by_cases : {P : Type 0} (m n : ℕ) → (m ≤ n → P) → (n < m → P) → P
by_cases m n low high = split (leb m n) (λ e. low (leb-true m n e)) (λ e. high (leb-false m n e))

-- Two lists of rules that differ only where the boxes do not fit.
same_rules : (i x f f' d r r' : Bool) → (x ≡ true → f ≡ f') → (x ≡ true → r ≡ r') →
    cond {A = ℕ} (not i) 22 (cond (not x) 23 (cond (not f) 24 (cond d 25 (cond (not r) 26 0))))
    ≡ cond (not i) 22 (cond (not x) 23 (cond (not f') 24 (cond d 25 (cond (not r') 26 0))))
same_rules i true f f' d r r' ef er = rw (ef refl, er refl)
same_rules i false f f' d r r' ef er = refl

module _ (j : Job) (receivers : List ℕ) (waits : List (List ℕ)) (d : Steps) (q : Asked) (hr : q.kind ≤ 3 → ReceiversOf j receivers) (hw : 4 ≤ q.kind → WaitsOf j waits) where
  abbrev kind : Kind
  kind = kind_of q.kind

  receivers_side : kind_number kind ≤ 3 → ReceiversOf j receivers
  receivers_side l = by_cases q.kind 3 (λ h. hr h) (λ h. absurd (let m : 4 ≤ kind_number kind = total_side q.kind h in omega arith))

  waits_side : 4 ≤ kind_number kind → WaitsOf j waits
  waits_side l = by_cases q.kind 3 (λ h. absurd (let m : kind_number kind ≤ 3 = price_side q.kind h in omega arith)) (λ h. hw h)

  -- The conditions 22 to 26, for any request.
  pub rules_are : first_met (rules_by j.boxes receivers waits d q) ≡ first_met (step_rules j d q)
  unfolding first_met rules_by step_rules boxes_fit_by boxes_fit
  rules_are =
      same_rules (is_kind q.kind) (boxes_fit j kind q.first q.second) _ _ (d kind q.first q.second) _ _
      (λ e. fits_is j receivers waits kind receivers_side waits_side q.first q.second (first_in j.boxes kind q.first q.second e) (second_in j.boxes kind q.first q.second e))
      (λ e. ready_is j receivers waits kind waits_side d q.first q.second (first_in j.boxes kind q.first q.second e) (second_in j.boxes kind q.first q.second e))
