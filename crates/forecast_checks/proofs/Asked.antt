-- A request by the number of its kind, and its conditions as the forecast has them. Assumes nothing.
use mathlib.Core.Path.{◌≡◌, refl, sym, ap, ◌∙◌}
use mathlib.Core.Bool.{Bool, true, false, cond, ◌&&◌, ◌||◌, not}
use mathlib.Core.List.{List}
use Prim.Native.Nat.{ℕ, zero, suc, ◌*◌, ◌<◌, ◌≤◌}
use native.Mathlib.Omega.{arith}
use lib.Dec.{eqb, ltb, leb}
use lib.ListN.{length}
use borrow.Author.Tests.{ltb-true, leb-true, lt-ltb}
use Rattle.laws.specs.Checks.{first_met}
use Rattle.laws.proofs.Bools.{and_l, and_r}
use Rattle.laws.proofs.Below.{all_cong}
use Rattle.model.specs.Job.{prices_due, totals_due}
use Rattle.model.specs.Step.{Asked, asked, is_kind}
use Rattle.model.specs.Tables.{steps_done}
use Rattle.model.specs.Steps as Money
use Rattle.step_places.specs.Marks.{MarksIn}
use Rattle.step_places.specs.Message.{reaches}
use Rattle.forecast_rules.specs.Lines.{Forecast}
use Rattle.forecast_rules.specs.Steps.{Kind, send_values, receive_values, add_lines, send_parts, receive_parts, sum_own, kind_number, kind_of, Steps, one_box, fits, has_step, all_due, ready}
use Rattle.forecast_rules.specs.Tables.{from_marks}
use Rattle.forecast_rules.specs.Step.{boxes_fit, step_rules}
use Rattle.forecast_checks.specs.Rules.{boxes_asked, fits_by, due_done, all_due_by, ready_by, rules_by}

-- A kind is 1 to 6.
pub kind_from : (n : ℕ) → is_kind n ≡ true → 1 ≤ n
unfolding is_kind
kind_from n h = leb-true 1 n (and_l (leb 1 n) (leb n 6) h)

pub kind_to : (n : ℕ) → is_kind n ≡ true → n ≤ 6
unfolding is_kind
kind_to n h = leb-true n 6 (and_r (leb 1 n) (leb n 6) h)

-- By cases of the six numbers.
pub by_kind : (P : ℕ → Type 0) → P 1 → P 2 → P 3 → P 4 → P 5 → P 6 → (n : ℕ) → 1 ≤ n → n ≤ 6 → P n
by_kind P a b c d e f zero h l = absurd (omega arith)
by_kind P a b c d e f (suc zero) h l = a
by_kind P a b c d e f (suc (suc zero)) h l = b
by_kind P a b c d e f (suc (suc (suc zero))) h l = c
by_kind P a b c d e f (suc (suc (suc (suc zero)))) h l = d
by_kind P a b c d e f (suc (suc (suc (suc (suc zero))))) h l = e
by_kind P a b c d e f (suc (suc (suc (suc (suc (suc zero)))))) h l = f
by_kind P a b c d e f (suc (suc (suc (suc (suc (suc (suc n))))))) h l = absurd (omega arith)

-- Kinds 3 and 6 have one box.
pub one_box_lem : (n : ℕ) → 1 ≤ n → n ≤ 6 → (eqb n 3 || eqb n 6) ≡ one_box (kind_of n)
unfolding one_box kind_of
one_box_lem = by_kind (λ n. (eqb n 3 || eqb n 6) ≡ one_box (kind_of n)) refl refl refl refl refl refl

pub as_asked : (t s : Bool) → (t && s || not t && not s) ≡ cond t s (not s)
as_asked true true = refl
as_asked true false = refl
as_asked false s = refl

-- The mark of a kind's number is that of the kind.
pub done_is : (k : ℕ) (done : List ℕ) (a b n : ℕ) → 1 ≤ n → n ≤ 6 → steps_done k done (Money.kind_of n) a b ≡ from_marks k done (kind_of n) a b
unfolding from_marks kind_of kind_number
done_is k done a b = by_kind (λ n. steps_done k done (Money.kind_of n) a b ≡ from_marks k done (kind_of n) a b) refl refl refl refl refl refl

-- A step that is no message is one of a single box.
pub own_fits : (receivers senders : List ℕ) (a b n : ℕ) → 1 ≤ n → n ≤ 6 → (n ≡ 1 → ⊥) → (n ≡ 2 → ⊥) → (n ≡ 4 → ⊥) → (n ≡ 5 → ⊥) → eqb a b ≡ fits_by receivers senders (kind_of n) a b
unfolding fits_by kind_of
own_fits receivers senders a b =
    by_kind (λ n. (n ≡ 1 → ⊥) → (n ≡ 2 → ⊥) → (n ≡ 4 → ⊥) → (n ≡ 5 → ⊥) → eqb a b ≡ fits_by receivers senders (kind_of n) a b)
    (λ h i j l. absurd (h refl)) (λ h i j l. absurd (i refl)) (λ h i j l. refl) (λ h i j l. absurd (j refl)) (λ h i j l. absurd (l refl)) (λ h i j l. refl)

-- Boxes that fit are below k, and a kind from 1 to 6 has a mark with them.
pub marks_in : (k kind a b : ℕ) (done : List ℕ) (t : Bool) → k ≤ 16 → 6 * k * k ≤ length done → is_kind kind ≡ true → (ltb a k && (ltb b k && t)) ≡ true → MarksIn k kind a b done
marks_in k kind a b done t lk long e h = record {
  kind_from = kind_from kind e;
  kind_to = kind_to kind e;
  boxes_in = lk;
  a_in = ltb-true a k (and_l (ltb a k) _ h);
  b_in = ltb-true b k (and_l (ltb b k) t (and_r (ltb a k) _ h));
  done_long = long;
}

-- The conditions 22 to 26 one after the other, by the tests before each.
module _ (k : ℕ) (receivers senders done : List ℕ) (kind a b : ℕ) where
  abbrev rules : List (Bool × ℕ)
  rules = rules_by k receivers senders (from_marks k done) (asked kind a b)

  abbrev boxed : Bool
  boxed = ltb a k && (ltb b k && boxes_asked (kind_of kind) a b)

  pub kind_met : is_kind kind ≡ false → 22 ≡ first_met rules
  unfolding first_met rules_by
  kind_met h = rw h

  module _ (i : is_kind kind ≡ true) where
    pub kind_in : (1 ≤ kind) × (kind ≤ 6)
    kind_in = (kind_from kind i, kind_to kind i)

    pub boxes_met : boxed ≡ false → 23 ≡ first_met rules
    unfolding first_met rules_by
    boxes_met h = rw (i, h)

    module _ (x : boxed ≡ true) where
      pub step_met : fits_by receivers senders (kind_of kind) a b ≡ false → 24 ≡ first_met rules
      unfolding first_met rules_by
      step_met h = rw (i, x, h)

      module _ (lk : k ≤ 16) (long : 6 * k * k ≤ length done) where
        pub mark_in : MarksIn k kind a b done
        mark_in = marks_in k kind a b done (boxes_asked (kind_of kind) a b) lk long i x

        pub message_in : (1 ≤ kind) × ((kind ≤ 6) × ((a < 16) × (b < 16)))
        message_in = let m = mark_in in (m.kind_from, (m.kind_to, (omega (arith, m.a_in, lk), omega (arith, m.b_in, lk))))

      module _ (f : fits_by receivers senders (kind_of kind) a b ≡ true) (d : Bool) (ed : d ≡ steps_done k done (Money.kind_of kind) a b) where
        marked : d ≡ from_marks k done (kind_of kind) a b
        marked = ed ∙ done_is k done a b kind kind_in.0 kind_in.1

        pub done_met : d ≡ true → 25 ≡ first_met rules
        unfolding first_met rules_by
        done_met h = rw (i, x, f, sym marked, h)

        pub ready_told : d ≡ false → (r : Bool) → ready_by k receivers senders (from_marks k done) (kind_of kind) a b ≡ r → cond r 0 26 ≡ first_met rules
        unfolding first_met rules_by
        ready_told h true e = rw (i, x, f, sym marked, h, e)
        ready_told h false e = rw (i, x, f, sym marked, h, e)

-- Two lists of rules that differ only where the boxes do not fit.
same_rules : (i x f f' d r r' : Bool) → (x ≡ true → f ≡ f') → (x ≡ true → r ≡ r') →
    cond {A = ℕ} (not i) 22 (cond (not x) 23 (cond (not f) 24 (cond d 25 (cond (not r) 26 0))))
    ≡ cond (not i) 22 (cond (not x) 23 (cond (not f') 24 (cond d 25 (cond (not r') 26 0))))
same_rules i true f f' d r r' ef er = rw (ef refl, er refl)
same_rules i false f f' d r r' ef er = refl

-- Words of receivers and senders that tell the messages of a forecast.
module _ (f : Forecast) (receivers senders : List ℕ)
    (prices : (a b : ℕ) → a < f.job.boxes → b < f.job.boxes → reaches receivers a b ≡ prices_due f.job a b)
    (totals : (a b : ℕ) → a < f.job.boxes → b < f.job.boxes → reaches senders b a ≡ totals_due f.job a b) where
  fits_is : (q : Kind) (a b : ℕ) → a < f.job.boxes → b < f.job.boxes → fits_by receivers senders q a b ≡ fits f q a b
  unfolding fits_by fits
  fits_is send_values a b la lb = prices a b la lb
  fits_is receive_values a b la lb = prices b a lb la
  fits_is add_lines a b la lb = refl
  fits_is send_parts a b la lb = totals a b la lb
  fits_is receive_parts a b la lb = totals b a lb la
  fits_is sum_own a b la lb = refl

  due_is : (d : Steps) (q : Kind) (a : ℕ) → a < f.job.boxes → all_due_by f.job.boxes receivers senders d q a ≡ all_due f d q a
  unfolding all_due_by all_due due_done has_step
  due_is d q a la = all_cong f.job.boxes _ _ (λ c lc. rw (fits_is q a c la lc, lt-ltb a f.job.boxes la, lt-ltb c f.job.boxes lc))

  ready_is : (d : Steps) (q : Kind) (a b : ℕ) → a < f.job.boxes → ready_by f.job.boxes receivers senders d q a b ≡ ready f d q a b
  unfolding ready_by ready
  ready_is d send_values a b la = refl
  ready_is d receive_values a b la = refl
  ready_is d add_lines a b la = due_is d receive_values a la
  ready_is d send_parts a b la = refl
  ready_is d receive_parts a b la = refl
  ready_is d sum_own a b la = ap (λ (t : Bool). d add_lines a a && t) (due_is d receive_parts a la)

  -- The conditions 22 to 26, for any request.
  pub rules_are : (d : Steps) (q : Asked) → first_met (rules_by f.job.boxes receivers senders d q) ≡ first_met (step_rules f d q)
  unfolding first_met rules_by step_rules boxes_fit boxes_asked
  rules_are d q =
      let k = kind_of q.kind in
      let a = q.first in
      let b = q.second in
      same_rules (is_kind q.kind) (boxes_fit f k a b) _ _ (d k a b) _ _
      (λ e. fits_is k a b (ltb-true a f.job.boxes (and_l (ltb a f.job.boxes) _ e)) (ltb-true b f.job.boxes (and_l (ltb b f.job.boxes) _ (and_r (ltb a f.job.boxes) _ e))))
      (λ e. ready_is d k a b (ltb-true a f.job.boxes (and_l (ltb a f.job.boxes) _ e)))
