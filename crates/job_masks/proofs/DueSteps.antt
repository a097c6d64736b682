-- The steps that a job has: told from the words they are the model's. Assumes nothing.
use mathlib.Core.Path.{◌≡◌, refl, ap}
use mathlib.Core.List.{List}
use Prim.Native.Nat.{ℕ, zero, suc, ◌-◌, ◌*◌, ◌/◌, ◌%◌, ◌≤◌, ◌<◌}
use native.Mathlib.Omega.{arith}
use native.Mathlib.Nat.{mod-lt, mul-le-mul}
use lib.Dec.{eqb}
use borrow.Author.Tests.{lt-ltb}
use Rattle.laws.specs.Tables.{tabulate}
use Rattle.model.specs.Job.{need_word, sharer_word}
use Rattle.model.specs.Steps.{Kind, send_prices, multiply_own, receive_prices, send_totals, add_own, receive_totals, kind_of, step_at, at_place, fits, has_step}
use Rattle.model.specs.Tables.{JobTables, job_of}
use Rattle.model.specs.Handed.{Handed}
use Rattle.step_places.specs.Places.{PlaceIn, here}
use Rattle.job_masks.specs.Due.{due_by, due_at}
use Rattle.job_masks.specs.Masks.{by_owner}
use Rattle.step_places.proofs.Places.{kind_of_lem, first_of, second_of}
use Rattle.job_masks.proofs.Owned.{prices_reach, totals_reach}

-- The kinds with one box are due where their boxes are equal.
pub due_one : (receivers senders : List ℕ) (a b n : ℕ) → 1 ≤ n → n ≤ 6 → (n ≡ 1 → ⊥) → (n ≡ 3 → ⊥) → (n ≡ 4 → ⊥) → (n ≡ 6 → ⊥) →
    eqb a b ≡ due_by receivers senders (kind_of n) a b
unfolding due_by kind_of
due_one receivers senders a b zero h l x y z w = absurd (omega arith)
due_one receivers senders a b (suc zero) h l x y z w = absurd (x refl)
due_one receivers senders a b (suc (suc zero)) h l x y z w = refl
due_one receivers senders a b (suc (suc (suc zero))) h l x y z w = absurd (y refl)
due_one receivers senders a b (suc (suc (suc (suc zero)))) h l x y z w = absurd (z refl)
due_one receivers senders a b (suc (suc (suc (suc (suc zero))))) h l x y z w = refl
due_one receivers senders a b (suc (suc (suc (suc (suc (suc zero)))))) h l x y z w = absurd (w refl)
due_one receivers senders a b (suc (suc (suc (suc (suc (suc (suc n))))))) h l x y z w = absurd (omega arith)

-- There are few places.
pub places_few : (k : ℕ) → k ≤ 16 → 6 * k * k ≤ 1536
places_few k l = mul-le-mul {n₂ = 96} {m₂ = 16} (omega arith) l

-- The step at a place is the one of its kind and boxes.
pub due_here : (k kind a b : ℕ) (receivers senders : List ℕ) → PlaceIn k kind a b → due_by receivers senders (kind_of kind) a b ≡ due_at k receivers senders (here k kind a b)
unfolding step_at
due_here k kind a b receivers senders p =
    rw (kind_of_lem k kind a b p.a_in p.b_in, first_of k kind a b p.a_in p.b_in, second_of k kind a b p.a_in p.b_in)
    (ap (λ (n : ℕ). due_by receivers senders (kind_of n) a b) (up kind p.kind_from))
  where
    up : (n : ℕ) → 1 ≤ n → n ≡ suc (n - 1)
    up n h = omega arith

-- With the need words and sharer words of a job.
module _ (f : JobTables) (g : Handed f) (some : 1 ≤ f.boxes) (needs sharers : List ℕ)
    (needs_of : needs ≡ tabulate 500 (need_word (job_of f))) (sharers_of : sharers ≡ tabulate 255 (sharer_word (job_of f))) where
  -- The words of each owner.
  abbrev receivers : List ℕ
  receivers = by_owner f.offers f.offer_owner needs

  abbrev senders : List ℕ
  senders = by_owner f.grocers f.grocer_owner sharers

  -- The steps that they tell are the job's.
  fits_is : (q : Kind) (a b : ℕ) → a < f.boxes → b < f.boxes → due_by receivers senders q a b ≡ fits (job_of f) q a b
  unfolding due_by fits
  fits_is send_prices a b la lb = prices_reach f g needs needs_of a b la lb
  fits_is multiply_own a b la lb = refl
  fits_is receive_prices a b la lb = prices_reach f g needs needs_of b a lb la
  fits_is send_totals a b la lb = totals_reach f g sharers sharers_of a b la lb
  fits_is add_own a b la lb = refl
  fits_is receive_totals a b la lb = totals_reach f g sharers sharers_of b a lb la

  pub due_is : (i : ℕ) → due_at f.boxes receivers senders i ≡ at_place f.boxes (has_step (job_of f)) i
  unfolding step_at has_step job_of
  due_is i =
      let la : i / f.boxes % f.boxes < f.boxes = mod-lt (i / f.boxes) some in
      let lb : i % f.boxes < f.boxes = mod-lt i some in
      rw (lt-ltb _ f.boxes la, lt-ltb _ f.boxes lb) (fits_is _ _ _ la lb)
