-- The steps that a job has: told from the words they are the model's, and one place more. Assumes nothing.
use mathlib.Core.Path.{◌≡◌, refl, sym, ap, ◌∙◌}
use mathlib.Core.Bool.{Bool, true, false}
use mathlib.Core.List.{List, [], ◌∷◌, ◌++◌, append-nil}
use Prim.Native.Nat.{ℕ, suc, ◌+◌, ◌-◌, ◌*◌, ◌≤◌, ◌<◌}
use native.Mathlib.Omega.{arith}
use native.Mathlib.Nat.{add-zero, mul-le-mul}
use native.Mathlib.Numerals.{add-one}
use mir.Val.{bool_byte}
use lib.ListN.{length, take, set, length-set}
use lib.Seq.{take-suc, take-set-le, get_or-set_same}
use Rattle.laws.specs.Below.{ascending}
use Rattle.model.specs.Steps.{kind_of, step_at}
use Rattle.step_places.specs.Places.{PlaceIn, here}
use Rattle.step_places.proofs.Places.{kind_of_lem, first_of, second_of}
use Rattle.job_masks.specs.Due.{due_by, due_at}

-- One place more that passes, and one that does not.
one_more : (p : ℕ → Bool) (i : ℕ) → true ≡ p i → ascending i p ++ (i ∷ []) ≡ ascending (suc i) p
unfolding ascending
one_more p i q = rw (← q)

none_more : (p : ℕ → Bool) (i : ℕ) → false ≡ p i → ascending i p ≡ ascending (suc i) p
unfolding ascending
none_more p i q = rw (← q) (sym (append-nil (ascending i p)))

-- Place i is written behind the first n words; it counts where it passes.
pub due_next : (p : ℕ → Bool) (i n : ℕ) (order : List ℕ) → n < length order → take n order ≡ ascending i p → (b : Bool) → b ≡ p i →
    take (n + bool_byte b) (set order n i) ≡ ascending (i + 1) p
due_next p i n order l e true q =
    ap (λ (m : ℕ). take m (set order n i)) (add-one n)
    ∙ take-suc (set order n i) n 0 (rw (length-set order n i) l)
    ∙ rw (take-set-le n order n i (omega arith), get_or-set_same order n i 0 l, e, add-one i) (one_more p i q)
due_next p i n order l e false q =
    ap (λ (m : ℕ). take m (set order n i)) (add-zero n)
    ∙ take-set-le n order n i (omega arith)
    ∙ e
    ∙ rw (add-one i) (none_more p i q)

-- At most one word more.
pub due_most : (n i : ℕ) (b : Bool) → n ≤ i → n + bool_byte b ≤ i + 1
due_most n i true l = omega arith
due_most n i false l = omega arith

-- No place is passed yet.
pub none_yet : (p : ℕ → Bool) (order : List ℕ) → take 0 order ≡ ascending 0 p
unfolding ascending
none_yet p order = refl

-- There are few places.
pub places_few : (k : ℕ) → k ≤ 16 → 6 * k * k ≤ 1536
places_few k l = mul-le-mul {n₂ = 96} {m₂ = 16} (omega arith) l

-- The step at a place is the one of its kind and boxes.
pub due_here : (k kind a b : ℕ) (receivers senders : List ℕ) → PlaceIn k kind a b → due_by receivers senders (kind_of kind) a b ≡ due_at k receivers senders (here k kind a b)
unfolding step_at
due_here k kind a b receivers senders p =
    rw (kind_of_lem k kind a b p.a_in p.b_in, first_of k kind a b p.a_in p.b_in, second_of k kind a b p.a_in p.b_in)
    (ap (λ (n : ℕ). due_by receivers senders (kind_of n) a b) (up kind p.kind_from))
  where
    up : (n : ℕ) → 1 ≤ n → n ≡ suc (n - 1)
    up n h = omega arith
