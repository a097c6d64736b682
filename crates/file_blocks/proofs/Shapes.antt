-- What is known of a file of which nothing is refused but 7, 8 and 9. Assumes nothing.
use mathlib.Core.Path.{◌≡◌, refl, sym, subst, ◌∙◌}
use mathlib.Core.List.{List}
use Prim.Native.Nat.{ℕ, ◌≤◌}
use native.Mathlib.Omega.{arith}
use lib.ListN.{length}
use Rattle.format.specs.Job.{Head}
use Rattle.format.specs.File.{decode}
use Rattle.format.specs.Refusals.{file_refusal}
use Rattle.file_blocks.specs.Shape.{shape_refusal}
use Rattle.file_blocks.specs.Fills.{Placed}
use Rattle.file_blocks.specs.Sound.{Sound, Kept, last_refusal}
use Rattle.file_blocks.proofs.ShapeOrder as form

-- Something before 7 is refused.
pub shape_refused : (f : List ℕ) (r : ℕ) → r ≡ shape_refusal f → (r ≡ 0 → ⊥) → r ≡ file_refusal f
shape_refused f r e n = e ∙ sym (form.shape_refused f (λ z. n (e ∙ z)))

-- Nothing is, and 7, 8 and 9 decide.
pub shape_passed : (f : List ℕ) (r : ℕ) → shape_refusal f ≡ 0 → r ≡ last_refusal (decode f) → r ≡ file_refusal f
unfolding last_refusal
shape_passed f r e q = q ∙ sym (form.shape_accepted f e)

-- Its length, its numbers and its codes are right.
pub sound : (f : List ℕ) → shape_refusal f ≡ 0 → Sound f (decode f).head
sound f ok =
    let z = form.shape_sizes f ok in
    record {
      whole = record {
        says = refl;
        most = record { boxes = z.boxes_most; grocers = z.grocers_most; offers = z.offers_most; tallies = z.tallies_most; lists = z.lists_most };
        long = form.shape_long f ok;
      };
      offer = λ i h. (form.shape_offer f ok i h).code;
      tally = λ i h. (form.shape_tally f ok i h).code;
    }

-- A sound file has its header.
pub has_header : {f : List ℕ} {h : Head} → Sound f h → 15 ≤ length f
has_header s = omega (arith, s.whole.long)

-- What is known of the numbers that the header says is known of those that were read.
pub sound_read : {f : List ℕ} {h : Head} → h ≡ (decode f).head → Sound f (decode f).head → Sound f h
sound_read {f} e s = subst (Sound f) (sym e) s

-- A sound file whose tallies' places are kept.
pub kept_read : {f places : List ℕ} {h : Head} → h ≡ (decode f).head → Sound f (decode f).head → Placed (decode f) places h.tallies → Kept f places
kept_read {f} {places} e s p = record { sound = s; placed = subst (λ (x : Head). Placed (decode f) places x.tallies) e p }

-- The places that are kept, for the numbers that were read.
pub placed_read : {f places : List ℕ} {h : Head} → h ≡ (decode f).head → Kept f places → Placed (decode f) places h.tallies
placed_read {f} {places} e k = subst (λ (x : Head). Placed (decode f) places x.tallies) (sym e) k.placed
