-- The tallies' offers, looked up one by one. Assumes nothing.
use mathlib.Core.Path.{◌≡◌, refl, sym, ap, ◌∙◌, subst}
use mathlib.Core.Bool.{Bool, true, false, not}
use mathlib.Core.List.{List}
use Prim.Native.Nat.{ℕ, ◌+◌, ◌<◌, ◌≤◌}
use native.Mathlib.Decide.{ℕ_discrete}
use native.Mathlib.Nat.{le_antisymm}
use native.Mathlib.Omega.{arith}
use lib.ListN.{length, get_or, set}
use lib.Seq.{get_or-set_same, get_or-set_other}
use borrow.Author.Tests.{eq-eqb, ne_eqb}
use Rattle.laws.specs.Below.{any}
use Rattle.laws.proofs.Bools.{split}
use Rattle.laws.proofs.Below.{any_next, any_at, find_passes, find_none}
use Rattle.laws.specs.Tables.{overwrite}
use Rattle.laws.proofs.Tables.{overwrite_cong}
use Rattle.format.specs.Job.{FileJob, names, place_of, unnamed}
use Rattle.format.specs.File.{decode}
use Rattle.file_blocks.specs.Fills.{Placed}
use Rattle.format.proofs.Range.{unnamed-place}

-- A place is at most N.
pub place_most : (j : FileJob) (t : ℕ) → place_of j t ≤ j.head.offers
unfolding place_of
place_most j t =
    split (any j.head.offers (names j t))
    (λ e. let l = (find_passes j.head.offers (names j t) e).0 in omega arith)
    (λ e. let l = find_none j.head.offers (names j t) e in omega arith)

-- ---- tallies looked up, one a turn

-- One of the first i tallies names no offer.
unfoldable pub unnamed_below : FileJob → ℕ → Bool
unnamed_below j i = any i (λ t. not (any j.head.offers (names j t)))

-- None is looked up yet.
pub none_yet : (j : FileJob) → unnamed_below j 0 ≡ false
unfolding unnamed_below any
none_yet j = refl

-- One that names an offer.
pub named_more : (j : FileJob) (n i p : ℕ) → n ≡ j.head.offers → p ≡ place_of j i → (p ≡ n → ⊥) → unnamed_below j i ≡ false → unnamed_below j (i + 1) ≡ false
unfolding unnamed_below
named_more j n i p e q d h =
    any_next i (λ t. not (any j.head.offers (names j t)))
    ∙ rw (h, unnamed-place j i) (ne_eqb (place_of j i) j.head.offers (λ z. d (q ∙ z ∙ sym e)))

-- One that names none.
pub unnamed_hit : (j : FileJob) (n i p t : ℕ) → n ≡ j.head.offers → t ≡ j.head.tallies → p ≡ place_of j i → p ≡ n → i < t → unnamed j ≡ true
unfolding unnamed
unnamed_hit j n i p t e z q d l =
    any_at j.head.tallies (λ t. not (any j.head.offers (names j t))) i (omega arith)
    (unnamed-place j i ∙ eq-eqb (place_of j i) j.head.offers (sym q ∙ d ∙ e))

-- All are looked up.
pub unnamed_end : (j : FileJob) (i t : ℕ) → i ≤ t → t ≤ i → t ≡ j.head.tallies → unnamed_below j i ≡ false → unnamed j ≡ false
unfolding unnamed unnamed_below
unnamed_end j i t a b z h = ap (λ (m : ℕ). any m (λ t. not (any j.head.offers (names j t)))) (sym z ∙ sym (le_antisymm a b)) ∙ h

-- Nothing is kept yet.
pub placed_none : (j : FileJob) (l : List ℕ) → Placed j l 0
placed_none j l = record { at = λ i h. absurd (omega arith) }

-- One place more is kept.
pub placed_more : {j : FileJob} {l : List ℕ} {i : ℕ} (v : ℕ) → Placed j l i → i < length l → v ≡ place_of j i → Placed j (set l i v) (i + 1)
placed_more {j} {l} {i} v p h e =
    record {
      at = λ k m.
          elim (ℕ_discrete k i) [
            | yes q ↦ subst (λ (x : ℕ). get_or (set l i v) x 0 ≡ place_of j x) (sym q) (get_or-set_same l i v 0 h ∙ e)
            | no q ↦ get_or-set_other l i k v 0 q ∙ p.at k (omega (arith, q))
          ];
    }

-- All are kept.
pub placed_end : {j : FileJob} {l : List ℕ} (i t : ℕ) → i ≤ t → t ≤ i → Placed j l i → Placed j l t
placed_end {j} {l} i t a b p = subst (λ (k : ℕ). Placed j l k) (le_antisymm a b) p

-- The places that were kept are the places that are stored.
pub places-stored : (f places old : List ℕ) {new : List ℕ} {t : ℕ} → Placed (decode f) places t → new ≡ overwrite t (λ i. get_or places i 0) old → new ≡ overwrite t (place_of (decode f)) old
places-stored f places old {t = t} p w = w ∙ overwrite_cong t _ _ old (λ i l. p.at i l)
