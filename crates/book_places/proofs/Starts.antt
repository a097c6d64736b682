-- The start of a box, counted grocer by grocer: of each the boxes before this one that have a total of it. Assumes nothing.
use mathlib.Core.Path.{◌≡◌, refl, sym, ap, ap₂, ◌∙◌}
use mathlib.Core.Bool.{Bool, true, false, ◌&&◌, ◌||◌}
use mathlib.Core.List.{List}
use Prim.Native.Nat.{ℕ, ◌-◌, ◌^◌, ◌<◌, ◌≤◌}
use native.Mathlib.Omega.{arith}
use lib.Bits.{bit_and, bit_or}
use lib.Count.{ones}
use lib.Dec.{eqb, ltb}
use Rattle.laws.specs.Below.{naturals, sum, only, count}
use Rattle.laws.specs.Masks.{bit, mask_of}
use Rattle.laws.proofs.Bools.{and_comm, and_one}
use Rattle.laws.proofs.Below.{count_le}
use Rattle.laws.proofs.Masks.{mask_bits, mask_or, mask_and, mask_below, mask_cong, mask_none, mask_not, ones_mask}
use Rattle.laws.proofs.Sums.{sum_swap}
use Rattle.book_places.specs.Spots.{total_by, count_by, start_by}

less_none : (x : ℕ) → x ≡ x - 0
less_none x = omega arith

-- The word of the boxes below b.
low_is : (b : ℕ) → b ≤ 16 → 2 ^ b - 1 ≡ mask_of 16 (λ c. ltb c b && true)
low_is b l = less_none (2 ^ b - 1) ∙ ap (λ (x : ℕ). (2 ^ b - 1) - x) (sym (mask_none b)) ∙ mask_not b (λ c. false) ∙ sym (mask_below b 16 (λ c. true) l)

-- The ones of a word have at most 16 places.
pub ones_few : (w : ℕ) → w < 2 ^ 16 → ones w ≤ 16
ones_few w l = omega (arith, ap ones (sym (mask_bits 16 w l)) ∙ ones_mask 16 (λ b. bit b w), count_le 16 (λ b. bit b w))

or_comm : (a b : Bool) → (a || b) ≡ (b || a)
or_comm true true = refl
or_comm true false = refl
or_comm false true = refl
or_comm false false = refl

-- The boxes below b of a word and an owner are counted by its ones.
pub below-count : (owner word below b : ℕ) → owner < 16 → word < 2 ^ 16 → b ≤ 16 → below ≡ 2 ^ b - 1 →
    ones (bit_and (bit_or word (2 ^ owner)) below) ≡ count b (λ c. eqb owner c || bit c word)
below-count owner word below b lo lw lb e =
    ap₂ (λ (x y : ℕ). ones (bit_and x y))
    (ap (λ (w : ℕ). bit_or w (2 ^ owner)) (sym (mask_bits 16 word lw)) ∙ mask_or 16 owner (λ c. bit c word) lo)
    (e ∙ low_is b lb)
    ∙ ap ones (mask_and 16 (λ c. bit c word || eqb owner c) (λ c. ltb c b && true)
    ∙ mask_cong 16 _ (λ c. ltb c b && (eqb owner c || bit c word))
    (λ c q. and_comm (bit c word || eqb owner c) (ltb c b && true) ∙ ap₂ ◌&&◌ (and_one (ltb c b)) (or_comm (bit c word) (eqb owner c)))
    ∙ mask_below b 16 (λ c. eqb owner c || bit c word) lb)
    ∙ ones_mask b (λ c. eqb owner c || bit c word)

-- What one grocer adds.
unfoldable pub one_grocer : List ℕ → List ℕ → ℕ → ℕ → ℕ
one_grocer owners words b g = count b (λ c. total_by owners words c g)

pub start_grocers : (m : ℕ) (owners words : List ℕ) (b : ℕ) → sum naturals m (one_grocer owners words b) ≡ start_by m owners words b
unfolding start_by count_by one_grocer count
start_grocers m owners words b = sum_swap naturals m b (λ g c. only naturals (total_by owners words c g) 1)
