-- Lists of one word, bits of 16-bit words, and tables of rows: one word read or written. Assumes nothing.
use mathlib.Core.Path.{◌≡◌, refl, sym, ap, ap₂, ◌∙◌}
use mathlib.Core.Bool.{◌&&◌, not}
use mathlib.Core.List.{List, []}
use Prim.Native.Nat.{ℕ, zero, suc, ◌^◌, ◌<◌, ◌≤◌}
use native.Mathlib.Omega.{arith}
use lib.ListN.{get_or, set, replicate, length-set}
use lib.Seq.{get_or-set_same, get_or-set_other}
use lib.Dec.{eqb}
use lib.Count.{ones}
use borrow.Author.Tests.{eqb-true, eqb-false}
use Rattle.laws.specs.Below.{count}
use Rattle.laws.specs.Masks.{bit, without}
use Rattle.laws.specs.Tables.{tabulate}
use Rattle.laws.proofs.Bools.{split}
use Rattle.laws.proofs.Below.{count_le}
use Rattle.laws.proofs.Tables.{length_tabulate, get_d_tabulate, is_tabulate, tabulate_cong}
use Rattle.laws.proofs.Masks.{mask_bits, bit_mask, mask_without, ones_without}

-- A list of the same word has it everywhere, where it stands for what is past the end too.
pub get_d_same : {A : Type 0} (n i : ℕ) (z : A) → get_or (replicate n z) i z ≡ z
get_d_same zero i z = refl
get_d_same (suc n) zero z = refl
get_d_same (suc n) (suc i) z = get_d_same n i z

-- The bits of a 16-bit word without its bit a, and how many are set.
module _ (a w : ℕ) (l : a < 16) (h : w < 2 ^ 16) where
  pub bit_without : (b : ℕ) → b < 16 → bit b (without a w) ≡ (bit b w && not (eqb a b))
  bit_without b m =
      ap (λ (x : ℕ). bit b (without a x)) (sym (mask_bits 16 w h))
      ∙ ap (bit b) (mask_without a (λ k. bit k w) l)
      ∙ bit_mask 16 b (λ k. bit k w && not (eqb a k)) m

  pub count-without : ones (without a w) ≡ count 16 (λ b. bit b w && not (eqb a b))
  count-without = ap (λ (x : ℕ). ones (without a x)) (sym (mask_bits 16 w h)) ∙ ones_without a (λ k. bit k w) l

  pub ones_max : ones (without a w) ≤ 16
  ones_max = omega (arith, count-without, count_le 16 (λ b. bit b w && not (eqb a b)))

-- A table of which one word is written anew.
module _ {A : Type 0} where
  pub set_tabulate : (n : ℕ) (f g : ℕ → A) (i : ℕ) (z : A) → i < n → ((k : ℕ) → k < n → (k ≡ i → ⊥) → g k ≡ f k) → set (tabulate n f) i (g i) ≡ tabulate n g
  set_tabulate n f g i z l h =
      is_tabulate (set (tabulate n f) i (g i)) n g z (length-set (tabulate n f) i (g i) ∙ length_tabulate n f)
      (λ k m. split (eqb k i)
      (λ e. rw (eqb-true k i e) (get_or-set_same (tabulate n f) i (g i) z (rw (length_tabulate n f) l)))
      (λ e. let ne : k ≡ i → ⊥ = eqb-false k i e in get_or-set_other (tabulate n f) i k (g i) z ne ∙ get_d_tabulate n f k z m ∙ sym (h k m ne)))

-- Rows of words: equal words, and one word read or written.
module _ {A : Type 0} where
  pub rows_cong : (n m : ℕ) (f g : ℕ → ℕ → A) → ((a b : ℕ) → a < n → b < m → f a b ≡ g a b) → tabulate n (λ a. tabulate m (f a)) ≡ tabulate n (λ a. tabulate m (g a))
  rows_cong n m f g h = tabulate_cong n (λ a. tabulate m (f a)) (λ a. tabulate m (g a)) (λ a l. tabulate_cong m (f a) (g a) (λ b k. h a b l k))

  pub rows_at : (n m : ℕ) (f : ℕ → ℕ → A) (z : A) (a b : ℕ) → a < n → b < m → get_or (get_or (tabulate n (λ a. tabulate m (f a))) a []) b z ≡ f a b
  rows_at n m f z a b l k = ap (λ (r : List A). get_or r b z) (get_d_tabulate n (λ a. tabulate m (f a)) a [] l) ∙ get_d_tabulate m (f a) b z k

  pub rows_set : (n m : ℕ) (f g : ℕ → ℕ → A) (z : A) (r c : ℕ) (v : A) → r < n → c < m → v ≡ g r c → ((a b : ℕ) → (a ≡ r → b ≡ c → ⊥) → g a b ≡ f a b) →
      set (tabulate n (λ a. tabulate m (f a))) r (set (get_or (tabulate n (λ a. tabulate m (f a))) r []) c v) ≡ tabulate n (λ a. tabulate m (g a))
  rows_set n m f g z r c v lr lc e h =
      ap (set (tabulate n (λ a. tabulate m (f a))) r)
      (ap₂ (λ (x : List A) (y : A). set x c y) (get_d_tabulate n (λ a. tabulate m (f a)) r [] lr) e
      ∙ set_tabulate m (f r) (g r) c z lc (λ b k q. h r b (λ x y. q y)))
      ∙ set_tabulate n (λ a. tabulate m (f a)) (λ a. tabulate m (g a)) r [] lr (λ a l q. tabulate_cong m (g a) (f a) (λ b k. h a b (λ x y. q x)))
