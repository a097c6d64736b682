-- Ranges of tables of numbers that are written anew. Assumes nothing.
use mathlib.Core.Path.{◌≡◌, ap}
use mathlib.Core.Bool.{Bool, true, cond, ◌&&◌}
use mathlib.Core.List.{List}
use Prim.Native.Nat.{ℕ, ◌+◌, ◌*◌, ◌/◌, ◌%◌, ◌≤◌}
use native.Mathlib.Omega.{arith}
use lib.Dec.{ltb, leb}
use lib.ListN.{length, set}
use lib.Seq.{get_or-set_same}
use borrow.Author.Tests.{ltb-true}
use Rattle.laws.specs.Below.{all}
use Rattle.laws.specs.Tables.{cell, recell}
use Rattle.laws.proofs.Bools.{split, and_l, and_r, cond_either}
use Rattle.laws.proofs.Tables.{cell_in}
use Rattle.model.specs.Ranges.{up_to}
use Rattle.model.proofs.Step.{up_at, up_over}

-- The words of a table of numbers in range are in range, and so is what stands for a word outside it.
pub cell_up : (b k m : ℕ) (l : List ℕ) (c o : ℕ) → up_to b (k * m) l ≡ true → cell k m l 0 c o ≤ b
unfolding cell
cell_up b k m l c o h =
    split (ltb c k && ltb o m)
    (λ e. rw e (up_at b (k * m) l (c * m + o) h (cell_in c k m o (ltb-true c k (and_l (ltb c k) _ e)) (ltb-true o m (and_r (ltb c k) _ e)))))
    (λ e. rw e (omega arith))

-- A table of numbers written by row and column, each of two words, is in range where both are.
pub recell_up : (n k m : ℕ) (test : ℕ → ℕ → Bool) (f g : ℕ → ℕ → ℕ) (l : List ℕ) → ((c o : ℕ) → f c o ≤ n) → ((c o : ℕ) → g c o ≤ n) →
    up_to n (k * m) (recell k m (λ c o. cond (test c o) (f c o) (g c o)) l) ≡ true
unfolding recell
recell_up n k m test f g l hf hg =
    up_over n (k * m) _ l (λ i. cond_either (λ (x : ℕ). x ≤ n) (test (i / m) (i % m)) (f (i / m) (i % m)) (g (i / m) (i % m)) (hf (i / m) (i % m)) (hg (i / m) (i % m)))

-- A table of one word.
pub set_up : (n : ℕ) (l : List ℕ) (x : ℕ) → 1 ≤ length l → up_to n 1 (set l 0 x) ≡ leb x n
unfolding up_to all
set_up n l x h = ap (λ (y : ℕ). leb y n) (get_or-set_same l 0 x 0 h)
