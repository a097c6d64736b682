-- A row with one place less, and with one more. Assumes nothing.
use mathlib.Core.Path.{◌≡◌, sym, ap, ◌∙◌}
use mathlib.Core.Bool.{Bool, true, false, ◌&&◌, ◌||◌, not}
use Prim.Native.Nat.{ℕ, ◌+◌, ◌-◌, ◌≤◌, ◌<◌}
use native.Mathlib.Omega.{arith}
use lib.Dec.{eqb, ltb}
use lib.ListN.{get_or}
use borrow.Author.Tests.{eqb-true, lt-ltb}
use Rattle.laws.specs.Below.{naturals, only, count}
use Rattle.laws.specs.Masks.{mask_of, without}
use Rattle.laws.proofs.Bools.{split, and_false, or_false}
use Rattle.laws.proofs.Below.{count_with, count_but}
use Rattle.laws.proofs.Masks.{mask_cong, mask_below, below-without}
use Rattle.run_ready.specs.declared.ReadyRows.{ReadyRows}
use Rattle.run_ready.specs.Rows.{HasRow}

-- Row i, which is row r by its kind and first box.
module _ (k b : ℕ) (f : ℕ → Bool) (i r : ℕ) (rows : ReadyRows) (lk : k ≤ 16) (lb : b < k) (e : i ≡ r) (h : HasRow k f r rows) where
  word_at_lem : get_or rows.words i 0 ≡ mask_of k f
  word_at_lem = ap (λ (x : ℕ). get_or rows.words x 0) e ∙ h.word_is

  count_at : get_or rows.counts i 0 ≡ count k f
  count_at = ap (λ (x : ℕ). get_or rows.counts x 0) e ∙ h.count_is

  pub less_word : (w : ℕ) → w ≡ without b (get_or rows.words i 0) → w ≡ mask_of k (λ x. f x && not (eqb b x))
  less_word w ew = ew ∙ ap (without b) word_at_lem ∙ below-without k b f lk (omega arith)

  pub less-count : f b ≡ true → get_or rows.counts i 0 - 1 ≡ count k (λ x. f x && not (eqb b x))
  less-count on = omega (arith, count_at, count_but k b f lb on)

  pub more_word : (t : Bool) (w : ℕ) → ((g : ℕ → Bool) → get_or rows.words i 0 ≡ mask_of 16 g → w ≡ mask_of 16 (λ x. g x || (t && eqb b x))) → w ≡ mask_of k (λ x. f x || (t && eqb b x))
  more_word t w step =
      step (λ x. ltb x k && f x) (word_at_lem ∙ sym (mask_below k 16 f lk))
      ∙ mask_cong 16 _ (λ x. ltb x k && (f x || (t && eqb b x))) (λ x l. same x)
      ∙ mask_below k 16 (λ x. f x || (t && eqb b x)) lk
    where
      same : (x : ℕ) → ((ltb x k && f x) || (t && eqb b x)) ≡ (ltb x k && (f x || (t && eqb b x)))
      same x =
          split (eqb b x)
          (λ q. let s : b ≡ x = eqb-true b x q in rw (← s, lt-ltb b k lb))
          (λ q. rw (q, and_false t, or_false (f x)) (or_false (ltb x k && f x)))

  pub more_count : (t : Bool) (n : ℕ) → n ≡ only naturals t 1 → f b ≡ false → get_or rows.counts i 0 + n ≡ count k (λ x. f x || (t && eqb b x))
  more_count t n en off = omega (arith, count_at, count_with k b f t lb off)
