-- Words moved within row r, as steps 2, 4 and 5 say it of tables of k rows of n words. Assumes nothing.
use mathlib.Core.Path.{◌≡◌, refl, sym, ◌∙◌}
use mathlib.Core.Bool.{Bool, true, false, cond, ◌&&◌}
use mathlib.Core.List.{List}
use Prim.Native.Nat.{ℕ, ◌+◌, ◌*◌, ◌≤◌, ◌<◌}
use native.Mathlib.Omega.{arith}
use native.Mathlib.Decide.{ℕ_discrete}
use lib.Dec.{eqb, ltb}
use lib.ListN.{get_or, length}
use lib.Ieee.{Float}
use borrow.Author.Tests.{eq-eqb, ne_eqb, ltb-true, ltb-false}
use Rattle.laws.specs.Tables.{cell, recell}
use Rattle.laws.proofs.Bools.{split}
use Rattle.laws.proofs.Tables.{row_in, cell_at, is_recell}
use Rattle.forecast_rules.specs.Doubles.{zero+}
use Rattle.forecast_doubles.specs.Moves.{Moved, Copied, Zeroed}

-- A word of another row is none of row r.
pub apart : (n r c x i : ℕ) → x < n → i < n → (c ≡ r → ⊥) → c * n + x ≡ r * n + i → ⊥
apart n r c x i lx li ne e =
    split (ltb c r)
    (λ q. omega (arith, row_in c r n (ltb-true c r q), e))
    (λ q. let l : r < c = omega (arith, ltb-false c r q, ne) in omega (arith, row_in r c n l, e))

-- A word past all rows is none of row r.
pub past_row : (k n r p i : ℕ) → r < k → i < n → k * n ≤ p → p ≡ r * n + i → ⊥
past_row k n r p i lr li h e = omega (arith, row_in r k n lr, e)

-- Row c, column x of a table whose row r has other words where w is met, and is as it was elsewhere.
by_cell : (n r c x : ℕ) (w : ℕ → Bool) (a : List Float) (u v : Float) →
    (c ≡ r → w x ≡ true → get_or a (r * n + x) zero+ ≡ u) → (c ≡ r → w x ≡ false → get_or a (r * n + x) zero+ ≡ v) → ((c ≡ r → ⊥) → get_or a (c * n + x) zero+ ≡ v) →
    get_or a (c * n + x) zero+ ≡ cond (eqb c r && w x) u v
by_cell n r c x w a u v on off out =
    elim (ℕ_discrete c r) [
      | yes e ↦ split (w x) (λ h. rw (e, eq-eqb r r refl, h) (on e h)) (λ h. rw (e, eq-eqb r r refl, h) (off e h))
      | no e ↦ rw (ne_eqb c r e) (out e)
    ]

module _ (k n r : ℕ) (w : ℕ → Bool) (from to from' to' : List Float) (lr : r < k) (y : Moved (r * n) n w from to from' to') where
  -- The table into which words are moved,
  pub come_is : k * n ≤ length to → length to' ≡ length to →
      to' ≡ recell k n (λ c x. cond (eqb c r && w x) (cell k n from zero+ r x) (cell k n to zero+ c x)) to
  come_is h e =
      is_recell k n _ to to' zero+ h e
      (λ c x lc lx. by_cell n r c x w to' (cell k n from zero+ r x) (cell k n to zero+ c x)
      (λ q t. y.come x lx t ∙ sym (cell_at k n from zero+ r x lr lx))
      (λ q t. y.stay_to x lx t ∙ sym (rw q (cell_at k n to zero+ r x lr lx)))
      (λ q. y.out_to (c * n + x) (λ i l. apart n r c x i lx l q) ∙ sym (cell_at k n to zero+ c x lc lx)))
      (λ p l. y.out_to p (λ i li. past_row k n r p i lr li l))

  -- and the one from which they are taken.
  pub gone_is : k * n ≤ length from → length from' ≡ length from →
      from' ≡ recell k n (λ c x. cond (eqb c r && w x) zero+ (cell k n from zero+ c x)) from
  gone_is h e =
      is_recell k n _ from from' zero+ h e
      (λ c x lc lx. by_cell n r c x w from' zero+ (cell k n from zero+ c x)
      (λ q t. y.gone x lx t)
      (λ q t. y.stay_from x lx t ∙ sym (rw q (cell_at k n from zero+ r x lr lx)))
      (λ q. y.out_from (c * n + x) (λ i l. apart n r c x i lx l q) ∙ sym (cell_at k n from zero+ c x lc lx)))
      (λ p l. y.out_from p (λ i li. past_row k n r p i lr li l))

-- Step 1: the table into which words of row a of another are copied.
pub copied_is : (k n a r : ℕ) (w : ℕ → Bool) (from to to' : List Float) → a < k → r < k → Copied (a * n) (r * n) n w from to to' → k * n ≤ length to → length to' ≡ length to →
    to' ≡ recell k n (λ c x. cond (eqb c r && w x) (cell k n from zero+ a x) (cell k n to zero+ c x)) to
copied_is k n a r w from to to' la lr y h e =
    is_recell k n _ to to' zero+ h e
    (λ c x lc lx. by_cell n r c x w to' (cell k n from zero+ a x) (cell k n to zero+ c x)
    (λ q t. y.come x lx t ∙ sym (cell_at k n from zero+ a x la lx))
    (λ q t. y.stay x lx t ∙ sym (rw q (cell_at k n to zero+ r x lr lx)))
    (λ q. y.out (c * n + x) (λ i l. apart n r c x i lx l q) ∙ sym (cell_at k n to zero+ c x lc lx)))
    (λ p l. y.out p (λ i li. past_row k n r p i lr li l))

-- Step 6: a table of which words of row r become +0.0.
pub zeroed_is : (k n r : ℕ) (w : ℕ → Bool) (l l' : List Float) → r < k → Zeroed (r * n) n w l l' → k * n ≤ length l → length l' ≡ length l →
    l' ≡ recell k n (λ c x. cond (eqb c r && w x) zero+ (cell k n l zero+ c x)) l
zeroed_is k n r w l l' lr y h e =
    is_recell k n _ l l' zero+ h e
    (λ c x lc lx. by_cell n r c x w l' zero+ (cell k n l zero+ c x)
    (λ q t. y.gone x lx t)
    (λ q t. y.stay x lx t ∙ sym (rw q (cell_at k n l zero+ r x lr lx)))
    (λ q. y.out (c * n + x) (λ i v. apart n r c x i lx v q) ∙ sym (cell_at k n l zero+ c x lc lx)))
    (λ p v. y.out p (λ i li. past_row k n r p i lr li v))
