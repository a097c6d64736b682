-- Rows of part sums that are cleared one after the other. Assumes nothing.
use mathlib.Core.Path.{◌≡◌, refl, sym, subst, ◌∙◌}
use mathlib.Core.Bool.{Bool, false, cond, ◌&&◌}
use mathlib.Core.List.{List}
use Prim.Native.Nat.{ℕ, ◌+◌, ◌*◌, ◌≤◌, ◌<◌}
use native.Mathlib.Decide.{ℕ_discrete}
use native.Mathlib.Nat.{mul-le-mul}
use native.Mathlib.Omega.{arith}
use lib.Dec.{ltb}
use lib.ListN.{get_or, length}
use lib.Ieee.{Float}
use borrow.Author.Tests.{eq-eqb, ne_eqb, lt-ltb, le-ltb}
use Rattle.laws.proofs.Bools.{split, clash}
use Rattle.laws.proofs.Loops.{front_here, front_else}
use Rattle.laws.proofs.Tables.{is_recell}
use Rattle.forecast_rules.specs.Doubles.{zero+}
use Rattle.forecast_doubles.specs.Moves.{Moved, Copied, Zeroed, summed_in}
use Rattle.forecast_doubles.proofs.MovedRows.{apart, past_row}
use Rattle.forecast_moves.specs.Steps.{held_summed, held_after}

-- Nothing is cleared.
pub zeroed_same : (row n : ℕ) (w : ℕ → Bool) (l : List Float) → ((i : ℕ) → w i ≡ false) → Zeroed row n w l l
zeroed_same row n w l h = record { gone = λ i li e. absurd (clash e (h i)); stay = λ i li e. refl; out = λ p e. refl }

-- The same words are cleared, told by another test.
pub zeroed_as : (row n : ℕ) (v w : ℕ → Bool) (l l' : List Float) → ((i : ℕ) → v i ≡ w i) → Zeroed row n v l l' → Zeroed row n w l l'
zeroed_as row n v w l l' h = subst (λ (x : ℕ → Bool). Zeroed row n x l l') (λ i x. h x i)

-- Of another box's row those summed are cleared, and of the box's own none.
pub held_other : (owner sharers : List ℕ) (a c : ℕ) → (c ≡ a → ⊥) → (i : ℕ) → summed_in owner sharers a c i ≡ held_summed owner sharers a c i
unfolding held_summed
held_other owner sharers a c ne i = rw (ne_eqb c a ne)

pub held_own : (owner sharers : List ℕ) (a c : ℕ) → c ≡ a → (i : ℕ) → held_summed owner sharers a c i ≡ false
unfolding held_summed
held_own owner sharers a c e i = rw (eq-eqb c a e)

-- What is told of a row, where it begins elsewhere than it was told.
pub moved_at : {row p n : ℕ} {w : ℕ → Bool} {from to from' to' : List Float} → row ≡ p → Moved row n w from to from' to' → Moved p n w from to from' to'
moved_at {n = n} {w = w} {from = from} {to = to} {from' = from'} {to' = to'} e = subst (λ (r : ℕ). Moved r n w from to from' to') e

pub copied_at : {at q row p n : ℕ} {w : ℕ → Bool} {from to to' : List Float} → at ≡ q → row ≡ p → Copied at row n w from to to' → Copied q p n w from to to'
copied_at e h y = rw (e, h) at y

pub zeroed_at : {row p n : ℕ} {w : ℕ → Bool} {l l' : List Float} → row ≡ p → Zeroed row n w l l' → Zeroed p n w l l'
zeroed_at {n = n} {w = w} {l = l} {l' = l'} e = subst (λ (r : ℕ). Zeroed r n w l l') e

-- A row begins early.
pub few_words : (a n : ℕ) → a < 16 → n ≤ 500 → a * n ≤ 8000
few_words a n h l = let k : a ≤ 16 = omega arith in mul-le-mul k l

-- Of k rows of m words those before row c are cleared where w is met, and all else is as it was.
pub record ClearedTo (k m c : ℕ) (w : ℕ → ℕ → Bool) (l l' : List Float) : Type 0 where
  pub rows : (r g : ℕ) → r < k → g < m → get_or l' (r * m + g) zero+ ≡ cond (ltb r c && w r g) zero+ (get_or l (r * m + g) zero+)
  pub past : (p : ℕ) → k * m ≤ p → get_or l' p zero+ ≡ get_or l p zero+

pub cleared_none : (k m : ℕ) (w : ℕ → ℕ → Bool) (l : List Float) → ClearedTo k m 0 w l l
cleared_none k m w l = record { rows = λ r g lr lg. sym (rw (le-ltb r 0 (omega arith))); past = λ p h. refl }

module _ (k m c : ℕ) (w : ℕ → ℕ → Bool) (l l' l'' : List Float) (lc : c < k) (y : ClearedTo k m c w l l') (z : Zeroed (c * m) m (w c) l' l'') where
  here : (g : ℕ) → g < m → get_or l'' (c * m + g) zero+ ≡ cond (ltb c (c + 1) && w c g) zero+ (get_or l (c * m + g) zero+)
  here g lg =
      split (w c g)
      (λ e. z.gone g lg e ∙ rw (front_here c, e))
      (λ e. z.stay g lg e ∙ y.rows c g lc lg ∙ rw (front_here c, e, le-ltb c c (omega arith)))

  else : (r g : ℕ) → r < k → g < m → (r ≡ c → ⊥) → get_or l'' (r * m + g) zero+ ≡ cond (ltb r (c + 1) && w r g) zero+ (get_or l (r * m + g) zero+)
  else r g lr lg ne = z.out (r * m + g) (λ i li. apart m c r g i lg li ne) ∙ y.rows r g lr lg ∙ rw (front_else c r (λ e. ne (rw e)))

  pub cleared_more : ClearedTo k m (c + 1) w l l''
  cleared_more = record {
    rows = λ r g lr lg. elim (ℕ_discrete r c) [
      | yes e ↦ rw e (here g lg)
      | no e ↦ else r g lr lg e
    ];
    past = λ p h. z.out p (λ i li. past_row k m c p i lc li h) ∙ y.past p h;
  }

-- All rows are cleared.
pub cleared_all : (k m c a : ℕ) (owner sharers : List ℕ) (l l' : List Float) → c ≤ k → k ≤ c → ClearedTo k m c (held_summed owner sharers a) l l' →
    k * m ≤ length l → length l' ≡ length l → l' ≡ held_after k m a owner sharers l
unfolding held_after
cleared_all k m c a owner sharers l l' h h' y long same =
    is_recell k m _ l l' zero+ long same (λ r g lr lg. y.rows r g lr lg ∙ rw (lt-ltb r c (omega arith))) y.past
