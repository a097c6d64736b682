-- The steps that a box takes in an order, one word more at a time. Assumes nothing.
use mathlib.Core.Path.{◌≡◌, refl, sym, ap, ◌∙◌}
use mathlib.Core.List.{List, [], ◌∷◌}
use Prim.Native.Nat.{ℕ, zero, suc, ◌+◌, ◌-◌, ◌/◌, ◌%◌, ◌≤◌, ◌<◌}
use native.Mathlib.Omega.{arith}
use lib.Dec.{eqb}
use lib.ListN.{length, get_or, set}
use lib.Seq.{get_or-set_same, get_or-set_other}
use borrow.Author.Tests.{eqb-true, eqb-false, ne_eqb}
use Rattle.laws.specs.Below.{naturals, only}
use Rattle.laws.proofs.Bools.{split, eqb_same}
use Rattle.model.specs.Steps.{step_at}
use Rattle.model.specs.Words.{over}
use Rattle.step_places.specs.Order.{steps_in}
use Rattle.trial_rules.specs.Rounds.{of_box}
use Rattle.step_places.proofs.Orders.{steps_next}
use Rattle.trial_rules.proofs.Rounds.{over_append}

module _ (k : ℕ) (order : List ℕ) where
  -- The steps of box b among the first i.
  abbrev of : ℕ → ℕ → ℕ
  of b i = of_box b (steps_in k i order)

  pub of_none : (b : ℕ) → of b 0 ≡ 0
  unfolding steps_in of_box over
  of_none b = refl

  pub of_next : (b i : ℕ) → i < length order → of b (i + 1) ≡ of b i + only naturals (eqb (get_or order i 0 / k % k) b) 1
  unfolding of_box over step_at
  of_next b i l =
      ap (of_box b) (steps_next k i order l)
      ∙ over_append (λ q a c. only naturals (eqb a b) 1) (steps_in k i order) (step_at k (get_or order i 0) ∷ [])
      ∙ omega arith

  pub of_le : (b i m : ℕ) → i + m ≤ length order → of b i ≤ of b (i + m)
  of_le b i zero l = let e : i + 0 ≡ i = omega arith in rw e (omega arith)
  of_le b i (suc m) l = let e : i + suc m ≡ i + m + 1 = omega arith in rw e (omega (arith, of_le b i m (omega arith), of_next b (i + m) (omega arith)))

  -- A turn: the box of word i has one idle round less.
  module _ (rounds n i : ℕ) (li : i < n) (ln : n ≤ length order) (few : (b : ℕ) → of b n ≤ rounds) (idle : List ℕ) (h : (b : ℕ) → b < k → get_or idle b 0 + of b i ≡ rounds) (p : ℕ)
      (e : p ≡ get_or order i 0 / k % k) (lp : p < k) (long : p < length idle) where
    one_of : of p (i + 1) ≡ of p i + 1
    unfolding only naturals
    one_of = of_next p i (omega arith) ∙ rw (← e, eqb_same p)

    pub not_none : 1 ≤ get_or idle p 0
    not_none =
        let all : i + 1 + (n - (i + 1)) ≡ n = omega arith in
        omega (arith, h p lp, one_of, rw all at (of_le p (i + 1) (n - (i + 1)) (omega arith)), few p)

    pub one_less : (b : ℕ) → b < k → get_or (set idle p (get_or idle p 0 - 1)) b 0 + of b (i + 1) ≡ rounds
    unfolding only naturals
    one_less b lb =
        split (eqb b p)
        (λ q. rw (eqb-true b p q, get_or-set_same idle p (get_or idle p 0 - 1) 0 long) (omega (arith, h p lp, one_of, not_none)))
        (λ q. let ne : b ≡ p → ⊥ = eqb-false b p q in
        let same : of b (i + 1) ≡ of b i = of_next b i (omega arith) ∙ rw (← e, ne_eqb p b (λ f. ne (sym f))) (omega arith) in
        rw (get_or-set_other idle p b (get_or idle p 0 - 1) 0 ne, same) (h b lb))
