-- The sums of a block's bytes, from those of its halves. Assumes nothing.
use mathlib.Core.Path.{◌≡◌, refl, ap, ◌∙◌}
use Prim.Native.Nat.{ℕ, zero, suc, ◌+◌, ◌-◌, ◌*◌, ◌≤◌}
use native.Mathlib.Nat.{add-mul, add-zero}
use native.Mathlib.Omega.{arith}
use Rattle.laws.specs.Below.{sum, naturals}
use Rattle.laws.proofs.Sums.{sum_cong, sum_next_lem}

-- A sum over n and m more numbers is that over the first n, and that over those behind them.
both : (n m : ℕ) (f : ℕ → ℕ) → sum naturals (n + m) f ≡ sum naturals n f + sum naturals m (λ p. f (n + p))
unfolding sum naturals
both n zero f = let e : sum naturals (n + 0) f ≡ sum naturals n f = ap (λ (k : ℕ). sum naturals k f) (add-zero n) in omega (arith, e)
both n (suc m) f =
    let k : n + suc m ≡ n + m + 1 = omega arith in
    let e : sum naturals (n + suc m) f ≡ sum naturals (n + m) f + f (n + m) = ap (λ (j : ℕ). sum naturals j f) k ∙ sum_next_lem naturals (n + m) f in
    omega (arith, e, both n m f)

-- With weights that are 254 more each, a sum is 254 times the plain sum more.
heavier : (g : ℕ → ℕ) (n : ℕ) → n ≤ 254 → sum naturals n (λ p. (508 - p) * g p) ≡ sum naturals n (λ p. (254 - p) * g p) + 254 * sum naturals n g
unfolding sum naturals
heavier g zero l = refl
heavier g (suc n) l =
    let e : (508 - n) * g n ≡ (254 - n) * g n + 254 * g n = ap (λ (w : ℕ). w * g n) (omega arith) ∙ add-mul (254 - n) 254 (g n) in
    omega (arith, e, heavier g n (omega arith))

-- The first sums of two halves are that of the whole.
pub first_both : (g h : ℕ → ℕ) → ((p : ℕ) → h p ≡ g (254 + p)) → sum naturals 254 g + sum naturals 254 h ≡ sum naturals 508 g
first_both g h e =
    let c : sum naturals 254 h ≡ sum naturals 254 (λ p. g (254 + p)) = sum_cong naturals 254 h (λ p. g (254 + p)) (λ p l. e p) in
    omega (arith, c, both 254 254 g)

-- The second sums of two halves, and 254 times the first sum of the first half, are the second sum of the whole.
pub second_both : (g h : ℕ → ℕ) → ((p : ℕ) → h p ≡ g (254 + p)) →
    sum naturals 254 (λ p. (254 - p) * g p) + 254 * sum naturals 254 g + sum naturals 254 (λ p. (254 - p) * h p) ≡ sum naturals 508 (λ p. (508 - p) * g p)
second_both g h e =
    let w : ℕ → ℕ = λ p. (508 - p) * g p in
    let c : sum naturals 254 (λ p. (254 - p) * h p) ≡ sum naturals 254 (λ p. w (254 + p)) =
    sum_cong naturals 254 (λ p. (254 - p) * h p) (λ p. w (254 + p)) (λ p l.
    ap (λ (x : ℕ). (254 - p) * x) (e p) ∙ ap (λ (x : ℕ). x * g (254 + p)) (omega arith)) in
    omega (arith, c, both 254 254 w, heavier g 254 (omega arith))
