-- Sums, counts and searches over the numbers below a bound.
use Rattle.std.specs.Prelude.{◌≡◌, Bool, true, false, cond, ◌&&◌, ◌||◌, List, [], ◌∷◌, ◌++◌, ℕ, zero, suc, ◌+◌, ◌<◌, eqb, ℤ, pos, ◌+ℤ◌}
use Rattle.std.proofs.Common.{add_assoc, add_comm, add-zero}
use Rattle.std.proofs.Math.IntN.{+ℤ_assoc, +ℤ_comm, +ℤ_idr}

-- Numbers that add up: a sum, a zero, and the three laws that make the order of adding not matter.
pub record Adds (A : Type 0) : Type 0 where
  pub plus : A → A → A
  pub none : A
  pub assoc : (x y z : A) → plus (plus x y) z ≡ plus x (plus y z)
  pub comm : (x y : A) → plus x y ≡ plus y x
  pub idr : (x : A) → plus x none ≡ x

-- Natural numbers: words, messages and steps.
unfoldable pub naturals : Adds ℕ
naturals = record { plus = λ x y. x + y; none = 0; assoc = add_assoc; comm = add_comm; idr = add-zero }

-- Integers: amounts and counts of coupons.
unfoldable pub integers : Adds ℤ
integers = record { plus = λ x y. x +ℤ y; none = pos 0; assoc = +ℤ_assoc; comm = +ℤ_comm; idr = +ℤ_idr }

module _ {A : Type 0} (w : Adds A) where
  -- f 0 + f 1 + .. + f (n - 1)
  unfoldable pub sum : ℕ → (ℕ → A) → A
  sum zero f = w.none
  sum (suc n) f = w.plus (sum n f) (f n)

  -- x where the test passes, and nothing elsewhere
  unfoldable pub only : Bool → A → A
  only p x = cond p x w.none

-- Some number below n passes p.
unfoldable pub any : ℕ → (ℕ → Bool) → Bool
any zero p = false
any (suc n) p = any n p || p n

-- Every number below n passes p.
unfoldable pub all : ℕ → (ℕ → Bool) → Bool
all zero p = true
all (suc n) p = all n p && p n

-- How many numbers below n pass p.
unfoldable pub count : ℕ → (ℕ → Bool) → ℕ
count n p = sum naturals n (λ i. only naturals (p i) 1)

-- The first number below n that passes p, or n where none does.
unfoldable pub find : ℕ → (ℕ → Bool) → ℕ
find zero p = 0
find (suc n) p = cond (any n p) (find n p) (cond (p n) n (suc n))

-- The numbers below n that pass p, ascending.
unfoldable pub ascending : ℕ → (ℕ → Bool) → List ℕ
ascending zero p = []
ascending (suc n) p = ascending n p ++ cond (p n) (n ∷ []) []

-- Number c of those, counted from 0, or 0 where there are not so many: the one that has c such numbers below it.
unfoldable pub nth : ℕ → (ℕ → Bool) → ℕ → ℕ
nth zero p c = 0
nth (suc n) p c = cond (p n && eqb (count n p) c) n (nth n p c)

-- Another order of the numbers below n: p and q stay below n, and each undoes the other.
pub record Order (n : ℕ) (p q : ℕ → ℕ) : Type 0 where
  pub inside : (i : ℕ) → i < n → p i < n
  pub back : (i : ℕ) → i < n → q i < n
  pub there : (i : ℕ) → i < n → p (q i) ≡ i
  pub here : (i : ℕ) → i < n → q (p i) ≡ i
