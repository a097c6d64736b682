-- Tenths of a cent in whole cents: "tenths divided by ten, to the nearest", an exact half by the rule of the cycle.
use Rattle.std.specs.Prelude.{◌≡◌, Bool, cond, ℕ, suc, ◌+◌, ◌*◌, ◌/◌, ◌%◌, ◌≤◌, eqb, ltb, leb, ℤ, pos, negsuc, neg_ℤ, nat_abs, ◌-ℤ◌, ◌*ℤ◌}
use Rattle.laws.specs.Below.{naturals, only}

-- Where an exact half goes.
pub data Half : Type 0 where
  away : Half  -- "a half going away from zero"
  even : Half  -- "an exact half goes to the even cent"

-- "from cycle 500"; "Cycles 0 to 499 are reprinted for years, with the old rule."
unfoldable pub half_of : ℕ → Half
half_of cycle = cond (ltb cycle 500) away even

-- The rule as a call takes it: whether an exact half goes to the even cent.
unfoldable pub rule : Bool → Half
rule to_even = cond to_even even away

-- The least rest, in tenths, that makes n whole cents n + 1: 5, but 6 where a half goes to n, the even cent.
unfoldable pub edge : Half → ℕ → ℕ
edge away n = 5
edge even n = cond (eqb (n % 2) 0) 6 5

-- The whole cents nearest to n tenths: one more than the whole ones in it where the rest is large enough.
unfoldable pub nearest : Half → ℕ → ℕ
nearest h n = n / 10 + only naturals (leb (edge h (n / 10)) (n % 10)) 1

-- The whole cents of an amount: a negative one as its positive, negated.
unfoldable pub cents : Half → ℤ → ℤ
cents h (pos n) = pos (nearest h n)
cents h (negsuc n) = neg_ℤ (pos (nearest h (suc n)))

-- What whole cents come to, under either rule.
pub record Cents : Type 0 where
  -- "the printed cent is within half a cent of the amount": ten times the cents are within five tenths of it,
  pub near : (h : Half) (z : ℤ) → nat_abs (pos 10 *ℤ cents h z -ℤ z) ≤ 5
  -- "and negating the amount negates the cent".
  pub negated : (h : Half) (z : ℤ) → cents h (neg_ℤ z) ≡ neg_ℤ (cents h z)
  -- "a half going away from zero", on either side.
  pub half_above : (n : ℕ) → cents away (pos (10 * n + 5)) ≡ pos (n + 1)
  pub half_below : (n : ℕ) → cents away (neg_ℤ (pos (10 * n + 5))) ≡ neg_ℤ (pos (n + 1))
  -- "an exact half goes to the even cent", on either side: n where n is even, else n + 1.
  pub even_above : (n : ℕ) → cents even (pos (10 * n + 5)) ≡ pos (n + n % 2)
  pub even_below : (n : ℕ) → cents even (neg_ℤ (pos (10 * n + 5))) ≡ neg_ℤ (pos (n + n % 2))
  -- All else is as before: the rules differ at an exact half alone.
  pub elsewhere : (n : ℕ) → (n % 10 ≡ 5 → ⊥) → cents even (pos n) ≡ cents away (pos n)
  -- "from cycle 500".
  pub cycle_0 : half_of 0 ≡ away
  pub cycle_499 : half_of 499 ≡ away
  pub cycle_500 : half_of 500 ≡ even
  pub cycle_last : half_of 65_535 ≡ even
  -- "25 gives 3, 24 gives 2, −25 gives −3", by the old rule; 35 gives 4 by either.
  pub of_25 : cents away (pos 25) ≡ pos 3
  pub of_35 : cents away (pos 35) ≡ pos 4
  pub of_24 : cents away (pos 24) ≡ pos 2
  pub of_minus_25 : cents away (negsuc 24) ≡ negsuc 2
  -- "25 gives 2, 35 gives 4, −25 gives −2", by the new one.
  pub even_25 : cents even (pos 25) ≡ pos 2
  pub even_35 : cents even (pos 35) ≡ pos 4
  pub even_minus_25 : cents even (negsuc 24) ≡ negsuc 1
  pub even_minus_35 : cents even (negsuc 34) ≡ negsuc 3
  -- At and around zero.
  pub of_0 : cents away (pos 0) ≡ pos 0
  pub of_4 : cents away (pos 4) ≡ pos 0
  pub of_5 : cents away (pos 5) ≡ pos 1
  pub of_minus_4 : cents away (negsuc 3) ≡ pos 0
  pub of_minus_5 : cents away (negsuc 4) ≡ negsuc 0
  pub even_5 : cents even (pos 5) ≡ pos 0
  pub even_6 : cents even (pos 6) ≡ pos 1
  pub even_15 : cents even (pos 15) ≡ pos 2
  pub even_minus_5 : cents even (negsuc 4) ≡ pos 0
  pub even_minus_6 : cents even (negsuc 5) ≡ negsuc 0
  -- The ends of 64 bits: 2^63 − 1 and −2^63.
  pub of_most : (h : Half) → cents h (pos 9_223_372_036_854_775_807) ≡ pos 922_337_203_685_477_581
  pub of_least : (h : Half) → cents h (negsuc 9_223_372_036_854_775_807) ≡ negsuc 922_337_203_685_477_580
