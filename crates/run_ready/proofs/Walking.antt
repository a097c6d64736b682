-- A search among the ready steps: how many are left to pass. Assumes nothing.
use mathlib.Core.Path.{◌≡◌}
use mathlib.Core.Bool.{Bool, true, false, ◌&&◌}
use Prim.Native.Nat.{ℕ, ◌+◌, ◌-◌, ◌≤◌}
use native.Mathlib.Omega.{arith}
use lib.Dec.{eqb}
use Rattle.std.specs.Int.{from_bool}
use borrow.Author.Tests.{eqb-false}
use Rattle.laws.specs.Below.{naturals, only, count}
use Rattle.laws.proofs.Bools.{split}
use Rattle.laws.proofs.Below.{count_next}

-- A test as a number, as std makes it.
pub one_of : (t : Bool) (n : ℕ) → n ≡ from_bool t → n ≡ only naturals t 1
unfolding only naturals
one_of true n e = e
one_of false n e = e

-- Searching for the place with c before it: how many are left to pass where it is not here.
module _ (p : ℕ → Bool) (i left c : ℕ) (e : left + count i p ≡ c) where
  module _ (ready : Bool) (less : ℕ) (r : ready ≡ p i) (s : less ≡ only naturals ready 1) (h : (ready && eqb left 0) ≡ false) where
    pub less_fits : less ≤ left
    unfolding only naturals
    less_fits =
        split ready
        (λ y. let ne : left ≡ 0 → ⊥ = eqb-false left 0 (rw y at h) in rw (s, y) (omega arith))
        (λ y. rw (s, y) (omega arith))

    pub passed : left - less + count (i + 1) p ≡ c
    passed = rw (count_next i p, ← r, ← s) (let f = less_fits in omega arith)
