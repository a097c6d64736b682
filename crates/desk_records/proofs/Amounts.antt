-- The size of count × price. Assumes nothing.
use Prim.Native.Nat.{ℕ, ◌≤◌}
use lib.IntN.{ℤ, pos, nat_abs, ◌*ℤ◌}
use Rattle.laws.proofs.Signed.{abs_times_le}
use Rattle.laws.specs.Limits.{max_price, max_count}

pub product_abs : (c : ℤ) (p : ℕ) → nat_abs c ≤ max_count → p ≤ max_price → nat_abs (c *ℤ pos p) ≤ 999_989_900_001
product_abs c p hc hp = abs_times_le c (pos p) hc hp
