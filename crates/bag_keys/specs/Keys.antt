-- What two keys of counts tell: their last 16 bits are the revision, the 16 before them the bag, 0 for loose coupons.
use Rattle.std.specs.Prelude.{Bool, ◌&&◌, not, ℕ, ◌/◌, ◌%◌, eqb}

-- Two keys are of one bag and revision, and not of loose coupons,
unfoldable pub twice_keys : ℕ → ℕ → Bool
twice_keys key next = not (eqb (key / 65_536 % 65_536) 0) && eqb key next

-- or of one bag, whatever the revision.
unfoldable pub bag_keys : ℕ → ℕ → Bool
bag_keys key next = not (eqb (key / 65_536 % 65_536) 0) && eqb (key / 65_536) (next / 65_536)
