-- Masks: words whose bit b says whether number b is among those meant.
use Rattle.std.specs.Prelude.{Bool, ℕ, zero, suc, ◌+◌, ◌-◌, ◌*◌, ◌/◌, ◌%◌, ◌^◌, eqb}
use Rattle.std.specs.Int.Bits.{bit_and}
use Rattle.laws.specs.Below.{naturals, only}

-- Bit b of w is set.
unfoldable pub bit : ℕ → ℕ → Bool
bit b w = eqb (w / 2 ^ b % 2) 1

-- The word whose bit b is set where f b holds, for b below n, and which has no other bit.
unfoldable pub mask_of : ℕ → (ℕ → Bool) → ℕ
mask_of zero f = 0
mask_of (suc n) f = only naturals (f 0) 1 + 2 * mask_of n (λ b. f (suc b))

-- The 16-bit word w without its bit a, for a below 16: w & !(1 << a).
unfoldable pub without : ℕ → ℕ → ℕ
without a w = bit_and w ((2 ^ 16 - 1) - 2 ^ a)
