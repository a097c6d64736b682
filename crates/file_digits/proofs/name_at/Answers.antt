-- `file_digits::name_at` meets its contract. Assumes nothing.
use mathlib.Core.Path.{ap}
use Prim.Native.Nat.{ℕ, ◌+◌, ◌*◌, ◌/◌, ◌%◌}
use Rattle.format.specs.Codes.{name_number}
use Rattle.file_digits.proofs.name_at.Goals as goal

pub returns : goal.returns
unfolding name_number
returns c =
    ap (λ (n : ℕ). c.args.issuer * 17_179_869_184 + (n % 512 * 33_554_432 + n / 512)) c.number_at-number.ensures
