-- `settle_text::numbers::put_byte` meets its contract. Assumes nothing.
use mathlib.Core.Path.{refl}
use native.Mathlib.Omega.{arith}
use Rattle.settle_text.specs.Puts.{put}
use Rattle.settle_text.proofs.numbers.put_byte.Goals as goal

pub returns : goal.returns
unfolding put
returns c =
    record { next = refl; room = omega arith; bytes = refl }
