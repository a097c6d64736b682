-- The bytes read are enough: what is printed for them is what is printed for the input. Assumes nothing.
use mathlib.Core.Path.{◌≡◌, ap, ◌∙◌}
use mathlib.Core.List.{List}
use Prim.Native.Nat.{ℕ, ◌<◌}
use lib.ListN.{length, take}
use Rattle.printing.specs.Printed.{printed}
use Rattle.settle.specs.Input.{BytesRead}
use Rattle.printing.proofs.Long.{cut_printed}

pub read_printed : (input buffer : List ℕ) (n : ℕ) → 52_224 < length buffer → BytesRead input buffer n → printed (take n buffer) ≡ printed input
unfolding BytesRead
read_printed input buffer n room e = ap printed e ∙ cut_printed input (length buffer) room
