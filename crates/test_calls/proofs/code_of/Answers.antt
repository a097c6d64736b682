-- `test_calls::code_of` meets its contract: the bytes passed are copied. Assumes nothing.
use mathlib.Core.Path.{ap, ◌∙◌}
use Prim.Native.Nat.{ℕ}
use native.Mathlib.Omega.{arith}
use lib.ListN.{get_or}
use lib.Seq.{length-take-le, get_or-take}
use Rattle.format.specs.Bytes.{from}
use Rattle.laws.proofs.Tables.{is_tabulate}
use Rattle.test_calls.proofs.code_of.Goals as goal

pub returns : goal.returns
returns c =
    let code = c.args.code.now in
    c.copy_from_slice.ensures.after ∙ is_tabulate _ 11 (from code 0) 0 (length-take-le 11 code c.requires) (λ i q. get_or-take 11 code i 0 q ∙ ap (λ (k : ℕ). get_or code k 0) (omega arith))
