-- `late_checks::copies::edited_code` meets its contract. Assumes nothing.
use mathlib.Core.Path.{refl}
use Prim.Native.Nat.{◌*◌}
use native.Mathlib.Nat.{mul-le-mul_right}
use Rattle.format.specs.Bytes.{from}
use Rattle.late_checks.proofs.Held.{copy_holds, copied_part}
use Rattle.late_checks.proofs.copies.edited_code.Goals as goal

pub returns : goal.returns
returns c =
    let e = c.args.e in
    copy_holds 11 e.place e.last 0 (from c.args.code.now 0) e.present (e.present * 11) c.args.s.now _ _ _ refl c.requires.0
    (copied_part (e.present * 11) 0 c.args.s.now _ _ c.requires.1 (mul-le-mul_right 11 c.requires.0.few) c.copy_from_slice.ensures.after) c.edit_code.ensures
