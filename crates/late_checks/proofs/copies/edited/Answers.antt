-- `late_checks::copies::edited` meets its contract. Assumes nothing.
use native.Mathlib.Omega.{arith}
use Rattle.late_checks.proofs.Held.{copy_holds, copied_part}
use Rattle.late_checks.proofs.copies.edited.Goals as goal

pub returns : goal.returns
returns g c =
    let e = c.args.e in
    λ z. copy_holds 1 e.place e.last z (λ k. c.args.x) e.present e.present c.args.s.now _ _ _ (omega arith) c.requires.0
    (copied_part e.present z c.args.s.now _ _ c.requires.1 c.requires.0.few c.copy_from_slice.ensures.after) (c.edit.ensures z)
