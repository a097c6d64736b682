-- `late_edits::edit_code` meets its contract. Assumes nothing.
use mathlib.Core.Path.{refl, ◌∙◌}
use Prim.Native.Nat.{◌*◌}
use Rattle.format.specs.Bytes.{from}
use Rattle.late_edits.proofs.Moving.{edit_end}
use Rattle.late_edits.proofs.edit_code.Goals as goal

pub returns : goal.returns
returns c =
    edit_end 11 c.args.p c.args.n (c.args.p * 11) (c.args.n * 11) 0 (from c.args.code.now 0) c.args.s.now c.move_up.new.s c.copy_code.new.code
    refl refl c.requires.0 c.requires.2 (c.copy_code.auto.code ∙ c.move_up.auto.s) (c.move_up.ensures 0) (λ k q. c.copy_code.ensures.inside k q) (λ k q. c.copy_code.ensures.before k q) (λ k q. c.copy_code.ensures.past k q)
