-- `late_edits::move_up` meets its contract: what std's copy leaves, place by place. Assumes nothing.
use Rattle.late_edits.proofs.Moving.{moved_by}
use Rattle.late_edits.proofs.move_up.Goals as goal

pub returns : goal.returns
returns g c =
    let m = c.copy_within.ensures.by_index in
    λ z. moved_by c.args.a c.args.w c.args.e z c.args.s.now c.copy_within.new.self c.requires.0 (λ k. m.0 k z) (λ k. m.1 k z) (λ k. m.2 k z)
