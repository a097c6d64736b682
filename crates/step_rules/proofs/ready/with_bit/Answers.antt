-- `step_rules::ready::with_bit` meets its contract. Assumes nothing.
use Rattle.step_rules.proofs.Bits.{with_bit}
use Rattle.step_rules.proofs.ready.with_bit.Goals as goal

pub returns : goal.returns
returns c =
    λ f. λ e. rw c.from.ensures (with_bit c.args.word c.args.b c.args.test f c.requires e)
