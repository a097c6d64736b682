-- `step_rules::ready::totals_due` meets its contract. Assumes nothing.
use Rattle.step_rules.specs.Rules.{totals_due_by}
use Rattle.step_rules.proofs.ready.totals_due.Goals as goal

pub returns : goal.returns
unfolding totals_due_by
returns c =
    rw c.word_at.ensures
