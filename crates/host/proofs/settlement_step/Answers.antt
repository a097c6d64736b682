-- `host::settlement_step` meets its contract. Assumes nothing.
use borrow.Author.Rules.{rules}
use Rattle.host.proofs.Gives.{step_told}
use Rattle.host.proofs.settlement_step.Goals as goal

pub returns : goal.returns
returns c =
    let told = step_told _ _ _ _ _ _ c.number.ensures c.step.ensures.outcome in
    search (rules, told)
