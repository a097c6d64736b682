-- `host::settlement_run` meets its contract. Assumes nothing.
use borrow.Author.Rules.{rules}
use Rattle.host.proofs.Gives.{run_short, run_told}
use Rattle.host.proofs.settlement_run.Goals as goal

pub tell_report-requires : goal.tell_report-requires
tell_report-requires c =
    c.if-report-lt3.false

pub returns-then-report-lt3 : goal.returns-then-report-lt3
returns-then-report-lt3 c =
    rw c.number.ensures (run_short _ _ _ _ _ c.if-report-lt3.true)

pub returns : goal.returns
returns c =
    let told =
    run_told _ _ _ _ _ _ _ _ _ _ c.if-report-lt3.false c.run-answer.ensures.ran c.tell_report.ensures in
    search (rules, told)
