-- `host::settlement_read` meets its contract. Assumes nothing.
use borrow.Author.Rules.{rules}
use Rattle.host.proofs.Gives.{read_short, read_told}
use Rattle.host.proofs.settlement_read.Goals as goal

pub tell_sizes-requires : goal.tell_sizes-requires
tell_sizes-requires c =
    c.if-sizes-lt6.false

pub returns-then-sizes-lt6 : goal.returns-then-sizes-lt6
returns-then-sizes-lt6 c =
    rw c.number.ensures (read_short _ _ _ c.if-sizes-lt6.true)

pub returns : goal.returns
returns c =
    let told =
    read_told _ _ _ _ _ _ _ c.if-sizes-lt6.false c.read-answer.ensures.answer c.tell_sizes.ensures in
    search (rules, told)
