-- `desk_records::share_of` meets its contract. Assumes nothing.
use mathlib.Core.Path.{refl}
use borrow.Author.Tests.{ne_eqb}
use Rattle.laws.specs.Below.{only, integers}
use Rattle.laws.proofs.Signed.{read32_abs}
use native.Mathlib.Omega.{arith}
use Rattle.desk_records.specs.Rows.{record_of}
use Rattle.desk_records.proofs.Taking.{share_is}
use Rattle.desk_records.proofs.share_of.Goals as goal

pub returns-then-tally-wanted : goal.returns-then-tally-wanted
unfolding only integers
returns-then-tally-wanted c = rw (ne_eqb c.args.tally.grocer c.args.wanted c.if-tally-wanted.true) refl

pub returns : goal.returns
returns c =
    let x = c.args in
    share_is x.price.now x.wanted (record_of x.tally) c.add_product.result x.tally.count
    refl c.if-tally-wanted.false c.requires.2 c.requires.1 (rw (read32_abs x.tally.count (omega (arith, c.requires.2)), c.from.ensures) at c.add_product.ensures)
