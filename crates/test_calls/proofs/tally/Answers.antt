-- `tally` is record i of those lent. Assumes nothing.
use mathlib.Core.Path.{ap}
use lib.IntN.{ℤ}
use borrow.Author.Rules.{rules}
use Rattle.laws.proofs.Signed.{read32}
use Rattle.desk.specs.Records.{Tally}
use Rattle.test_calls.specs.Entries.{lent_tally}
use Rattle.test_calls.proofs.tally.Goals as goal

pub returns : goal.returns
unfolding lent_tally
returns c =
    let t = lent_tally c.args.tally_grocer.now c.args.tally_box.now c.args.tally_offer.now c.args.tally_count.now c.args.tally_bag.now c.args.tally_revision.now c.args.i in
    let of : ℤ → Tally =
    λ z. record { grocer = t.grocer; tally_box = t.tally_box; place = t.place; count = z; bag = t.bag; revision = t.revision } in
    ap of (read32 _ (search rules))
