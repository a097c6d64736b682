-- `writer_checks::records::bad_list` meets its contract: each price is tested. Assumes nothing.
use Rattle.std.proofs.Common.{rules}
use mathlib.Core.Bool.{Bool}
use Prim.Native.Nat.{ℕ, ◌+◌, ◌*◌}
use native.Mathlib.Numerals.{add-one}
use lib.ListN.{get_or}
use Rattle.format.specs.Job.{bad_price}
use Rattle.file_blocks.proofs.ByPlace.{tested_by}
use Rattle.writer_checks.proofs.records.bad_list.Goals as goal

pub returns : goal.returns
unfolding bad_price
returns c =
    let p : ℕ → Bool = λ i. bad_price (get_or c.args.tables.now.price.now ((c.args.q + 1) * c.from-n.result + i) 0) in
    let told = tested_by p c.any_by.result c.any_by.ensures (λ i b l e. search rules) in
    rw (c.from-n.ensures, add-one c.args.q) at told
