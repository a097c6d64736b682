-- `writer::records::put_tally` meets its contract. Assumes nothing.
use mathlib.Core.Path.{◌≡◌, ◌∙◌}
use Prim.Native.Nat.{◌*◌, ◌<◌, ◌^◌}
use native.Mathlib.Omega.{arith}
use lib.IntN.{pos}
use lib.ListN.{length, get_or}
use lib.Signed.{mag}
use Rattle.laws.proofs.Signed.{read32}
use Rattle.format.specs.Bytes.{from}
use Rattle.writer.proofs.Rows.{tally_put}
use Rattle.writer.proofs.records.put_tally.Goals as goal

pub returns : goal.returns
returns c =
    let x = c.args.tables.now in
    let i = c.args.i in
    let z = get_or x.tally_count.now i (pos 0) in
    let fits : mag z < 2 ^ 31 = omega arith in
    let long : length c.copy_code.new.code ≡ length c.args.out.now = c.copy_code.auto.code ∙ c.put_byte.auto.out ∙ c.put16.auto.out in
    tally_put (get_or x.tally_grocer.now i 0) (get_or x.tally_box.now i 0) (from x.tally_code.now (i * 11)) (get_or x.tally_count.now i (pos 0)) (get_or x.tally_issuer.now i 0)
    (get_or x.tally_bag.now i 0) (get_or x.tally_revision.now i 0) c.args.at c.args.out.now _ _ _ _ _
    c.requires.at_in_bounds (rw c.from.ensures at c.put16.ensures) (rw c.from-2.ensures at c.put_byte.ensures) long c.copy_code.ensures
    (rw (c.cast_unsigned.ensures, read32 z fits) at c.put32.ensures) (rw (c.from-3.ensures, c.from-4.ensures, c.from-5.ensures) at c.put_words.ensures)
