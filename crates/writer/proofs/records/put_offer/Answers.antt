-- `writer::records::put_offer` meets its contract. Assumes nothing.
use mathlib.Core.Path.{◌≡◌, ◌∙◌}
use Prim.Native.Nat.{◌*◌}
use lib.ListN.{length, get_or}
use Rattle.format.specs.Bytes.{from}
use Rattle.writer.proofs.Rows.{offer_put}
use Rattle.writer.proofs.records.put_offer.Goals as goal

pub returns : goal.returns
returns c =
    let x = c.args.tables.now in
    let i = c.args.i in
    let long : length c.copy_code.new.code ≡ length c.args.out.now = c.copy_code.auto.code ∙ c.put_byte.auto.out ∙ c.put32.auto.out in
    offer_put (get_or x.price.now i 0) (get_or x.offer_owner.now i 0) (from x.offer_code.now (i * 11)) (get_or x.offer_issuer.now i 0) c.args.at c.args.out.now _ _ _ _ _
    c.requires.at_in_bounds c.put32.ensures (rw c.from.ensures at c.put_byte.ensures) long c.copy_code.ensures (rw c.from-2.ensures at c.put16.ensures) c.put_zeros.ensures
