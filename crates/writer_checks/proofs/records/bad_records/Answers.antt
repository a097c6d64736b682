-- `writer_checks::records::bad_records` meets its contract: each record is tested. Assumes nothing.
use Rattle.std.proofs.Common.{rules}
use mathlib.Core.Path.{ap, ◌∙◌}
use Prim.Native.Nat.{ℕ, suc, ◌+◌, ◌*◌}
use lib.ListN.{get_or}
use Rattle.laws.specs.Below.{any}
use Rattle.format.specs.Job.{bad_offer, bad_owner, bad_price, bad_tally}
use Rattle.format.specs.Tables.{offer_tables, tally_tables, file_tables, offer_of, tally_of}
use Rattle.file_blocks.specs.Due.{as_head}
use Rattle.file_blocks.proofs.ByPlace.{tested_by}
use Rattle.writer_checks.proofs.Joining.{record_tests}
use Rattle.writer_checks.proofs.records.bad_records.Goals as goal

pub returns : goal.returns
unfolding bad_owner
returns c = λ s s' b v.
    let x = c.args.tables.now in
    let h = as_head x.head in
    let o = offer_tables x.price.now x.offer_owner.now x.offer_code.now s in
    let t = tally_tables x.tally_grocer.now x.tally_box.now x.tally_code.now x.tally_count.now s' b v in
    record_tests h (file_tables o x.grocer_owner.now t)
    (tested_by (λ i. bad_offer h (offer_of o i)) c.any_by.result c.any_by.ensures (λ i b l e. search rules) ∙ ap (λ (n : ℕ). any n (λ i. bad_offer h (offer_of o i))) c.from.ensures)
    (tested_by (λ i. bad_owner h (get_or x.grocer_owner.now i 0)) c.any_by-2.result c.any_by-2.ensures (λ i b l e. search rules) ∙ ap (λ (n : ℕ). any n (λ i. bad_owner h (get_or x.grocer_owner.now i 0))) c.from-2.ensures)
    (tested_by (λ q. any h.offers (λ i. bad_price (get_or x.price.now (suc q * h.offers + i) 0))) c.any_by-3.result c.any_by-3.ensures (λ i b l e. search rules)
    ∙ ap (λ (n : ℕ). any n (λ q. any h.offers (λ i. bad_price (get_or x.price.now (suc q * h.offers + i) 0)))) c.from-3.ensures)
    (tested_by (λ i. bad_tally h (tally_of t i)) c.any_by-4.result c.any_by-4.ensures (λ i a l e. search rules) ∙ ap (λ (n : ℕ). any n (λ i. bad_tally h (tally_of t i))) c.from-4.ensures)
