-- `test_calls::entries_add` gives what the call gives, in a number and a lent buffer. Assumes nothing.
use borrow.Author.Rules.{rules}
use Rattle.laws.proofs.Signed.{read32}
use Rattle.model.specs.Tables.{StateTables, state_tables}
use Rattle.format.specs.Job.{Head, head_of}
use Rattle.format.specs.Tables.{offer_tables, tally_tables, file_tables, ReaderTables, reader_tables}
use Rattle.late.specs.Calls.{late_answer_of}
use Rattle.test_calls.proofs.Edits.{added_short, code-room, added_told}
use Rattle.test_calls.proofs.entries_add.Goals as goal

pub returns-then-code-edited : goal.returns-then-code-edited
returns-then-code-edited c =
    rw c.number.ensures (added_short _ _ _ _ _ _ _ _ _ _ _ c.if-code-edited.true)

pub tell_edit-requires : goal.tell_edit-requires
tell_edit-requires c =
    (code-room c.args.code.now c.args.edited.now c.if-code-edited.false).1

pub shape_of-edited : goal.shape_of-edited
shape_of-edited c =
    c.tell_edit.auto.report

pub code_of-bytes-requires : goal.code_of-bytes-requires
code_of-bytes-requires c =
    (code-room c.args.code.now c.args.edited.now c.if-code-edited.false).0

pub returns : goal.returns
returns c =
    let head : Head =
    head_of c.args.boxes c.args.grocers c.args.offers c.args.tallies 0 c.args.lists in
    let reader : ReaderTables =
    let a = c.args in
    reader_tables
    (file_tables (offer_tables a.price.now a.offer_owner.now a.offer_code.now a.offer_issuer.now) a.grocer_owner.now
    (tally_tables a.tally_grocer.now a.tally_box.now a.tally_code.now a.tally_count.now a.tally_issuer.now a.tally_bag.now a.tally_revision.now))
    a.tally_offer.now in
    let state : StateTables =
    state_tables c.args.known.now c.args.price_transit.now c.args.working.now c.args.total_transit.now c.args.statement.now c.args.done.now c.args.sent.now in
    let x = c.args in
    let out =
    added_told head reader state x.edited.now x.grocer x.box_of x.code.now x.count x.issuer x.bag x.revision
    c.code_of-bytes.result _ (late_answer_of c.add-answer.result) _ _ c.tell_edit.result _
    c.if-code-edited.false c.code_of-bytes.ensures (read32 x.count c.ranges.count.sfits) c.tell_edit.ensures c.add-answer.ensures.added in
    search (rules, out, c.add-answer.ensures.kept)
