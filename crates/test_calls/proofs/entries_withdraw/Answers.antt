-- `test_calls::entries_withdraw` gives what the call gives, in a number and a lent buffer. Assumes nothing.
use borrow.Author.Rules.{rules}
use Rattle.model.specs.Tables.{StateTables, state_tables}
use Rattle.format.specs.Job.{Head, head_of}
use Rattle.format.specs.Tables.{offer_tables, tally_tables, file_tables, ReaderTables, reader_tables}
use Rattle.late.specs.Calls.{late_answer_of}
use Rattle.test_calls.proofs.Edits.{withdrawn_short, withdrawn_told}
use Rattle.test_calls.proofs.entries_withdraw.Goals as goal

pub returns-then-edited-lt4 : goal.returns-then-edited-lt4
returns-then-edited-lt4 c =
    rw c.number.ensures (withdrawn_short _ _ _ _ _ c.if-edited-lt4.true)

pub tell_edit-requires : goal.tell_edit-requires
tell_edit-requires c =
    c.if-edited-lt4.false

pub shape_of-edited : goal.shape_of-edited
shape_of-edited c =
    c.tell_edit.auto.report

pub returns : goal.returns
returns c =
    let head : Head =
    head_of c.args.boxes c.args.grocers c.args.offers c.args.tallies 0 c.args.lists in
    let reader : ReaderTables =
    let a = c.args in
    reader_tables
    (file_tables (offer_tables a.price.now a.offer_owner.now a.offer_code.now a.offer_issuer.now) a.grocer_owner.now
    (tally_tables a.tally_grocer.now a.tally_box.now a.tally_code.now a.tally_count.now a.tally_issuer.now a.tally_bag.now a.tally_revision.now))
    a.tally_offer.now in
    let state : StateTables =
    state_tables c.args.known.now c.args.price_transit.now c.args.working.now c.args.total_transit.now c.args.statement.now c.args.done.now c.args.sent.now in
    let out =
    withdrawn_told head reader state c.args.edited.now c.args.place (late_answer_of c.withdraw-answer.result) _ _ c.tell_edit.result _
    c.if-edited-lt4.false c.tell_edit.ensures c.withdraw-answer.ensures.withdrawn in
    search (rules, out, c.withdraw-answer.ensures.kept)
