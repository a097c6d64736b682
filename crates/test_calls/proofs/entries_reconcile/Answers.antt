-- `entries_reconcile` gives what the desk gives for the records whose fields are lent. Assumes nothing.
use Rattle.test_calls.specs.Entries.{short_fields}
use Rattle.test_calls.proofs.Fields.{fields_fewer, fields_whole, told_short, told-whole}
use Rattle.test_calls.proofs.entries_reconcile.Goals as goal

pub returns-then-few-owed : goal.returns-then-few-owed
unfolding short_fields
returns-then-few-owed c =
    rw c.number.ensures (told_short _ _ _ _ _ _ _ _ _ _ _ c.if-few-owed.true)

pub records-list-requires : goal.records-list-requires
unfolding short_fields
records-list-requires c =
    let x = c.args in
    let w = fields_whole x.tally_grocer.now x.tally_box.now x.tally_offer.now x.tally_count.now x.tally_bag.now x.tally_revision.now x.owed.now c.if-few-owed.false in
    record {
      n_bound = c.shown-k.ensures.1.0;
      fields = fields_fewer w.0 c.shown-k.ensures.0;
    }

pub tell-requires : goal.tell-requires
unfolding short_fields
tell-requires c =
    let x = c.args in
    (fields_whole x.tally_grocer.now x.tally_box.now x.tally_offer.now x.tally_count.now x.tally_bag.now x.tally_revision.now x.owed.now c.if-few-owed.false).1

pub returns : goal.returns
unfolding short_fields
returns c =
    told-whole _ _ _ _ _ _ _ _ _ _ _ _ _ _ _ _ c.if-few-owed.false c.shown-k.ensures c.tell.ensures c.reconcile_few-answer.ensures c.records-list.ensures

pub shape_of-owed : goal.shape_of-owed
shape_of-owed c =
    c.tell.auto.owed
