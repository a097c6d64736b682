-- `records` makes the list of records. The invariant: the records before i are those lent. Assumes nothing.
use mathlib.Core.Path.{◌≡◌, refl, ◌∙◌}
use native.Mathlib.Omega.{arith}
use lib.ListN.{length-set}
use borrow.Author.Rules.{rules}
use Rattle.test_calls.specs.Entries.{lent_tally}
use Rattle.test_calls.proofs.Fields.{filled_more, filled_all, fields_fewer}
use Rattle.test_calls.proofs.records.Goals as goal

pub loop-i-init : goal.loop-i-init
loop-i-init c =
    (search rules, refl, λ p h. absurd (omega (arith, h)))

pub tally-t-requires : goal.tally-t-requires
tally-t-requires c =
    fields_fewer c.requires.fields (omega (arith, c.loop-i-test.true))

pub offset_bounds-list-i : goal.offset_bounds-list-i
offset_bounds-list-i c =
    omega (arith, c.loop-i.invariant.0, c.requires.n_bound)

pub bounds-list-i : goal.bounds-list-i
bounds-list-i c =
    omega (arith, c.loop-i-test.true, c.requires.n_bound)

pub overflow_step-i : goal.overflow_step-i
overflow_step-i c =
    omega (arith, c.loop-i.invariant.0, c.requires.n_bound)

pub loop-i-smaller : goal.loop-i-smaller
loop-i-smaller c =
    omega (arith, c.loop-i-test.true)

pub loop-i-preserved : goal.loop-i-preserved
loop-i-preserved c =
    let list = c.loop-i.list in
    let i = c.loop-i.i in (
      omega (arith, c.loop-i-test.true),
      length-set list i _ ∙ c.loop-i.invariant.1,
      filled_more (lent_tally c.args.tally_grocer.now c.args.tally_box.now c.args.tally_offer.now c.args.tally_count.now c.args.tally_bag.now c.args.tally_revision.now) list i c.tally-t.result
          (omega (arith, c.loop-i.invariant.1, c.loop-i-test.true, c.requires.n_bound)) c.tally-t.ensures c.loop-i.invariant.2,
    )

pub returns : goal.returns
returns c =
    let e : c.loop-i.i ≡ c.args.n = omega arith in
    filled_all c.args.tally_grocer.now c.args.tally_box.now c.args.tally_offer.now c.args.tally_count.now c.args.tally_bag.now c.args.tally_revision.now _ c.loop-i.list
    (omega (arith, c.loop-i.invariant.1, c.requires.n_bound)) (rw e at c.loop-i.invariant.2)
