-- `step_checks::state::state_in_range` meets its contract: what each of the range checks ensures. Assumes nothing.
use mathlib.Core.List.{[]}
use Rattle.model.specs.Tables.{state_tables}
use Rattle.job_checks.specs.Sizes.{sizes}
use Rattle.model.proofs.Whole.{state_whole}
use Rattle.step_checks.proofs.Tested.{words_tested}
use Rattle.step_checks.proofs.state.state_in_range.Goals as goal

pub returns : goal.returns
returns c =
    let z = c.args.z in
    let s = c.args.state.now in
    λ working. λ totals. words_tested z.boxes z.grocers z.offers z.lists (state_tables s.known.now s.price_transit.now working totals s.statement.now s.done.now s.sent.now)
    c.box_words-kn.result c.list_words-m.result c.marks-kk.result c.box_words-kn.ensures c.list_words-m.ensures.0 c.marks-kk.ensures
    c.upto32.result c.upto32-2.result c.around64.result c.under16.result c.upto32-3.result
    c.upto32.ensures c.upto32-2.ensures c.around64.ensures c.under16.ensures c.upto32-3.ensures

pub upto32-requires : goal.upto32-requires
upto32-requires c =
    let z = c.args.z in
    let s = c.args.state.now in
    rw c.box_words-kn.ensures (state_whole (sizes z.boxes z.grocers z.offers z.lists) (state_tables s.known.now s.price_transit.now [] [] s.statement.now s.done.now s.sent.now) c.requires).known

pub upto32-requires-2 : goal.upto32-requires-2
upto32-requires-2 c =
    let z = c.args.z in
    let s = c.args.state.now in
    rw c.box_words-kn.ensures (state_whole (sizes z.boxes z.grocers z.offers z.lists) (state_tables s.known.now s.price_transit.now [] [] s.statement.now s.done.now s.sent.now) c.requires).price_transit

pub around64-requires : goal.around64-requires
around64-requires c =
    let z = c.args.z in
    let s = c.args.state.now in
    rw c.list_words-m.ensures.0 (state_whole (sizes z.boxes z.grocers z.offers z.lists) (state_tables s.known.now s.price_transit.now [] [] s.statement.now s.done.now s.sent.now) c.requires).statement

pub under16-requires : goal.under16-requires
under16-requires c =
    let z = c.args.z in
    let s = c.args.state.now in
    rw c.marks-kk.ensures (state_whole (sizes z.boxes z.grocers z.offers z.lists) (state_tables s.known.now s.price_transit.now [] [] s.statement.now s.done.now s.sent.now) c.requires).done

pub upto32-requires-3 : goal.upto32-requires-3
upto32-requires-3 c =
    let z = c.args.z in
    let s = c.args.state.now in
    (state_whole (sizes z.boxes z.grocers z.offers z.lists) (state_tables s.known.now s.price_transit.now [] [] s.statement.now s.done.now s.sent.now) c.requires).sent
