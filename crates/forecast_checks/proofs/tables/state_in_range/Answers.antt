-- `forecast_checks::tables::state_in_range` meets its contract: what each of the range checks ensures. Assumes nothing.
use Rattle.forecast_doubles.specs.Lent.{forecast_held, state_viewed}
use Rattle.forecast_checks.proofs.Tested.{state_whole, words_tested}
use Rattle.forecast_checks.proofs.tables.state_in_range.Goals as goal

pub returns : goal.returns
returns c =
    words_tested (forecast_held c.args.f.now) (state_viewed c.args.s.now) _ _ _ _ c.table_words-kn.ensures c.table_words-km.ensures c.from.ensures c.marks.ensures
    c.all_values.result c.all_values-2.result c.all_sums.result c.all_sums-2.result c.all_sums-3.result c.all_sums-4.result c.under16.result c.upto32.result
    c.all_values.ensures c.all_values-2.ensures c.all_sums.ensures c.all_sums-2.ensures c.all_sums-3.ensures c.all_sums-4.ensures c.under16.ensures c.upto32.ensures

pub all_values-requires : goal.all_values-requires
all_values-requires c =
    let long = state_whole (forecast_held c.args.f.now) (state_viewed c.args.s.now) c.requires in
    rw c.table_words-kn.ensures long.known

pub all_values-requires-2 : goal.all_values-requires-2
all_values-requires-2 c =
    let long = state_whole (forecast_held c.args.f.now) (state_viewed c.args.s.now) c.requires in
    rw c.table_words-kn.ensures long.value_transit

pub all_sums-requires : goal.all_sums-requires
all_sums-requires c =
    let long = state_whole (forecast_held c.args.f.now) (state_viewed c.args.s.now) c.requires in
    rw c.table_words-km.ensures long.part

pub all_sums-requires-2 : goal.all_sums-requires-2
all_sums-requires-2 c =
    let long = state_whole (forecast_held c.args.f.now) (state_viewed c.args.s.now) c.requires in
    rw c.table_words-km.ensures long.part_transit

pub all_sums-requires-3 : goal.all_sums-requires-3
all_sums-requires-3 c =
    let long = state_whole (forecast_held c.args.f.now) (state_viewed c.args.s.now) c.requires in
    rw c.table_words-km.ensures long.held

pub all_sums-requires-4 : goal.all_sums-requires-4
all_sums-requires-4 c =
    let long = state_whole (forecast_held c.args.f.now) (state_viewed c.args.s.now) c.requires in
    rw c.from.ensures long.forecast

pub under16-requires : goal.under16-requires
under16-requires c =
    let long = state_whole (forecast_held c.args.f.now) (state_viewed c.args.s.now) c.requires in
    rw c.marks.ensures long.done

pub upto32-requires : goal.upto32-requires
upto32-requires c =
    let long = state_whole (forecast_held c.args.f.now) (state_viewed c.args.s.now) c.requires in
    long.sent
