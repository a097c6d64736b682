-- The examples hold: each computes. Assumes nothing.
use mathlib.Core.Path.{refl}
use Rattle.laws.specs.Below.{sum, integers, all}
use Rattle.laws.specs.Tables.{tabulate, overwrite, word, cell, recell}
use Rattle.laws.specs.Checks.{first_met}
use Rattle.model.specs.Ranges.{around}
use Rattle.cycle_history.specs.Store.{next_of, held_of, sum_of, gap, amount_of, leaving, held_after, sum_after, store_after, store_short, store_in_range, store_refusals, store_refusal, stored}
use Rattle.cycle_history.specs.History.{after}
use Rattle.cycle_history.specs.StoreCases.{StoreCases}

pub store_cases : StoreCases
unfolding sum integers all tabulate overwrite word cell recell first_met around next_of held_of sum_of gap amount_of leaving held_after sum_after store_after store_short store_in_range store_refusals
    store_refusal stored after
store_cases = record {
  first_0 = refl;
  first_last = refl;
  then_none = refl;
  same_35 = refl;
  within = refl;
  leaves = refl;
  leaves_one = refl;
  far = refl;
  refused_keeps = refl;
  amount_36 = refl;
  amount_minus = refl;
  amount_most = refl;
  both_35 = refl;
  short_20 = refl;
  short_amounts = refl;
  grocers_0 = refl;
  next_21 = refl;
  held_21 = refl;
  sums_21 = refl;
  as_is = refl;
  late_21 = refl;
  before_late = refl;
}
