-- The examples hold: each computes. Assumes nothing.
use mathlib.Core.Path.{refl}
use lib.Count.{ones}
use lib.Ieee.{of_bits, to_bits, add, mul, neg, le, lt, eq}
use Rattle.laws.specs.Masks.{mask_of, without}
use Rattle.laws.specs.Checks.{first_met}
use Rattle.laws.specs.Below.{naturals, sum, only, any, all, count}
use Rattle.laws.specs.Tables.{tabulate, overwrite, word, cell, recell}
use Rattle.model.specs.Job.{held_by, needs, shares, need_word, sharer_word, price_word, total_word, prices_due, totals_due}
use Rattle.model.specs.Tables.{steps_done, marks_of}
use Rattle.model.specs.Ranges.{up_to, under}
use Rattle.model.specs.Step.{is_kind, step_answer}
use Rattle.model.specs.Words.{owner_words, message_count, step_count}
use Rattle.forecast_rules.specs.Doubles.{add_up, is_value, is_sum, same_bits}
use Rattle.forecast_rules.specs.Lines.{value_in, offer_value, of_part, part_at, part_sum, forecast_sum, line_outside, values_differ, bad_line}
use Rattle.forecast_rules.specs.Steps.{kind_number, kind_of, mark, one_box, fits, has_step, all_due, ready, permitted, fresh, part_here, summed, effect}
use Rattle.forecast_rules.specs.Tables.{forecast_of, from_marks, to_marks, view, store, forecast_lengths, state_lengths, forecast_short, state_short, lent_short}
use Rattle.forecast_rules.specs.Ranges.{each, forecast_in_range, state_in_range}
use Rattle.forecast_rules.specs.Step.{boxes_fit, step_rules, moved, refusals, step_refusal, step_tables, fresh_refusals, fresh_tables, stepped, freshened}
use Rattle.forecast_rules.specs.Requests.{lent_forecast, lent_state, returned, answer_to, serve, serve_all, answers_from, tables_after, answers_in}
use Rattle.forecast_rules.specs.Cases.{Cases}
use Rattle.model.specs.Steps as Money

pub cases : Cases
unfolding ones lib.Count.ones_in of_bits to_bits add mul neg le lt eq mask_of without first_met naturals sum only any all count tabulate overwrite word cell recell held_by needs shares need_word sharer_word
    price_word total_word prices_due totals_due Money.kind_number Money.kind_of Money.step_at steps_done marks_of up_to under is_kind step_answer owner_words message_count step_count add_up is_value is_sum same_bits
    value_in offer_value of_part part_at part_sum forecast_sum line_outside values_differ bad_line kind_number kind_of mark one_box fits has_step all_due ready permitted fresh part_here summed effect forecast_of
    from_marks to_marks view store forecast_lengths state_lengths forecast_short state_short lent_short each forecast_in_range state_in_range boxes_fit step_rules moved refusals step_refusal step_tables
    fresh_refusals fresh_tables stepped freshened lent_forecast lent_state returned answer_to serve serve_all answers_from tables_after answers_in
cases = record {
  by_box = refl;
  in_list = refl;
  not_fused = refl;
  no_lines = refl;
  no_value = refl;
  minus_zero = refl;
  value_most = refl;
  value_least = refl;
  value_over = refl;
  value_infinite = refl;
  value_nan = refl;
  sum_most = refl;
  sum_least = refl;
  sum_over = refl;
  sum_infinite = refl;
  sum_nan = refl;
  zeros_differ = refl;
  zeros_34 = refl;
  minus_zeros = refl;
  values_34 = refl;
  rate_34 = refl;
  small_words = refl;
  small_messages = refl;
  small_steps = refl;
  order_1 = refl;
  order_2 = refl;
  ends_1 = refl;
  same_end = refl;
  arrival_1 = refl;
  arrival_2 = refl;
  first_1 = refl;
  first_2 = refl;
  end_1 = refl;
  end_2 = refl;
  kind_22 = refl;
  boxes_23 = refl;
  itself_23 = refl;
  empty_24 = refl;
  twice_25 = refl;
  unsent_26 = refl;
  adds_26 = refl;
  sums_26 = refl;
  bad_34 = refl;
  range_21 = refl;
  state_21 = refl;
  short_20 = refl;
  fresh_any = refl;
  late_21 = refl;
  lines_21 = refl;
}
