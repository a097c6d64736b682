-- The table of ◆ cases and the examples hold: each computes. Assumes nothing.
use mathlib.Core.Path.{refl}
use mathlib.Core.Bool.{Bool, true}
use lib.Count.{ones}
use Rattle.laws.specs.Masks.{mask_of, without}
use Rattle.laws.specs.Checks.{first_met}
use Rattle.laws.specs.Below.{naturals, integers, sum, only, any, all, count, find, ascending}
use Rattle.laws.specs.Tables.{tabulate, overwrite, lay_over, word, cell, recell}
use Rattle.recount.specs.Recount.{loose, same_bag, superseded, stands, counted_twice}
use Rattle.model.specs.LocalLists.{chained, local_offers, local_grocers, local_grocer}
use Rattle.model.specs.Local.{of_offer, start, starts, packed, packed_grocers, packed_counts, price_table, total_table, book_short, book_refusals, job_refusals}
use Rattle.model.specs.Reconcile.{record_in_range, records_in_range, record_in, counted_records, standing_records, serial_amount, desk_refusals, desk_answer, reconciled}
use Rattle.model.specs.Job.{held_by, held, needs, shares, need_word, sharer_word, price_word, total_word, prices_due, totals_due, amount, plain_sum}
use Rattle.model.specs.Tables.{counted_of, job_of, with_lists, steps_done, marks_of, view, store, job_lengths, state_lengths, job_short, bags_short, state_short, lent_short, totals_short}
use Rattle.model.specs.Run.{ready_steps, ready_count, pick, picks, after_steps, run, picked_places, reported, run_refusals, run_state, ran}
use Rattle.model.specs.Ranges.{up_to, under, around, sizes_in_range, job_words_in_range, job_in_range, state_in_range, totals_in_range}
use Rattle.model.specs.Step.{is_kind, step_of, boxes_fit, step_rules, moved, refusals, step_refusal, step_tables, fresh_tables, step_answer, stepped}
use Rattle.model.specs.Requests.{lent_job, lent_state, returned, answer_to, serve, serve_all, answers_from, tables_after, answers_in}
use Rattle.model.specs.Demand3.{whole_request}
use Rattle.model.specs.Words.{over, owner_words, message_count, step_count, messages_of}
use Rattle.model.specs.Boxes.{knows, price_on_way, gone, arrived, part_of, paid, sent_of, state_by_rules}
use Rattle.model.specs.Steps.{done_by, added, kind_number, kind_of, mark, one_box, fits, has_step, all_added, ready, permitted, fresh, products, received, effect, step_at, list_of}
use Rattle.model.specs.PackedTotals.{is_local, has_total, totals_start, totals_length, total_place, total_rows, pack_totals, unpack_totals, spread}
use Rattle.model.specs.Spans.{group_start, place_grocers}
use Rattle.model.specs.FullRows.{full_view, full_store, rows_short, rows_in_range, unpacked, full_moved, full_refusals, full_refusal, full_stepped}
use Rattle.model.specs.Cases.{Cases, Examples}
use Rattle.model.specs.PriceLists.{only_list}
use Rattle.model.specs.ListCases.{ListExamples}

-- What a case is computed with. To unfold this is to unfold every name of its line.
unfoldable pub computed : Bool
unfolding whole_request step_of tables_after answers_in serve_all answers_from answer_to serve returned lent_job lent_state loose same_bag superseded stands counted_twice counted_of bags_short done_by state_by_rules knows
    price_on_way gone arrived part_of paid sent_of job_of steps_done marks_of view store word cell recell overwrite tabulate job_short state_short job_lengths state_lengths lent_short job_in_range sizes_in_range
    job_words_in_range state_in_range up_to under around first_met refusals step_rules step_refusal step_tables moved is_kind boxes_fit one_box step_answer stepped fresh_tables fresh effect products received kind_number
    kind_of mark fits has_step all_added added ready permitted held_by held needs shares need_word sharer_word price_word total_word prices_due totals_due amount plain_sum mask_of without sum only naturals integers
    any all count find owner_words message_count step_count over messages_of run run_state after_steps picks pick step_at list_of ready_steps ready_count ran run_refusals reported ascending chained local_offers
    local_grocers of_offer start starts local_grocer packed packed_grocers packed_counts price_table total_table reconciled desk_answer desk_refusals records_in_range record_in_range record_in counted_records
    standing_records serial_amount ones lib.Count.ones_in lay_over picked_places book_short book_refusals job_refusals
    totals_short totals_in_range pack_totals unpack_totals total_rows totals_start totals_length
    total_place has_total is_local unpacked full_view full_store rows_short rows_in_range full_moved full_refusals full_refusal full_stepped group_start place_grocers with_lists spread only_list
computed = true

pub cases : Cases
unfolding computed
cases = record {
  e_amount_0 = refl;
  e_amount_1 = refl;
  e_statement_0 = refl;
  e_statement_1 = refl;
  e_words = refl;
  e_messages = refl;
  e_steps = refl;
  e_report = refl;
  quiet_steps = refl;
  quiet_words = refl;
  away_words = refl;
  away_steps = refl;
  twice_words = refl;
  largest = refl;
  smallest = refl;
}

pub examples : Examples
unfolding computed
examples = record {
  needs_away = refl;
  words_away = refl;
  steps_away = refl;
  sum_away = refl;
  one_words = refl;
  one_steps = refl;
  one_sum = refl;
  nobody = refl;
  offers_0 = refl;
  offers_1 = refl;
  grocers_0 = refl;
  grocers_1 = refl;
  starts_0 = refl;
  starts_1 = refl;
  side_offers = refl;
  side_grocers = refl;
  side_starts = refl;
  side_packed = refl;
  side_numbers = refl;
  side_counts = refl;
  prices_0_1 = refl;
  prices_1_0 = refl;
  totals_0_1 = refl;
  totals_1_0 = refl;
  two_words = refl;
  one_message = refl;
  two_report = refl;
  e_ready = refl;
  e_pick = refl;
  e_working = refl;
  e_on_way = refl;
  e_unknown = refl;
  e_sent = refl;
  no_kind = refl;
  to_itself = refl;
  not_sent = refl;
  no_message = refl;
  repeated = refl;
  begins = refl;
  no_work = refl;
  works = refl;
  unmarked = refl;
  marked = refl;
  not_yet = refl;
  e_leaves = refl;
  one_leaves = refl;
  short = refl;
  too_much = refl;
  still_fits = refl;
  desk = refl;
  desk_21 = refl;
  desk_20 = refl;
  recount_sum = refl;
  recount_need = refl;
  recount_words = refl;
  recount_steps = refl;
  recount_answer = refl;
  recount_leaves = refl;
  recount_book = refl;
  recount_none = refl;
  recount_loose = refl;
  recount_bags = refl;
  twice_step = refl;
  twice_run = refl;
  twice_short = refl;
  superseded_21 = refl;
  desk_recount = refl;
  desk_9 = refl;
  early_waits = refl;
  early_sent = refl;
  early_answers = refl;
  early_leaves = refl;
  own_waits = refl;
  own_added = refl;
  own_answers = refl;
  own_leaves = refl;
  both_wait = refl;
  from_start = refl;
  then_none = refl;
  own_offer = refl;
  not_for_others = refl;
  not_for_own = refl;
  superseded_passed = refl;
  standing_waits = refl;
  superseded_own = refl;
  standing_own = refl;
  packed_length_lem = refl;
  packed_starts = refl;
  packed_places = refl;
  packed_none = refl;
  unpacked_rows = refl;
  packed_recount = refl;
  packed_own = refl;
  packed_groups_0 = refl;
  packed_groups_1 = refl;
  packed_grocers_lem = refl;
  rows_stay = refl;
  rows_21 = refl;
}

pub list_examples : ListExamples
unfolding computed
list_examples = record {
  leaves = refl;
  report = refl;
  picked = refl;
  words = refl;
  entries = refl;
  messages = refl;
  steps = refl;
  second = refl;
  second_sum_lem = refl;
  fresh = refl;
  sends = refl;
  sent = refl;
  totals = refl;
  book = refl;
  table = refl;
  short = refl;
  short_state = refl;
  longer_state = refl;
  eight = refl;
  seven = refl;
  dear = refl;
  desk = refl;
  packed_length_lem = refl;
  packed_starts = refl;
  packed_places = refl;
  packed_none = refl;
  packed_groups = refl;
  packed_grocers_lem = refl;
  packed_working = refl;
  packed_enough = refl;
  packed_short = refl;
  packed_one_list = refl;
  packed_past = refl;
  packed_21 = refl;
  packed_late = refl;
  packed_eight = refl;
  packed_seven = refl;
  unpacked_rows = refl;
  full_rows = refl;
}
