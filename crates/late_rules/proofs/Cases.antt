-- The examples compute. Assumes nothing.
use mathlib.Core.Path.{◌≡◌, refl}
use mathlib.Core.Bool.{true, false}
use lib.Dec.{leb}
use Rattle.laws.specs.Checks.{first_met}
use Rattle.laws.specs.Limits.{max_tallies}
use Rattle.laws.proofs.Bools.{or_off}
use Rattle.laws.proofs.Checks.{Unmet, unmet}
use Rattle.model.specs.Tables.{StateTables, evening_of, state_lengths, totals_short}
use Rattle.model.proofs.Cases.{computed}
use Rattle.format.specs.Codes.{is_place, is_code, value, code_number, same_offer, code_bytes}
use Rattle.format.specs.Job.{Head, Tally, bad_sizes, bad_offer, bad_owner, bad_tally, bad_price, bad_records, names, place_of, shared, unnamed, counted_tallies}
use Rattle.format.specs.Refusals.{job_refusal}
use Rattle.format.specs.Tables.{ReaderTables, short_offers, short_tallies, short_tables, file_job_of, store_codes, store_tallies}
use Rattle.late_rules.specs.Edit.{job_in, place_before, store_entries, place_found, added_tables, withdrawn_tables}
use Rattle.late_rules.specs.Late.{same_amount, same_words, same_amounts, same_state, left_by_run, room, late_short, present_rules, refused_job, edited_short}
use Rattle.late_rules.specs.Late.{add_faults, withdraw_faults, add_rules, withdraw_rules, late_answer, late_result, bag_added, bag_withdrawn}
use Rattle.late_rules.specs.Cases.{Cases}

full_is : (h : Head) (l : ReaderTables) (s : StateTables) (x : Tally) → first_met (present_rules (room h.tallies) false h l s) ≡ 0 →
    leb max_tallies h.tallies ≡ true → first_met (add_rules h l s x) ≡ 31
unfolding present_rules add_rules add_faults edited_short first_met
full_is h l s x e f =
    let r : Unmet (present_rules (room h.tallies) false h l s) = unmet (present_rules (room h.tallies) false h l s) refl e in
    let n = or_off (totals_short (evening_of (job_in h l)) (state_lengths s)) false r.1.1.1.0 in
    rw (r.0, r.1.0, r.1.1.0, f, n.0, r.1.1.1.1.0, r.1.1.1.1.1.0)

pub cases : Cases
unfolding computed is_place is_code value code_number same_offer code_bytes bad_sizes bad_offer bad_owner bad_tally bad_price bad_records names place_of shared unnamed counted_tallies job_refusal
    short_offers short_tallies short_tables file_job_of store_codes store_tallies place_before store_entries place_found added_tables withdrawn_tables
    same_amount same_words same_amounts same_state left_by_run room late_short present_rules refused_job edited_short add_faults withdraw_faults add_rules withdraw_rules late_answer late_result bag_added bag_withdrawn
cases = record {
  e_state = refl;
  added = refl;
  added_code = refl;
  added_issuer = refl;
  added_none = refl;
  withdrawn = refl;
  last_counts = refl;
  no_place = refl;
  no_tally_lem = refl;
  no_offer = refl;
  no_issuer = refl;
  bad_grocer = refl;
  bad_box = refl;
  bad_count_lem = refl;
  bad_digits = refl;
  sent_30 = refl;
  mark_30 = refl;
  price_30 = refl;
  working_30 = refl;
  blank_30 = refl;
  place_30 = refl;
  short_20 = refl;
  room_999 = refl;
  room_1000 = refl;
  room_more = refl;
  fifth_21 = refl;
  packed_20 = refl;
  packed_other = refl;
  packed_first = refl;
  packed_enough = refl;
  packed_32 = refl;
  packed_less = refl;
  packed_21 = refl;
  packed_past = refl;
  lists_answer = refl;
  lists_statement = refl;
  bag_before = refl;
  bag_back = refl;
  bag_words = refl;
  bag_lower = refl;
  bag_packed = refl;
  bag_9 = refl;
  bag_between = refl;
  bag_higher = refl;
  bag_twice = refl;
  place_run = refl;
  place_writer = refl;
  place_neither = refl;
  code_stays = refl;
  code_goes = refl;
  code_add = refl;
  full = full_is;
}
