-- Small examples of several price lists in one evening (02 §9).
use Rattle.std.specs.Prelude.{◌≡◌, false, List, [], ◌∷◌, ◌++◌, ℕ, ◌*◌, ℤ, pos, negsuc}
use Rattle.laws.specs.Tables.{tabulate}
use Rattle.model.specs.Job.{plain_sum}
use Rattle.model.specs.Words.{owner_words, message_count, step_count}
use Rattle.model.specs.PackedTotals.{has_total, totals_start, totals_length, total_place}
use Rattle.model.specs.Tables.{JobTables, bag_tables, evening_of, job_of, StateTables, state_tables}
use Rattle.model.specs.Spans.{group_start, place_grocers}
use Rattle.model.specs.FullRows.{unpacked, full_stepped}
use Rattle.model.specs.Step.{asked, accepted, refused, stepped, fresh_tables}
use Rattle.model.specs.Run.{finished, refused as not_run, ran}
use Rattle.model.specs.LocalLists.{local_grocers}
use Rattle.model.specs.Local.{price_table}
use Rattle.model.specs.Reconcile.{TallyRecord, owed, reconciled}
use Rattle.model.specs.Cases.{empty, fresh_e, job_e, tables_in_turn}
use Rattle.model.specs.PriceLists.{only_list}

-- E with a number of additional lists and these prices, list after list.
abbrev pub listed_e : ℕ → List ℕ → JobTables
listed_e l prices =
    bag_tables 2 2 2 4 l prices (0 ∷ 1 ∷ []) (1 ∷ 0 ∷ [])
    (0 ∷ 1 ∷ 0 ∷ 0 ∷ []) (0 ∷ 0 ∷ 1 ∷ 1 ∷ []) (0 ∷ 1 ∷ 1 ∷ 0 ∷ []) (pos 3 ∷ pos 2 ∷ negsuc 0 ∷ pos 4 ∷ []) (tabulate 4 (λ i. 0)) (tabulate 4 (λ i. 0))

-- E with one additional list: 100 for offer 0, 200 for offer 1.
abbrev pub two_lists : JobTables
two_lists = listed_e 1 (500 ∷ 1250 ∷ 100 ∷ 200 ∷ [])

-- Its tallies as the desk is handed them.
abbrev pub handed_e : List TallyRecord
handed_e =
    record { grocer = 0; tally_box = 0; place = 0; count = pos 3; bag = 0; revision = 0 }
    ∷ record { grocer = 1; tally_box = 0; place = 1; count = pos 2; bag = 0; revision = 0 }
    ∷ record { grocer = 0; tally_box = 1; place = 1; count = negsuc 0; bag = 0; revision = 0 }
    ∷ record { grocer = 0; tally_box = 1; place = 0; count = pos 4; bag = 0; revision = 0 } ∷ []

-- So many words 0.
abbrev pub zeros : ℕ → List ℤ
zeros n = tabulate n (λ i. pos 0)

-- A state of it with these packed totals, all else as it is fresh.
abbrev pub packed_lists : List ℤ → List ℤ → StateTables
packed_lists working total_transit =
    state_tables (500 ∷ 100 ∷ 0 ∷ 0 ∷ 0 ∷ 0 ∷ 1250 ∷ 200 ∷ []) (tabulate 8 (λ i. 0)) working total_transit (zeros 4) (tabulate 24 (λ i. 0)) (0 ∷ [])

-- Buffers of E with n lists, but that nothing is lent of the packed tables.
abbrev pub many_lists : ℕ → StateTables
many_lists n = state_tables (tabulate (4 * n) (λ i. 0)) (tabulate (4 * n) (λ i. 0)) [] [] (zeros (2 * n)) (tabulate 24 (λ i. 0)) (0 ∷ [])

-- What lists, words and packed tables of E come to.
pub record ListExamples : Type 0 where
  -- A run leaves the amounts of a grocer's lists side by side: 2250 and 500, 2500 and 400. "Steps do not change in number", words are twice as many.
  pub leaves : (ran two_lists (fresh_tables two_lists empty) [] []).tables.statement ≡ pos 2250 ∷ pos 500 ∷ pos 2500 ∷ pos 400 ∷ []
  pub report : (ran two_lists (fresh_tables two_lists empty) [] []).answer ≡ finished 6 3 10
  -- It picks the steps of E, and shows their places.
  pub picked : (ran two_lists (fresh_tables two_lists empty) [] (tabulate 10 (λ i. 0))).picked ≡ 1 ∷ 2 ∷ 4 ∷ 7 ∷ 9 ∷ 10 ∷ 13 ∷ 16 ∷ 19 ∷ 22 ∷ []
  pub words : owner_words (evening_of two_lists) ≡ 6
  pub entries : owner_words (job_of two_lists) ≡ 3
  pub messages : message_count (evening_of two_lists) ≡ 3
  pub steps : step_count (evening_of two_lists) ≡ 10
  -- The second list alone: an evening of one list.
  pub second : (ran (only_list two_lists 1) fresh_e [] []).tables.statement ≡ pos 500 ∷ pos 400 ∷ []
  pub second_sum_lem : plain_sum (evening_of two_lists) 1 ≡ pos 500
  -- A fresh state: box 0 knows both prices of offer 0, box 1 both of offer 1, an offer's lists side by side.
  pub fresh : (fresh_tables two_lists empty).known ≡ 500 ∷ 100 ∷ 0 ∷ 0 ∷ 0 ∷ 0 ∷ 1250 ∷ 200 ∷ []
  -- Box 0 sends offer 0 to box 1: one message of one entry, two words "in list order".
  pub sends : (tables_in_turn two_lists (asked 1 0 1 ∷ [])).price_transit ≡ 0 ∷ 0 ∷ 0 ∷ 0 ∷ 500 ∷ 100 ∷ 0 ∷ 0 ∷ []
  pub sent : (tables_in_turn two_lists (asked 1 0 1 ∷ [])).sent ≡ 2 ∷ []
  -- Its totals likewise: 3 × 500 and 3 × 100 of grocer 0.
  pub totals : (tables_in_turn two_lists (asked 2 0 0 ∷ asked 4 0 1 ∷ [])).total_transit ≡ pos 0 ∷ pos 0 ∷ pos 1500 ∷ pos 300 ∷ pos 0 ∷ pos 0 ∷ []
  -- The local book's tables go on counting entries.
  pub book : local_grocers (job_of two_lists) 0 ≡ 1 ∷ 0 ∷ []
  pub table : price_table (job_of two_lists) ≡ price_table (job_of job_e)
  -- 20: a list of prices is lent a word short; the state's tables are those of one list. 21: eight additional lists; a price of the second list.
  pub short : (ran (listed_e 1 (500 ∷ 1250 ∷ 100 ∷ [])) (fresh_tables two_lists empty) [] []).answer ≡ not_run 20
  pub short_state : (stepped two_lists fresh_e (asked 2 0 0)).answer ≡ refused 20
  pub longer_state : (stepped job_e (fresh_tables two_lists empty) (asked 2 0 0)).answer ≡ accepted
  pub eight : (ran (listed_e 8 (tabulate 18 (λ i. 1))) (fresh_tables (listed_e 8 (tabulate 18 (λ i. 1))) empty) [] []).answer ≡ not_run 21
  pub seven : (ran (listed_e 7 (tabulate 16 (λ i. 1))) (fresh_tables (listed_e 7 (tabulate 16 (λ i. 1))) empty) [] []).answer ≡ finished 24 3 10
  pub dear : (ran (listed_e 1 (500 ∷ 1250 ∷ 100 ∷ 10_000_000 ∷ [])) (fresh_tables two_lists empty) [] []).answer ≡ not_run 21
  -- "The desk, which goes on with one list": lent the second list's words it answers that list's amount.
  pub desk : reconciled 2 2 0 (100 ∷ 200 ∷ []) handed_e ≡ owed (pos 500)
  -- Packed totals (02 §11): E's three places with two words each. Box 0 has grocer 1's lists, then grocer 0's; box 1 those of grocer 0.
  pub packed_length_lem : totals_length (evening_of two_lists) ≡ 6
  pub packed_starts : tabulate 3 (totals_start (evening_of two_lists)) ≡ 0 ∷ 4 ∷ 6 ∷ []
  pub packed_places : tabulate 4 (total_place (evening_of two_lists) 0) ≡ 2 ∷ 3 ∷ 0 ∷ 1 ∷ []
  pub packed_none : has_total (evening_of two_lists) 1 3 ≡ false
  pub packed_groups : tabulate 4 (group_start (evening_of two_lists) 0) ≡ 0 ∷ 2 ∷ 2 ∷ 4 ∷ []
  pub packed_grocers_lem : place_grocers (evening_of two_lists) ≡ 2 ∷ 3 ∷ 0 ∷ 1 ∷ 0 ∷ 1 ∷ []
  pub packed_working : (tables_in_turn two_lists (asked 2 0 0 ∷ asked 2 1 1 ∷ [])).working ≡ pos 0 ∷ pos 0 ∷ pos 1500 ∷ pos 300 ∷ negsuc 1249 ∷ negsuc 199 ∷ []
  -- Six words are enough, the three of one list or five are not; a word past them may be anything, and stays. 21 looks at each list's words.
  pub packed_enough : (stepped two_lists (packed_lists (zeros 6) (zeros 6)) (asked 2 0 0)).answer ≡ accepted
  pub packed_short : (stepped two_lists (packed_lists (zeros 6) (zeros 5)) (asked 2 0 0)).answer ≡ refused 20
  pub packed_one_list : (stepped two_lists (packed_lists (zeros 3) (zeros 3)) (asked 2 0 0)).answer ≡ refused 20
  pub packed_past : (stepped two_lists (packed_lists (zeros 6 ++ pos 1_000_000_000_000_001 ∷ []) (zeros 6)) (asked 2 0 0)).tables.working
      ≡ pos 0 ∷ pos 0 ∷ pos 1500 ∷ pos 300 ∷ pos 0 ∷ pos 0 ∷ pos 1_000_000_000_000_001 ∷ []
  pub packed_21 : (stepped two_lists (packed_lists (zeros 5 ++ pos 1_000_000_000_000_001 ∷ []) (zeros 6)) (asked 2 0 0)).answer ≡ refused 21
  -- The late 21 by the second list's word alone: 300 more than 10^15 would be there.
  pub packed_late : (stepped two_lists (packed_lists (zeros 3 ++ pos 1_000_000_000_000_000 ∷ zeros 2) (zeros 6)) (asked 2 0 0)).answer ≡ refused 21
  -- Eight additional lists are 21, before 20 on the packed tables is asked.
  pub packed_eight : (ran (listed_e 8 (tabulate 18 (λ i. 1))) (many_lists 9) [] []).answer ≡ not_run 21
  pub packed_seven : (ran (listed_e 7 (tabulate 16 (λ i. 1))) (many_lists 8) [] []).answer ≡ not_run 20
  -- Unpacked, box 1 has 0 for both lists of grocer 1; on full rows the step does the same.
  pub unpacked_rows : (unpacked (evening_of two_lists) (packed_lists (pos 1 ∷ pos 2 ∷ pos 3 ∷ pos 4 ∷ pos 5 ∷ pos 6 ∷ []) [])).working
      ≡ pos 3 ∷ pos 4 ∷ pos 1 ∷ pos 2 ∷ pos 5 ∷ pos 6 ∷ pos 0 ∷ pos 0 ∷ []
  pub full_rows : (full_stepped two_lists (packed_lists (zeros 8) (zeros 8)) (asked 2 1 1)).tables.working ≡ zeros 4 ++ negsuc 1249 ∷ negsuc 199 ∷ zeros 2
