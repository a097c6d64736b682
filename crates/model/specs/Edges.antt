-- Edges: on which side of a limit, and in which order, the definitions answer. One case a line; tests/edges has the wrong definitions that they break.
use Rattle.std.specs.Prelude.{◌≡◌, List, [], ◌∷◌, map, true, false, cond, ℕ, ◌-◌, eqb, ℤ, pos, negsuc, get_or, length, replicate}
use Rattle.laws.specs.Tables.{tabulate, cell_at}
use Rattle.laws.specs.Checks.{first_met}
use Rattle.model.specs.Steps.{send_prices, multiply_own, receive_prices, send_totals, add_own, receive_totals}
use Rattle.model.specs.Tables.{JobTables, StateTables, job_tables, bag_tables, state_tables, job_of}
use Rattle.model.specs.Ranges.{sizes_in_range}
use Rattle.model.specs.Step.{asked, StepAnswer, accepted, refused, stepped}
use Rattle.model.specs.Run.{RunAnswer, RunOutcome, run, picked_places, finished, refused as not_run, ran}
use Rattle.model.specs.LocalLists.{local_offers, local_grocers}
use Rattle.model.specs.Local.{price_table, total_table, BookLengths, book_refusals, job_refusals}
use Rattle.model.specs.Reconcile.{TallyRecord, owed, refused as not_owed, reconciled}
use Rattle.model.specs.Requests.{lent_job, lent_state}
use Rattle.model.specs.Cases.{job_e, empty, loose_tables, low_twice, of_kind, owner_without, bag_record}

-- The prices of E as its boxes know them in a fresh state, by box and offer.
abbrev pub prices_e : List ℕ
prices_e = 500 ∷ 0 ∷ 0 ∷ 1250 ∷ []

-- No price in transit in E.
abbrev pub zero_prices : List ℕ
zero_prices = 0 ∷ 0 ∷ 0 ∷ 0 ∷ []

-- No total of E, working or in transit: of box 0 grocers 1, its own, and 0, of box 1 grocer 0.
abbrev pub zero_totals : List ℤ
zero_totals = pos 0 ∷ pos 0 ∷ pos 0 ∷ []

-- E's statements before anything is added.
abbrev pub zero_statements : List ℤ
zero_statements = pos 0 ∷ pos 0 ∷ []

-- E's 24 marks: m at place p, and 0 at the others.
abbrev pub mark_at : ℕ → ℕ → List ℕ
mark_at p m = tabulate 24 (λ i. cond (eqb i p) m 0)

-- A state of E by its tables: the one step that is done is told by its place, none by 24.
abbrev pub state_e : (known price_transit : List ℕ) (working total_transit statement : List ℤ) (place sent : ℕ) → StateTables
state_e known price_transit working total_transit statement place sent =
    state_tables known price_transit working total_transit statement (mark_at place 1) (sent ∷ [])

-- A state of E that is fresh but for its known prices,
abbrev pub known_e : List ℕ → StateTables
known_e l = state_e l zero_prices zero_totals zero_totals zero_statements 24 0

-- but for its prices in transit,
abbrev pub transit_e : List ℕ → StateTables
transit_e l = state_e prices_e l zero_totals zero_totals zero_statements 24 0

-- but for its working totals,
abbrev pub working_e : List ℤ → StateTables
working_e l = state_e prices_e zero_prices l zero_totals zero_statements 24 0

-- but for its totals in transit,
abbrev pub total_transit_e : List ℤ → StateTables
total_transit_e l = state_e prices_e zero_prices zero_totals l zero_statements 24 0

-- but for its statements,
abbrev pub statement_e : List ℤ → StateTables
statement_e l = state_e prices_e zero_prices zero_totals zero_totals l 24 0

-- or but for the place of a step that is done and the count of words sent.
abbrev pub done_e : (place sent : ℕ) → StateTables
done_e place sent = state_e prices_e zero_prices zero_totals zero_totals zero_statements place sent

-- A price of offer 0 is on its way to box 1, which has a working total of grocer 0; the step at this place is done: 1 where it was sent.
abbrev pub price_sent_e : (price : ℕ) (working : ℤ) (place : ℕ) → StateTables
price_sent_e price working place = state_e prices_e (0 ∷ 0 ∷ price ∷ 0 ∷ []) (pos 0 ∷ pos 0 ∷ working ∷ []) zero_totals zero_statements place 1

-- Box 0, which has received its prices, has a working total of grocer 1, its own; the statement of this grocer.
abbrev pub own_total_e : (working statement : ℤ) → StateTables
own_total_e working statement = state_e prices_e zero_prices (working ∷ pos 0 ∷ pos 0 ∷ []) zero_totals (pos 0 ∷ statement ∷ []) 9 0

-- A total of grocer 0 is on its way from box 0 to box 1; the statement of this grocer.
abbrev pub total_sent_e : (total statement : ℤ) → StateTables
total_sent_e total statement = state_e prices_e zero_prices zero_totals (pos 0 ∷ total ∷ pos 0 ∷ []) (statement ∷ pos 0 ∷ []) 13 0

-- A fresh state of `low_twice`, in which one bag and revision is there twice, with these packed tables.
abbrev pub packed_twice : List ℤ → StateTables
packed_twice working = state_tables (0 ∷ 10 ∷ []) (0 ∷ 0 ∷ []) working (pos 0 ∷ []) (pos 0 ∷ []) (tabulate 24 (λ i. 0)) (0 ∷ [])

-- What a step of E answers in a state of it,
abbrev pub answer_e : StateTables → (kind first second : ℕ) → StepAnswer
answer_e t kind first second = (stepped job_e t (asked kind first second)).answer

-- and the tables that it leaves.
abbrev pub tables_e : StateTables → (kind first second : ℕ) → StateTables
tables_e t kind first second = (stepped job_e t (asked kind first second)).tables

-- The length n, one less where i is k.
abbrev pub less : ℕ → ℕ → ℕ → ℕ
less i k n = cond (eqb i k) (n - 1) n

-- E's job with table i lent one word short, by the order of `JobTables`; with 9 all are whole.
abbrev pub short_job_e : ℕ → JobTables
short_job_e i = lent_job job_e (record {
  price = less i 0 2;
  offer_owner = less i 1 2;
  grocer_owner = less i 2 2;
  tally_grocer = less i 3 4;
  tally_box = less i 4 4;
  tally_offer = less i 5 4;
  tally_count = less i 6 4;
  tally_bag = less i 7 4;
  tally_revision = less i 8 4;
})

-- A fresh state of E with table i lent one word short, by the order of `StateTables`; with 7 all are whole.
abbrev pub short_state_e : ℕ → StateTables
short_state_e i = lent_state (done_e 24 0) (record {
  known = less i 0 4;
  price_transit = less i 1 4;
  working = less i 2 3;
  total_transit = less i 3 3;
  statement = less i 4 2;
  done = less i 5 24;
  sent = less i 6 1;
})

-- K, M, N and T, and tables without a word.
abbrev pub of_sizes : ℕ → ℕ → ℕ → ℕ → JobTables
of_sizes k m n t = job_tables k m n t 0 [] [] [] [] [] [] []

-- K 1, M 2, N 3, T 4: of each table the last word as told, and 0 before it.
abbrev pub last_words : (price owner grocer_owner grocer box offer : ℕ) → ℤ → JobTables
last_words price owner grocer_owner grocer box offer count =
    loose_tables 1 2 3 4 (0 ∷ 0 ∷ price ∷ []) (0 ∷ 0 ∷ owner ∷ []) (0 ∷ grocer_owner ∷ []) (0 ∷ 0 ∷ 0 ∷ grocer ∷ []) (0 ∷ 0 ∷ 0 ∷ box ∷ [])
    (0 ∷ 0 ∷ 0 ∷ offer ∷ []) (pos 0 ∷ pos 0 ∷ pos 0 ∷ count ∷ [])

-- What a run of such a job without choices answers.
abbrev pub run_of : JobTables → RunAnswer
run_of f = (ran f (done_e 24 0) [] []).answer

-- A bag counted twice as one revision, so 9; and a price out of range, so 21. K 2, M 1, N 1, T 2.
abbrev pub twice_priced : JobTables
twice_priced =
    bag_tables 2 1 1 2 0 (10_000_000 ∷ []) (1 ∷ []) (1 ∷ []) (0 ∷ 0 ∷ []) (0 ∷ 1 ∷ []) (0 ∷ 0 ∷ []) (pos 5 ∷ pos 4 ∷ []) (7 ∷ 7 ∷ []) (3 ∷ 3 ∷ [])

-- The lengths of a local book's five tables.
abbrev pub book_lengths : (local_offers local_grocers starts packed_grocers packed_counts : ℕ) → BookLengths
book_lengths a b c d e = record { local_offers = a; local_grocers = b; starts = c; packed_grocers = d; packed_counts = e }

-- The refusal of a local book of box b, or 0.
abbrev pub book_refusal : JobTables → BookLengths → ℕ → ℕ
book_refusal f n b = first_met (book_refusals f n b)

-- One record, of a grocer, a box, a place and a count, handed to the desk where M is 2 and N 1.
abbrev pub desk_record : (grocer box place : ℕ) → ℤ → List TallyRecord
desk_record grocer box place count = record { grocer = grocer; tally_box = box; place = place; count = count; bag = 0; revision = 0 } ∷ []

-- Box 0 holds a tally of every offer and every grocer. Offers and grocers 0 and 1 are box 2's, 2 and 4 box 1's, 3 its own.
abbrev pub mixed_owners : JobTables
mixed_owners =
    loose_tables 3 5 5 5 (10 ∷ 20 ∷ 30 ∷ 40 ∷ 50 ∷ []) (2 ∷ 2 ∷ 1 ∷ 0 ∷ 1 ∷ []) (2 ∷ 2 ∷ 1 ∷ 0 ∷ 1 ∷ []) (0 ∷ 1 ∷ 2 ∷ 3 ∷ 4 ∷ []) (replicate 5 0)
    (0 ∷ 1 ∷ 2 ∷ 3 ∷ 4 ∷ []) (replicate 5 (pos 1))

-- A run of E with choices, lent a buffer for the places of the steps that it picks.
abbrev pub run_e : (choices picked : List ℕ) → RunOutcome
run_e choices picked = ran job_e (done_e 24 0) choices picked

-- Buffers of E in which a run finds no state: words out of range, a mark of 9, and words past those that are needed.
abbrev pub dirty_e : StateTables
dirty_e =
    state_tables (9 ∷ 99_999_999 ∷ 9 ∷ 9 ∷ 77 ∷ []) zero_prices zero_totals zero_totals (pos 3 ∷ pos 4 ∷ pos 5 ∷ []) (mark_at 3 9) (2_000_000 ∷ 8 ∷ [])

-- The table of edges.
pub record Edges : Type 0 where
  -- ## Step: words and ranges
  -- Sizes: K 0 is out of range,
  pub no_boxes : sizes_in_range (of_sizes 0 1 1 0) ≡ false
  -- M 0,
  pub no_grocers : sizes_in_range (of_sizes 1 0 1 0) ≡ false
  -- and N 0.
  pub no_offers : sizes_in_range (of_sizes 1 1 0 0) ≡ false
  -- K, M and N 1, T 0 are in range,
  pub sizes_least : sizes_in_range (of_sizes 1 1 1 0) ≡ true
  -- and so are K 16, M 255, N 500, T 1,000;
  pub sizes_most : sizes_in_range (of_sizes 16 255 500 1_000) ≡ true
  -- K 17 is not,
  pub boxes_17 : sizes_in_range (of_sizes 17 1 1 0) ≡ false
  -- nor M 256,
  pub grocers_256 : sizes_in_range (of_sizes 1 256 1 0) ≡ false
  -- nor N 501,
  pub offers_501 : sizes_in_range (of_sizes 1 1 501 0) ≡ false
  -- nor T 1,001.
  pub tallies_1001 : sizes_in_range (of_sizes 1 1 1 1_001) ≡ false
  -- A run looks at sizes: N 0 is 21, though no word is out of range.
  pub sizes_run : (ran (loose_tables 1 1 0 0 [] [] (0 ∷ []) [] [] [] []) (done_e 24 0) [] []).answer ≡ not_run 21
  -- Each word of a job's tables: every one at its highest is in range.
  pub words_most : run_of (last_words 9_999_999 0 0 1 0 2 (pos 99_999)) ≡ finished 0 0 2
  -- A price of 10,000,000 is 21.
  pub price_over : run_of (last_words 10_000_000 0 0 1 0 2 (pos 1)) ≡ not_run 21
  -- The owner of an offer is below K.
  pub owner_over : run_of (last_words 10 1 0 1 0 2 (pos 1)) ≡ not_run 21
  -- The owner of a grocer is below K.
  pub grocer_owner_over : run_of (last_words 10 0 1 1 0 2 (pos 1)) ≡ not_run 21
  -- The grocer of a tally is below M.
  pub grocer_over : run_of (last_words 10 0 0 2 0 2 (pos 1)) ≡ not_run 21
  -- The box of a tally is below K.
  pub box_over : run_of (last_words 10 0 0 1 1 2 (pos 1)) ≡ not_run 21
  -- The offer of a tally is below N.
  pub offer_over : run_of (last_words 10 0 0 1 0 3 (pos 1)) ≡ not_run 21
  -- A count of 100,000 is 21,
  pub count_over : run_of (last_words 10 0 0 1 0 2 (pos 100_000)) ≡ not_run 21
  -- and so is −100,000;
  pub count_under : run_of (last_words 10 0 0 1 0 2 (negsuc 99_999)) ≡ not_run 21
  -- −99,999 is in range.
  pub count_least : run_of (last_words 10 0 0 1 0 2 (negsuc 99_998)) ≡ finished 0 0 2
  -- Each word of a state: a known price of 10,000,000 is 21,
  pub known_over : answer_e (known_e (500 ∷ 0 ∷ 10_000_000 ∷ 1250 ∷ [])) 2 0 0 ≡ refused 21
  -- and 9,999,999 is in range.
  pub known_most : answer_e (known_e (500 ∷ 0 ∷ 9_999_999 ∷ 1250 ∷ [])) 2 0 0 ≡ accepted
  -- A price in transit of 10,000,000 is 21,
  pub transit_over : answer_e (transit_e (0 ∷ 0 ∷ 0 ∷ 10_000_000 ∷ [])) 2 0 0 ≡ refused 21
  -- and 9,999,999 is in range.
  pub transit_most : answer_e (transit_e (0 ∷ 0 ∷ 0 ∷ 9_999_999 ∷ [])) 2 0 0 ≡ accepted
  -- A working total of 10^15 + 1 is 21,
  pub working_over : answer_e (working_e (pos 0 ∷ pos 0 ∷ pos 1_000_000_000_000_001 ∷ [])) 2 0 0 ≡ refused 21
  -- and so is −10^15 − 1;
  pub working_under : answer_e (working_e (pos 0 ∷ pos 0 ∷ negsuc 1_000_000_000_000_000 ∷ [])) 2 0 0 ≡ refused 21
  -- 10^15 and −10^15 are in range.
  pub working_most : answer_e (working_e (pos 1_000_000_000_000_000 ∷ pos 0 ∷ negsuc 999_999_999_999_999 ∷ [])) 2 0 0 ≡ accepted
  -- A total in transit of 10^15 + 1 is 21,
  pub total_transit_over : answer_e (total_transit_e (pos 0 ∷ pos 0 ∷ pos 1_000_000_000_000_001 ∷ [])) 2 0 0 ≡ refused 21
  -- and so is −10^15 − 1;
  pub total_transit_under : answer_e (total_transit_e (pos 0 ∷ pos 0 ∷ negsuc 1_000_000_000_000_000 ∷ [])) 2 0 0 ≡ refused 21
  -- 10^15 and −10^15 are in range.
  pub total_transit_most : answer_e (total_transit_e (pos 0 ∷ pos 1_000_000_000_000_000 ∷ negsuc 999_999_999_999_999 ∷ [])) 2 0 0 ≡ accepted
  -- A statement of 10^15 + 1 is 21,
  pub statement_over : answer_e (statement_e (pos 0 ∷ pos 1_000_000_000_000_001 ∷ [])) 2 0 0 ≡ refused 21
  -- and so is −10^15 − 1;
  pub statement_under : answer_e (statement_e (pos 0 ∷ negsuc 1_000_000_000_000_000 ∷ [])) 2 0 0 ≡ refused 21
  -- 10^15 and −10^15 are in range.
  pub statement_most : answer_e (statement_e (pos 1_000_000_000_000_000 ∷ negsuc 999_999_999_999_999 ∷ [])) 2 0 0 ≡ accepted
  -- A done mark of 2, the last one, is 21.
  pub mark_2 : answer_e (state_tables prices_e zero_prices zero_totals zero_totals zero_statements (mark_at 23 2) (0 ∷ [])) 2 0 0 ≡ refused 21
  -- A mark of 1 is in range, though the job has no such step.
  pub mark_1 : answer_e (done_e 23 0) 2 0 0 ≡ accepted
  -- 1,000,001 words sent are 21,
  pub sent_over : answer_e (done_e 24 1_000_001) 2 0 0 ≡ refused 21
  -- and 1,000,000 are in range.
  pub sent_most : answer_e (done_e 24 1_000_000) 2 0 0 ≡ accepted
  -- A word past those that are needed is not looked at, and not touched.
  pub past_words : (tables_e (state_tables prices_e zero_prices zero_totals zero_totals zero_statements (mark_at 24 1) (0 ∷ 5_000_000 ∷ [])) 1 0 1).sent
      ≡ 1 ∷ 5_000_000 ∷ []
  -- Each table of the job lent one word short is 20, in a step
  pub job_short_lem : tabulate 9 (λ i. (stepped (short_job_e i) (done_e 24 0) (asked 2 0 0)).answer) ≡ replicate 9 (refused 20)
  -- and in a run.
  pub job_short_run : tabulate 9 (λ i. run_of (short_job_e i)) ≡ replicate 9 (not_run 20)
  -- Each table of the state likewise, in a step
  pub state_short_lem : tabulate 7 (λ i. answer_e (short_state_e i) 2 0 0) ≡ replicate 7 (refused 20)
  -- and in a run.
  pub state_short_run : tabulate 7 (λ i. (ran job_e (short_state_e i) [] []).answer) ≡ replicate 7 (not_run 20)
  -- Tables that are lent whole are not short.
  pub whole : (stepped (short_job_e 9) (short_state_e 7) (asked 2 0 0)).answer ≡ accepted
  -- A word past the packed length may be anything, and stays.
  pub packed_past :
      (tables_e (working_e (pos 0 ∷ pos 0 ∷ pos 0 ∷ pos 1_000_000_000_000_001 ∷ [])) 2 0 0).working
      ≡ pos 0 ∷ pos 1500 ∷ pos 0 ∷ pos 1_000_000_000_000_001 ∷ []
  -- The order: 20 on them before 21 on their words, both before 22 ..
  pub packed_20_21 : answer_e (working_e (pos 1_000_000_000_000_001 ∷ [])) 9 99 0 ≡ refused 20
  pub packed_21_22 : answer_e (working_e (pos 0 ∷ pos 0 ∷ pos 1_000_000_000_000_001 ∷ [])) 9 99 0 ≡ refused 21
  -- .. but after 9; and after 21 on all else, here a mark that is 2, which comes after 20 on all else.
  pub packed_9_20 : (stepped low_twice (packed_twice []) (asked 2 0 0)).answer ≡ refused 9
  pub packed_9_21 : (stepped low_twice (packed_twice (pos 1_000_000_000_000_001 ∷ [])) (asked 2 0 0)).answer ≡ refused 9
  pub packed_else : answer_e (state_tables prices_e zero_prices [] [] zero_statements (mark_at 23 2) (0 ∷ [])) 2 0 0 ≡ refused 21
  pub packed_other_20 : answer_e (state_tables prices_e zero_prices [] [] zero_statements (mark_at 23 2) []) 2 0 0 ≡ refused 20
  -- A run: 20 on them after 9, and their old words are not examined.
  pub packed_run_9 : (ran low_twice (packed_twice []) [] []).answer ≡ not_run 9
  pub packed_run : (ran job_e (working_e (pos 1_000_000_000_000_001 ∷ pos 5 ∷ pos 5 ∷ [])) [] []).answer ≡ finished 3 3 10
  -- Kind 0 is 22,
  pub kind_0 : answer_e (done_e 24 0) 0 0 1 ≡ refused 22
  -- and so is 7;
  pub kind_7 : answer_e (done_e 24 0) 7 1 0 ≡ refused 22
  -- 6 is a kind.
  pub kind_6 : answer_e (done_e 13 0) 6 1 0 ≡ accepted
  -- A first box of K is 23,
  pub first_K : answer_e (done_e 24 0) 1 2 0 ≡ refused 23
  -- and so is a second,
  pub second_K : answer_e (done_e 24 0) 1 0 2 ≡ refused 23
  -- and the largest number.
  pub box_largest : answer_e (done_e 24 0) 3 65_535 0 ≡ refused 23
  -- Step 2 of two boxes is 23,
  pub two_of_two : answer_e (done_e 24 0) 2 0 1 ≡ refused 23
  -- and so is step 5.
  pub five_of_two : answer_e (done_e 9 0) 5 0 1 ≡ refused 23
  -- ## Late 21: a finished result would leave its range
  -- Step 1: the count of words sent;
  pub late_1 : answer_e (done_e 24 1_000_000) 1 0 1 ≡ refused 21
  -- the last count that fits.
  pub last_1 : (tables_e (done_e 24 999_999) 1 0 1).sent ≡ 1_000_000 ∷ []
  -- Step 2: a working total, to which it adds 1,500;
  pub late_2 : answer_e (working_e (pos 0 ∷ pos 999_999_999_998_501 ∷ pos 0 ∷ [])) 2 0 0 ≡ refused 21
  -- the last that fits.
  pub last_2 : (tables_e (working_e (pos 0 ∷ pos 999_999_999_998_500 ∷ pos 0 ∷ [])) 2 0 0).working
      ≡ pos 0 ∷ pos 1_000_000_000_000_000 ∷ pos 0 ∷ []
  -- Step 3: a working total, to which it adds 2,000;
  pub late_3 : answer_e (price_sent_e 500 (pos 999_999_999_998_001) 1) 3 1 0 ≡ refused 21
  -- the last that fits.
  pub last_3 : (tables_e (price_sent_e 500 (pos 999_999_999_998_000) 1) 3 1 0).working ≡ pos 0 ∷ pos 0 ∷ pos 1_000_000_000_000_000 ∷ []
  -- Step 4: the count of words sent;
  pub late_4 : answer_e (done_e 4 1_000_000) 4 0 1 ≡ refused 21
  -- the last count that fits.
  pub last_4 : (tables_e (done_e 4 999_999) 4 0 1).sent ≡ 1_000_000 ∷ []
  -- Step 5: a statement;
  pub late_5 : answer_e (own_total_e (pos 1) (pos 1_000_000_000_000_000)) 5 0 0 ≡ refused 21
  -- the last that fits.
  pub last_5 : (tables_e (own_total_e (pos 1) (pos 999_999_999_999_999)) 5 0 0).statement ≡ pos 0 ∷ pos 1_000_000_000_000_000 ∷ []
  -- Step 6: a statement, below;
  pub late_6 : answer_e (total_sent_e (negsuc 0) (negsuc 999_999_999_999_999)) 6 1 0 ≡ refused 21
  -- the last that fits.
  pub last_6 : (tables_e (total_sent_e (negsuc 0) (negsuc 999_999_999_999_998)) 6 1 0).statement ≡ negsuc 999_999_999_999_999 ∷ pos 0 ∷ []
  -- ## Prices of the state, not of the job
  -- Step 1 sends 7 where box 0 knows its price 500 as 7;
  pub state_price_1 : (tables_e (known_e (7 ∷ 0 ∷ 0 ∷ 1250 ∷ [])) 1 0 1).price_transit ≡ 0 ∷ 0 ∷ 7 ∷ 0 ∷ []
  -- step 2 multiplies by 7;
  pub state_price_2 : (tables_e (known_e (7 ∷ 0 ∷ 0 ∷ 1250 ∷ [])) 2 0 0).working ≡ pos 0 ∷ pos 21 ∷ pos 0 ∷ []
  -- step 3 multiplies by the price that was in transit,
  pub state_price_3 : (tables_e (price_sent_e 7 (pos 0) 1) 3 1 0).working ≡ pos 0 ∷ pos 0 ∷ pos 28 ∷ []
  -- which its box then knows.
  pub state_known_3 : (tables_e (price_sent_e 7 (pos 0) 1) 3 1 0).known ≡ 500 ∷ 0 ∷ 7 ∷ 1250 ∷ []
  -- ## Order of refusals
  -- Step: 20 before 21,
  pub step_20_21 : (stepped twice_priced empty (asked 9 99 0)).answer ≡ refused 20
  -- 21 of the job before 9,
  pub step_21_9 : (stepped twice_priced (done_e 24 0) (asked 9 99 0)).answer ≡ refused 21
  -- 21 of the state before 9,
  pub state_21_9 : (stepped low_twice (done_e 24 1_000_001) (asked 9 99 0)).answer ≡ refused 21
  -- 24 before 25: totals of box 1 to box 0, none, are marked as sent;
  pub step_24_25 : answer_e (done_e 14 0) 4 1 0 ≡ refused 24
  -- 25 before 26: prices are marked as received, and not as sent;
  pub step_25_26 : answer_e (done_e 10 0) 3 1 0 ≡ refused 25
  -- 26 before the late 21.
  pub step_26_21 : answer_e (price_sent_e 500 (pos 1_000_000_000_000_000) 24) 3 1 0 ≡ refused 26
  -- Run: 20 before 21,
  pub run_20_21 : (ran twice_priced empty [] []).answer ≡ not_run 20
  -- 21 before 9.
  pub run_21_9 : (ran twice_priced (done_e 24 0) [] []).answer ≡ not_run 21
  -- Local book: 20 before 21,
  pub book_20_21 : book_refusal twice_priced (book_lengths 1 1 1 2 2) 2 ≡ 20
  -- 21 before 9 and 23,
  pub book_21_9 : book_refusal twice_priced (book_lengths 1 1 2 2 2) 2 ≡ 21
  -- 21 before 23, without a 9,
  pub book_21_23 : book_refusal (last_words 10_000_000 0 0 1 0 2 (pos 1)) (book_lengths 3 2 4 4 4) 1 ≡ 21
  -- 9 before 23.
  pub book_9_23 : book_refusal low_twice (book_lengths 1 1 2 3 3) 2 ≡ 9
  -- Message tables: 20 before 21,
  pub messages_20_21 : first_met (job_refusals (bag_tables 2 1 1 2 0 (10_000_000 ∷ []) (1 ∷ []) [] (0 ∷ 0 ∷ []) (0 ∷ 1 ∷ []) (0 ∷ 0 ∷ []) (pos 5 ∷ []) [] []))
      ≡ 20
  -- 21 before 9,
  pub messages_21_9 : first_met (job_refusals twice_priced) ≡ 21
  -- and 9.
  pub messages_9 : first_met (job_refusals low_twice) ≡ 9
  -- Desk: 21 before 9, where a record of another grocer is out of range.
  pub desk_21_9 : reconciled 2 1 0 (10 ∷ []) (bag_record 0 0 (pos 5) 7 1 ∷ bag_record 0 0 (pos 4) 7 1 ∷ bag_record 1 16 (pos 4) 7 1 ∷ []) ≡ not_owed 21
  -- ## Book
  -- Tables of exactly the needed length will do, for the last box.
  pub book_exact : book_refusal job_e (book_lengths 2 2 3 4 4) 1 ≡ 0
  -- Local offers are N words,
  pub book_offers : book_refusal job_e (book_lengths 1 2 3 4 4) 1 ≡ 20
  -- local grocers M,
  pub book_grocers : book_refusal job_e (book_lengths 2 1 3 4 4) 1 ≡ 20
  -- starts N + 1,
  pub book_starts : book_refusal job_e (book_lengths 2 2 2 4 4) 1 ≡ 20
  -- packed grocers T,
  pub book_packed : book_refusal job_e (book_lengths 2 2 3 3 4) 1 ≡ 20
  -- packed counts T.
  pub book_counts : book_refusal job_e (book_lengths 2 2 3 4 3) 1 ≡ 20
  -- A box of K is 23.
  pub book_K : book_refusal job_e (book_lengths 2 2 3 4 4) 2 ≡ 23
  -- The tables of words between boxes have 16 rows of 16 counts, whatever K is.
  pub rows_16 : map length (price_table (job_of job_e)) ≡ replicate 16 16
  -- The totals' likewise.
  pub rows_16_totals : map length (total_table (job_of job_e)) ≡ replicate 16 16
  -- The row is the sender: box 0 sends a price to boxes 1 and 2,
  pub prices_row : get_or (price_table (job_of owner_without)) 0 [] ≡ 0 ∷ 1 ∷ 1 ∷ replicate 13 0
  -- and box 1 none to box 0.
  pub prices_column : cell_at (price_table (job_of owner_without)) 1 0 ≡ 0
  -- Boxes 1 and 2 send a total to box 0,
  pub totals_column : map (λ r. get_or r 0 0) (total_table (job_of owner_without)) ≡ 0 ∷ 1 ∷ 1 ∷ replicate 13 0
  -- and box 0 none to box 1.
  pub totals_row : cell_at (total_table (job_of owner_without)) 0 1 ≡ 0
  -- ## Desk, where M is 2 and N 1
  -- A record with every word at its highest is in range.
  pub desk_most : reconciled 2 1 1 (9_999_999 ∷ []) (desk_record 1 15 0 (pos 99_999)) ≡ owed (pos 999_989_900_001)
  -- A box of 16 is 21,
  pub desk_box : reconciled 2 1 0 (10 ∷ []) (desk_record 0 16 0 (pos 5)) ≡ not_owed 21
  -- a place of N,
  pub desk_place : reconciled 2 1 0 (10 ∷ []) (desk_record 0 0 1 (pos 5)) ≡ not_owed 21
  -- a grocer of M,
  pub desk_grocer : reconciled 2 1 0 (10 ∷ []) (desk_record 2 0 0 (pos 5)) ≡ not_owed 21
  -- a count of 100,000,
  pub desk_count_over : reconciled 2 1 0 (10 ∷ []) (desk_record 0 0 0 (pos 100_000)) ≡ not_owed 21
  -- a count of −100,000,
  pub desk_count_under : reconciled 2 1 0 (10 ∷ []) (desk_record 0 0 0 (negsuc 99_999)) ≡ not_owed 21
  -- a price of 10,000,000, though no record is of its offer,
  pub desk_price : reconciled 2 1 0 (10_000_000 ∷ []) [] ≡ not_owed 21
  -- a wanted grocer of M,
  pub desk_wanted : reconciled 2 1 2 (10 ∷ []) [] ≡ not_owed 21
  -- N 0,
  pub desk_offers_0 : reconciled 2 0 0 [] [] ≡ not_owed 21
  -- N 501, where 501 prices are lent,
  pub desk_offers_501 : reconciled 2 501 0 (replicate 501 0) [] ≡ not_owed 21
  -- and M 256.
  pub desk_grocers_256 : reconciled 256 1 0 (10 ∷ []) [] ≡ not_owed 21
  -- M 255 and N 500 are in range.
  pub desk_sizes : reconciled 255 500 254 (replicate 500 0) [] ≡ owed (pos 0)
  -- 1,001 records are 21;
  pub desk_1001 : reconciled 2 1 0 (10 ∷ []) (replicate 1_001 (bag_record 0 0 (pos 1) 7 0)) ≡ not_owed 21
  -- 1,000 are not: these are refused since all are of one bag and revision, and 9 comes after 21.
  pub desk_1000 : reconciled 2 1 0 (10 ∷ []) (replicate 1_000 (bag_record 0 0 (pos 1) 7 0)) ≡ not_owed 9
  -- A price lent past N is not looked at.
  pub desk_past : reconciled 2 1 0 (10 ∷ 10_000_000 ∷ []) (desk_record 0 0 0 (pos 5)) ≡ owed (pos 50)
  -- ## Local numbers
  -- Offers that are not the box's own go by owner, and then by place.
  pub offers_by_owner : local_offers (job_of mixed_owners) 0 ≡ 3 ∷ 2 ∷ 4 ∷ 0 ∷ 1 ∷ []
  -- Grocers likewise.
  pub grocers_by_owner : local_grocers (job_of mixed_owners) 0 ≡ 3 ∷ 2 ∷ 4 ∷ 0 ∷ 1 ∷ []
  -- ## Run and choices
  -- Choices 2 and 5 of E: the third of four ready steps, then the second of four, 5 being 1 modulo 4; then always the first.
  pub chosen : run (job_of job_e) (2 ∷ 5 ∷ [])
      ≡ of_kind multiply_own 0 0 ∷ of_kind send_prices 1 0 ∷ of_kind send_prices 0 1 ∷ of_kind multiply_own 1 1 ∷ of_kind receive_prices 0 1
      ∷ of_kind receive_prices 1 0 ∷ of_kind send_totals 0 1 ∷ of_kind add_own 0 0 ∷ of_kind add_own 1 1 ∷ of_kind receive_totals 1 0 ∷ []
  -- Without choices always the first.
  pub unchosen : picked_places (job_of job_e) [] ≡ 1 ∷ 2 ∷ 4 ∷ 7 ∷ 9 ∷ 10 ∷ 13 ∷ 16 ∷ 19 ∷ 22 ∷ []
  -- One choice is used once: the second ready step, and then always the first.
  pub chosen_once : picked_places (job_of job_e) (1 ∷ []) ≡ 2 ∷ 1 ∷ 4 ∷ 7 ∷ 9 ∷ 10 ∷ 13 ∷ 16 ∷ 19 ∷ 22 ∷ []
  -- Choices are used from the front: 0 and then 3 are not 3 and then 0.
  pub chosen_in_order : picked_places (job_of job_e) (0 ∷ 3 ∷ []) ≡ 1 ∷ 10 ∷ 2 ∷ 4 ∷ 7 ∷ 9 ∷ 13 ∷ 16 ∷ 19 ∷ 22 ∷ []
  -- Choices left when all steps are done are passed over.
  pub left_over : (run_e (replicate 20 65_535) []).answer ≡ finished 3 3 10
  -- The places of the steps picked lie in front of a longer buffer, whose other words are not touched;
  pub picked_longer : (run_e (2 ∷ 5 ∷ []) (replicate 12 77)).picked ≡ 4 ∷ 2 ∷ 1 ∷ 7 ∷ 9 ∷ 10 ∷ 13 ∷ 16 ∷ 19 ∷ 22 ∷ 77 ∷ 77 ∷ []
  -- a shorter buffer takes the first of them, and stays as long as it was;
  pub picked_shorter : (run_e (2 ∷ 5 ∷ []) (77 ∷ 77 ∷ 77 ∷ [])).picked ≡ 4 ∷ 2 ∷ 1 ∷ []
  -- a run without one is run all the same.
  pub picked_none : (run_e (2 ∷ 5 ∷ []) []).picked ≡ []
  -- A run that is refused writes no place
  pub picked_refused : (ran twice_priced (done_e 24 0) [] (77 ∷ 78 ∷ [])).picked ≡ 77 ∷ 78 ∷ []
  -- and no word of the state.
  pub run_refused : (ran twice_priced dirty_e [] []).tables.statement ≡ pos 3 ∷ pos 4 ∷ pos 5 ∷ []
  -- What the state's buffers held before is not examined: words out of range, a mark of 9,
  pub run_dirty : (ran job_e dirty_e [] []).tables.statement ≡ pos 2250 ∷ pos 2500 ∷ pos 5 ∷ []
  -- 2,000,000 words sent; and a word past those that are needed is not touched.
  pub run_dirty_sent : (ran job_e dirty_e [] []).tables.sent ≡ 3 ∷ 8 ∷ []
