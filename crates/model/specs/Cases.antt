-- The ◆ cases of 01 that concern the settlement, in 01's order, and other small examples that say what the definitions mean.
use Rattle.std.specs.Prelude.{◌≡◌, List, [], ◌∷◌, map, false, cond, ℕ, eqb, ℤ, pos, negsuc, get_or}
use Rattle.laws.specs.Tables.{tabulate}
use Rattle.model.specs.Job.{need_word, plain_sum}
use Rattle.model.specs.Steps.{Kind, send_prices, multiply_own, add_own, Step, Steps, done_by}
use Rattle.model.specs.Boxes.{state_by_rules}
use Rattle.model.specs.Words.{owner_words, message_count, step_count}
use Rattle.model.specs.Tables.{JobTables, StateTables, bag_tables, state_tables, job_of}
use Rattle.model.specs.Step.{Asked, asked, step_of, StepAnswer, accepted, refused, stepped, fresh_tables}
use Rattle.model.specs.Requests.{Request, tables_after, answers_in}
use Rattle.model.specs.Demand3.{whole_request}
use Rattle.model.specs.Run.{ready_steps, pick, run_state, finished, refused as not_run, ran}
use Rattle.model.specs.LocalLists.{local_offers, local_grocers}
use Rattle.model.specs.Local.{starts, packed, packed_grocers, packed_counts, price_table, total_table}
use Rattle.model.specs.PackedTotals.{has_total, totals_start, totals_length, total_place}
use Rattle.model.specs.Spans.{group_start, place_grocers}
use Rattle.model.specs.FullRows.{unpacked, full_stepped}
use Rattle.model.specs.Reconcile.{TallyRecord, owed, refused as not_owed, reconciled}

-- Tables in which every coupon is loose: bags and revisions are 0.
abbrev pub loose_tables : ℕ → ℕ → ℕ → ℕ → List ℕ → List ℕ → List ℕ → List ℕ → List ℕ → List ℕ → List ℤ → JobTables
loose_tables k m n t price owner grocers tally_grocer tally_box tally_offer tally_count =
    bag_tables k m n t 0 price owner grocers tally_grocer tally_box tally_offer tally_count (tabulate t (λ i. 0)) (tabulate t (λ i. 0))

-- E, "Settling one small evening".
abbrev pub job_e : JobTables
job_e =
    loose_tables 2 2 2 4 (500 ∷ 1250 ∷ []) (0 ∷ 1 ∷ []) (1 ∷ 0 ∷ [])
    (0 ∷ 1 ∷ 0 ∷ 0 ∷ []) (0 ∷ 0 ∷ 1 ∷ 1 ∷ []) (0 ∷ 1 ∷ 1 ∷ 0 ∷ []) (pos 3 ∷ pos 2 ∷ negsuc 0 ∷ pos 4 ∷ [])

-- Buffers without a word.
abbrev pub empty : StateTables
empty = state_tables [] [] [] [] [] [] []

-- A fresh state of E.
abbrev pub fresh_e : StateTables
fresh_e = fresh_tables job_e empty

-- K 2, an offer of box 0, its tallies in box 1, a grocer of box 1.
abbrev pub away : ℕ → List ℕ → List ℕ → List ℕ → List ℤ → JobTables
away t grocers boxes offers counts = loose_tables 2 1 1 t (9_999_999 ∷ []) (0 ∷ []) (1 ∷ []) grocers boxes offers counts

-- The table of ◆ cases.
pub record Cases : Type 0 where
  -- E's amounts, as plain sums and as a run leaves them.
  pub e_amount_0 : plain_sum (job_of job_e) 0 ≡ pos 2250
  pub e_amount_1 : plain_sum (job_of job_e) 1 ≡ pos 2500
  pub e_statement_0 : (run_state (job_of job_e) []).statement 0 ≡ pos 2250
  pub e_statement_1 : (run_state (job_of job_e) []).statement 1 ≡ pos 2500
  -- Its words and steps, and what a run reports: words 3, messages 3, steps 10.
  pub e_words : owner_words (job_of job_e) ≡ 3
  pub e_messages : message_count (job_of job_e) ≡ 3
  pub e_steps : step_count (job_of job_e) ≡ 10
  pub e_report : (ran job_e fresh_e [] []).answer ≡ finished 3 3 10
  -- T = 0: 2 × K steps, no words. Here K 2; proofs/Quiet.antt has it for every K.
  pub quiet_steps : step_count (job_of (away 0 [] [] [] [])) ≡ 4
  pub quiet_words : owner_words (job_of (away 0 [] [] [] [])) ≡ 0
  -- K 2, offer of box 0, its one tally in box 1, grocer of box 1: 1 word, 6 steps.
  pub away_words : owner_words (job_of (away 1 (0 ∷ []) (1 ∷ []) (0 ∷ []) (pos 3 ∷ []))) ≡ 1
  pub away_steps : step_count (job_of (away 1 (0 ∷ []) (1 ∷ []) (0 ∷ []) (pos 3 ∷ []))) ≡ 6
  -- The same tally twice: still one word.
  pub twice_words : owner_words (job_of (away 2 (0 ∷ 0 ∷ []) (1 ∷ 1 ∷ []) (0 ∷ 0 ∷ []) (pos 3 ∷ pos 3 ∷ []))) ≡ 1
  -- Count 99,999, price 9,999,999: 999,989,900,001; with −99,999 the negative.
  pub largest : plain_sum (job_of (away 1 (0 ∷ []) (1 ∷ []) (0 ∷ []) (pos 99_999 ∷ []))) 0 ≡ pos 999_989_900_001
  pub smallest : plain_sum (job_of (away 1 (0 ∷ []) (1 ∷ []) (0 ∷ []) (negsuc 99_998 ∷ []))) 0 ≡ negsuc 999_989_900_000

-- An offer of box 0, which holds no tally of it; boxes 1 and 2 do. The grocer is box 0's. Box 3 has nothing.
abbrev pub owner_without : JobTables
owner_without = loose_tables 4 1 1 2 (10 ∷ []) (0 ∷ []) (0 ∷ []) (0 ∷ 0 ∷ []) (1 ∷ 2 ∷ []) (0 ∷ 0 ∷ []) (pos 5 ∷ pos 0 ∷ [])

-- One box.
abbrev pub one_box_job : JobTables
one_box_job = loose_tables 1 1 1 2 (10 ∷ []) (0 ∷ []) (0 ∷ []) (0 ∷ 0 ∷ []) (0 ∷ 0 ∷ []) (0 ∷ 0 ∷ []) (pos 5 ∷ negsuc 1 ∷ [])

-- E with a working total at its limit: box 0's of grocer 0, its second local grocer.
abbrev pub full_e : StateTables
full_e =
    state_tables (500 ∷ 0 ∷ 0 ∷ 1250 ∷ []) (0 ∷ 0 ∷ 0 ∷ 0 ∷ []) (pos 0 ∷ pos 1_000_000_000_000_000 ∷ pos 0 ∷ []) (pos 0 ∷ pos 0 ∷ pos 0 ∷ [])
    (pos 0 ∷ pos 0 ∷ []) (tabulate 24 (λ i. 0)) (0 ∷ [])

-- Two offers of box 0, both with a tally in box 1, which owns the grocer.
abbrev pub two_offers : JobTables
two_offers = loose_tables 2 1 2 2 (10 ∷ 20 ∷ []) (0 ∷ 0 ∷ []) (1 ∷ []) (0 ∷ 0 ∷ []) (1 ∷ 1 ∷ []) (0 ∷ 1 ∷ []) (pos 1 ∷ pos 1 ∷ [])

-- Two grocers and two offers, 1 of each box 0's and 0 box 1's. Box 0 holds every tally but the one of count 12.
abbrev pub side_by_side : JobTables
side_by_side =
    loose_tables 2 2 2 7 (10 ∷ 20 ∷ []) (1 ∷ 0 ∷ []) (1 ∷ 0 ∷ []) (0 ∷ 1 ∷ 0 ∷ 1 ∷ 0 ∷ 1 ∷ 0 ∷ []) (0 ∷ 0 ∷ 1 ∷ 0 ∷ 0 ∷ 0 ∷ 0 ∷ [])
    (0 ∷ 0 ∷ 0 ∷ 1 ∷ 1 ∷ 0 ∷ 0 ∷ []) (pos 10 ∷ pos 11 ∷ pos 12 ∷ pos 13 ∷ pos 14 ∷ pos 15 ∷ pos 16 ∷ [])

-- A step by its kind and boxes.
abbrev pub of_kind : Kind → ℕ → ℕ → Step
of_kind k a b = record { kind = k; first = a; second = b }

-- Steps done in E: box 0 has multiplied its own and sent its prices to box 1.
abbrev pub begun_e : Steps
begun_e = done_by (of_kind multiply_own 0 0 ∷ of_kind send_prices 0 1 ∷ [])

-- Records handed to the desk: two of grocer 0, one of grocer 1 between them.
abbrev pub handed : List TallyRecord
handed =
    record { grocer = 0; tally_box = 0; place = 0; count = pos 3; bag = 0; revision = 0 }
    ∷ record { grocer = 1; tally_box = 0; place = 1; count = pos 2; bag = 0; revision = 0 }
    ∷ record { grocer = 0; tally_box = 15; place = 1; count = negsuc 0; bag = 0; revision = 0 } ∷ []

-- Counts of grocer 0's coupons of offer 0, whose price is 10: boxes, counts, bags and revisions. Offer and grocer are box 1's.
abbrev pub recounted : ℕ → List ℕ → List ℤ → List ℕ → List ℕ → JobTables
recounted t boxes counts bags revisions =
    bag_tables 2 1 1 t 0 (10 ∷ []) (1 ∷ []) (1 ∷ []) (tabulate t (λ i. 0)) boxes (tabulate t (λ i. 0)) counts bags revisions

-- Bag 7, counted by box 0 and again, as revision 1, by box 1.
abbrev pub recount : JobTables
recount = recounted 2 (0 ∷ 1 ∷ []) (pos 5 ∷ pos 4 ∷ []) (7 ∷ 7 ∷ []) (0 ∷ 1 ∷ [])

-- Bag 7 as revision 0 twice, under a higher one.
abbrev pub low_twice : JobTables
low_twice = recounted 3 (0 ∷ 0 ∷ 1 ∷ []) (pos 5 ∷ pos 5 ∷ pos 4 ∷ []) (7 ∷ 7 ∷ 7 ∷ []) (0 ∷ 0 ∷ 1 ∷ [])

-- A record of grocer g's coupons of offer 0 in box b, of a bag and revision.
abbrev pub bag_record : ℕ → ℕ → ℤ → ℕ → ℕ → TallyRecord
bag_record g b count bag revision = record { grocer = g; tally_box = b; place = 0; count = count; bag = bag; revision = revision }

-- Requests for steps, one after the other, that lend of each table what it needs.
abbrev pub in_turn : JobTables → List Asked → List Request
in_turn f qs = map (λ q. whole_request f (step_of q)) qs

-- The answers to them, from a fresh state on.
abbrev pub answers_in_turn : JobTables → List Asked → List StepAnswer
answers_in_turn f qs = answers_in f empty (in_turn f qs)

-- The state's tables that they leave.
abbrev pub tables_in_turn : JobTables → List Asked → StateTables
tables_in_turn f qs = tables_after f empty (in_turn f qs)

-- All steps of E, in an order in which box 0 sends its totals before it knows a price of box 1's.
abbrev pub early_totals : List Asked
early_totals =
    asked 2 0 0 ∷ asked 4 0 1 ∷ asked 6 1 0 ∷ asked 1 1 0 ∷ asked 3 0 1
    ∷ asked 5 0 0 ∷ asked 1 0 1 ∷ asked 2 1 1 ∷ asked 3 1 0 ∷ asked 5 1 1 ∷ []

-- All steps of E, in an order in which box 0 adds its own totals before it has multiplied its own.
abbrev pub early_own : List Asked
early_own =
    asked 1 1 0 ∷ asked 3 0 1 ∷ asked 5 0 0 ∷ asked 2 0 0 ∷ asked 4 0 1
    ∷ asked 1 0 1 ∷ asked 2 1 1 ∷ asked 3 1 0 ∷ asked 5 1 1 ∷ asked 6 1 0 ∷ []

-- K 1, and no tally.
abbrev pub no_tallies : JobTables
no_tallies = loose_tables 1 1 1 0 (10 ∷ []) (0 ∷ []) (0 ∷ []) [] [] [] []

-- Box 0 holds a tally of box 1's grocer and its own offer, and one of box 2's grocer and offer.
abbrev pub two_ways : JobTables
two_ways = loose_tables 3 2 2 2 (10 ∷ 20 ∷ []) (0 ∷ 2 ∷ []) (1 ∷ 2 ∷ []) (0 ∷ 1 ∷ []) (0 ∷ 0 ∷ []) (0 ∷ 1 ∷ []) (pos 3 ∷ pos 4 ∷ [])

-- Box 0 holds two counts of box 1's grocer: of its own offer, and in a bag of box 1's offer. Box 1 counts a bag of this offer as revision 1.
abbrev pub bag_moved : (first second : ℕ) → JobTables
bag_moved x y =
    bag_tables 2 1 2 3 0 (10 ∷ 20 ∷ []) (0 ∷ 1 ∷ []) (1 ∷ []) (0 ∷ 0 ∷ 0 ∷ []) (0 ∷ 0 ∷ 1 ∷ []) (0 ∷ 1 ∷ 1 ∷ [])
    (pos 3 ∷ pos 5 ∷ pos 4 ∷ []) (0 ∷ x ∷ y ∷ []) (0 ∷ 0 ∷ 1 ∷ [])

-- Packed tables of E with these words, in a fresh state.
abbrev pub packed_e : (working total_transit : List ℤ) → StateTables
packed_e working total_transit =
    state_tables (500 ∷ 0 ∷ 0 ∷ 1250 ∷ []) (0 ∷ 0 ∷ 0 ∷ 0 ∷ []) working total_transit (pos 0 ∷ pos 0 ∷ []) (tabulate 24 (λ i. 0)) (0 ∷ [])

-- The same with full rows, box 0's of grocers 0 and 1 and then box 1's. Box 1 has no part total of grocer 1.
abbrev pub rows_e : List ℤ → StateTables
rows_e working = packed_e working (pos 0 ∷ pos 0 ∷ pos 0 ∷ pos 0 ∷ [])

-- Small examples that say what the definitions mean.
pub record Examples : Type 0 where
  -- The owner is not among the needs: bits 1 and 2, two price words; two totals; a tally of count 0 is one like any other.
  pub needs_away : need_word (job_of owner_without) 0 ≡ 6
  pub words_away : owner_words (job_of owner_without) ≡ 4
  -- Two messages of prices, two of totals; steps 2 and 5 of four boxes, the one with nothing among them.
  pub steps_away : step_count (job_of owner_without) ≡ 16
  pub sum_away : (run_state (job_of owner_without) []).statement 0 ≡ pos 50
  -- One box: no message, two steps; tallies of the same grocer, offer and box add up.
  pub one_words : owner_words (job_of one_box_job) ≡ 0
  pub one_steps : step_count (job_of one_box_job) ≡ 2
  pub one_sum : (run_state (job_of one_box_job) []).statement 0 ≡ pos 30
  -- A tally of a box not below K is held by nobody.
  pub nobody : plain_sum (job_of (away 2 (0 ∷ 0 ∷ []) (1 ∷ 2 ∷ []) (0 ∷ 0 ∷ []) (pos 1 ∷ pos 1 ∷ []))) 0 ≡ pos 9_999_999
  -- E's local books.
  pub offers_0 : local_offers (job_of job_e) 0 ≡ 0 ∷ 1 ∷ []
  pub offers_1 : local_offers (job_of job_e) 1 ≡ 1 ∷ 0 ∷ []
  pub grocers_0 : local_grocers (job_of job_e) 0 ≡ 1 ∷ 0 ∷ []
  pub grocers_1 : local_grocers (job_of job_e) 1 ≡ 0 ∷ []
  pub starts_0 : starts (job_of job_e) 0 ≡ 0 ∷ 1 ∷ 2 ∷ []
  pub starts_1 : starts (job_of job_e) 1 ≡ 0 ∷ 1 ∷ 2 ∷ []
  -- A packed list: the box's own grocer 1 goes before grocer 0, another box's, though its number is the higher; tallies of one by place.
  pub side_offers : local_offers (job_of side_by_side) 0 ≡ 1 ∷ 0 ∷ []
  pub side_grocers : local_grocers (job_of side_by_side) 0 ≡ 1 ∷ 0 ∷ []
  pub side_starts : starts (job_of side_by_side) 0 ≡ 0 ∷ 2 ∷ 6 ∷ []
  pub side_packed : packed (job_of side_by_side) 0 ≡ 3 ∷ 4 ∷ 1 ∷ 5 ∷ 0 ∷ 6 ∷ []
  pub side_numbers : packed_grocers (job_of side_by_side) 0 ≡ 0 ∷ 1 ∷ 0 ∷ 0 ∷ 1 ∷ 1 ∷ []
  pub side_counts : packed_counts (job_of side_by_side) 0 ≡ pos 13 ∷ pos 14 ∷ pos 11 ∷ pos 15 ∷ pos 10 ∷ pos 16 ∷ []
  -- The words between E's boxes.
  pub prices_0_1 : get_or (get_or (price_table (job_of job_e)) 0 []) 1 0 ≡ 1
  pub prices_1_0 : get_or (get_or (price_table (job_of job_e)) 1 []) 0 0 ≡ 1
  pub totals_0_1 : get_or (get_or (total_table (job_of job_e)) 0 []) 1 0 ≡ 1
  pub totals_1_0 : get_or (get_or (total_table (job_of job_e)) 1 []) 0 0 ≡ 0
  -- Two offers of box 0 that box 1 needs, and a grocer of box 1: 2 words, 1 message, 6 steps.
  pub two_words : owner_words (job_of two_offers) ≡ 2
  pub one_message : message_count (job_of two_offers) ≡ 1
  pub two_report : (ran two_offers (fresh_tables two_offers empty) [] []).answer ≡ finished 2 1 6
  -- The ready steps of a fresh state of E: both messages of prices, and step 2 of both boxes. Choice 6 picks the one that 2 picks.
  pub e_ready : ready_steps (job_of job_e) (done_by []) ≡ of_kind send_prices 0 1 ∷ of_kind send_prices 1 0 ∷ of_kind multiply_own 0 0
      ∷ of_kind multiply_own 1 1 ∷ []
  pub e_pick : pick (job_of job_e) (done_by []) 6 ≡ of_kind multiply_own 0 0
  -- What E's boxes hold once box 0 has multiplied its own and sent its prices: 3 × 500 worked, 500 on its way to box 1, which does not know it yet.
  pub e_working : (state_by_rules (job_of job_e) begun_e).working 0 0 ≡ pos 1500
  pub e_on_way : (state_by_rules (job_of job_e) begun_e).price_transit 1 0 ≡ 500
  pub e_unknown : (state_by_rules (job_of job_e) begun_e).known 1 0 ≡ 0
  pub e_sent : (state_by_rules (job_of job_e) begun_e).sent ≡ 1
  -- Refusals of a step on a fresh state of E: kind 9 with box 99; message 0 to 0; receipt before sending; no such message; a step repeated.
  pub no_kind : (stepped job_e fresh_e (asked 9 99 0)).answer ≡ refused 22
  pub to_itself : (stepped job_e fresh_e (asked 1 0 0)).answer ≡ refused 23
  pub not_sent : (stepped job_e fresh_e (asked 3 1 0)).answer ≡ refused 26
  pub no_message : (stepped job_e fresh_e (asked 4 1 0)).answer ≡ refused 24
  pub repeated : (stepped job_e (stepped job_e fresh_e (asked 2 0 0)).tables (asked 2 0 0)).answer ≡ refused 25
  -- Step 2 of box 0, accepted on a fresh state of E: 3 × 500 is in its working totals, where there was nothing;
  pub begins : (stepped job_e fresh_e (asked 2 0 0)).answer ≡ accepted
  pub no_work : fresh_e.working ≡ pos 0 ∷ pos 0 ∷ pos 0 ∷ []
  pub works : (stepped job_e fresh_e (asked 2 0 0)).tables.working ≡ pos 0 ∷ pos 1500 ∷ pos 0 ∷ []
  -- its mark alone is set, where there was none, and the statements are not made yet.
  pub unmarked : fresh_e.done ≡ tabulate 24 (λ i. 0)
  pub marked : (stepped job_e fresh_e (asked 2 0 0)).tables.done ≡ tabulate 24 (λ i. cond (eqb i 4) 1 0)
  pub not_yet : (stepped job_e fresh_e (asked 2 0 0)).tables.statement ≡ pos 0 ∷ pos 0 ∷ []
  -- The statements that a run leaves of E and of the job of one box.
  pub e_leaves : (ran job_e fresh_e [] []).tables.statement ≡ pos 2250 ∷ pos 2500 ∷ []
  pub one_leaves : (ran one_box_job (fresh_tables one_box_job empty) [] []).tables.statement ≡ pos 30 ∷ []
  -- A state without a word; a result beyond ±10^15.
  pub short : (stepped job_e empty (asked 9 99 0)).answer ≡ refused 20
  pub too_much : (stepped job_e full_e (asked 2 0 0)).answer ≡ refused 21
  pub still_fits : (stepped job_e full_e (asked 2 1 1)).answer ≡ accepted
  -- The desk: tallies of other grocers are passed over; a wanted grocer not below M; prices lent short.
  pub desk : reconciled 2 2 0 (500 ∷ 1250 ∷ []) handed ≡ owed (pos 250)
  pub desk_21 : reconciled 2 2 2 (500 ∷ 1250 ∷ []) [] ≡ not_owed 21
  pub desk_20 : reconciled 2 2 2 (500 ∷ []) [] ≡ not_owed 20
  -- A recount in another box: the count before it has no amount, need, word, message or step.
  pub recount_sum : plain_sum (job_of recount) 0 ≡ pos 40
  pub recount_need : need_word (job_of recount) 0 ≡ 2
  pub recount_words : owner_words (job_of recount) ≡ 0
  pub recount_steps : step_count (job_of recount) ≡ 4
  pub recount_answer : (stepped recount (fresh_tables recount empty) (asked 1 1 0)).answer ≡ refused 24
  pub recount_leaves : (ran recount (fresh_tables recount empty) [] []).tables.statement ≡ pos 40 ∷ []
  pub recount_book : local_grocers (job_of recount) 0 ≡ []
  -- The count that stands may be 0; loose coupons of one revision all stand, and so do two bags.
  pub recount_none : plain_sum (job_of (recounted 2 (0 ∷ 1 ∷ []) (pos 5 ∷ pos 0 ∷ []) (7 ∷ 7 ∷ []) (0 ∷ 1 ∷ []))) 0 ≡ pos 0
  pub recount_loose : plain_sum (job_of (recounted 2 (0 ∷ 1 ∷ []) (pos 5 ∷ pos 4 ∷ []) (0 ∷ 0 ∷ []) (0 ∷ 1 ∷ []))) 0 ≡ pos 90
  pub recount_bags : plain_sum (job_of (recounted 2 (0 ∷ 1 ∷ []) (pos 5 ∷ pos 4 ∷ []) (7 ∷ 8 ∷ []) (0 ∷ 1 ∷ []))) 0 ≡ pos 90
  -- One bag and revision twice, though a higher one stands: 9, before 22; revisions lent short are 20, before 9.
  pub twice_step : (stepped low_twice (fresh_tables low_twice empty) (asked 9 99 0)).answer ≡ refused 9
  pub twice_run : (ran low_twice (fresh_tables low_twice empty) [] []).answer ≡ not_run 9
  pub twice_short : (ran (recounted 2 (0 ∷ 1 ∷ []) (pos 5 ∷ pos 4 ∷ []) (7 ∷ 7 ∷ []) (0 ∷ [])) (fresh_tables low_twice empty) [] []).answer ≡ not_run 20
  -- A superseded tally's words are looked at: its box is not below K.
  pub superseded_21 : (ran (recounted 2 (2 ∷ 1 ∷ []) (pos 5 ∷ pos 4 ∷ []) (7 ∷ 7 ∷ []) (0 ∷ 1 ∷ [])) (fresh_tables recount empty) [] []).answer ≡ not_run 21
  -- The desk: the higher revision stands; one bag of two grocers is two; the same twice, of a grocer not wanted, is 9.
  pub desk_recount : reconciled 2 1 0 (10 ∷ []) (bag_record 0 0 (pos 5) 7 1 ∷ bag_record 0 15 (pos 4) 7 0 ∷ bag_record 1 0 (pos 3) 7 2 ∷ []) ≡ owed (pos 50)
  pub desk_9 : reconciled 2 1 0 (10 ∷ []) (bag_record 1 0 (pos 5) 7 1 ∷ bag_record 0 0 (pos 4) 7 1 ∷ bag_record 1 3 (pos 3) 7 1 ∷ []) ≡ not_owed 9
  -- Totals that leave early. E: box 0 may send totals to box 1 once it has multiplied its own, and not before;
  pub early_waits : answers_in_turn job_e (asked 4 0 1 ∷ asked 2 0 0 ∷ asked 4 0 1 ∷ []) ≡ refused 26 ∷ accepted ∷ accepted ∷ []
  -- 3 × 500 is then on its way. A list that does so does all steps and ends with the same statements.
  pub early_sent : (tables_in_turn job_e (asked 2 0 0 ∷ asked 4 0 1 ∷ [])).total_transit ≡ pos 0 ∷ pos 1500 ∷ pos 0 ∷ []
  pub early_answers : answers_in_turn job_e early_totals ≡ map (λ q. accepted) early_totals
  pub early_leaves : (tables_in_turn job_e early_totals).statement ≡ pos 2250 ∷ pos 2500 ∷ []
  -- Box 0 may add its own totals once the price of box 1's offer is in, before it multiplies its own: the statement is whole. 2 alone is not enough.
  pub own_waits : answers_in_turn job_e (asked 2 0 0 ∷ asked 5 0 0 ∷ []) ≡ accepted ∷ refused 26 ∷ []
  pub own_added : (tables_in_turn job_e (asked 1 1 0 ∷ asked 3 0 1 ∷ asked 5 0 0 ∷ [])).statement ≡ pos 0 ∷ pos 2500 ∷ []
  pub own_answers : answers_in_turn job_e early_own ≡ map (λ q. accepted) early_own
  pub own_leaves : (tables_in_turn job_e early_own).statement ≡ pos 2250 ∷ pos 2500 ∷ []
  -- Box 1, with tallies of its own grocer and both offers, waits for both.
  pub both_wait : answers_in_turn job_e (asked 2 1 1 ∷ asked 5 1 1 ∷ asked 1 0 1 ∷ asked 5 1 1 ∷ asked 3 1 0 ∷ asked 5 1 1 ∷ []) ≡
      accepted ∷ refused 26 ∷ accepted ∷ refused 26 ∷ accepted ∷ accepted ∷ []
  -- Without a tally of its own grocers a box adds its own from the start; with one of its own offer it multiplies first.
  pub from_start : answers_in_turn no_tallies (asked 5 0 0 ∷ asked 2 0 0 ∷ []) ≡ accepted ∷ accepted ∷ []
  pub then_none : ready_steps (job_of no_tallies) (done_by (of_kind multiply_own 0 0 ∷ of_kind add_own 0 0 ∷ [])) ≡ []
  pub own_offer : answers_in_turn one_box_job (asked 5 0 0 ∷ asked 2 0 0 ∷ asked 5 0 0 ∷ []) ≡ refused 26 ∷ accepted ∷ accepted ∷ []
  -- Totals wait for the tallies of the second box's grocers alone: after step 2 they leave to box 1, and to box 2 once its price is in;
  pub not_for_others : answers_in_turn two_ways (asked 2 0 0 ∷ asked 4 0 1 ∷ asked 4 0 2 ∷ asked 1 2 0 ∷ asked 3 0 2 ∷ asked 4 0 2 ∷ []) ≡
      accepted ∷ accepted ∷ refused 26 ∷ accepted ∷ accepted ∷ accepted ∷ []
  -- with that price alone, to box 2 and not to box 1.
  pub not_for_own : answers_in_turn two_ways (asked 1 2 0 ∷ asked 3 0 2 ∷ asked 4 0 2 ∷ asked 4 0 1 ∷ []) ≡ accepted ∷ accepted ∷ accepted ∷ refused 26 ∷ []
  -- A superseded tally is not waited for: box 0's count of bag 7; in another bag it stands, and is.
  pub superseded_passed : answers_in_turn (bag_moved 7 7) (asked 2 0 0 ∷ asked 4 0 1 ∷ []) ≡ accepted ∷ accepted ∷ []
  pub standing_waits : answers_in_turn (bag_moved 8 7) (asked 2 0 0 ∷ asked 4 0 1 ∷ []) ≡ accepted ∷ refused 26 ∷ []
  -- Likewise of its own grocers: box 1's count of bag 7 is superseded by box 0's.
  pub superseded_own : answers_in_turn (recounted 2 (1 ∷ 0 ∷ []) (pos 5 ∷ pos 4 ∷ []) (7 ∷ 7 ∷ []) (0 ∷ 1 ∷ [])) (asked 5 1 1 ∷ []) ≡ accepted ∷ []
  pub standing_own : answers_in_turn (recounted 2 (1 ∷ 0 ∷ []) (pos 5 ∷ pos 4 ∷ []) (7 ∷ 7 ∷ []) (1 ∷ 0 ∷ [])) (asked 5 1 1 ∷ []) ≡ refused 26 ∷ []
  -- Working totals by local grocer. E's box 0 has grocers 1 and 0, its own first; box 1 has grocer 0: three words, where full rows have four.
  pub packed_length_lem : totals_length (job_of job_e) ≡ 3
  pub packed_starts : tabulate 3 (totals_start (job_of job_e)) ≡ 0 ∷ 2 ∷ 3 ∷ []
  pub packed_places : total_place (job_of job_e) 0 1 ∷ total_place (job_of job_e) 0 0 ∷ total_place (job_of job_e) 1 0 ∷ [] ≡ 0 ∷ 1 ∷ 2 ∷ []
  pub packed_none : has_total (job_of job_e) 1 1 ≡ false
  -- Box 1's full row has 0 for grocer 1.
  pub unpacked_rows : (unpacked (job_of job_e) (packed_e (pos 7 ∷ pos 8 ∷ pos 9 ∷ []) [])).working ≡ pos 8 ∷ pos 7 ∷ pos 9 ∷ pos 0 ∷ []
  -- A superseded tally makes no word: box 0 has none, box 1, the owner, one. A box's own grocer has one, though nobody holds a tally of it.
  pub packed_recount : totals_length (job_of recount) ≡ 1
  pub packed_own : totals_length (job_of no_tallies) ≡ 1
  -- Its groups: box 0's own grocer 1, none of its own again, and grocer 0, box 1's; box 1's own grocer 0, and nothing else.
  pub packed_groups_0 : tabulate 4 (group_start (job_of job_e) 0) ≡ 0 ∷ 1 ∷ 1 ∷ 2 ∷ []
  pub packed_groups_1 : tabulate 4 (group_start (job_of job_e) 1) ≡ 2 ∷ 3 ∷ 3 ∷ 3 ∷ []
  pub packed_grocers_lem : place_grocers (job_of job_e) ≡ 1 ∷ 0 ∷ 0 ∷ []
  -- Full rows with 7 in box 1's word for grocer 1, which is not local: no step touches it, and beyond ±10^15 it would be 21.
  pub rows_stay : (full_stepped job_e (rows_e (pos 0 ∷ pos 0 ∷ pos 0 ∷ pos 7 ∷ [])) (asked 2 1 1)).tables.working ≡ pos 0 ∷ pos 0 ∷ negsuc 1249 ∷ pos 7 ∷ []
  pub rows_21 : (full_stepped job_e (rows_e (pos 0 ∷ pos 0 ∷ pos 0 ∷ pos 1_000_000_000_000_001 ∷ [])) (asked 2 1 1)).answer ≡ refused 21
