-- Small examples of late and withdrawn bags, each computed.
use Rattle.std.specs.Prelude.{◌≡◌, List, [], ◌∷◌, ◌++◌, true, false, ℕ, leb, ℤ, pos, negsuc, get_or, length}
use Rattle.laws.specs.Checks.{first_met}
use Rattle.laws.specs.Limits.{max_tallies}
use Rattle.laws.specs.Tables.{tabulate, overwrite}
use Rattle.model.specs.Tables.{StateTables, state_tables}
use Rattle.model.specs.Run.{ran}
use Rattle.format.specs.Codes.{Code, code_bytes}
use Rattle.format.specs.Job.{Head, head_of, Tally}
use Rattle.format.specs.Tables.{ReaderTables, offer_tables, tally_tables, file_tables, reader_tables, TallyTables}
use Rattle.late_rules.specs.Edit.{job_in, place_found, withdrawn_tables}
use Rattle.late_rules.specs.Late.{room, present_rules, add_faults, withdraw_faults, add_rules, withdraw_rules, edited, late_outcome, bag_added, bag_withdrawn}

-- A code by its digits.
abbrev pub code : List ℕ → Code
code l = record { size = length l; digit = λ k. get_or l k 0 }

-- "412",
abbrev pub four12 : Code
four12 = code (52 ∷ 49 ∷ 50 ∷ [])

-- "0412"
abbrev pub zero412 : Code
zero412 = code (48 ∷ 52 ∷ 49 ∷ 50 ∷ [])

-- and "77".
abbrev pub seven7 : Code
seven7 = code (55 ∷ 55 ∷ [])

-- A loose tally of issuer 0,
abbrev pub loosely : (grocer box : ℕ) → Code → ℤ → Tally
loosely g b c n = record { grocer = g; box = b; code = c; count = n; issuer = 0; bag = 0; revision = 0 }

-- and one of a bag.
abbrev pub bagged : (grocer box : ℕ) → Code → ℤ → (bag revision : ℕ) → Tally
bagged g b c n s r = record { grocer = g; box = b; code = c; count = n; issuer = 0; bag = s; revision = r }

-- Buffers of zeros for a state of K 2, M 2, N 2 and one price list, with these packed tables.
abbrev pub blank : List ℤ → StateTables
blank packed =
    state_tables (tabulate 4 (λ i. 0)) (tabulate 4 (λ i. 0)) packed packed (tabulate 2 (λ i. pos 0)) (tabulate 24 (λ i. 0)) (0 ∷ [])

-- n packed words of 0, and words of 7 behind them: five in all.
abbrev pub packed_of : ℕ → List ℤ
packed_of n = overwrite n (λ i. pos 0) (tabulate 5 (λ i. pos 7))

-- E, "Settling one small evening" of 01: its sizes,
abbrev pub head_e : Head
head_e = head_of 2 2 2 4 0 0

-- and its offers and grocers, with these tallies and their places.
abbrev pub evening_e : TallyTables → List ℕ → ReaderTables
evening_e tallies places =
    reader_tables
    (file_tables
    (offer_tables (500 ∷ 1250 ∷ []) (0 ∷ 1 ∷ []) (code_bytes (code (48 ∷ 48 ∷ 52 ∷ 49 ∷ 50 ∷ [])) ++ code_bytes seven7) (0 ∷ 0 ∷ []))
    (1 ∷ 0 ∷ []) tallies)
    places

-- The codes of its second to fourth tally.
abbrev pub later_codes : List ℕ
later_codes = code_bytes (code (48 ∷ 55 ∷ 55 ∷ [])) ++ code_bytes seven7 ++ code_bytes zero412

-- Its four tallies, and words of 7 behind them: room for one tally more.
abbrev pub tables_e : ReaderTables
tables_e =
    evening_e
    (tally_tables (0 ∷ 1 ∷ 0 ∷ 0 ∷ 7 ∷ []) (0 ∷ 0 ∷ 1 ∷ 1 ∷ 7 ∷ []) (code_bytes four12 ++ later_codes ++ tabulate 11 (λ i. 7))
    (pos 3 ∷ pos 2 ∷ negsuc 0 ∷ pos 4 ∷ pos 7 ∷ []) (0 ∷ 0 ∷ 0 ∷ 0 ∷ 7 ∷ []) (0 ∷ 0 ∷ 0 ∷ 0 ∷ 7 ∷ []) (0 ∷ 0 ∷ 0 ∷ 0 ∷ 7 ∷ []))
    (0 ∷ 1 ∷ 1 ∷ 0 ∷ 7 ∷ [])

-- The tables once (1, box 1, "412", 2) is added,
abbrev pub tables_more : ReaderTables
tables_more =
    evening_e
    (tally_tables (0 ∷ 1 ∷ 0 ∷ 0 ∷ 1 ∷ []) (0 ∷ 0 ∷ 1 ∷ 1 ∷ 1 ∷ []) (code_bytes four12 ++ later_codes ++ code_bytes four12)
    (pos 3 ∷ pos 2 ∷ negsuc 0 ∷ pos 4 ∷ pos 2 ∷ []) (tabulate 5 (λ i. 0)) (tabulate 5 (λ i. 0)) (tabulate 5 (λ i. 0)))
    (0 ∷ 1 ∷ 1 ∷ 0 ∷ 0 ∷ [])

-- and once the first tally is withdrawn: later ones have moved up, the words freed are 0, the words of 7 behind them stay.
abbrev pub tables_less : ReaderTables
tables_less =
    evening_e
    (tally_tables (1 ∷ 0 ∷ 0 ∷ 0 ∷ 7 ∷ []) (0 ∷ 1 ∷ 1 ∷ 0 ∷ 7 ∷ []) (later_codes ++ tabulate 11 (λ i. 0) ++ tabulate 11 (λ i. 7))
    (pos 2 ∷ negsuc 0 ∷ pos 4 ∷ pos 0 ∷ pos 7 ∷ []) (0 ∷ 0 ∷ 0 ∷ 0 ∷ 7 ∷ []) (0 ∷ 0 ∷ 0 ∷ 0 ∷ 7 ∷ []) (0 ∷ 0 ∷ 0 ∷ 0 ∷ 7 ∷ []))
    (1 ∷ 1 ∷ 0 ∷ 0 ∷ 7 ∷ [])

-- A state of E in which both boxes know both prices: packed tables, statements, marks of the totals sent and received, words sent.
abbrev pub state_of : (working total_transit statement : List ℤ) → (sends receives : List ℕ) → ℕ → StateTables
state_of working transit statement sends receives n =
    state_tables (500 ∷ 1250 ∷ 500 ∷ 1250 ∷ []) (tabulate 4 (λ i. 0)) working transit statement
    ((0 ∷ 1 ∷ 1 ∷ 0 ∷ 1 ∷ 0 ∷ 0 ∷ 1 ∷ 0 ∷ 1 ∷ 1 ∷ 0 ∷ []) ++ sends ++ (1 ∷ 0 ∷ 0 ∷ 1 ∷ []) ++ receives) (n ∷ [])

-- Its state after a run, with these packed tables: box 0 has sent a part total to box 1. Its packed length is 3.
abbrev pub state_with : (working total_transit : List ℤ) → StateTables
state_with working transit = state_of working transit (pos 2250 ∷ pos 2500 ∷ []) (0 ∷ 1 ∷ 0 ∷ 0 ∷ []) (0 ∷ 0 ∷ 1 ∷ 0 ∷ []) 3

-- The same with words of 7 behind the packed lengths.
abbrev pub state_e : StateTables
state_e = state_with (packed_of 3) (packed_of 3)

-- The same with three packed words, no more than it needs.
abbrev pub state3 : StateTables
state3 = state_with (tabulate 3 (λ i. pos 0)) (tabulate 3 (λ i. pos 0))

-- The number that refuses a tally added to E in a state,
abbrev pub add_to : StateTables → Tally → ℕ
add_to s x = first_met (add_rules head_e tables_e s x)

-- one withdrawn from it,
abbrev pub withdraw_from : StateTables → ℕ → ℕ
withdraw_from s p = first_met (withdraw_rules head_e tables_e s p)

-- and, of 31 and 32 alone, one added.
abbrev pub fault_e : Tally → ℕ
fault_e x = first_met (add_faults head_e tables_e x)

-- E's state with one word changed: the words sent,
abbrev pub other_sent : StateTables
other_sent = state_of (packed_of 3) (packed_of 3) (pos 2250 ∷ pos 2500 ∷ []) (0 ∷ 1 ∷ 0 ∷ 0 ∷ []) (0 ∷ 0 ∷ 1 ∷ 0 ∷ []) 4

-- the mark of a step that it has not,
abbrev pub other_mark : StateTables
other_mark = state_of (packed_of 3) (packed_of 3) (pos 2250 ∷ pos 2500 ∷ []) (1 ∷ 1 ∷ 0 ∷ 0 ∷ []) (0 ∷ 0 ∷ 1 ∷ 0 ∷ []) 3

-- a working total,
abbrev pub other_working : StateTables
other_working = state_with (pos 1 ∷ packed_of 2) (packed_of 3)

-- what box 0 knows of its own offer.
abbrev pub other_price : StateTables
other_price =
    state_tables (501 ∷ 1250 ∷ 500 ∷ 1250 ∷ []) state_e.price_transit state_e.working state_e.total_transit state_e.statement state_e.done state_e.sent

-- E with a second price list, 100 and 200: its sizes,
abbrev pub head_l : Head
head_l = head_of 2 2 2 4 0 1

-- its tables,
abbrev pub tables_l : ReaderTables
tables_l =
    reader_tables
    (file_tables
    (offer_tables (500 ∷ 1250 ∷ 100 ∷ 200 ∷ []) tables_e.job.offers.owner tables_e.job.offers.code tables_e.job.offers.issuer)
    tables_e.job.grocer_owner tables_e.job.tallies)
    tables_e.tally_offer

-- and its state after a run. Its packed length is 6.
abbrev pub state_l : StateTables
state_l =
    state_tables (500 ∷ 100 ∷ 1250 ∷ 200 ∷ 500 ∷ 100 ∷ 1250 ∷ 200 ∷ []) (tabulate 8 (λ i. 0)) (tabulate 8 (λ i. pos 0)) (tabulate 8 (λ i. pos 0))
    (pos 2250 ∷ pos 500 ∷ pos 2500 ∷ pos 400 ∷ []) state_e.done (6 ∷ [])

-- Grocer 0's coupons of offer "412", at 10, in bag 7: counted by box 0 to 5, and again by box 1 to 4, as revisions 0 and 2. Offer and grocers are box 1's.
-- Beside it offer "77", at 20, of box 1. All have place 0. `first` is the revision of the first count, `second` the code of the second.
abbrev pub head_b : ℕ → Head
head_b t = head_of 2 2 2 t 0 0

-- Its tables, by that revision and that code.
abbrev pub tables_b : ℕ → Code → ReaderTables
tables_b first second =
    reader_tables
    (file_tables
    (offer_tables (10 ∷ 20 ∷ []) (1 ∷ 1 ∷ []) (code_bytes four12 ++ code_bytes seven7) (0 ∷ 0 ∷ []))
    (1 ∷ 1 ∷ [])
    (tally_tables (0 ∷ 0 ∷ 0 ∷ []) (0 ∷ 1 ∷ 0 ∷ []) (code_bytes four12 ++ code_bytes second ++ tabulate 11 (λ i. 0))
    (pos 5 ∷ pos 4 ∷ pos 0 ∷ []) (0 ∷ 0 ∷ 0 ∷ []) (7 ∷ 7 ∷ 0 ∷ []) (first ∷ 2 ∷ 0 ∷ [])))
    (0 ∷ 0 ∷ 0 ∷ [])

-- Its state after a run, where grocer 0 is owed n, with these packed tables: no message is sent. Its packed length is 2, with the first count back 3.
abbrev pub state_b : ℕ → List ℤ → StateTables
state_b n packed =
    state_tables (0 ∷ 0 ∷ 10 ∷ 20 ∷ []) (tabulate 4 (λ i. 0)) packed packed (pos n ∷ pos 0 ∷ [])
    (0 ∷ 0 ∷ 0 ∷ 0 ∷ 1 ∷ 0 ∷ 0 ∷ 1 ∷ 0 ∷ 0 ∷ 0 ∷ 0 ∷ 0 ∷ 0 ∷ 0 ∷ 0 ∷ 1 ∷ 0 ∷ 0 ∷ 1 ∷ 0 ∷ 0 ∷ 0 ∷ 0 ∷ []) (0 ∷ [])

-- The number that refuses a tally added to it,
abbrev pub add_b : Code → Tally → ℕ
add_b second x = first_met (add_rules (head_b 2) (tables_b 0 second) (state_b 40 (packed_of 2)) x)

-- and one withdrawn from it.
abbrev pub withdraw_b : Code → ℕ → ℕ
withdraw_b second p = first_met (withdraw_rules (head_b 2) (tables_b 0 second) (state_b 40 (packed_of 2)) p)

-- The table.
pub record Cases : Type 0 where
  -- E's state is the one that a run leaves.
  pub e_state : (ran (job_in head_e tables_e) (blank (packed_of 0)) [] []).tables ≡ state_e
  -- E with (1, box 1, "412", 2): grocer 1 gets 1,000 more, grocer 0 nothing; box 1 now sends a part total to box 0: words 4, messages 4, steps 12.
  -- The packed length is 4: one word of 7 behind the three is needed now, and is 0.
  pub added : bag_added head_e tables_e state_e (loosely 1 1 four12 (pos 2))
      ≡ late_outcome (edited 5 4 4 12) tables_more
      (state_of (packed_of 4) (packed_of 4) (pos 2250 ∷ pos 3500 ∷ []) (0 ∷ 1 ∷ 1 ∷ 0 ∷ []) (0 ∷ 1 ∷ 1 ∷ 0 ∷ []) 4)
  -- "0412" is the same offer, and under another issuer none; a count of 0 is a tally like any other: it makes a message.
  pub added_code : place_found head_e tables_e (loosely 1 1 zero412 (pos 2)) ≡ 0
  pub added_issuer : place_found head_e tables_e (record { grocer = 1; box = 1; code = four12; count = pos 2; issuer = 1; bag = 0; revision = 0 }) ≡ 2
  pub added_none : (bag_added head_e tables_e state_e (loosely 1 1 four12 (pos 0))).answer ≡ edited 5 4 4 12
  -- E without its first tally: no part total is sent. The packed length is 2, and the words behind it stay.
  pub withdrawn : bag_withdrawn head_e tables_e state_e 0
      ≡ late_outcome (edited 3 2 2 8) tables_less (state_of (packed_of 3) (packed_of 3) (pos 750 ∷ pos 2500 ∷ []) (tabulate 4 (λ i. 0)) (tabulate 4 (λ i. 0)) 2)
  -- Its last tally: nothing moves.
  pub last_counts : (withdrawn_tables head_e tables_e 3).job.tallies.count ≡ pos 3 ∷ pos 2 ∷ negsuc 0 ∷ pos 0 ∷ pos 7 ∷ []
  -- 32: no such place; with T = 0 no place at all.
  pub no_place : withdraw_from state_e 4 ≡ 32
  pub no_tally_lem : first_met (withdraw_faults (head_b 0) (tables_b 0 four12) 0) ≡ 32
  -- 32: each fault of the added tally: unknown code, known code of another issuer, grocer, box, count, no digits.
  pub no_offer : add_to state_e (loosely 0 0 (code (52 ∷ 49 ∷ [])) (pos 1)) ≡ 32
  pub no_issuer : fault_e (record { grocer = 0; box = 0; code = four12; count = pos 1; issuer = 1; bag = 0; revision = 0 }) ≡ 32
  pub bad_grocer : fault_e (loosely 2 0 four12 (pos 1)) ≡ 32
  pub bad_box : fault_e (loosely 0 2 four12 (pos 1)) ≡ 32
  pub bad_count_lem : fault_e (loosely 0 0 four12 (pos 100_000)) ≡ 32
  pub bad_digits : fault_e (loosely 0 0 (code []) (pos 1)) ≡ 32
  -- 30: a fresh or another state; it comes before every fault of the tally and before "no such place".
  pub sent_30 : add_to other_sent (loosely 0 0 four12 (pos 1)) ≡ 30
  pub mark_30 : add_to other_mark (loosely 0 0 four12 (pos 1)) ≡ 30
  pub price_30 : add_to other_price (loosely 0 0 four12 (pos 1)) ≡ 30
  pub working_30 : add_to other_working (loosely 0 0 four12 (pos 1)) ≡ 30
  pub blank_30 : add_to (blank (packed_of 3)) (loosely 9 9 (code []) (pos 1)) ≡ 30
  pub place_30 : withdraw_from (blank (packed_of 3)) 9 ≡ 30
  -- 20 counts the added tally: T = 5 has no room for a sixth. Withdrawing needs no more than T.
  pub short_20 : first_met (add_rules (head_of 2 2 2 5 0 0) tables_e state_e (loosely 0 0 four12 (pos 1))) ≡ 20
  pub room_999 : room 999 ≡ 1000
  pub room_1000 : room 1000 ≡ 1000
  pub room_more : room 65_535 ≡ 65_535
  -- 21 on the present words; past T nothing is looked at, the words of 7.
  pub fifth_21 : first_met (withdraw_rules (head_of 2 2 2 5 0 0) tables_e state_e 0) ≡ 21
  -- Three packed words are enough for E. (1, box 1, "412") needs one more: 20, before 30, and so where one of the two tables has it.
  pub packed_20 : add_to state3 (loosely 1 1 four12 (pos 2)) ≡ 20
  pub packed_other : add_to (state_with (packed_of 3) (tabulate 3 (λ i. pos 0))) (loosely 1 1 four12 (pos 2)) ≡ 20
  pub packed_first : add_to (blank (tabulate 3 (λ i. pos 0))) (loosely 1 1 four12 (pos 2)) ≡ 20
  pub packed_enough : add_to state3 (loosely 0 1 four12 (pos 2)) ≡ 0
  -- A tally that 32 refuses needs no word: the length is the job's own. Withdrawing needs none more.
  pub packed_32 : add_to state3 (loosely 1 1 (code (52 ∷ 49 ∷ [])) (pos 2)) ≡ 32
  pub packed_less : withdraw_from state3 0 ≡ 0
  -- 21 on a packed word within the job's length, before 30; a word past it is not looked at, though the edited job has it.
  pub packed_21 : add_to (state_with (pos 1_000_000_000_000_001 ∷ packed_of 2) (packed_of 3)) (loosely 1 1 four12 (pos 2)) ≡ 21
  pub packed_past : add_to (state_with (packed_of 3) (pos 0 ∷ pos 0 ∷ pos 0 ∷ pos 1_000_000_000_000_001 ∷ [])) (loosely 1 1 four12 (pos 2)) ≡ 0
  -- E with a second list, 100 and 200: a late bag changes both of the grocer's amounts and no other, and has two words a message.
  pub lists_answer : (bag_added head_l tables_l state_l (loosely 1 1 four12 (pos 2))).answer ≡ edited 5 8 4 12
  pub lists_statement : (bag_added head_l tables_l state_l (loosely 1 1 four12 (pos 2))).state.statement ≡ pos 2250 ∷ pos 500 ∷ pos 3500 ∷ pos 600 ∷ []
  -- Bag 7 stands at 4 coupons, at 10 each. Withdrawing that revision brings the one below it back, and its box's message;
  -- withdrawing the lower one changes no amount.
  pub bag_before : (ran (job_in (head_b 2) (tables_b 0 four12)) (blank (packed_of 0)) [] []).tables ≡ state_b 40 (packed_of 2)
  pub bag_back : (bag_withdrawn (head_b 2) (tables_b 0 four12) (state_b 40 (packed_of 2)) 1).state.statement ≡ pos 50 ∷ pos 0 ∷ []
  pub bag_words : (bag_withdrawn (head_b 2) (tables_b 0 four12) (state_b 40 (packed_of 2)) 1).answer ≡ edited 1 2 2 8
  pub bag_lower : (bag_withdrawn (head_b 2) (tables_b 0 four12) (state_b 40 (packed_of 2)) 0).state ≡ state_b 40 (packed_of 2)
  -- With two packed words the box of the lower one has none: 20. Counted twice as one revision: 9, before the packed 20 and 30.
  pub bag_packed : first_met (withdraw_rules (head_b 2) (tables_b 0 four12) (state_b 40 (tabulate 2 (λ i. pos 0))) 1) ≡ 20
  pub bag_9 : first_met (withdraw_rules (head_b 2) (tables_b 2 four12) (blank []) 1) ≡ 9
  -- A lower revision added changes no word of the state, though T grows; a higher one supersedes, the same revision is 32.
  pub bag_between : (bag_added (head_b 2) (tables_b 0 four12) (state_b 40 (packed_of 2)) (bagged 0 0 four12 (pos 9) 7 1)).state ≡ state_b 40 (packed_of 2)
  pub bag_higher : (bag_added (head_b 2) (tables_b 0 four12) (state_b 40 (packed_of 2)) (bagged 0 0 four12 (pos 9) 7 3)).state.statement
      ≡ pos 90 ∷ pos 0 ∷ []
  pub bag_twice : add_b four12 (bagged 0 0 zero412 (pos 9) 7 2) ≡ 32
  -- A place that is not its code's. The second count says "77" and has place 0: the writer does not refuse it. Added as "412" in its bag and revision,
  -- a tally has its place: a run would refuse with 9, so 32. Added as "77" it has its name: the writer would refuse with 9, so 32.
  pub place_run : add_b seven7 (bagged 0 0 four12 (pos 9) 7 2) ≡ 32
  pub place_writer : add_b seven7 (bagged 0 0 seven7 (pos 9) 7 2) ≡ 32
  pub place_neither : add_b seven7 (bagged 0 0 seven7 (pos 9) 7 1) ≡ 0
  -- A fault of a code is 32 where the tally stays, and none where that tally is withdrawn.
  pub code_stays : withdraw_b (code (47 ∷ [])) 0 ≡ 32
  pub code_goes : withdraw_b (code (47 ∷ [])) 1 ≡ 0
  pub code_add : add_b (code (47 ∷ [])) (loosely 0 0 four12 (pos 1)) ≡ 32
  -- The list holds 1,000: 31, whatever the tally.
  pub full : (h : Head) (l : ReaderTables) (s : StateTables) (x : Tally) → first_met (present_rules (room h.tallies) false h l s) ≡ 0 →
      leb max_tallies h.tallies ≡ true → first_met (add_rules h l s x) ≡ 31
