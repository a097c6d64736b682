-- Small examples of trials: each edge of the definitions.
use Rattle.std.specs.Prelude.{◌≡◌, true, false, List, [], ◌∷◌, map, ℕ, ◌+◌, ◌*◌, ℤ, pos}
use Rattle.laws.specs.Tables.{tabulate}
use Rattle.model.specs.Steps.{Step, kind_number}
use Rattle.model.specs.Tables.{JobTables, bag_tables, job_of, StateTables, state_tables}
use Rattle.model.specs.Cases.{loose_tables, job_e, one_box_job, away}
use Rattle.trial_rules.specs.Rounds.{is_preference, trial, idle_rounds}
use Rattle.trial_rules.specs.Trial.{tried, refused, TrialOutcome, trial_outcome, tried_on}

-- The steps of each round, by kind, first box and second box as one number.
abbrev pub shown : List (List Step) → List (List ℕ)
shown rs = map (λ r. map (λ x. kind_number x.kind * 100 + x.first * 10 + x.second) r) rs

-- The six kinds by their numbers,
abbrev pub ascending : List ℕ
ascending = 1 ∷ 2 ∷ 3 ∷ 4 ∷ 5 ∷ 6 ∷ []

-- and the other way round.
abbrev pub descending : List ℕ
descending = 6 ∷ 5 ∷ 4 ∷ 3 ∷ 2 ∷ 1 ∷ []

-- A list that is none: a kind is there twice.
abbrev pub twice : List ℕ
twice = 6 ∷ 5 ∷ 4 ∷ 3 ∷ 2 ∷ 2 ∷ []

-- K 2, an offer of box 0, its one tally in box 1, a grocer of box 1.
abbrev pub once_away : JobTables
once_away = away 1 (0 ∷ []) (1 ∷ []) (0 ∷ []) (pos 1 ∷ [])

-- The same with a second price list,
abbrev pub away_lists : JobTables
away_lists = bag_tables 2 1 1 1 1 (10 ∷ 20 ∷ []) (0 ∷ []) (1 ∷ []) (0 ∷ []) (1 ∷ []) (0 ∷ []) (pos 3 ∷ []) (0 ∷ []) (0 ∷ [])

-- with an owner out of range,
abbrev pub away_out : JobTables
away_out = bag_tables 2 1 1 1 0 (10 ∷ []) (2 ∷ []) (1 ∷ []) (0 ∷ []) (1 ∷ []) (0 ∷ []) (pos 3 ∷ []) (0 ∷ []) (0 ∷ [])

-- and with one bag counted twice as one revision.
abbrev pub away_twice : JobTables
away_twice =
    bag_tables 2 1 1 2 0 (10 ∷ []) (0 ∷ []) (1 ∷ []) (0 ∷ 0 ∷ []) (1 ∷ 1 ∷ []) (0 ∷ 0 ∷ []) (pos 3 ∷ pos 3 ∷ []) (7 ∷ 7 ∷ []) (1 ∷ 1 ∷ [])

-- K 3, an offer and a grocer of box 0, tallies in boxes 1 and 2.
abbrev pub three_boxes : JobTables
three_boxes = loose_tables 3 1 1 2 (10 ∷ []) (0 ∷ []) (0 ∷ []) (0 ∷ 0 ∷ []) (1 ∷ 2 ∷ []) (0 ∷ 0 ∷ []) (pos 1 ∷ pos 1 ∷ [])

-- Buffers for `once_away`, with packed tables of these words; what they hold is out of every range.
abbrev pub buffers : List ℤ → StateTables
buffers totals = state_tables (99_999_999 ∷ 7 ∷ []) (7 ∷ 7 ∷ []) totals totals (pos 7 ∷ []) (tabulate 24 (λ i. 7)) (7 ∷ 7 ∷ [])

-- The marks of its six steps.
abbrev pub marks_away : List ℕ
marks_away = 0 ∷ 1 ∷ 0 ∷ 0 ∷ 1 ∷ 0 ∷ 0 ∷ 1 ∷ 0 ∷ 0 ∷ 1 ∷ 0 ∷ 0 ∷ 0 ∷ 0 ∷ 0 ∷ 1 ∷ 0 ∷ 0 ∷ 1 ∷ 0 ∷ 0 ∷ 0 ∷ 0 ∷ []

-- What a trial of it with the kinds descending gives in these buffers.
abbrev pub tried_away : List ℕ → List ℕ → TrialOutcome
tried_away idle picked =
    trial_outcome (tried 5) (state_tables (9_999_999 ∷ 9_999_999 ∷ []) (0 ∷ 0 ∷ []) (pos 0 ∷ []) (pos 0 ∷ []) (pos 9_999_999 ∷ []) marks_away (1 ∷ 7 ∷ []))
    idle picked

-- The examples.
pub record TrialCases : Type 0 where
  -- E by kind: five rounds, and no box is ever idle.
  pub e_ascending : shown (trial (job_of job_e) ascending)
      ≡ (101 ∷ 110 ∷ []) ∷ (200 ∷ 211 ∷ []) ∷ (301 ∷ 310 ∷ []) ∷ (401 ∷ 511 ∷ []) ∷ (500 ∷ 610 ∷ []) ∷ []
  -- The other way round seven: part totals of box 0 leave early (02 §6), and each box is idle twice.
  pub e_descending : shown (trial (job_of job_e) descending)
      ≡ (200 ∷ 211 ∷ []) ∷ (401 ∷ 110 ∷ []) ∷ (301 ∷ 610 ∷ []) ∷ (500 ∷ []) ∷ (101 ∷ []) ∷ (310 ∷ []) ∷ (511 ∷ []) ∷ []
  -- A step that another box makes ready in a round is taken in the next: box 1 receives a round after box 0 has sent.
  pub next_round : shown (trial (job_of once_away) (2 ∷ 5 ∷ 1 ∷ 3 ∷ 4 ∷ 6 ∷ []))
      ≡ (200 ∷ 211 ∷ []) ∷ (500 ∷ []) ∷ (101 ∷ []) ∷ (310 ∷ []) ∷ (511 ∷ []) ∷ []
  -- In that round it takes another: one of those that it had ready when the round began, though it likes to receive better.
  pub ready_then : shown (trial (job_of once_away) (1 ∷ 3 ∷ 2 ∷ 4 ∷ 5 ∷ 6 ∷ [])) ≡ (101 ∷ 211 ∷ []) ∷ (200 ∷ 310 ∷ []) ∷ (500 ∷ 511 ∷ []) ∷ []
  -- Of one kind the lower second box goes first; boxes 1 and 2 have finished before the last two rounds and count as idle.
  pub second_box : shown (trial (job_of three_boxes) ascending)
      ≡ (101 ∷ 211 ∷ 222 ∷ []) ∷ (102 ∷ 310 ∷ 522 ∷ []) ∷ (200 ∷ 410 ∷ 320 ∷ []) ∷ (500 ∷ 511 ∷ 420 ∷ []) ∷ (601 ∷ []) ∷ (602 ∷ []) ∷ []
  pub finished_idle : map (λ b. idle_rounds b (trial (job_of three_boxes) ascending)) (0 ∷ 1 ∷ 2 ∷ []) ≡ 0 ∷ 2 ∷ 2 ∷ []
  -- One box: a step a round, and it is never idle. No tally: two rounds.
  pub one_box_lem : shown (trial (job_of one_box_job) descending) ≡ (200 ∷ []) ∷ (500 ∷ []) ∷ []
  pub quiet : shown (trial (job_of (away 0 [] [] [] [])) descending) ≡ (500 ∷ 511 ∷ []) ∷ (200 ∷ 211 ∷ []) ∷ []
  -- Preference lists: the first six words count, each of 1 to 6 once.
  pub longer : is_preference (6 ∷ 5 ∷ 4 ∷ 3 ∷ 2 ∷ 1 ∷ 1 ∷ []) ≡ true
  pub six_alone : is_preference (1 ∷ 1 ∷ 3 ∷ 4 ∷ 5 ∷ 6 ∷ 2 ∷ []) ≡ false
  pub kind_0 : is_preference (0 ∷ 1 ∷ 2 ∷ 3 ∷ 4 ∷ 5 ∷ []) ≡ false
  pub kind_7 : is_preference (2 ∷ 3 ∷ 4 ∷ 5 ∷ 6 ∷ 7 ∷ []) ≡ false
  -- The call, whatever its buffers held and whatever stands past the sixth preference: the words of idle rounds past the K stay, and so do those
  -- past the steps; a short buffer for places gets the first ones.
  pub call : tried_on once_away (buffers (pos 7 ∷ [])) (6 ∷ 5 ∷ 4 ∷ 3 ∷ 2 ∷ 1 ∷ 9 ∷ []) (9 ∷ 9 ∷ 9 ∷ []) (tabulate 8 (λ i. 99))
      ≡ tried_away (2 ∷ 2 ∷ 9 ∷ []) (16 ∷ 7 ∷ 4 ∷ 1 ∷ 10 ∷ 19 ∷ 99 ∷ 99 ∷ [])
  pub short_places : tried_on once_away (buffers (pos 7 ∷ [])) descending (9 ∷ 9 ∷ []) (99 ∷ 99 ∷ []) ≡ tried_away (2 ∷ 2 ∷ []) (16 ∷ 7 ∷ [])
  pub no_places : tried_on once_away (buffers (pos 7 ∷ [])) descending (9 ∷ 9 ∷ []) [] ≡ tried_away (2 ∷ 2 ∷ []) []
  -- Two price lists: an amount for each, in the same rounds.
  pub lists : tried_on away_lists (state_tables (7 ∷ 7 ∷ 7 ∷ 7 ∷ []) (7 ∷ 7 ∷ 7 ∷ 7 ∷ []) (pos 7 ∷ pos 7 ∷ []) (pos 7 ∷ pos 7 ∷ []) (pos 7 ∷ pos 7 ∷ [])
      (tabulate 24 (λ i. 7)) (7 ∷ [])) descending (9 ∷ 9 ∷ []) []
      ≡ trial_outcome (tried 5) (state_tables (10 ∷ 20 ∷ 10 ∷ 20 ∷ []) (0 ∷ 0 ∷ 0 ∷ 0 ∷ []) (pos 0 ∷ pos 0 ∷ []) (pos 0 ∷ pos 0 ∷ []) (pos 30 ∷ pos 60 ∷ [])
      marks_away (2 ∷ [])) (2 ∷ 2 ∷ []) []
  -- 33 changes no word; it comes after 21, 9 and 20 on the packed tables.
  pub call_33 : tried_on once_away (buffers (pos 7 ∷ [])) twice (9 ∷ 9 ∷ []) (99 ∷ []) ≡ trial_outcome (refused 33) (buffers (pos 7 ∷ [])) (9 ∷ 9 ∷ [])
      (99 ∷ [])
  pub call_21 : (tried_on away_out (buffers []) twice (9 ∷ 9 ∷ []) []).answer ≡ refused 21
  pub call_9 : (tried_on away_twice (buffers []) twice (9 ∷ 9 ∷ []) []).answer ≡ refused 9
  pub packed_20 : (tried_on once_away (buffers []) twice (9 ∷ 9 ∷ []) []).answer ≡ refused 20
  -- 20 comes first: a preference list of five words, or fewer words of idle rounds than boxes.
  pub short_list : (tried_on away_out (buffers []) (6 ∷ 5 ∷ 4 ∷ 3 ∷ 2 ∷ []) (9 ∷ 9 ∷ []) []).answer ≡ refused 20
  pub short_idle : (tried_on away_out (buffers []) descending (9 ∷ []) []).answer ≡ refused 20
  pub short_state : (tried_on away_out (state_tables [] [] [] [] [] [] []) descending (9 ∷ 9 ∷ []) []).answer ≡ refused 20
