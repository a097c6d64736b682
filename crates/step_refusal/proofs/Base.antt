-- What is known where no condition on the tables is met. Assumes nothing.
use mathlib.Core.Path.{◌≡◌, refl, sym}
use mathlib.Core.List.{List}
use Prim.Native.Nat.{ℕ, ◌*◌, ◌<◌, ◌≤◌}
use native.Mathlib.Omega.{arith}
use lib.ListN.{length}
use Rattle.laws.specs.Checks.{first_met}
use Rattle.laws.specs.Tables.{tabulate}
use Rattle.model.specs.Job.{sharer_word}
use Rattle.model.specs.Tables.{JobTables, job_of, StateTables}
use Rattle.model.specs.Step.{Asked, step_refusal}
use Rattle.model.specs.Handed.{handed_tables, Standing}
use Rattle.step_refusal.specs.Late.{table_rules, later_rules, Held, Tested}
use Rattle.model.proofs.Step.{job_in_lem}
use Rattle.model.proofs.Whole.{JobWhole}
use Rattle.step_refusal.proofs.Refused.{answer_tested, held, answer_later}
use Rattle.step_refusal.proofs.Later.{whole, whole_state, few_boxes}

-- One of the conditions on the tables is met: it is the answer.
pub tables_met : (f : JobTables) (t : StateTables) (q : Asked) (r : ℕ) → r ≡ first_met (table_rules f t) → 0 < r → r ≡ step_refusal f t q
tables_met f t q r e some = answer_tested f t q r e (λ z. omega arith)

-- None of them is.
module _ (f : JobTables) (t : StateTables) (standing sharers : List ℕ) (tested : Tested f t standing sharers 0) where
  none_tested : first_met (table_rules f t) ≡ 0
  none_tested = sym tested.number_is

  pub stand : Standing f standing
  stand = tested.standing_are refl

  -- The tables with the boxes of the tallies that stand.
  abbrev pub handed : JobTables
  handed = handed_tables f standing

  pub sharers_are : sharers ≡ tabulate 255 (sharer_word (job_of handed))
  sharers_are = tested.sharers_are refl

  pub in_hand : Held handed t
  in_hand = held f t none_tested standing stand

  pub whole_job : JobWhole handed
  whole_job = whole handed t in_hand

  pub marks_bound : (f.boxes ≤ 16) × (6 * f.boxes * f.boxes ≤ length t.done)
  marks_bound = (few_boxes handed t in_hand, (whole_state handed t in_hand).done)

  pub few_lists : f.lists ≤ 7
  few_lists = (job_in_lem handed in_hand.job_in_lem.inside).lists≤

  -- The later conditions decide.
  pub by_later : (q : Asked) (n : ℕ) → n ≡ first_met (later_rules handed t q) → n ≡ step_refusal f t q
  by_later q n l = answer_later f t none_tested standing stand q n l
