-- What the tests of the tables ask and tell, from what those before them told. Assumes nothing.
use mathlib.Core.Path.{◌≡◌, refl, sym, ap, ◌∙◌}
use mathlib.Core.Bool.{◌&&◌, ◌||◌, not}
use mathlib.Core.List.{List, [], ◌∷◌}
use Prim.Native.Nat.{ℕ, suc, ◌*◌, ◌<◌, ◌≤◌}
use native.Mathlib.Omega.{arith}
use lib.Dec.{ltb}
use lib.ListN.{length}
use Rattle.laws.specs.Checks.{first_met}
use Rattle.laws.specs.Limits.{max_amount}
use Rattle.laws.specs.Tables.{tabulate}
use Rattle.model.specs.Job.{sharer_word}
use Rattle.model.specs.PackedTotals.{totals_length}
use Rattle.model.specs.Ranges.{around}
use Rattle.model.specs.Tables.{JobTables, job_of, evening_of, StateTables}
use Rattle.model.specs.Handed.{handed_tables, Standing, Handed}
use Rattle.job_masks.specs.Masks.{Placed, holder_word}
use Rattle.book_places.specs.Spots.{CountIn, start_by}
use Rattle.step_refusal.specs.Late.{early_rules, table_rules, Early, Tested}
use Rattle.model.proofs.Handed.{handed_evening}
use Rattle.model.proofs.ListTotals.{list_totals_lem}
use Rattle.model.proofs.Step.{job_in_lem, range}
use Rattle.model.proofs.Whole.{JobWhole, job_whole}
use Rattle.job_masks.proofs.Holders.{sharer_words}
use Rattle.job_masks.proofs.InJob.{placed_grocers}
use Rattle.book_places.proofs.Joined.{length_model}
use Rattle.step_refusal.proofs.Refused.{tested_early, tested_packed, job_handed, job_whole_at, packed_told, count_in}

-- One of the first three conditions is met: it is the answer.
pub early_met : (f : JobTables) (t : StateTables) (standing : List ℕ) (r : ℕ) → Early f t standing r → 0 < r → r ≡ first_met (table_rules f t)
early_met f t standing r e some = tested_early f t r e.number_is (λ z. omega arith)

-- None of them is: the boxes of the tallies that stand are told.
module _ (f : JobTables) (t : StateTables) (standing : List ℕ) (early : Early f t standing 0) where
  none_early : first_met (early_rules f t) ≡ 0
  none_early = sym early.number_is

  stand : Standing f standing
  stand = early.standing_are refl

  abbrev handed : JobTables
  handed = handed_tables f standing

  in_hand : Handed handed
  in_hand = job_handed f t none_early standing stand

  whole : JobWhole handed
  whole = job_whole handed (job_whole_at f t none_early standing stand)

  pub grocers_placed : Placed f.boxes f.tallies 255 standing f.tally_grocer
  grocers_placed = placed_grocers handed in_hand whole

  pub few_grocers : f.grocers ≤ 255
  few_grocers = (job_in_lem handed in_hand.inside).grocers≤

  pub few_lists : f.lists ≤ 7
  few_lists = (job_in_lem handed in_hand.inside).lists≤

  -- With the sharer words the packed length is told.
  module _ (sharers : List ℕ) (sharing : sharers ≡ tabulate 255 (holder_word f.boxes f.tallies standing f.tally_grocer)) where
    sharers_are : sharers ≡ tabulate 255 (sharer_word (job_of handed))
    sharers_are = sharing ∙ sharer_words handed refl

    pub grocers_counted : CountIn f.grocers f.grocer_owner sharers × (f.boxes ≤ 16)
    grocers_counted = (count_in handed in_hand whole sharers sharers_are, (job_in_lem handed in_hand.inside).boxes≤)

    packed_is : start_by f.grocers f.grocer_owner sharers f.boxes * suc f.lists ≡ totals_length (evening_of f)
    packed_is =
        ap (λ (n : ℕ). n * suc f.lists) (length_model handed in_hand.bare (range handed in_hand.inside) few_grocers sharers sharers_are)
        ∙ sym (list_totals_lem handed).packed_length
        ∙ ap totals_length (handed_evening f standing stand)

    -- So the packed tables decide.
    module _ (words r : ℕ) (words_are : words ≡ start_by f.grocers f.grocer_owner sharers f.boxes * suc f.lists)
        (packed : r ≡ first_met ((ltb (length t.working) words || ltb (length t.total_transit) words, 20)
        ∷ (not (around max_amount words t.working && around max_amount words t.total_transit), 21) ∷ [])) where
      pub packed_met : r ≡ first_met (table_rules f t)
      packed_met = packed ∙ packed_told (evening_of f) t words (words_are ∙ packed_is) ∙ sym (tested_packed f t none_early)

      pub none_met : r ≡ 0 → Tested f t standing sharers 0
      none_met z = record { number_is = sym z ∙ packed_met; standing_are = λ _. stand; sharers_are = λ _. sharers_are }
