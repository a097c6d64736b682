-- Kinds 4 to 6: what the parts of the refusal ask and tell, from what those before them told. Assumes nothing.
use mathlib.Core.Path.{◌≡◌, refl, sym, ap, ap₂, ◌∙◌}
use mathlib.Core.Bool.{Bool, cond}
use mathlib.Core.List.{List, []}
use Prim.Native.Nat.{ℕ, suc, ◌+◌, ◌<◌, ◌≤◌}
use native.Mathlib.Omega.{arith}
use native.Mathlib.Nat.{le_trans}
use lib.ListN.{length, replicate}
use Rattle.laws.specs.Checks.{first_met}
use Rattle.laws.proofs.Tables.{length_tabulate}
use Rattle.model.specs.Tables.{JobTables, job_of, StateTables, steps_done}
use Rattle.model.specs.Step.{Asked, step_refusal}
use Rattle.step_apply.specs.Apply.{span_box, span_group, SpanOf, Applies}
use Rattle.step_packed.specs.Fits.{total_fits, TotalFitsIn}
use Rattle.step_checks.specs.Request.{rules_by}
use Rattle.step_refusal.specs.Late.{Held, Tested, Decided}
use Rattle.step_rules.specs.Rules.{ReceiversOf, WaitsOf}
use Rattle.step_waits.specs.Waits.{tally_lists, wait_table, WaitsIn}
use Rattle.book_places.specs.Spots.{BoxIn, list_by, start_by, group_by, put_at}
use Rattle.model.proofs.Step.{job_in_lem, range}
use Rattle.model.proofs.Spans.{length_most}
use Rattle.step_waits.proofs.Told.{waits_of, waits_in}
use Rattle.step_checks.proofs.Finished.{total_fits_in, late_totals}
use Rattle.step_apply.proofs.Found.{box_found, span_found, spans_in}
use Rattle.step_refusal.proofs.Refused.{box_in}
use Rattle.step_refusal.proofs.Later.{boxes_below, later_met, applies, verdict}
use Rattle.step_refusal.proofs.Base.{stand, handed, sharers_are, in_hand, whole_job, by_later}

module _ (f : JobTables) (t : StateTables) (standing sharers : List ℕ) (tested : Tested f t standing sharers 0) where
  abbrev g : JobTables
  g = handed f t standing sharers tested

  abbrev hand : Held g t
  hand = in_hand f t standing sharers tested

  abbrev table : List (List ℕ)
  table = wait_table f.boxes (tally_lists f.offer_owner f.grocer_owner f.tally_grocer standing f.tally_offer) f.tallies

  pub waits_asked : WaitsIn f.boxes f.tallies (tally_lists f.offer_owner f.grocer_owner f.tally_grocer standing f.tally_offer)
  waits_asked = waits_in g hand.job_in_lem (whole_job f t standing sharers tested)

  pub few_grocers : f.grocers ≤ 255
  few_grocers = (job_in_lem g hand.job_in_lem.inside).grocers≤

  pub sharers_long : 255 ≡ length sharers
  sharers_long = sym (ap length (sharers_are f t standing sharers tested) ∙ length_tabulate 255 _)

  -- Conditions 22 to 26 are told.
  module _ (q : Asked) (many : 4 ≤ q.kind) (r : ℕ) (asked : r ≡ first_met (rules_by f.boxes (replicate 16 0) table (steps_done f.boxes t.done) q)) where
    waits_are : WaitsOf (job_of g) table
    waits_are = waits_of g hand.job_in_lem _ refl

    no_receivers : q.kind ≤ 3 → ReceiversOf (job_of g) (replicate 16 0)
    no_receivers m = absurd (omega arith)

    pub asked_met : 0 < r → r ≡ step_refusal f t q
    asked_met some = by_later f t standing sharers tested q r (later_met g t hand _ _ q no_receivers (λ _. waits_are) r asked (λ z. omega arith))

    -- None of these is met either: the step has boxes of the job, and a span.
    module _ (z : r ≡ 0) where
      below : (q.first < f.boxes) × (q.second < f.boxes)
      below = boxes_below g t hand _ _ q no_receivers (λ _. waits_are) r asked z

      module _ (b c : ℕ) (box_is : b ≡ span_box q.kind q.first q.second) (group_is : c ≡ span_group q.kind q.first q.second) where
        box_below : b < f.boxes
        box_below = omega (arith, box_is, (spans_in g q.kind q.first q.second below.0 below.1).0)

        pub span_in : BoxIn f.boxes f.grocers b f.grocer_owner sharers × (c ≤ f.boxes)
        span_in = (
          box_in g hand.job_in_lem (whole_job f t standing sharers tested) sharers (sharers_are f t standing sharers tested) b box_below,
          omega (arith, group_is, (spans_in g q.kind q.first q.second below.0 below.1).1),
        )

        pub span_room : (room : ℕ) → 1_255 ≤ room → start_by f.grocers f.grocer_owner sharers b + length (list_by f.boxes f.grocers f.grocer_owner sharers b) ≤ room
        unfolding job_of
        span_room room h =
            let j = hand.job_in_lem in
            let r = range g j.inside in
            let n = job_in_lem g j.inside in
            le_trans (box_found g j.bare r few_grocers sharers (sharers_are f t standing sharers tested) b _ _ box_below refl refl).2
            (omega (arith, length_most (job_of g) r, n.grocers≤, n.tallies≤))

        module _ (from to : ℕ) (before grocers : List ℕ) (room : 1_255 ≤ length before)
            (from_is : from ≡ group_by f.boxes f.grocers f.grocer_owner sharers b c) (to_is : to ≡ group_by f.boxes f.grocers f.grocer_owner sharers b (c + 1))
            (put : grocers ≡ put_at (list_by f.boxes f.grocers f.grocer_owner sharers b) (length (list_by f.boxes f.grocers f.grocer_owner sharers b))
            (start_by f.grocers f.grocer_owner sharers b) before) where
          span_is : SpanOf (job_of g) q.kind q.first q.second from to grocers
          unfolding job_of
          span_is =
              let j = hand.job_in_lem in
              let r = range g j.inside in
              let n = job_in_lem g j.inside in
              let own = f.grocer_owner in
              span_found g j.bare r few_grocers sharers (sharers_are f t standing sharers tested) q.kind q.first q.second _ _ _ _ below.0 below.1
              (omega (arith, length_most (job_of g) r, n.grocers≤, n.tallies≤, room))
              (from_is ∙ ap₂ (λ (b c : ℕ). group_by f.boxes f.grocers own sharers b c) box_is group_is)
              (to_is ∙ ap₂ (λ (b c : ℕ). group_by f.boxes f.grocers own sharers b (c + 1)) box_is group_is)
              (put ∙ ap (λ (b : ℕ). put_at (list_by f.boxes f.grocers own sharers b) (length (list_by f.boxes f.grocers own sharers b)) (start_by f.grocers own sharers b) before) box_is)

          applied : Applies g t [] from to grocers q
          applied =
              applies g t hand _ _ q no_receivers (λ _. waits_are) r asked z [] _ _ _
              (λ m _. absurd (omega arith)) (λ _ m. absurd (omega arith)) (λ _. span_is)

          pub fits_in : TotalFitsIn from to (suc f.lists) grocers t.working t.total_transit t.statement t.sent q.kind
          fits_in = total_fits_in g t _ _ _ _ q applied many

          module _ (v : Bool) (ev : v ≡ total_fits from to (suc f.lists) grocers t.working t.total_transit t.statement t.sent q.kind) (m : ℕ) (late : m ≡ cond v 0 21) where
            pub late_met : m ≡ step_refusal f t q
            late_met =
                late ∙ by_later f t standing sharers tested q _
                (verdict g t hand _ _ q no_receivers (λ _. waits_are) r asked z v (ev ∙ late_totals g t _ _ _ _ q applied many))

            pub none_met : m ≡ 0 → Decided f t q [] from to grocers standing 0
            none_met e = record { number_is = sym e ∙ late_met; standing_are = λ _. stand f t standing sharers tested; applies = λ _. applied }
