-- Kinds 1 to 3: what the parts of the refusal ask and tell, from what those before them told. Assumes nothing.
use mathlib.Core.Path.{◌≡◌, refl, sym, ◌∙◌}
use mathlib.Core.Bool.{Bool, cond}
use mathlib.Core.List.{List}
use Prim.Native.Nat.{ℕ, suc, ◌<◌, ◌≤◌}
use native.Mathlib.Decide.{ℕ_discrete}
use native.Mathlib.Nat.{le_trans}
use native.Mathlib.Omega.{arith}
use lib.Dec.{eqb, leb}
use lib.ListN.{length, replicate}
use borrow.Author.Tests.{leb-true, eq-eqb, ne_eqb}
use Rattle.laws.specs.Checks.{first_met}
use Rattle.laws.specs.Listed.{Listed}
use Rattle.laws.specs.Tables.{tabulate}
use Rattle.laws.proofs.Bools.{and_l}
use Rattle.laws.proofs.Listed.{listed_as}
use Rattle.model.specs.Job.{need_word, price_word}
use Rattle.model.specs.Tables.{JobTables, job_of, StateTables, steps_done}
use Rattle.model.specs.Step.{Asked, is_kind, step_refusal}
use Rattle.step_places.specs.Message.{word_in}
use Rattle.step_rules.specs.Rules.{ReceiversOf, WaitsOf}
use Rattle.job_masks.specs.Masks.{Placed, Owned, by_owner, holder_word}
use Rattle.book_keys.specs.Keys.{TalliesIn}
use Rattle.book_places.specs.Spots.{BoxIn}
use Rattle.step_apply.specs.Apply.{Spots, Applies, prices_of}
use Rattle.step_checks.specs.Request.{rules_by}
use Rattle.step_checks.specs.Fits.{BoxSpan, PriceFitsIn, price_fits}
use Rattle.step_refusal.specs.Late.{Held, Tested, Decided, OwnPlaces}
use Rattle.model.proofs.Step.{job_in_lem, range}
use Rattle.step_waits.proofs.Told.{receivers_of}
use Rattle.job_masks.proofs.Holders.{need_words}
use Rattle.job_masks.proofs.InJob.{placed_offers, owned_offers}
use Rattle.step_prices.proofs.Effect.{prices_due_lem}
use Rattle.step_totals.proofs.Effect.{tallies_of}
use Rattle.step_apply.proofs.Found.{spots_found, box_found}
use Rattle.step_checks.proofs.Finished.{price_fits_in, late_prices}
use Rattle.step_refusal.proofs.Refused.{box_in, tallies-placed}
use Rattle.step_refusal.proofs.Later.{kind_boxes, boxes_below, later_met, applies, verdict}
use Rattle.step_refusal.proofs.Base.{stand, handed, sharers_are, in_hand, whole_job, by_later}

-- Kind 1 lists by one test, kind 3 by another.
by_kind : (k : ℕ) (u v : ℕ → Bool) (m t : ℕ) (l : List ℕ) → Dec (k ≡ 1) → (k ≡ 1 → Listed m u 0 t l) → ((k ≡ 1 → ⊥) → Listed m v 0 t l) → Listed m (cond (eqb k 1) u v) 0 t l
by_kind k u v m t l (yes z) f g = rw (eq-eqb k 1 z) (f z)
by_kind k u v m t l (no z) f g = rw (ne_eqb k 1 z) (g z)

module _ (f : JobTables) (t : StateTables) (standing sharers : List ℕ) (tested : Tested f t standing sharers 0) where
  abbrev g : JobTables
  g = handed f t standing sharers tested

  abbrev hand : Held g t
  hand = in_hand f t standing sharers tested

  pub offers_placed : Placed f.boxes f.tallies 500 standing f.tally_offer
  offers_placed = placed_offers g hand.job_in_lem (whole_job f t standing sharers tested)

  -- With the need words, conditions 22 to 26 are told.
  module _ (q : Asked) (few : q.kind ≤ 3) (needs : List ℕ) (needing : needs ≡ tabulate 500 (holder_word f.boxes f.tallies standing f.tally_offer)) where
    needs_are : needs ≡ tabulate 500 (need_word (job_of g))
    needs_are = needing ∙ need_words g refl

    pub offers_owned : Owned f.offers f.offer_owner needs
    offers_owned = owned_offers g hand.job_in_lem (whole_job f t standing sharers tested) needs _ needs_are

    receivers_are : ReceiversOf (job_of g) (by_owner f.offers f.offer_owner needs)
    receivers_are = receivers_of g hand.job_in_lem needs needs_are _ refl

    no_waits : 4 ≤ q.kind → WaitsOf (job_of g) (replicate 16 (replicate 16 0))
    no_waits m = absurd (omega arith)

    module _ (r : ℕ) (asked : r ≡ first_met (rules_by f.boxes (by_owner f.offers f.offer_owner needs) (replicate 16 (replicate 16 0)) (steps_done f.boxes t.done) q)) where
      pub asked_met : 0 < r → r ≡ step_refusal f t q
      asked_met some = by_later f t standing sharers tested q r (later_met g t hand _ _ q (λ _. receivers_are) no_waits r asked (λ z. omega arith))

      -- None of these is met either: the step has boxes of the job.
      module _ (z : r ≡ 0) where
        below : (q.first < f.boxes) × (q.second < f.boxes)
        below = boxes_below g t hand _ _ q (λ _. receivers_are) no_waits r asked z

        pub first_box : BoxIn f.boxes f.grocers q.first f.grocer_owner sharers
        first_box = box_in g hand.job_in_lem (whole_job f t standing sharers tested) sharers (sharers_are f t standing sharers tested) q.first below.0

        pub tallies_in : TalliesIn standing f.tally_grocer f.tallies
        tallies_in = tallies-placed g hand.job_in_lem (whole_job f t standing sharers tested) sharers (sharers_are f t standing sharers tested)

        pub offers_bound : (room : ℕ) → 500 ≤ room → (f.offers ≤ 500) × ((f.offers ≤ length f.offer_owner) × (f.offers ≤ room))
        offers_bound room h = let w = job_in_lem g hand.job_in_lem.inside in (w.offers≤, ((whole_job f t standing sharers tested).offer_owner, le_trans w.offers≤ h))

        pub boxes_bound : (q.first < 16) × (q.second < 16)
        boxes_bound = let w = job_in_lem g hand.job_in_lem.inside in (le_trans below.0 w.boxes≤, le_trans below.1 w.boxes≤)

        kind_from : 1 ≤ q.kind
        unfolding is_kind
        kind_from = leb-true 1 q.kind (and_l (leb 1 q.kind) (leb q.kind 6) (kind_boxes g t hand _ _ q (λ _. receivers_are) no_waits r asked z).0)

        -- With the places of the first box's tallies and the offers of the message the late test is told.
        module _ (before places : List ℕ) (from to : ℕ)
            (own : 2 ≤ q.kind → OwnPlaces f.boxes f.grocers f.grocer_owner sharers q.first f.tallies standing f.tally_grocer before from to places)
            (n : ℕ) (offers : List ℕ) (sends : q.kind ≡ 1 → Listed f.offers (word_in f.offer_owner needs q.first q.second) 0 n offers)
            (receives : q.kind ≡ 3 → Listed f.offers (word_in f.offer_owner needs q.second q.first) 0 n offers) where
          spots : 2 ≤ q.kind → Spots g q.first places
          spots two =
              let j = hand.job_in_lem in
              spots_found g j.bare (range g j.inside) (job_in_lem g j.inside).grocers≤ sharers (sharers_are f t standing sharers tested) _ _ _ below.0 (own two).long (own two).places_are

          spanned : 2 ≤ q.kind → BoxSpan (job_of g) q.first from to
          spanned two =
              let j = hand.job_in_lem in
              let b = box_found g j.bare (range g j.inside) (job_in_lem g j.inside).grocers≤ sharers (sharers_are f t standing sharers tested) _ _ _ below.0 (own two).from_is (own two).to_is in
              record { from_is = b.0; to_is = b.1 }

          due : (a b : ℕ) → b < f.boxes → (o : ℕ) → o < f.offers → word_in f.offer_owner needs a b o ≡ price_word (job_of g) a b o
          due a b l = let w = job_in_lem g hand.job_in_lem.inside in prices_due_lem g needs a b l w.boxes≤ w.offers≤ needs_are

          offers_are : (q.kind ≡ 2 → ⊥) → Listed f.offers (prices_of (job_of g) q.kind q.first q.second) 0 n offers
          unfolding prices_of
          offers_are other =
              by_kind q.kind _ _ _ _ _ (ℕ_discrete q.kind 1)
              (λ e. listed_as _ _ _ 0 _ offers (due q.first q.second below.1) (sends e))
              (λ e. listed_as _ _ _ 0 _ offers (due q.second q.first below.0) (receives (omega (arith, e, kind_from, few, other))))

          applied : Applies g t places 0 n offers q
          applied =
              applies g t hand _ _ q (λ _. receivers_are) no_waits r asked z _ _ _ _
              (λ _. offers_are) (λ two _. spots two) (λ m. absurd (omega arith))

          pub fits_in : n ≤ f.offers → PriceFitsIn (tallies_of g places) f.lists from to n t.known t.price_transit t.working t.sent q.kind q.first q.second
          fits_in most = price_fits_in g t _ _ _ _ q applied _ _ _ few spanned most

          module _ (v : Bool) (ev : v ≡ price_fits (tallies_of g places) (suc f.lists) from to n t.known t.price_transit t.working t.sent q.kind q.first q.second)
              (m : ℕ) (late : m ≡ cond v 0 21) where
            pub late_met : m ≡ step_refusal f t q
            late_met =
                late ∙ by_later f t standing sharers tested q _
                (verdict g t hand _ _ q (λ _. receivers_are) no_waits r asked z v (ev ∙ late_prices g t _ _ _ _ q applied _ _ _ few spanned (omega arith)))

            pub none_met : m ≡ 0 → Decided f t q places 0 n offers standing 0
            none_met e = record { number_is = sym e ∙ late_met; standing_are = λ _. stand f t standing sharers tested; applies = λ _. applied }
