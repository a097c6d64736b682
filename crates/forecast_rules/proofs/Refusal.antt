-- No refusal, number 0, is met just where the step that is asked for is permitted. Assumes nothing.
use mathlib.Core.Path.{◌≡◌, refl, sym, ap, ◌∙◌}
use mathlib.Core.Bool.{Bool, true, false, cond, ◌&&◌, not, false≢true}
use mathlib.Core.List.{[], ◌∷◌, ◌++◌}
use Prim.Native.Nat.{ℕ}
use lib.Dec.{eqb, ltb}
use borrow.Author.Tests.{eqb-true}
use Rattle.laws.proofs.Bools.{split, eqb_same}
use Rattle.laws.specs.Checks.{first_met}
use Rattle.model.specs.Step.{Asked, is_kind}
use Rattle.forecast_rules.specs.Lines.{Forecast}
use Rattle.forecast_rules.specs.Steps.{Kind, send_values, receive_values, add_lines, send_parts, receive_parts, sum_own, Steps, fits, has_step, ready, permitted, kind_of, one_box}
use Rattle.forecast_rules.specs.Step.{boxes_fit, step_rules}
use Rattle.model.proofs.Refusal.{no_prices_lem, no_totals_lem, first_met_lem}
use Rattle.model.proofs.Served.{then_last}

module _ (f : Forecast) where
  -- A step of two boxes that fits has two boxes.
  two_boxes : (k : Kind) (a : ℕ) → one_box k ≡ false → fits f k a a ≡ false
  unfolding one_box fits
  two_boxes send_values a h = no_prices_lem f.job a
  two_boxes receive_values a h = no_prices_lem f.job a
  two_boxes add_lines a h = absurd (false≢true (sym h))
  two_boxes send_parts a h = no_totals_lem f.job a
  two_boxes receive_parts a h = no_totals_lem f.job a
  two_boxes sum_own a h = absurd (false≢true (sym h))

  one_fits : (k : Kind) (a b : ℕ) → one_box k ≡ true → fits f k a b ≡ eqb a b
  unfolding one_box fits
  one_fits send_values a b h = absurd (false≢true h)
  one_fits receive_values a b h = absurd (false≢true h)
  one_fits add_lines a b h = refl
  one_fits send_parts a b h = absurd (false≢true h)
  one_fits receive_parts a b h = absurd (false≢true h)
  one_fits sum_own a b h = refl

  -- What fits has its boxes as the kind asks.
  fits_boxes : (k : Kind) (a b : ℕ) → (cond (one_box k) (eqb a b) (not (eqb a b)) && fits f k a b) ≡ fits f k a b
  fits_boxes k a b =
      split (one_box k)
      (λ e. rw (e, one_fits k a b e) (both (eqb a b)))
      (λ e. rw e (split (eqb a b)
      (λ h. rw (eqb-true a b h) (simp (eqb_same, two_boxes k b e)))
      (λ h. rw h)))
    where
      both : (t : Bool) → (t && t) ≡ t
      both true = refl
      both false = refl

  -- Number 0 is a permitted step.
  pub rules_zero : (d : Steps) (q : Asked) → eqb (first_met (step_rules f d q)) 0 ≡ (is_kind q.kind && permitted f d (kind_of q.kind) q.first q.second)
  unfolding step_rules first_met permitted boxes_fit has_step
  rules_zero d q =
      first_met_lem f.job (is_kind q.kind) (ltb q.first f.job.boxes) (ltb q.second f.job.boxes) (cond (one_box (kind_of q.kind)) (eqb q.first q.second) (not (eqb q.first q.second)))
      (fits f (kind_of q.kind) q.first q.second) (d (kind_of q.kind) q.first q.second) (ready f d (kind_of q.kind) q.first q.second)
      ∙ ap (λ (t : Bool). is_kind q.kind && (ltb q.first f.job.boxes && (ltb q.second f.job.boxes && t) &&
      (not (d (kind_of q.kind) q.first q.second) && ready f d (kind_of q.kind) q.first q.second))) (fits_boxes (kind_of q.kind) q.first q.second)

  -- The late 21 comes after conditions 22 to 26.
  pub rules_then : (d : Steps) (q : Asked) (c : Bool) →
      first_met (step_rules f d q ++ (c, 21) ∷ []) ≡ cond (eqb (first_met (step_rules f d q)) 0) (cond c 21 0) (first_met (step_rules f d q))
  unfolding step_rules first_met
  rules_then d q c =
      then_last (not (is_kind q.kind)) (not (boxes_fit f (kind_of q.kind) q.first q.second)) (not (fits f (kind_of q.kind) q.first q.second))
      (d (kind_of q.kind) q.first q.second) (not (ready f d (kind_of q.kind) q.first q.second)) c
