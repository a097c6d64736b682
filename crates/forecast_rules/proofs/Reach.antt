-- Every state that a list of requests leaves has the closed form. Assumes nothing.
use mathlib.Core.Path.{◌≡◌, sym, ap, ◌∙◌}
use Prim.Native.Nat.{ℕ}
use Rattle.forecast_rules.specs.Lines.{Forecast}
use Rattle.forecast_rules.specs.Steps.{Kind, Steps, State, mark, has_step, fresh, effect}
use Rattle.forecast_rules.specs.Boxes.{state_by_rules, Closed, Sound}
use Rattle.forecast_rules.specs.Evening.{AllDone}
use Rattle.model.proofs.Range.{InRange}
use Rattle.forecast_rules.proofs.Machine.{rules, Permit}
use Rattle.forecast_rules.proofs.Core.{fresh_form, step_form, effect_done}
use Rattle.model.proofs.Marks as M

module _ (f : Forecast) where
  closed_by : (d : Steps) → Closed f d → M.Closed (rules f) d
  closed_by d c = record { steps = c.steps; in_order = c.in_order }

  pub sound_fresh : Sound f (fresh f)
  unfolding fresh
  sound_fresh = let c = M.closed_none (rules f) in record { form = fresh_form f; closed = record { steps = c.steps; in_order = c.in_order } }

  closed_mark : (d : Steps) (k : Kind) (a b : ℕ) → Closed f d → Permit f d k a b → Closed f (mark d k a b)
  unfolding mark
  closed_mark d k a b c p = let z = M.closed_mark (rules f) d k a b (closed_by d c) p.has p.is_ready in record { steps = z.steps; in_order = z.in_order }

  pub sound_effect : InRange f.job → (s : State) (k : Kind) (a b : ℕ) → Sound f s → Permit f s.done k a b → Sound f (effect f s k a b)
  sound_effect r s k a b o p = record {
    form = ap (λ (t : State). effect f t k a b) o.form ∙ step_form f r s.done o.closed k a b p ∙ ap (state_by_rules f) (sym (effect_done f s k a b));
    closed = rw (effect_done f s k a b) (closed_mark s.done k a b o.closed p);
  }

  -- A finished set is the forecast's steps.
  pub all_steps : (d : Steps) → Closed f d → AllDone f d → d ≡ has_step f
  unfolding AllDone
  all_steps d c h = M.all_steps (rules f) d (closed_by d c) h
