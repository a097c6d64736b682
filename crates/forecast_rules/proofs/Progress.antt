-- Until all steps are done, some step is permitted. Assumes nothing.
use mathlib.Core.Path.{◌≡◌, refl, sym, ◌∙◌}
use mathlib.Core.Bool.{true, false, ◌||◌, not, false≢true}
use Prim.Native.Nat.{ℕ}
use lib.Dec.{ltb}
use Rattle.laws.proofs.Bools.{split, and_l, and_swap, eqb_same}
use Rattle.laws.proofs.Below.{all_find}
use Rattle.model.specs.Job.{prices_due, totals_due}
use Rattle.forecast_rules.specs.Lines.{Forecast}
use Rattle.forecast_rules.specs.Steps.{Kind, send_values, receive_values, add_lines, send_parts, receive_parts, sum_own, Steps, fits, has_step, all_due, ready, permitted}
use Rattle.forecast_rules.specs.Evening.{SomeStep}

module _ (f : Forecast) (d : Steps) where
  permits : (k : Kind) (a b : ℕ) → has_step f k a b ≡ true → d k a b ≡ false → ready f d k a b ≡ true → SomeStep (permitted f d)
  unfolding permitted
  permits k a b h n y = record { kind = k; first = a; second = b; holds = simp (h, n, y) }

  -- A due step of box a that is not done is found.
  due_step : (k : Kind) (a : ℕ) → ((b : ℕ) → has_step f k a b ≡ true → d k a b ≡ false → SomeStep (permitted f d)) → all_due f d k a ≡ false → SomeStep (permitted f d)
  unfolding all_due
  due_step k a go h =
      let (b, m, n) = all_find f.job.boxes (λ c. not (has_step f k a c) || d k a c) h in
      split (has_step f k a b)
      (λ y. go b y (rw y at n))
      (λ y. absurd (false≢true (sym (rw y at n))))

  receipt : (a b : ℕ) → has_step f receive_values a b ≡ true → d receive_values a b ≡ false → SomeStep (permitted f d)
  unfolding ready has_step fits
  receipt a b h n =
      split (d send_values b a)
      (λ e. permits receive_values a b h n e)
      (λ e. permits send_values b a (and_swap (ltb b f.job.boxes) (ltb a f.job.boxes) (prices_due f.job b a) ∙ h) e refl)

  adding : (a : ℕ) → ltb a f.job.boxes ≡ true → d add_lines a a ≡ false → SomeStep (permitted f d)
  unfolding ready has_step fits
  adding a l n =
      split (all_due f d receive_values a)
      (λ e. permits add_lines a a (simp (l, eqb_same)) n e)
      (λ e. due_step receive_values a (receipt a) e)

  sending : (a b : ℕ) → has_step f send_parts a b ≡ true → d send_parts a b ≡ false → SomeStep (permitted f d)
  unfolding ready has_step
  sending a b h n =
      split (d add_lines a a)
      (λ e. permits send_parts a b h n e)
      (λ e. adding a (and_l (ltb a f.job.boxes) _ h) e)

  parts : (a b : ℕ) → has_step f receive_parts a b ≡ true → d receive_parts a b ≡ false → SomeStep (permitted f d)
  unfolding ready has_step fits
  parts a b h n =
      split (d send_parts b a)
      (λ e. permits receive_parts a b h n e)
      (λ e. sending b a (and_swap (ltb b f.job.boxes) (ltb a f.job.boxes) (totals_due f.job b a) ∙ h) e)

  pub progress : (k : Kind) (a b : ℕ) → has_step f k a b ≡ true → d k a b ≡ false → SomeStep (permitted f d)
  unfolding ready has_step fits
  progress send_values a b h n = permits send_values a b h n refl
  progress receive_values a b h n = receipt a b h n
  progress add_lines a b h n =
      split (all_due f d receive_values a)
      (λ e. permits add_lines a b h n e)
      (λ e. due_step receive_values a (receipt a) e)
  progress send_parts a b h n = sending a b h n
  progress receive_parts a b h n = parts a b h n
  progress sum_own a b h n =
      split (d add_lines a a)
      (λ e. split (all_due f d receive_parts a)
      (λ y. permits sum_own a b h n (simp (e, y)))
      (λ y. due_step receive_parts a (parts a) y))
      (λ e. adding a (and_l (ltb a f.job.boxes) _ h) e)
