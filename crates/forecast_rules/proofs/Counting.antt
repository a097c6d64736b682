-- How many steps a forecast has: as many as a settlement of the same shape. Assumes nothing.
use mathlib.Core.Path.{◌≡◌, ◌∙◌}
use mathlib.Core.Bool.{false}
use Prim.Native.Nat.{ℕ, ◌+◌, ◌≤◌}
use native.Mathlib.Omega.{arith}
use Rattle.laws.specs.Below.{naturals, sum}
use Rattle.model.specs.Words.{step_count}
use Rattle.forecast_rules.specs.Lines.{Forecast}
use Rattle.forecast_rules.specs.Steps.{Kind, kind_of, Steps, mark, fits, has_step}
use Rattle.forecast_rules.specs.Boxes.{Closed}
use Rattle.forecast_rules.specs.Evening.{AllDone}
use Rattle.model.proofs.Counting.{steps_number}
use Rattle.forecast_rules.proofs.Machine.{kinds, first<, second<, Permit}
use Rattle.model.specs.Steps as Money
use Rattle.model.proofs.Marks as M
use Rattle.model.proofs.Machine as MoneyKinds

module _ (f : Forecast) where
  abbrev pub size : Steps → ℕ
  size d = M.size kinds f.job.boxes d

  pub size_none : size (λ k a b. false) ≡ 0
  size_none = M.size_none kinds f.job.boxes

  pub size_mark : (d : Steps) (k : Kind) (a b : ℕ) → Permit f d k a b → size (mark d k a b) ≡ size d + 1
  unfolding mark
  size_mark d k a b p = M.size_mark kinds f.job.boxes d k a b p.new (first< f k a b p.has) (second< f k a b p.has)

  -- Kind by kind the steps are those of a settlement, under other numbers.
  same_size : size (has_step f) ≡ MoneyKinds.size f.job (Money.has_step f.job)
  unfolding M.size M.size_of sum naturals kind_of Money.kind_of has_step fits Money.has_step Money.fits
  same_size = omega arith

  -- 2 × K + 2 × (messages).
  pub steps_are : size (has_step f) ≡ step_count f.job
  steps_are = same_size ∙ steps_number f.job

  pub size_most : (d : Steps) → Closed f d → size d ≤ step_count f.job
  size_most d c = omega (arith, M.size_le kinds f.job.boxes d (has_step f) c.steps, steps_are)

  -- As many steps done as the forecast has: all are done.
  pub all_of_size : (d : Steps) → Closed f d → size d ≡ step_count f.job → AllDone f d
  unfolding AllDone
  all_of_size d c h k a b e = M.size_tight kinds f.job.boxes d (has_step f) c.steps (omega (arith, steps_are)) k a b (first< f k a b e) (second< f k a b e) e
