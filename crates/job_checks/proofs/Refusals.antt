-- The first condition that the job's tables meet. Assumes nothing.
use mathlib.Core.Path.{◌≡◌, refl, sym}
use mathlib.Core.Bool.{Bool, true, false, ◌||◌, not}
use Rattle.laws.specs.Checks.{first_met}
use Rattle.laws.proofs.Bools.{or_off}
use Rattle.laws.proofs.Checks.{unmet}
use Rattle.model.specs.Tables.{JobTables, counted_of, job_lengths, job_short, bags_short}
use Rattle.model.specs.Ranges.{job_in_range, Settles}
use Rattle.model.specs.Local.{job_refusals}
use Rattle.recount.specs.Recount.{counted_twice}

pub not_off : (b : Bool) → not b ≡ false → b ≡ true
not_off true h = refl
not_off false h = sym h

-- None is met: the tables settle.
pub accepted : (f : JobTables) → first_met (job_refusals f) ≡ 0 → Settles f
unfolding first_met job_refusals
accepted f h =
    let u = unmet (job_refusals f) refl h in
    let l = or_off (job_short f (job_lengths f)) (bags_short f (job_lengths f)) u.0 in
    record { whole = l.0; bags = l.1; in_range = not_off (job_in_range f) u.1.0; once = u.1.1.0 }

-- The tests as code makes them: s and u of 20, i of 21, w of 9.
module _ (f : JobTables) (s u : Bool) (es : s ≡ job_short f (job_lengths f)) (eu : u ≡ bags_short f (job_lengths f)) where
  pub met_20 : (s || u) ≡ true → 20 ≡ first_met (job_refusals f)
  unfolding first_met job_refusals
  met_20 h = rw (← es, ← eu, h)

  module _ (h : (s || u) ≡ false) (i : Bool) (ei : i ≡ job_in_range f) where
    pub met_21 : not i ≡ true → 21 ≡ first_met (job_refusals f)
    unfolding first_met job_refusals
    met_21 g = rw (← es, ← eu, h, ← ei, g)

    module _ (g : not i ≡ false) (w : Bool) (ew : w ≡ counted_twice (counted_of f)) where
      pub met_9 : w ≡ true → 9 ≡ first_met (job_refusals f)
      unfolding first_met job_refusals
      met_9 k = rw (← es, ← eu, h, ← ei, g, ← ew, k)

      pub met_none : w ≡ false → 0 ≡ first_met (job_refusals f)
      unfolding first_met job_refusals
      met_none k = rw (← es, ← eu, h, ← ei, g, ← ew, k)
