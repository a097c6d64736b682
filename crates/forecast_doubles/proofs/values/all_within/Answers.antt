-- `forecast_doubles::values::all_within` meets its contract: at word i those before it are tested. Assumes nothing.
use mathlib.Core.Path.{sym, ap, ◌∙◌}
use Rattle.laws.proofs.Below.{all_start, all_more}
use Rattle.forecast_rules.specs.Ranges.{each}
use Rattle.forecast_doubles.specs.Bounds.{within}
use Rattle.forecast_doubles.proofs.values.all_within.Goals as goal

pub loop-i-init : goal.loop-i-init
unfolding each
loop-i-init c =
    sym (all_start _)

pub loop-i-preserved : goal.loop-i-preserved
unfolding each
loop-i-preserved c =
    all_more c.loop-i.i _ c.loop-i.all _ c.loop-i.invariant (c.within-all.ensures ∙ ap (within c.args.most) c.f64_at.ensures)
