-- `forecast_checks::request::boxes_fit` meets its contract. Assumes nothing.
use mathlib.Core.Path.{ap}
use mathlib.Core.Bool.{Bool, ◌&&◌}
use lib.Dec.{eqb, ltb}
use Rattle.forecast_rules.specs.Steps.{kind_of, one_box}
use Rattle.forecast_checks.specs.Rules.{boxes_asked}
use Rattle.forecast_checks.proofs.Asked.{one_box_lem, as_asked}
use Rattle.forecast_checks.proofs.request.boxes_fit.Goals as goal

pub returns : goal.returns
unfolding boxes_asked
returns c =
    rw (one_box_lem c.args.kind c.requires.0 c.requires.1)
    (ap (λ (t : Bool). ltb c.args.a c.args.k && (ltb c.args.b c.args.k && t)) (as_asked (one_box (kind_of c.args.kind)) (eqb c.args.a c.args.b)))
