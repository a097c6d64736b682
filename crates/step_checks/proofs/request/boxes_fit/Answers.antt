-- `step_checks::request::boxes_fit` meets its contract. Assumes nothing.
use mathlib.Core.Path.{ap}
use mathlib.Core.Bool.{Bool, ◌&&◌}
use lib.Dec.{eqb, ltb}
use Rattle.step_checks.specs.Request.{boxes_fit_by}
use Rattle.model.specs.Steps.{kind_of, one_box}
use Rattle.step_checks.proofs.Asked.{as_asked}
use Rattle.step_checks.proofs.request.boxes_fit.Goals as goal

pub returns : goal.returns
unfolding boxes_fit_by
returns c =
    rw c.one_box-one.ensures (ap (λ (t : Bool). ltb c.args.x.first c.args.k && (ltb c.args.x.second c.args.k && t)) (as_asked (one_box (kind_of c.args.x.kind)) (eqb c.args.x.first c.args.x.second)))
