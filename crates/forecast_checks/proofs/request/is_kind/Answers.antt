-- `forecast_checks::request::is_kind` meets its contract. Assumes nothing.
use mathlib.Core.Path.{refl}
use Rattle.model.specs.Step.{is_kind}
use Rattle.forecast_checks.proofs.request.is_kind.Goals as goal

pub returns : goal.returns
unfolding is_kind
returns c =
    refl
