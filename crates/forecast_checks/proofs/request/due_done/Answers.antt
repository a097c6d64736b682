-- `forecast_checks::request::due_done` meets its contract. Assumes nothing.
use mathlib.Core.Path.{◌∙◌}
use Rattle.forecast_checks.specs.Rules.{due_done}
use Rattle.forecast_checks.proofs.Asked.{done_is}
use Rattle.forecast_checks.proofs.request.due_done.Goals as goal

pub returns : goal.returns
unfolding due_done
returns c =
    let d = done_is c.args.k c.args.done.now c.args.a c.args.c c.args.kind c.requires.kind_from c.requires.kind_to in
    rw (c.fits.ensures, c.is_done.ensures ∙ d)
