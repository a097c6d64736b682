-- `forecast_checks::request::all_due` meets its contract: before box c the due steps with the boxes before it are done. Assumes nothing.
use mathlib.Core.Path.{◌≡◌}
use Rattle.laws.specs.Below.{all}
use Rattle.forecast_rules.specs.Steps.{kind_of}
use Rattle.forecast_rules.specs.Tables.{from_marks}
use Rattle.forecast_checks.specs.Rules.{due_done}
use Rattle.forecast_checks.proofs.request.all_due.Given as goal

abbrev pub invariant-loop-c : goal.invariant-loop-c
invariant-loop-c l =
    l.all ≡ all l.c (due_done l.receivers l.senders (from_marks l.k l.done) (kind_of l.kind) l.a)
