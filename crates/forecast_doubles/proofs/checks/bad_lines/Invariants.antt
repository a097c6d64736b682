-- `forecast_doubles::checks::bad_lines` meets its contract: before line i the last line of each offer before it is known. Assumes nothing.
use Rattle.forecast_doubles.proofs.Seen.{Seen}
use Rattle.forecast_doubles.proofs.checks.bad_lines.Given as goal

abbrev pub invariant-loop-i : goal.invariant-loop-i
invariant-loop-i l =
    Seen l.line_offer l.line_rate l.line_value l.i l.seen
