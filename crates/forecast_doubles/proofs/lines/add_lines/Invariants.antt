-- `forecast_doubles::lines::add_lines` meets its contract: before line i the row has the part sums over the lines before it. Assumes nothing.
use Rattle.forecast_doubles.specs.Lines.{line_lists, Added}
use Rattle.forecast_doubles.proofs.lines.add_lines.Given as goal

abbrev pub invariant-loop-i : goal.invariant-loop-i
invariant-loop-i l =
    let f = l.f in
    Added (line_lists f.line_grocer.now f.line_offer.now f.line_box.now f.line_rate.now) f.grocers f.offers l.a l.i l.known l.initial.part l.part
