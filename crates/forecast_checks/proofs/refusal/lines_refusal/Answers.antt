-- `forecast_checks::refusal::lines_refusal` meets its contract: 34 by the lines. Assumes nothing.
use mathlib.Core.Path.{◌≡◌, sym, ap, ◌∙◌}
use Prim.Native.Nat.{ℕ}
use native.Mathlib.Omega.{arith}
use Rattle.forecast_rules.specs.Lines.{bad_line}
use Rattle.forecast_rules.specs.Tables.{forecast_of}
use Rattle.forecast_rules.proofs.Served.{words_in}
use Rattle.forecast_doubles.specs.BadLines.{bad_lines}
use Rattle.forecast_doubles.specs.Lent.{forecast_held}
use Rattle.forecast_doubles.proofs.Told.{bad_is}
use Rattle.forecast_checks.proofs.Tested.{lines_whole, under_more}
use Rattle.forecast_checks.proofs.refusal.lines_refusal.Goals as goal

pub bad_lines-requires-clause-n_bound : goal.bad_lines-requires-clause-n_bound
bad_lines-requires-clause-n_bound c =
    let w = words_in (forecast_held c.args.f.now) c.requires.in_range in
    let long = lines_whole (forecast_held c.args.f.now) c.requires.long in
    let n = c.from.ensures in
    (omega (arith, n, w.lines≤), (omega (arith, n, long.line_offer), (omega (arith, n, long.line_rate), omega (arith, n, long.line_value))))

pub bad_lines-requires-clause-line_offer_value : goal.bad_lines-requires-clause-line_offer_value
bad_lines-requires-clause-line_offer_value c =
    let f = c.args.f.now in
    let w = words_in (forecast_held c.args.f.now) c.requires.in_range in
    rw c.from.ensures (under_more f.offers 500 f.lines f.line_offer.now w.offers≤ w.line_offer)

pub returns-then-bad_lines : goal.returns-then-bad_lines
returns-then-bad_lines c =
    let told : c.bad_lines.result ≡ bad_line (forecast_of (forecast_held c.args.f.now)) =
    let f = c.args.f.now in
    c.bad_lines.ensures ∙ ap (λ (n : ℕ). bad_lines n f.line_offer.now f.line_rate.now f.line_value.now) c.from.ensures ∙ bad_is (forecast_held c.args.f.now) in
    rw (sym told ∙ c.if-bad_lines.true)

pub returns : goal.returns
returns c =
    let told : c.bad_lines.result ≡ bad_line (forecast_of (forecast_held c.args.f.now)) =
    let f = c.args.f.now in
    c.bad_lines.ensures ∙ ap (λ (n : ℕ). bad_lines n f.line_offer.now f.line_rate.now f.line_value.now) c.from.ensures ∙ bad_is (forecast_held c.args.f.now) in
    rw (sym told ∙ c.if-bad_lines.false)
