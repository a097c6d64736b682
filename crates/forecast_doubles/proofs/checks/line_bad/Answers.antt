-- `forecast_doubles::checks::line_bad` meets its contract. Assumes nothing.
use mathlib.Core.Path.{◌≡◌, sym, ap, ap₂, ◌∙◌}
use mathlib.Core.Bool.{Bool, true, ◌&&◌}
use lib.ListN.{get_or}
use borrow.Author.Tests.{eq-eqb, ne_eqb, not-true, not-false}
use Rattle.forecast_rules.specs.Doubles.{zero+, is_value}
use Rattle.forecast_doubles.specs.BadLines.{outside, line_bad}
use Rattle.forecast_doubles.proofs.checks.line_bad.Goals as goal

pub returns-then-not-is_value : goal.returns-then-not-is_value
unfolding line_bad outside
returns-then-not-is_value c =
    let both : let s = c.args in
    (c.is_value.result && c.is_value-2.result) ≡ (is_value (get_or s.line_rate.now s.i zero+) && is_value (get_or s.line_value.now s.i zero+)) =
    ap₂ (λ (x y : Bool). x && y) (c.is_value.ensures ∙ ap is_value c.f64_at.ensures) (c.is_value-2.ensures ∙ ap is_value c.f64_at-v.ensures) in
    rw (sym both ∙ not-true (c.is_value.result && c.is_value-2.result) (mathlib.Core.Path.ap mathlib.Core.Bool.not c.if-not-is_value.true))

pub returns-then-last-eq0 : goal.returns-then-last-eq0
unfolding line_bad outside
returns-then-last-eq0 c =
    let both : let s = c.args in
    (c.is_value.result && c.is_value-2.result) ≡ (is_value (get_or s.line_rate.now s.i zero+) && is_value (get_or s.line_value.now s.i zero+)) =
    ap₂ (λ (x y : Bool). x && y) (c.is_value.ensures ∙ ap is_value c.f64_at.ensures) (c.is_value-2.ensures ∙ ap is_value c.f64_at-v.ensures) in
    let fine : (c.is_value.result && c.is_value-2.result) ≡ true =
    not-false (c.is_value.result && c.is_value-2.result) (mathlib.Core.Path.ap mathlib.Core.Bool.not c.if-not-is_value.false) in
    rw (sym both ∙ fine, eq-eqb _ _ c.if-last-eq0.true)

pub returns : goal.returns
unfolding line_bad outside
returns c =
    let both : let s = c.args in
    (c.is_value.result && c.is_value-2.result) ≡ (is_value (get_or s.line_rate.now s.i zero+) && is_value (get_or s.line_value.now s.i zero+)) =
    ap₂ (λ (x y : Bool). x && y) (c.is_value.ensures ∙ ap is_value c.f64_at.ensures) (c.is_value-2.ensures ∙ ap is_value c.f64_at-v.ensures) in
    let fine : (c.is_value.result && c.is_value-2.result) ≡ true =
    not-false (c.is_value.result && c.is_value-2.result) (mathlib.Core.Path.ap mathlib.Core.Bool.not c.if-not-is_value.false) in
    rw (sym both ∙ fine, ne_eqb _ _ c.if-last-eq0.false, c.same_bits.ensures, c.f64_at-2.ensures, c.f64_at-v.ensures)
