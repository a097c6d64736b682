-- `forecast_doubles::lines::zero_row` meets its contract: the row is filled with +0.0. Assumes nothing.
use mathlib.Core.Path.{◌≡◌, ap, ◌∙◌}
use Prim.Native.Nat.{ℕ, ◌+◌, ◌-◌}
use native.Mathlib.Omega.{arith}
use lib.ListN.{replicate}
use lib.Ieee.{of_bits}
use Rattle.forecast_rules.specs.Doubles.{zero+}
use Rattle.forecast_doubles.proofs.Rows.{filled, mid_long}
use Rattle.forecast_doubles.proofs.lines.zero_row.Goals as goal

pub returns : goal.returns
unfolding of_bits
returns c =
    let m : c.args.row + c.args.m - c.args.row ≡ c.args.m = omega arith in
    let zeros : c.fill.new.self ≡ replicate c.args.m zero+ =
    c.fill.ensures.after (λ y h. h) ∙ ap (λ (n : ℕ). replicate n zero+) (mid_long c.args.row c.args.m _ c.args.part.now m c.requires.1.1) in
    filled c.args.row c.args.m _ c.args.part.now _ zeros m c.requires.1.1
