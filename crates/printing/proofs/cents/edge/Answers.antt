-- `printing::cents::edge` meets its contract. Assumes nothing.
use mathlib.Core.Path.{◌≡◌, sym, ap, ◌∙◌}
use native.Mathlib.Omega.{arith}
use lib.IntN.{pos}
use lib.Signed.{rem_z}
use mir.Syntax.{w64}
use mir.Val.{to_z, of_z}
use mir.Facts.{to_z-of_z}
use Rattle.printing.proofs.Rounding.{half_fits, read_parity, even_rest, odd_rest, edge-away, edge_even, edge_odd}
use Rattle.printing.proofs.cents.edge.Goals as goal

pub returns-then-not-even : goal.returns-then-not-even
returns-then-not-even c =
    ap pos (sym (edge-away c.args.even _ (mathlib.Core.Path.ap mathlib.Core.Bool.not c.if-not-even.true)))

pub nonzero_rem-whole : goal.nonzero_rem-whole
nonzero_rem-whole c =
    let read : to_z w64 (of_z w64 c.args.whole) ≡ c.args.whole =
    to_z-of_z {w = w64} c.ranges.whole in
    (omega arith, rw read (half_fits c.args.whole c.ranges.whole))

pub returns-then-whole-eq0 : goal.returns-then-whole-eq0
returns-then-whole-eq0 c =
    let read : to_z w64 (of_z w64 c.args.whole) ≡ c.args.whole =
    to_z-of_z {w = w64} c.ranges.whole in
    let z = c.args.whole in
    let none : rem_z z (pos 2) ≡ pos 0 = sym (read_parity z c.ranges.whole) ∙ ap (to_z w64) (rw read at c.if-whole-eq0.true) in
    ap pos (sym (edge_even c.args.even _ (mathlib.Core.Path.ap mathlib.Core.Bool.not c.if-not-even.false) (even_rest z none)))

pub returns : goal.returns
returns c =
    let read : to_z w64 (of_z w64 c.args.whole) ≡ c.args.whole =
    to_z-of_z {w = w64} c.ranges.whole in
    let z = c.args.whole in
    ap pos (sym (edge_odd c.args.even _ (λ e. c.if-whole-eq0.false (rw (read, odd_rest z e)))))
