-- `step_packed::total_fits` meets its contract, kind by kind. Assumes nothing.
use mathlib.Core.Path.{◌≡◌, ap, ◌∙◌}
use Prim.Native.Nat.{ℕ, ◌+◌, ◌-◌, ◌*◌}
use native.Mathlib.Omega.{arith}
use lib.Dec.{leb}
use Rattle.laws.specs.Limits.{max_sent}
use Rattle.step_packed.proofs.Fits.{fits_4, fits_5, fits_6}
use Rattle.step_packed.proofs.total_fits.Goals as goal

pub returns-then-kind-eq4 : goal.returns-then-kind-eq4
returns-then-kind-eq4 c =
    ap (λ (x : ℕ). leb (x + (c.args.to - c.args.from) * c.args.width) max_sent) c.u32_at.ensures
    ∙ fits_4 c.args.from c.args.to c.args.width c.args.grocers.now c.args.state.now.working.now c.args.state.now.total_transit.now c.args.state.now.statement.now c.args.state.now.sent.now c.args.kind c.if-kind-eq4.true

pub returns-then-kind-eq5 : goal.returns-then-kind-eq5
returns-then-kind-eq5 c =
    c.span_fits.ensures
    ∙ fits_5 c.args.from c.args.to c.args.width c.args.grocers.now c.args.state.now.working.now c.args.state.now.total_transit.now c.args.state.now.statement.now c.args.state.now.sent.now c.args.kind c.if-kind-eq5.true

pub returns : goal.returns
returns c =
    let sixth : c.args.kind ≡ 6 = omega (arith, c.requires.kind_from, c.requires.kind_to, c.if-kind-eq5.false, c.if-kind-eq4.false) in
    c.span_fits-2.ensures
    ∙ fits_6 c.args.from c.args.to c.args.width c.args.grocers.now c.args.state.now.working.now c.args.state.now.total_transit.now c.args.state.now.statement.now c.args.state.now.sent.now c.args.kind sixth
