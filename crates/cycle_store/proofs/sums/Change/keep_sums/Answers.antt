-- `cycle_store::sums::Change::keep_sums` meets its contract: before grocer g the sums of those before are kept. Assumes nothing.
use mathlib.Core.Path.{◌≡◌, ◌∙◌}
use native.Mathlib.Omega.{arith}
use native.Mathlib.Nat.{le_refl}
use lib.IntN.{pos}
use lib.ListN.{length, get_or}
use Rattle.laws.proofs.Signed.{read64}
use Rattle.laws.proofs.Tables.{fill_none, fill_more, fill_end, get_d_past, length_overwrite}
use Rattle.cycle_history.specs.Store.{max_kept}
use Rattle.cycle_history.proofs.Kept.{around_at}
use Rattle.cycle_store.proofs.MovedRows.{next_same}
use Rattle.cycle_store.proofs.sums.Change.keep_sums.Goals as goal

pub loop-g-init : goal.loop-g-init
loop-g-init c =
    fill_none _ _

pub next_sum-requires : goal.next_sum-requires
next_sum-requires c =
    let still : get_or c.loop-g.sums c.loop-g.g (pos 0) ≡ get_or c.args.sums.now c.loop-g.g (pos 0) =
    rw c.loop-g.invariant (get_d_past c.loop-g.g _ c.args.sums.now c.loop-g.g (pos 0) (le_refl c.loop-g.g)) in
    let long : length c.loop-g.sums ≡ length c.args.sums.now =
    rw c.loop-g.invariant (length_overwrite c.loop-g.g _ c.args.sums.now (omega (arith, c.requires.sums_in.sums_long_lem, c.loop-g-test.true))) in
    let y = c.requires.sums_in in record {
      sums_in = record { given_long = y.given_long; sums_long_lem = omega (arith, long, y.sums_long_lem); given_in = y.given_in };
      g_lt_m = (c.loop-g-test.true, rw still (around_at max_kept c.args.self.now.m c.args.sums.now c.loop-g.g c.requires.sums_value c.loop-g-test.true));
    }

pub loop-g-preserved : goal.loop-g-preserved
loop-g-preserved c =
    let still : get_or c.loop-g.sums c.loop-g.g (pos 0) ≡ get_or c.args.sums.now c.loop-g.g (pos 0) =
    rw c.loop-g.invariant (get_d_past c.loop-g.g _ c.args.sums.now c.loop-g.g (pos 0) (le_refl c.loop-g.g)) in
    fill_more _ c.loop-g.g c.args.sums.now c.loop-g.sums _ c.loop-g.invariant (omega (arith, c.requires.sums_in.sums_long_lem, c.loop-g-test.true))
    (read64 c.next_sum.result c.next_sum.type_inv ∙ c.next_sum.ensures ∙ next_same c.args.self.now.m c.args.self.now.k c.loop-g.g c.args.self.now.amounts.now c.args.self.now.held.now c.args.sums.now c.loop-g.sums still)

pub returns : goal.returns
returns c =
    fill_end _ c.loop-g.g _ _ _ c.loop-g.invariant c.loop-g.auto.g-end c.loop-g-test.false
