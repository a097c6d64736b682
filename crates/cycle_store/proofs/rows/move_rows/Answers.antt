-- `cycle_store::rows::move_rows` meets its contract: the words from p on are moved. Assumes nothing.
use mathlib.Core.Path.{◌≡◌, ◌∙◌}
use Prim.Native.Nat.{suc, ◌-◌, ◌*◌, ◌≤◌}
use native.Mathlib.Omega.{arith}
use native.Mathlib.Nat.{mul-le-mul}
use Rattle.laws.proofs.Signed.{read64}
use Rattle.cycle_store.specs.Moved.{word_moved}
use Rattle.cycle_store.proofs.MovedRows.{From, from_end, from_more, from_start, word_read}
use Rattle.cycle_store.proofs.rows.move_rows.Goals as goal

pub loop-p-init : goal.loop-p-init
loop-p-init c =
    from_end _ _ _

pub loop-p-preserved : goal.loop-p-preserved
loop-p-preserved c =
    let some : 1 * 1 ≤ c.args.k * c.args.m =
    mul-le-mul c.requires.le_m.1.0 c.requires.le_m.0.0 in
    let h = c.args.held.now in
    let n : suc (c.loop-p.p - 1) ≡ c.loop-p.p = omega (arith, c.loop-p-test.true) in
    let y : From (13 * c.args.m) (word_moved c.args.m (c.args.k * c.args.m) c.args.amounts.now h) h (suc (c.loop-p.p - 1)) c.loop-p.held = rw n c.loop-p.invariant in
    from_more (13 * c.args.m) _ h (c.loop-p.p - 1) c.loop-p.held _ y (omega (arith, n)) c.requires.m_in_bounds.1
    (read64 c.moved_word.result c.moved_word.type_inv ∙ c.moved_word.ensures
    ∙ word_read c.args.m (c.args.k * c.args.m) c.args.amounts.now h c.loop-p.held (c.loop-p.p - 1) (omega (arith, some)) (λ q k. c.loop-p.invariant.before q (omega (arith, n))))

pub returns : goal.returns
returns c =
    let e : c.loop-p.p ≡ 0 = omega (arith, c.loop-p-test.false) in
    from_start (13 * c.args.m) _ c.args.held.now c.loop-p.held (rw e at c.loop-p.invariant) c.requires.m_in_bounds.1
