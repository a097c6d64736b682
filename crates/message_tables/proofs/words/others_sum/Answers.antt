-- `message_tables::words::others_sum` meets its contract: the sum is that of the words passed. Assumes nothing.
use mathlib.Core.Path.{◌≡◌, sym, ap₂, ◌∙◌}
use Prim.Native.Nat.{ℕ, ◌+◌}
use native.Mathlib.Omega.{arith}
use lib.ListN.{get_or}
use lib.Count.{ones}
use Rattle.laws.specs.Masks.{without}
use Rattle.laws.proofs.Rows.{ones_max}
use Rattle.message_tables.proofs.Summing.{others_none, others_next}
use Rattle.message_tables.proofs.words.others_sum.Goals as goal

pub loop-i-init : goal.loop-i-init
loop-i-init c = (sym (others_none _ _), omega arith)

pub overflow_add-sum : goal.overflow_add-sum
overflow_add-sum c =
    let i = c.loop-i.i in
    let most = ones_max (get_or c.args.owners.now i 0) (get_or c.args.masks.now i 0) (c.requires.owner< i (omega arith)) (c.type_inv.masks i).fits in
    let is : c.others-sum.result ≡ ones (without (get_or c.args.owners.now i 0) (get_or c.args.masks.now i 0)) =
    c.others-sum.ensures ∙ ap₂ (λ (x y : ℕ). ones (without x y)) c.u16_at-in-loop-i.ensures c.u16_at.ensures in
    omega (arith, is, most, c.ranges.n.fits)

pub loop-i-preserved : goal.loop-i-preserved
loop-i-preserved c =
    let i = c.loop-i.i in
    let most = ones_max (get_or c.args.owners.now i 0) (get_or c.args.masks.now i 0) (c.requires.owner< i (omega arith)) (c.type_inv.masks i).fits in
    let is : c.others-sum.result ≡ ones (without (get_or c.args.owners.now i 0) (get_or c.args.masks.now i 0)) =
    c.others-sum.ensures ∙ ap₂ (λ (x y : ℕ). ones (without x y)) c.u16_at-in-loop-i.ensures c.u16_at.ensures in
    (ap₂ (λ (x y : ℕ). x + y) c.loop-i.invariant.0 is ∙ sym (others_next i _ _), omega (arith, is, most))
