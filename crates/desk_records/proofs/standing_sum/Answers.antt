-- `desk_records::standing_sum` meets its contract. The invariant: the sum is that of the first t. Assumes nothing.
use mathlib.Core.Path.{refl, sym, ap, ap₂, ◌∙◌}
use Prim.Native.Nat.{◌+◌, ◌≤◌}
use native.Mathlib.Omega.{arith}
use lib.ListN.{get_or}
use lib.Dec.{eqb}
use lib.IntN.{ℤ, pos, nat_abs, ◌+ℤ◌}
use mir.Syntax.{w64}
use mir.Val.{of_z, to_z}
use Rattle.laws.specs.Below.{sum, only, integers}
use Rattle.laws.proofs.Signed.{read64_abs}
use Rattle.desk_records.specs.Rows.{unmarked}
use Rattle.desk_records.proofs.Taking.{unmarked_next, unmarked_abs}
use Rattle.desk_records.proofs.standing_sum.Goals as goal

pub loop-t-init : goal.loop-t-init
unfolding unmarked sum integers
loop-t-init c = refl

pub add_unmarked-sum-requires : goal.add_unmarked-sum-requires
add_unmarked-sum-requires c =
    let share = get_or c.args.shares.now c.loop-t.t (pos 0) in
    let few : nat_abs share ≤ 999_989_900_001 = c.requires.by_index c.loop-t.t c.loop-t-test.true in (
      rw c.loop-t.invariant (unmarked_abs c.loop-t.t c.args.marks.now c.args.shares.now (omega arith) (λ k q. c.requires.by_index k (omega arith))),
      rw (read64_abs share (omega (arith, few))) (omega (arith, few)),
    )

pub loop-t-preserved : goal.loop-t-preserved
loop-t-preserved c =
    let share : ℤ = get_or c.args.shares.now c.loop-t.t (pos 0) in
    let few : nat_abs share ≤ 999_989_900_001 = c.requires.by_index c.loop-t.t c.loop-t-test.true in
    let e = c.add_unmarked-sum.ensures
    ∙ ap₂ (λ (x y : ℤ). x +ℤ only integers (eqb (get_or c.args.marks.now c.loop-t.t 0) 0) y) c.loop-t.invariant (read64_abs share (omega (arith, few)))
    ∙ sym (unmarked_next c.loop-t.t c.args.marks.now c.args.shares.now) in
    ap (λ (z : ℤ). to_z w64 (of_z w64 z)) e ∙ read64_abs (unmarked (c.loop-t.t + 1) c.args.marks.now c.args.shares.now)
    (omega (arith, unmarked_abs (c.loop-t.t + 1) c.args.marks.now c.args.shares.now (omega (arith, c.requires.n_bound.0)) (λ k q. c.requires.by_index k (omega arith))))
