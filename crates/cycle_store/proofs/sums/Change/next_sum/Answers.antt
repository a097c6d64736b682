-- `cycle_store::sums::Change::next_sum` meets its contract: the sums on the way fit 64 bits. Assumes nothing.
use mathlib.Core.Path.{◌≡◌, ap₂, ◌∙◌}
use native.Mathlib.Omega.{arith}
use lib.IntN.{ℤ, pos, ◌+ℤ◌, ◌-ℤ◌}
use lib.ListN.{get_or}
use mir.Syntax.{w64}
use mir.Val.{to_z, of_z}
use Rattle.laws.proofs.Signed.{read64, fits64, abs_plus}
use Rattle.cycle_history.specs.Store.{max_held}
use Rattle.cycle_store.specs.Moved.{rows_leaving, sum_next}
use Rattle.cycle_history.proofs.Kept.{around_at}
use Rattle.cycle_store.proofs.MovedRows.{abs_less, leaving_small}
use Rattle.cycle_store.proofs.sums.Change.next_sum.Goals as goal

pub less-rest-requires : goal.less-rest-requires
less-rest-requires c =
    let was : to_z w64 (of_z w64 c.i64_at.result) ≡ get_or c.args.sums.now c.args.g (pos 0) =
    read64 c.i64_at.result c.i64_at.type_inv ∙ c.i64_at.ensures in
    let gone : to_z w64 (of_z w64 c.leaving.result) ≡ rows_leaving c.args.self.now.m c.args.self.now.k c.args.self.now.held.now c.args.g =
    read64 c.leaving.result c.leaving.type_inv ∙ c.leaving.ensures in
    let x = get_or c.args.sums.now c.args.g (pos 0) in
    let y = rows_leaving c.args.self.now.m c.args.self.now.k c.args.self.now.held.now c.args.g in
    rw (was, gone) (fits64 (omega (arith, abs_less x y, c.requires.g_lt_m.1, leaving_small c.args.self.now.m c.args.self.now.k c.args.g c.args.self.now.held.now c.args.self.now.rows_in c.requires.g_lt_m.0)))

pub plus-requires : goal.plus-requires
plus-requires c =
    let was : to_z w64 (of_z w64 c.i64_at.result) ≡ get_or c.args.sums.now c.args.g (pos 0) =
    read64 c.i64_at.result c.i64_at.type_inv ∙ c.i64_at.ensures in
    let gone : to_z w64 (of_z w64 c.leaving.result) ≡ rows_leaving c.args.self.now.m c.args.self.now.k c.args.self.now.held.now c.args.g =
    read64 c.leaving.result c.leaving.type_inv ∙ c.leaving.ensures in
    let rest : to_z w64 (of_z w64 c.less-rest.result) ≡ get_or c.args.sums.now c.args.g (pos 0)
    -ℤ rows_leaving c.args.self.now.m c.args.self.now.k c.args.self.now.held.now c.args.g =
    read64 c.less-rest.result c.less-rest.type_inv ∙ c.less-rest.ensures ∙ ap₂ (λ (x y : ℤ). x -ℤ y) was (gone) in
    let comes : to_z w64 (of_z w64 c.i64_at-2.result) ≡ get_or c.args.self.now.amounts.now c.args.g (pos 0) =
    read64 c.i64_at-2.result c.i64_at-2.type_inv ∙ c.i64_at-2.ensures in
    let x = get_or c.args.sums.now c.args.g (pos 0) in
    let y = rows_leaving c.args.self.now.m c.args.self.now.k c.args.self.now.held.now c.args.g in
    let z = get_or c.args.self.now.amounts.now c.args.g (pos 0) in
    rw (rest, comes) (fits64 (omega (
      arith,
      abs_plus (x -ℤ y) z,
      abs_less x y,
      c.requires.g_lt_m.1,
      leaving_small c.args.self.now.m c.args.self.now.k c.args.g c.args.self.now.held.now c.args.self.now.rows_in c.requires.g_lt_m.0,
      around_at max_held c.args.self.now.m c.args.self.now.amounts.now c.args.g c.requires.sums_in.given_in c.requires.g_lt_m.0,
    )))

pub returns : goal.returns
unfolding sum_next
returns c =
    let was : to_z w64 (of_z w64 c.i64_at.result) ≡ get_or c.args.sums.now c.args.g (pos 0) =
    read64 c.i64_at.result c.i64_at.type_inv ∙ c.i64_at.ensures in
    let gone : to_z w64 (of_z w64 c.leaving.result) ≡ rows_leaving c.args.self.now.m c.args.self.now.k c.args.self.now.held.now c.args.g =
    read64 c.leaving.result c.leaving.type_inv ∙ c.leaving.ensures in
    let rest : to_z w64 (of_z w64 c.less-rest.result) ≡ get_or c.args.sums.now c.args.g (pos 0)
    -ℤ rows_leaving c.args.self.now.m c.args.self.now.k c.args.self.now.held.now c.args.g =
    read64 c.less-rest.result c.less-rest.type_inv ∙ c.less-rest.ensures ∙ ap₂ (λ (x y : ℤ). x -ℤ y) was (gone) in
    let comes : to_z w64 (of_z w64 c.i64_at-2.result) ≡ get_or c.args.self.now.amounts.now c.args.g (pos 0) =
    read64 c.i64_at-2.result c.i64_at-2.type_inv ∙ c.i64_at-2.ensures in
    read64 c.plus.result c.plus.type_inv ∙ c.plus.ensures ∙ ap₂ (λ (x y : ℤ). x +ℤ y) rest (comes)
