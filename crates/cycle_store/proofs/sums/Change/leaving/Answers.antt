-- `cycle_store::sums::Change::leaving` meets its contract: before row i the words of those before it are added. Assumes nothing.
use mathlib.Core.Path.{◌≡◌, sym, ap, ap₂, ◌∙◌}
use mathlib.Core.List.{List}
use Prim.Native.Nat.{ℕ, ◌+◌, ◌-◌, ◌*◌, ◌≤◌, ◌<◌}
use native.Mathlib.Omega.{arith}
use lib.IntN.{ℤ, pos, nat_abs, ◌+ℤ◌}
use lib.ListN.{get_or}
use mir.Syntax.{w64}
use mir.Val.{to_z, of_z}
use Rattle.laws.specs.Below.{sum, integers}
use Rattle.laws.proofs.Sums.{sum_start, sum_next_lem}
use Rattle.laws.proofs.Signed.{read64, fits64, abs_plus, sum_abs}
use Rattle.laws.proofs.Tables.{cell_in}
use Rattle.cycle_history.specs.Store.{cycles, max_held}
use Rattle.cycle_store.specs.Moved.{SumsIn, rows_leaving}
use Rattle.cycle_history.proofs.Kept.{around_at}
use Rattle.cycle_store.proofs.sums.Change.leaving.Goals as goal

-- The words that leave are in the table, and in range.
module _ (m k g i : ℕ) (held : List ℤ) (y : SumsIn m k held) (lg : g < m) (li : i < k) where
  place_in : ((cycles - k) + i) * m + g < 13 * m
  place_in = cell_in ((cycles - k) + i) 13 m g (omega (arith, y.rows_in)) lg

  small : nat_abs (get_or held (((cycles - k) + i) * m + g) (pos 0)) ≤ max_held
  small = around_at max_held (13 * m) held (((cycles - k) + i) * m + g) y.amounts place_in

pub loop-i-init : goal.loop-i-init
unfolding integers
loop-i-init c =
    sym (sum_start integers _)

pub plus-sum-requires : goal.plus-sum-requires
plus-sum-requires c =
    let word_is : to_z w64 (of_z w64 c.i64_at-x.result)
    ≡ get_or c.args.self.now.held.now
    (((cycles - c.args.self.now.k) + c.loop-i.i) * c.args.self.now.m + c.args.g) (pos 0) =
    read64 c.i64_at-x.result c.i64_at-x.type_inv ∙ c.i64_at-x.ensures
    ∙ ap (λ (p : ℕ). get_or c.args.self.now.held.now p (pos 0)) c.place.ensures in
    let t : c.loop-i.i < c.args.self.now.k = c.loop-i-test.true in
    let f : ℕ → ℤ = λ i. get_or c.args.self.now.held.now (((cycles - c.args.self.now.k) + i) * c.args.self.now.m + c.args.g) (pos 0) in
    rw (c.loop-i.invariant, word_is) (fits64 (omega (
      arith,
      abs_plus (sum integers c.loop-i.i f) (f c.loop-i.i),
      sum_abs c.loop-i.i max_held f (λ i k. small c.args.self.now.m c.args.self.now.k c.args.g i c.args.self.now.held.now c.args.self.now.rows_in c.requires (omega (arith, t))),
      small c.args.self.now.m c.args.self.now.k c.args.g c.loop-i.i c.args.self.now.held.now c.args.self.now.rows_in c.requires t,
      c.args.self.now.rows_in.rows_in,
    )))

pub loop-i-preserved : goal.loop-i-preserved
unfolding integers
loop-i-preserved c =
    let word_is : to_z w64 (of_z w64 c.i64_at-x.result)
    ≡ get_or c.args.self.now.held.now
    (((cycles - c.args.self.now.k) + c.loop-i.i) * c.args.self.now.m + c.args.g) (pos 0) =
    read64 c.i64_at-x.result c.i64_at-x.type_inv ∙ c.i64_at-x.ensures
    ∙ ap (λ (p : ℕ). get_or c.args.self.now.held.now p (pos 0)) c.place.ensures in
    let f : ℕ → ℤ = λ i. get_or c.args.self.now.held.now (((cycles - c.args.self.now.k) + i) * c.args.self.now.m + c.args.g) (pos 0) in
    read64 c.plus-sum.result c.plus-sum.type_inv ∙ c.plus-sum.ensures ∙ ap₂ (λ (x y : ℤ). x +ℤ y) c.loop-i.invariant word_is ∙ sym (sum_next_lem integers c.loop-i.i f)

pub returns : goal.returns
unfolding rows_leaving
returns c =
    let e : c.loop-i.i ≡ c.args.self.now.k = omega arith in
    rw e at c.loop-i.invariant
