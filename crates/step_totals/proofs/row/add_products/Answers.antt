-- `step_totals::row::add_products` meets its contract. The invariant: the products of the lists before q are added. Assumes nothing.
use mathlib.Core.Path.{◌≡◌, refl, sym, ap, ◌∙◌}
use mathlib.Core.List.{List}
use Prim.Native.Nat.{ℕ, ◌+◌, ◌*◌, ◌<◌, ◌≤◌}
use native.Mathlib.Nat.{le_trans, le_antisymm}
use native.Mathlib.Omega.{arith}
use lib.Dec.{lit≤}
use lib.ListN.{length, length-set, get_or, set}
use lib.IntN.{ℤ, pos, nat_abs, ◌+ℤ◌, ◌*ℤ◌, +ℤ_idr}
use mir.Syntax.{w32, w64}
use mir.Val.{to_z, of_z}
use Rattle.laws.specs.Below.{integers, sum}
use Rattle.laws.proofs.Loops.{share, pile_more, pile_size}
use Rattle.laws.proofs.Signed.{read64, read32_abs, fits64_as, abs_plus, abs_times_le}
use Rattle.laws.proofs.Sums.{sum_start}
use Rattle.step_totals.specs.Row.{raised}
use Rattle.step_totals.proofs.Rows.{raised_is}
use Rattle.step_totals.proofs.row.add_products.Goals as goal

pub loop-q-init : goal.loop-q-init
unfolding integers
loop-q-init c =
    let word : ℕ → ℕ =
    λ q. c.args.e * c.args.width + q in
    let count : ℤ =
    to_z w32 (of_z w32 c.args.count) in
    let product : ℕ → ℤ =
    λ q. count *ℤ pos (get_or c.args.prices.now (c.args.at + q) 0) in
    (omega arith, refl, λ p. sym (ap (λ (z : ℤ). get_or c.args.row.now p (pos 0) +ℤ z) (sum_start integers (share word product p)) ∙ +ℤ_idr (get_or c.args.row.now p (pos 0))))

pub overflow_add-g : goal.overflow_add-g
overflow_add-g c =
    omega (arith, c.requires.row_long c.loop-q.q c.loop-q-test.true)

pub raise_at-requires : goal.raise_at-requires
raise_at-requires c =
    let word : ℕ → ℕ =
    λ q. c.args.e * c.args.width + q in
    let count : ℤ =
    to_z w32 (of_z w32 c.args.count) in
    let product : ℕ → ℤ =
    λ q. count *ℤ pos (get_or c.args.prices.now (c.args.at + q) 0) in
    let count_is : count ≡ c.args.count =
    read32_abs c.args.count (le_trans c.requires.count_in (lit≤ tt)) in
    let count_in : nat_abs count ≤ 99_999 =
    rw count_is c.requires.count_in in
    let product_in : (q : ℕ) → q < c.args.width → nat_abs (product q) ≤ 999_989_900_001 =
    λ q. λ l. abs_times_le count (pos (get_or c.args.prices.now (c.args.at + q) 0)) count_in (c.requires.price_in q l) in
    let amount_is : to_z w64 (of_z w64 c.amount-x.result) ≡ product c.loop-q.q =
    read64 c.amount-x.result c.amount-x.type_inv ∙ c.amount-x.ensures ∙ ap (λ (p : ℕ). count *ℤ pos p) c.u32_at.ensures in
    let q = c.loop-q.q in
    let l = c.loop-q-test.true in
    let size = pile_size c.args.row.now c.loop-q.row word product q (word q) 2_000_000_000_000_000 999_989_900_001 (c.loop-q.invariant.2 (word q)) (c.requires.word_in_lem q l) (λ k m. product_in k (omega arith)) in (
      omega (arith, c.loop-q.invariant.1, c.requires.row_long q l),
      fits64_as (ap (λ (z : ℤ). get_or c.loop-q.row (word q) (pos 0) +ℤ z) amount_is)
          (omega (arith, abs_plus (get_or c.loop-q.row (word q) (pos 0)) (product q), size, product_in q l, c.requires.width_in)),
    )

pub loop-q-preserved : goal.loop-q-preserved
loop-q-preserved c =
    let word : ℕ → ℕ =
    λ q. c.args.e * c.args.width + q in
    let count : ℤ =
    to_z w32 (of_z w32 c.args.count) in
    let product : ℕ → ℤ =
    λ q. count *ℤ pos (get_or c.args.prices.now (c.args.at + q) 0) in
    let amount_is : to_z w64 (of_z w64 c.amount-x.result) ≡ product c.loop-q.q =
    read64 c.amount-x.result c.amount-x.type_inv ∙ c.amount-x.ensures ∙ ap (λ (p : ℕ). count *ℤ pos p) c.u32_at.ensures in
    let q = c.loop-q.q in
    let l = c.loop-q-test.true in
    let e = c.raise_at.ensures ∙ ap (λ (z : ℤ). set c.loop-q.row (word q) (get_or c.loop-q.row (word q) (pos 0) +ℤ z)) amount_is in (
      omega (arith, l),
      ap length e ∙ length-set c.loop-q.row _ _ ∙ c.loop-q.invariant.1,
      λ p. ap (λ (x : List ℤ). get_or x p (pos 0)) e ∙ pile_more c.args.row.now c.loop-q.row word product q c.loop-q.invariant.2 (omega (arith, c.loop-q.invariant.1, c.requires.row_long q l)) p,
    )

pub returns : goal.returns
returns c =
    let word : ℕ → ℕ =
    λ q. c.args.e * c.args.width + q in
    let count : ℤ =
    to_z w32 (of_z w32 c.args.count) in
    let product : ℕ → ℤ =
    λ q. count *ℤ pos (get_or c.args.prices.now (c.args.at + q) 0) in
    let count_is : count ≡ c.args.count =
    read32_abs c.args.count (le_trans c.requires.count_in (lit≤ tt)) in
    let count_in : nat_abs count ≤ 99_999 =
    rw count_is c.requires.count_in in
    raised_is c.args.width c.args.row.now c.args.e c.loop-q.row product c.requires.width_some c.loop-q.invariant.1
    (λ p. c.loop-q.invariant.2 p ∙ ap (λ (n : ℕ). get_or c.args.row.now p (pos 0) +ℤ sum integers n (share word product p)) (le_antisymm c.loop-q.invariant.0 c.loop-q-test.false))
    ∙ ap (λ (z : ℤ). raised c.args.width c.args.row.now c.args.e (λ q. z *ℤ pos (get_or c.args.prices.now (c.args.at + q) 0))) (count_is)
