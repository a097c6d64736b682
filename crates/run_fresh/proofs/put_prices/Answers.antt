-- `run_fresh::put_prices` meets its contract. The invariant: the words of the first q lists are written, and the others are as they were. Assumes nothing.
use mathlib.Core.Path.{◌≡◌, sym, ap, ◌∙◌}
use mathlib.Core.Bool.{cond}
use Prim.Native.Nat.{ℕ, ◌+◌, ◌-◌, ◌*◌, ◌≤◌}
use native.Mathlib.Omega.{arith}
use native.Mathlib.Nat.{mul-le-mul}
use lib.ListN.{get_or}
use Rattle.laws.proofs.Bools.{cond_no}
use Rattle.laws.proofs.Loops.{window, window_none, window_here, window_else, stored_more}
use Rattle.laws.proofs.Tables.{cell_in}
use Rattle.model.specs.Spans.{in_span}
use Rattle.run_fresh.proofs.put_prices.Goals as goal

pub loop-q-init : goal.loop-q-init
loop-q-init c =
    let new : ℕ → ℕ =
    λ k. get_or c.args.price.now ((k - c.args.at) * c.args.n + c.args.o) 0 in
    let old : ℕ → ℕ =
    λ k. get_or c.args.known.now k 0 in
    λ k. sym (cond_no _ (new k) (old k) (window_none c.args.at k))

pub overflow_mul-q : goal.overflow_mul-q
overflow_mul-q c =
    let h : c.loop-q.q ≤ 8 = omega arith in
    omega (arith, mul-le-mul h c.requires.n_bound.0)

pub overflow_add-q : goal.overflow_add-q
overflow_add-q c =
    let h : c.loop-q.q ≤ 8 = omega arith in
    omega (arith, mul-le-mul h c.requires.n_bound.0)

pub u32_at-requires : goal.u32_at-requires
u32_at-requires c =
    omega (arith, cell_in c.loop-q.q c.args.width c.args.n c.args.o c.loop-q-test.true c.requires.n_bound.1.0, c.requires.width_in_bounds.1)

pub loop-q-preserved : goal.loop-q-preserved
loop-q-preserved c =
    let new : ℕ → ℕ =
    λ k. get_or c.args.price.now ((k - c.args.at) * c.args.n + c.args.o) 0 in
    let old : ℕ → ℕ =
    λ k. get_or c.args.known.now k 0 in
    let v = c.loop-q in
    stored_more v.known 0 new old (window c.args.at v.q) (window c.args.at (v.q + 1))
    (c.args.at + v.q) (omega arith) v.invariant (window_here c.args.at v.q) (window_else c.args.at v.q) c.u32_at.result
    (c.u32_at.ensures ∙ ap (λ (x : ℕ). get_or c.args.price.now (x * c.args.n + c.args.o) 0) (omega arith))

pub returns : goal.returns
unfolding in_span
returns c =
    let new : ℕ → ℕ =
    λ k. get_or c.args.price.now ((k - c.args.at) * c.args.n + c.args.o) 0 in
    let old : ℕ → ℕ =
    λ k. get_or c.args.known.now k 0 in
    let end : c.loop-q.q ≡ c.args.width = omega arith in
    λ k. c.loop-q.invariant k ∙ ap (λ (x : ℕ). cond (window c.args.at x k) (new k) (old k)) end
