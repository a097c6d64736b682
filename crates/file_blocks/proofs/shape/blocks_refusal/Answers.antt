-- `file_blocks::shape::blocks_refusal` meets its contract. Assumes nothing.
use Prim.Native.Nat.{ℕ, ◌+◌, ◌-◌}
use mathlib.Core.Path.{◌≡◌, refl, sym, ap, ◌∙◌, subst}
use native.Mathlib.Omega.{arith}
use Rattle.std.proofs.lemmas.Result.{err_from_is_err_and}
use Rattle.format.specs.First.{first_below}
use Rattle.format.specs.Blocks.{blocks}
use Rattle.format.specs.File.{decode}
use Rattle.format.specs.Refusals.{block_refusal}
use Rattle.format.proofs.Firsts.{below_more, below_hit}
use Rattle.refusals.specs.Numbers.{number_of}
use Rattle.refusals.proofs.Numbers.{number_positive}
use Rattle.file_blocks.proofs.shape.blocks_refusal.Goals as goal

pub loop-k-init : goal.loop-k-init
unfolding first_below
loop-k-init c =
    refl

pub loop-k-preserved : goal.loop-k-preserved
loop-k-preserved c =
    let f = c.args.f.now in
    let k = c.loop-k.k in
    let h = λ (i : ℕ). block_refusal f (1 + i) in
    let here : 0 ≡ block_refusal f k = c.in_ok-block_refusal.ensures in
    let at : 1 + (k - 1) ≡ k = omega arith in
    let next : k - 1 + 1 ≡ k + 1 - 1 = omega arith in
    subst (λ (n : ℕ). first_below n h ≡ 0) next (below_more h (k - 1) c.loop-k.invariant (ap (block_refusal f) at ∙ sym here))

pub returns-in_err-block_refusal : goal.returns-in_err-block_refusal
returns-in_err-block_refusal c =
    let p = err_from_is_err_and c.from_residual.result c.from_residual.ensures.1 in
    let f = c.args.f.now in
    let k = c.loop-k.k in
    let x = c.in_err-block_refusal.field-0.0 in
    let e : number_of x ≡ block_refusal f k = c.in_err-block_refusal.ensures in
    let at : 1 + (k - 1) ≡ k = omega arith in
    rw (p.1, p.2) (sym (below_hit (λ (i : ℕ). block_refusal f (1 + i)) (k - 1) (blocks (decode f) - 1) (number_of x) (omega arith) c.loop-k.invariant
    (ap (block_refusal f) at ∙ sym e) (λ z. omega (arith, number_positive x, z))))

pub returns : goal.returns
returns c =
    let f = c.args.f.now in
    let h = λ (i : ℕ). block_refusal f (1 + i) in
    let e : c.loop-k.k - 1 ≡ blocks (decode f) - 1 = omega arith in
    sym (subst (λ (n : ℕ). first_below n h ≡ 0) e c.loop-k.invariant)
