-- `late_finished::prices::right_known` meets its contract: at box b the rows before it are tested. Assumes nothing.
use mathlib.Core.Path.{sym, ap, ◌∙◌}
use Prim.Native.Nat.{ℕ, ◌*◌}
use native.Mathlib.Nat.{le_antisymm}
use native.Mathlib.Omega.{arith}
use borrow.Author.Rules.{rules}
use Rattle.laws.specs.Below.{all}
use Rattle.laws.proofs.Below.{all_start, all_more}
use Rattle.laws.proofs.Tables.{row_in}
use Rattle.late_finished.specs.Tests.{right_row, right_known}
use Rattle.late_finished.proofs.prices.right_known.Goals as goal

pub loop-b-init : goal.loop-b-init
loop-b-init c =
    (search rules, sym (all_start _))

pub right_row-all-requires : goal.right_row-all-requires
right_row-all-requires c =
    let b = c.loop-b.b in
    let at = c.row_start-at.ensures ∙ ap (λ (m : ℕ). b * m) c.words_at-m.ensures.0 in record {
      b_bound = (omega (arith, c.requires.k_bound.0, c.loop-b-test.true), c.requires.k_bound.1, c.requires.k_bound.2, c.requires.k_bound.3, c.requires.k_bound.4);
      width_in_bounds = (c.requires.width_in_bounds.0, at, omega (arith, at, row_in b c.args.k (c.args.n * c.args.width) c.loop-b-test.true, c.requires.width_in_bounds.1));
    }

pub loop-b-preserved : goal.loop-b-preserved
loop-b-preserved c =
    (search rules, all_more c.loop-b.b _ c.loop-b.all _ c.loop-b.invariant.1 c.right_row-all.ensures)

pub returns : goal.returns
unfolding right_known
returns c =
    let s = c.args in
    c.loop-b.invariant.1
    ∙ ap (λ (k : ℕ). all k (right_row s.n s.width s.price.now s.offer_owner.now s.needs.now s.known.now)) (le_antisymm c.loop-b.invariant.0 c.loop-b-test.false)
