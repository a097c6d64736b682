-- `late_finished::totals::right_amounts` meets its contract: at grocer g those before it are compared. Assumes nothing.
use mathlib.Core.Path.{sym, ap, ap₂, ◌∙◌}
use Prim.Native.Nat.{ℕ, ◌+◌, ◌*◌}
use native.Mathlib.Nat.{le_antisymm}
use lib.IntN.{pos}
use lib.ListN.{get_or}
use borrow.Author.Rules.{rules}
use Rattle.laws.specs.Below.{all}
use Rattle.laws.proofs.Below.{all_start, all_more}
use Rattle.laws.proofs.Signed.{read64}
use Rattle.late_rules.specs.Late.{same_amount}
use Rattle.late_finished.specs.Tests.{right_amounts}
use Rattle.late_finished.proofs.Amounts.{word_same}
use Rattle.late_finished.proofs.totals.right_amounts.Goals as goal

pub loop-g-init : goal.loop-g-init
loop-g-init c =
    (search rules, sym (all_start _))

pub loop-g-preserved : goal.loop-g-preserved
loop-g-preserved c = (
  search rules,
  all_more c.loop-g.g _ c.loop-g.all _ c.loop-g.invariant.1
      (word_same _ _ (read64 c.i64_at.result c.i64_at.type_inv) (read64 c.i64_at-in-loop-g.result c.i64_at-in-loop-g.type_inv) ∙ ap₂ same_amount c.i64_at.ensures c.i64_at-in-loop-g.ensures),
)

pub returns : goal.returns
unfolding right_amounts
returns c =
    let s = c.args in
    c.loop-g.invariant.1
    ∙ ap (λ (k : ℕ). all k (λ g. same_amount (get_or s.statement.now (g * s.width + s.q) (pos 0)) (get_or s.sums.now g (pos 0)))) (le_antisymm c.loop-g.invariant.0 c.loop-g-test.false)
