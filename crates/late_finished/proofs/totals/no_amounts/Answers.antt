-- `late_finished::totals::no_amounts` meets its contract: at amount i those before it are tested. Assumes nothing.
use mathlib.Core.Path.{refl, sym, ap, ◌∙◌}
use Prim.Native.Nat.{ℕ}
use native.Mathlib.Nat.{le_antisymm}
use lib.ListN.{get_or}
use lib.IntN.{pos}
use mir.Syntax.{w64}
use mir.Facts.{to_z-of_z}
use borrow.Author.Rules.{rules, sfits_of}
use Rattle.laws.specs.Below.{all}
use Rattle.laws.proofs.Below.{all_start, all_more}
use Rattle.late_rules.specs.Late.{same_amount}
use Rattle.late_finished.specs.Tests.{no_amounts}
use Rattle.late_finished.proofs.Amounts.{word_same}
use Rattle.late_finished.proofs.totals.no_amounts.Goals as goal

pub loop-i-init : goal.loop-i-init
loop-i-init c =
    (search rules, sym (all_start _))

pub loop-i-preserved : goal.loop-i-preserved
loop-i-preserved c =
    (search rules, all_more c.loop-i.i _ c.loop-i.all _ c.loop-i.invariant.1 (word_same _ (pos 0) (to_z-of_z {w = w64} (sfits_of c.all-1.given)) refl))

pub returns : goal.returns
unfolding no_amounts
returns c =
    let s = c.args in
    c.loop-i.invariant.1 ∙ ap (λ (k : ℕ). all k (λ w. same_amount (get_or s.s.now w (pos 0)) (pos 0))) (le_antisymm c.loop-i.invariant.0 c.loop-i-test.false)
