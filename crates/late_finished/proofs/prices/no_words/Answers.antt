-- `late_finished::prices::no_words` meets its contract: at word i those before it are tested. Assumes nothing.
use mathlib.Core.Path.{refl, sym, ap, ◌∙◌}
use Prim.Native.Nat.{ℕ, ◌+◌}
use native.Mathlib.Nat.{le_antisymm}
use lib.ListN.{get_or}
use lib.Dec.{eqb}
use borrow.Author.Rules.{rules}
use Rattle.laws.specs.Below.{all}
use Rattle.laws.proofs.Below.{all_start, all_more}
use Rattle.late_finished.specs.Tests.{no_words}
use Rattle.late_finished.proofs.prices.no_words.Goals as goal

pub loop-i-init : goal.loop-i-init
loop-i-init c =
    (search rules, sym (all_start _))

pub loop-i-preserved : goal.loop-i-preserved
loop-i-preserved c =
    (search rules, all_more c.loop-i.i _ c.loop-i.all _ c.loop-i.invariant.1 refl)

pub returns : goal.returns
unfolding no_words
returns c =
    let s = c.args in
    c.loop-i.invariant.1 ∙ ap (λ (k : ℕ). all k (λ w. eqb (get_or s.s.now (s.at + w) 0) 0)) (le_antisymm c.loop-i.invariant.0 c.loop-i-test.false)
