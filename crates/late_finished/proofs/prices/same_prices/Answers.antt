-- `late_finished::prices::same_prices` meets its contract: at list q those before it are compared. Assumes nothing.
use mathlib.Core.Path.{sym, ap₂}
use lib.Dec.{eqb}
use borrow.Author.Rules.{rules}
use Rattle.laws.proofs.Below.{all_start, all_more}
use Rattle.late_finished.proofs.prices.same_prices.Goals as goal

pub loop-q-init : goal.loop-q-init
loop-q-init c =
    (search rules, sym (all_start _))

pub loop-q-preserved : goal.loop-q-preserved
loop-q-preserved c =
    (search rules, all_more c.loop-q.q _ c.loop-q.all _ c.loop-q.invariant.1 (ap₂ eqb c.u32_at.ensures c.u32_at-in-loop-q.ensures))
