-- `run_ready::places_in` meets its contract: the counts of its rows are added. Assumes nothing.
use mathlib.Core.Path.{◌≡◌, ap, ◌∙◌}
use mathlib.Core.List.{List}
use Prim.Native.Nat.{ℕ, ◌+◌, ◌-◌}
use native.Mathlib.Omega.{arith}
use lib.ListN.{take, drop}
use Rattle.std.specs.List.{sum}
use Rattle.run_ready.proofs.Rows.{rows_little, span_total}
use Rattle.run_ready.proofs.places_in.Goals as goal

-- The rows that are added, by their number.
added : (counts : List ℕ) (first n from to : ℕ) → from ≡ first → to ≡ n → sum (take (from + to - from) (drop from counts)) ≡ sum (take n (drop first counts))
added counts first n from to e f = ap (λ (m : ℕ). sum (take m (drop from counts))) (omega arith) ∙ ap (λ (m : ℕ). sum (take n (drop m counts))) e

pub total-requires : goal.total-requires
total-requires c =
    let rows = c.args.rows.now in
    let end = c.args.first + c.args.n in
    let e = added rows.counts c.args.first c.args.n _ _ c.from-from.ensures c.from.ensures in
    omega (arith, e, span_total rows c.args.first c.args.n (omega arith), rows_little c.args.k rows end c.requires.0 c.requires.1)

pub returns : goal.returns
returns c =
    let rows = c.args.rows.now in
    omega (arith, c.total.ensures, added rows.counts c.args.first c.args.n _ _ c.from-from.ensures c.from.ensures, span_total rows c.args.first c.args.n (omega arith))
