-- `book_places::box_start` meets its contract. Assumes nothing.
use mathlib.Core.Path.{◌≡◌, sym, ap, ap₂, ◌∙◌}
use mathlib.Core.Bool.{◌||◌}
use Prim.Native.Nat.{ℕ, ◌+◌}
use native.Mathlib.Omega.{arith}
use lib.Dec.{eqb}
use borrow.Author.Rules.{rules}
use Rattle.laws.specs.Below.{naturals, sum, count}
use Rattle.laws.specs.Masks.{bit}
use Rattle.laws.proofs.Sums.{sum_start, sum_next_lem}
use Rattle.book_places.specs.Spots.{total_by}
use Rattle.book_places.proofs.Starts.{one_grocer, start_grocers}
use Rattle.book_places.proofs.box_start.Goals as goal

pub loop-g-init : goal.loop-g-init
unfolding naturals
loop-g-init c =
    (sym (sum_start naturals _), search rules)

pub loop-g-preserved : goal.loop-g-preserved
unfolding naturals one_grocer total_by
loop-g-preserved c =
    let added : c.totals_among-sum.result ≡ one_grocer c.args.owners.now c.args.words.now c.args.b c.loop-g.g =
    c.totals_among-sum.ensures.0 c.args.b c.requires.1 c.boxes_below-below.ensures
    ∙ ap₂ (λ (o w : ℕ). count c.args.b (λ i. eqb o i || bit i w)) c.u16_at.ensures c.u16_at-in-loop-g.ensures in (
      ap₂ (λ (x y : ℕ). x + y) c.loop-g.invariant.0 added ∙ sym (sum_next_lem naturals c.loop-g.g _),
      omega (arith, c.totals_among-sum.ensures.1, c.loop-g.invariant.1),
    )

pub returns : goal.returns
returns c =
    let done : c.loop-g.g ≡ c.args.m = omega arith in (
      c.loop-g.invariant.0
          ∙ ap (λ (n : ℕ). sum naturals n (one_grocer c.args.owners.now c.args.words.now c.args.b)) done
          ∙ start_grocers c.args.m c.args.owners.now c.args.words.now c.args.b,
      omega (arith, c.loop-g.invariant.1, c.requires.0.m_in),
    )
