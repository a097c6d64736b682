-- `forecast_doubles::parts::sums_fit` meets its contract: at grocer g those before it are tested. Assumes nothing.
use mathlib.Core.Path.{◌≡◌, sym}
use mathlib.Core.Bool.{Bool, not, ◌||◌}
use mathlib.Core.List.{List}
use Prim.Native.Nat.{ℕ}
use lib.Dec.{eqb}
use lib.ListN.{get_or}
use lib.Ieee.{Float}
use Rattle.laws.proofs.Below.{all_start, all_more}
use Rattle.forecast_rules.specs.Doubles.{is_sum}
use Rattle.forecast_doubles.specs.Parts.{owner_sum, sums_fit}
use Rattle.forecast_doubles.proofs.parts.sums_fit.Goals as goal

-- The test of grocer g, from what the calls give.
fits_is : (k m a g x y : ℕ) (owner sharers : List ℕ) (part held : List Float) (s : Float) (r : Bool) →
    x ≡ get_or owner g 0 → y ≡ get_or sharers g 0 → s ≡ owner_sum k m g a y part held → r ≡ is_sum s →
    (not (eqb x a) || r) ≡ (not (eqb (get_or owner g 0) a) || is_sum (owner_sum k m g a (get_or sharers g 0) part held))
fits_is k m a g x y owner sharers part held s r ex ey es er = rw (er, es, ex, ey)

pub loop-g-init : goal.loop-g-init
unfolding sums_fit
loop-g-init c =
    sym (all_start _)

pub loop-g-preserved : goal.loop-g-preserved
unfolding sums_fit
loop-g-preserved c =
    let s = c.args in
    all_more c.loop-g.g _ c.loop-g.fit _ c.loop-g.invariant
    (fits_is s.k s.m s.a c.loop-g.g _ _ s.owner.now s.sharers.now s.part.now s.held.now _ _ c.u16_at.ensures c.u16_at-in-loop-g.ensures c.owner_sum.ensures c.is_sum.ensures)
