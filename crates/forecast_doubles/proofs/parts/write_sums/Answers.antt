-- `forecast_doubles::parts::write_sums` meets its contract: at grocer g the forecasts before it are written. Assumes nothing.
use mathlib.Core.Path.{◌≡◌, ap, ◌∙◌}
use mathlib.Core.Bool.{cond}
use mathlib.Core.List.{List}
use Prim.Native.Nat.{ℕ, ◌<◌}
use native.Mathlib.Omega.{arith}
use lib.Dec.{eqb}
use lib.ListN.{get_or}
use lib.Ieee.{Float}
use Rattle.laws.specs.Tables.{overwrite}
use Rattle.laws.proofs.Tables.{fill_none, fill_more, get_d_past}
use Rattle.forecast_rules.specs.Doubles.{zero+}
use Rattle.forecast_doubles.specs.Parts.{owner_sum, summed_word}
use Rattle.forecast_doubles.proofs.parts.write_sums.Goals as goal

-- The word of grocer g, from what the calls give.
told : (k m a g x y : ℕ) (owner sharers : List ℕ) (part held l : List Float) (s u : Float) →
    x ≡ get_or owner g 0 → y ≡ get_or sharers g 0 → s ≡ owner_sum k m g a y part held → u ≡ get_or l g zero+ → cond (eqb x a) s u ≡ summed_word k m a owner sharers part held l g
unfolding summed_word
told k m a g x y owner sharers part held l s u ex ey es eu = rw (es, eu, ex, ey)

word_is : (k m a g x y : ℕ) (owner sharers : List ℕ) (part held l l' : List Float) (s u r : Float) →
    l' ≡ overwrite g (summed_word k m a owner sharers part held l) l → x ≡ get_or owner g 0 → y ≡ get_or sharers g 0 → s ≡ owner_sum k m g a y part held →
    u ≡ get_or l' g zero+ → r ≡ cond (eqb x a) s u → r ≡ summed_word k m a owner sharers part held l g
word_is k m a g x y owner sharers part held l l' s u r el ex ey es eu er =
    let keep : get_or l' g zero+ ≡ get_or l g zero+ = ap (λ (z : List Float). get_or z g zero+) el ∙ get_d_past g (summed_word k m a owner sharers part held l) l g zero+ (omega arith) in
    er ∙ told k m a g x y owner sharers part held l s u ex ey es (eu ∙ keep)

pub loop-g-init : goal.loop-g-init
loop-g-init c =
    fill_none _ _

pub loop-g-preserved : goal.loop-g-preserved
loop-g-preserved c =
    let s = c.args in
    let i : c.loop-g.g < s.m = c.loop-g-test.true in
    fill_more _ c.loop-g.g s.forecast.now c.loop-g.forecast _ c.loop-g.invariant (omega (arith, i, c.requires.m_in_bounds))
    (word_is s.k s.m s.a c.loop-g.g _ _ s.owner.now s.sharers.now s.part.now s.held.now s.forecast.now c.loop-g.forecast _ _ _
    c.loop-g.invariant c.u16_at-in-loop-g.ensures c.u16_at.ensures c.owner_sum-sum.ensures c.f64_at.ensures c.chosen-word.ensures)
