-- `late_finished::prices::right_row` meets its contract: at offer o those before it are tested. Assumes nothing.
use mathlib.Core.Path.{◌≡◌, sym, ap, ap₂, ◌∙◌}
use mathlib.Core.Bool.{Bool, ◌||◌}
use Prim.Native.Nat.{ℕ, ◌+◌, ◌*◌}
use native.Mathlib.Nat.{le_antisymm}
use lib.Dec.{eqb}
use borrow.Author.Rules.{rules}
use Rattle.laws.specs.Below.{all}
use Rattle.laws.specs.Masks.{bit}
use Rattle.laws.proofs.Below.{all_start, all_more}
use Rattle.late_finished.specs.Tests.{knows_by, right_words, right_row}
use Rattle.late_finished.proofs.prices.right_row.Goals as goal

pub loop-o-init : goal.loop-o-init
loop-o-init c =
    (search rules, sym (all_start _))

pub loop-o-preserved : goal.loop-o-preserved
loop-o-preserved c =
    let knows_is : let s = c.args in
    c.knows-k.result ≡ knows_by s.offer_owner.now s.needs.now s.b c.loop-o.o =
    let s = c.args in
    c.knows-k.ensures ∙ ap₂ (λ (x y : ℕ). eqb x s.b || bit s.b y) c.u16_at.ensures c.u16_at-in-loop-o.ensures in
    let place_is : let s = c.args in
    s.at + c.words_at.result ≡ s.b * (s.n * s.width) + c.loop-o.o * s.width =
    ap₂ (λ (x y : ℕ). x + y) c.requires.width_in_bounds.1 c.words_at.ensures.0 in
    let s = c.args in (
      search rules,
      all_more c.loop-o.o _ c.loop-o.all _ c.loop-o.invariant.1
          (c.right_words-all.ensures
          ∙ ap₂ (λ (t : Bool) (x : ℕ). right_words t s.n s.width s.price.now s.known.now x c.loop-o.o) knows_is place_is),
    )

pub returns : goal.returns
unfolding right_row
returns c =
    let s = c.args in
    c.loop-o.invariant.1
    ∙ ap (λ (k : ℕ). all k (λ o. right_words (knows_by s.offer_owner.now s.needs.now s.b o) s.n s.width s.price.now s.known.now (s.b * (s.n * s.width) + o * s.width) o))
    (le_antisymm c.loop-o.invariant.0 c.loop-o-test.false)
