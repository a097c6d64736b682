-- Walks over the entries of one key: those that are passed over bring nothing and change nothing. Assumes nothing.
use mathlib.Core.Path.{◌≡◌, refl, sym, ap₂, subst}
use mathlib.Core.Bool.{Bool, true, false}
use mathlib.Core.List.{List}
use Prim.Native.Nat.{ℕ, ◌+◌, ◌<◌}
use native.Mathlib.Omega.{arith}
use lib.Dec.{eqb}
use lib.ListN.{get_or}
use lib.IntN.{ℤ, pos}
use borrow.Author.Tests.{eqb-true, eq-eqb}
use Rattle.laws.specs.Below.{integers, only}
use Rattle.laws.proofs.Bools.{and_l, and_r, and_true, no_true}
use Rattle.laws.proofs.Loops.{share}
use Rattle.step_links.specs.Links.{SkipsBy, LinkedBy, pair_key, pair_at}
use Rattle.step_totals.specs.Row.{is_taken, brings}
use Rattle.step_links.proofs.Walks.{goes_by}

-- A step of a walk, where the place that it goes to is named.
pub goes_to : (heads n : ℕ) (key : ℕ → ℕ) (links : List ℕ) (v i j : ℕ) → LinkedBy heads n key links → i < n → key i ≡ v → j ≡ get_or links (heads + i) 0 → SkipsBy n key v (i + 1) j
goes_to heads n key links v i j h l e to = subst (λ (x : ℕ). SkipsBy n key v (i + 1) x) (sym to) (goes_by heads n key links v i h l e)

-- A tally of the pair that is walked over is taken.
pub pair_taken : (owner holder offer : List ℕ) (a from i : ℕ) → from < 16 → get_or owner (get_or offer i 0) 0 < 16 → pair_at holder offer owner i ≡ pair_key a from →
    is_taken owner holder offer a from i ≡ true
pair_taken owner holder offer a from i lf lo e =
    let mine : get_or holder i 0 ≡ a = omega arith in
    let theirs : get_or owner (get_or offer i 0) 0 ≡ from = omega arith in
    and_true (eq-eqb (get_or holder i 0) a mine) (eq-eqb (get_or owner (get_or offer i 0) 0) from theirs)

-- A tally of another pair of boxes brings nothing to the row of box a, at any grocer.
pub other_share : (owner holder offer : List ℕ) (counts : List ℤ) (prices : List ℕ) (place : ℕ → ℕ) (a from at width q g i : ℕ) → (pair_at holder offer owner i ≡ pair_key a from → ⊥) →
    share place (brings owner holder offer counts prices a from at width q) g i ≡ pos 0
unfolding only integers
other_share owner holder offer counts prices place a from at width q g i n = rw (no_true (is_taken owner holder offer a from i) other) (nothing (eqb (place i) g))
  where
    other : is_taken owner holder offer a from i ≡ true → ⊥
    other t =
        let mine = eqb (get_or holder i 0) a in
        let theirs = eqb (get_or owner (get_or offer i 0) 0) from in
        n (ap₂ pair_key (eqb-true (get_or holder i 0) a (and_l mine theirs t)) (eqb-true (get_or owner (get_or offer i 0) 0) from (and_r mine theirs t)))

    nothing : (t : Bool) → only integers t (pos 0) ≡ pos 0
    nothing true = refl
    nothing false = refl
