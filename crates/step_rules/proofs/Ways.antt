-- The ways through the tests: each answer is what its definition picks at the tests that led there. Assumes nothing.
use mathlib.Core.Path.{◌≡◌, sym}
use mathlib.Core.List.{List}
use mathlib.Core.Bool.{Bool, true, false}
use Prim.Native.Nat.{ℕ}
use Rattle.laws.proofs.Bools.{and_false}
use Rattle.model.specs.Steps.{Kind, Steps}
use Rattle.step_rules.specs.Rules.{fits_by, ready_by, permitted_by}

module _ (receivers : List ℕ) (waits : List (List ℕ)) (d : Steps) (q : Kind) (a b : ℕ) where
  pub permitted_unfit : fits_by receivers waits q a b ≡ false → false ≡ permitted_by receivers waits d q a b
  unfolding permitted_by
  permitted_unfit e = rw e

  pub permitted_done : d q a b ≡ true → false ≡ permitted_by receivers waits d q a b
  unfolding permitted_by
  permitted_done e = rw e (sym (and_false (fits_by receivers waits q a b)))

  pub permitted_ready : (r : Bool) → fits_by receivers waits q a b ≡ true → d q a b ≡ false → r ≡ ready_by waits d q a b → r ≡ permitted_by receivers waits d q a b
  unfolding permitted_by
  permitted_ready r e h w = rw (e, h) w
