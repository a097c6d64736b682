-- What a step of kind 1, 2 or 3 requires, before tallies are linked.
use Rattle.std.specs.Prelude.{◌≡◌, List, ℕ, length, ℤ}
use Rattle.step_links.specs.Links.{PairsKeyed, LinkedPairs}
use Rattle.step_totals.specs.Row.{Tallies}
use Rattle.step_apply.specs.Apply.{PriceStepIn}

-- Kinds 1 to 3: tallies can be linked by box and owner, and with these links the step can be applied.
pub record PricesLent (e : Tallies) (width from to : ℕ) (offers known transit : List ℕ) (working : List ℤ) (kind a b : ℕ) : Type 0 where
  pub tallies_keyed : (links : List ℕ) → length links ≡ 1_272 → PairsKeyed e.tallies e.holder e.offer e.owner links
  pub step_in : (links : List ℕ) → LinkedPairs e.tallies e.holder e.offer e.owner links →
      PriceStepIn e width from to offers links known transit working kind a b
