-- The local offers and grocers of a box, and a grocer's local number.
use Rattle.std.specs.Prelude.{List, [], ◌++◌, ℕ, zero, suc, get_or, length, eqb}
use Rattle.laws.specs.Below.{find, ascending}
use Rattle.model.specs.Job.{Job, price_word, total_word}

-- The lists f 0, f 1, .. f (n − 1), one behind the other.
unfoldable pub chained : ℕ → (ℕ → List ℕ) → List ℕ
chained zero f = []
chained (suc n) f = chained n f ++ f n

module _ (j : Job) (b : ℕ) where
  -- Local offers: own ones ascending, then others it holds a tally of, by owner and then place in the offer table.
  unfoldable pub local_offers : List ℕ
  local_offers = ascending j.offers (λ o. eqb (j.offer_owner o) b) ++ chained j.boxes (λ a. ascending j.offers (price_word j a b))

  -- Local grocers likewise.
  unfoldable pub local_grocers : List ℕ
  local_grocers = ascending j.grocers (λ g. eqb (j.grocer_owner g) b) ++ chained j.boxes (λ a. ascending j.grocers (total_word j b a))

  -- The local number of grocer g: its place among the local grocers.
  unfoldable pub local_grocer : ℕ → ℕ
  local_grocer g = find (length local_grocers) (λ i. eqb (get_or local_grocers i 0) g)
