-- The test of a word of a message, from tables of owners and masks.
use Rattle.std.specs.Prelude.{Bool, ◌&&◌, not, List, ℕ, eqb, get_or}
use Rattle.laws.specs.Masks.{bit}

-- A word whose owner is `owner` and whose mask is `mask` stands in the message between its owner a and another box b.
unfoldable pub in_message : ℕ → ℕ → ℕ → ℕ → Bool
in_message owner mask a b = eqb owner a && (not (eqb owner b) && bit b mask)

-- The same of word i of a table of owners and a table of masks.
unfoldable pub word_in : List ℕ → List ℕ → ℕ → ℕ → ℕ → Bool
word_in owners masks a b i = in_message (get_or owners i 0) (get_or masks i 0) a b

-- Box b, another box, is among those of the word of box a.
unfoldable pub reaches : List ℕ → ℕ → ℕ → Bool
reaches words a b = not (eqb a b) && bit b (get_or words a 0)
