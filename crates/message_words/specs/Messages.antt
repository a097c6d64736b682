-- Tables of messages by owners and words of holders: 16 rows of 16 counts, the row is the sender.
use Rattle.std.specs.Prelude.{Bool, cond, ◌&&◌, not, List, ℕ, get_or, eqb}
use Rattle.laws.specs.Below.{count}
use Rattle.laws.specs.Masks.{bit}
use Rattle.laws.specs.Tables.{tabulate}

-- Box x is the owner c, and y, another box, is among those that the word w means.
unfoldable pub between : ℕ → ℕ → ℕ → ℕ → Bool
between c w x y = eqb c x && (not (eqb c y) && bit y w)

-- A word goes from box a to box b: from the owner to another holder, or back to the owner.
unfoldable pub sends : Bool → ℕ → ℕ → ℕ → ℕ → Bool
sends back c w a b = between c w (cond back b a) (cond back a b)

-- The words between the boxes for the first n owners and words: prices go from the owner, totals go back.
unfoldable pub sent_table : Bool → ℕ → List ℕ → List ℕ → List (List ℕ)
sent_table back n owners masks = tabulate 16 (λ a. tabulate 16 (λ b. count n (λ i. sends back (get_or owners i 0) (get_or masks i 0) a b)))
