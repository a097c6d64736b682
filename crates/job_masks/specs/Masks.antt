-- Need words and sharer words by the tables of the tallies, and these together for each owner.
use Rattle.std.specs.Prelude.{Bool, cond, ◌&&◌, List, ℕ, ◌^◌, ◌<◌, ◌≤◌, get_or, set, length, eqb, ltb}
use Rattle.std.specs.Int.Bits.{bit_or}
use Rattle.laws.specs.Below.{any}
use Rattle.laws.specs.Masks.{bit, mask_of}
use Rattle.laws.specs.Tables.{tabulate}

-- The words after one tally of box b and place p: bit b of the word at p is set, where b is below k.
unfoldable pub marked : ℕ → ℕ → ℕ → List ℕ → List ℕ
marked k b p masks = cond (ltb b k) (set masks p (bit_or (get_or masks p 0) (2 ^ b))) masks

-- Box b holds one of the first n tallies of place p, an offer's or a grocer's. A tally of a box not below k is held by nobody.
unfoldable pub holds : ℕ → ℕ → List ℕ → List ℕ → ℕ → ℕ → Bool
holds k n boxes places p b = any n (λ t. (eqb (get_or boxes t 0) b && ltb b k) && eqb (get_or places t 0) p)

-- The boxes that hold a tally of place p, as a 16-bit word with one bit for each box.
unfoldable pub holder_word : ℕ → ℕ → List ℕ → List ℕ → ℕ → ℕ
holder_word k n boxes places p = mask_of 16 (holds k n boxes places p)

-- What the pass over n tallies asks: at most 16 boxes, tables long enough, and each place below the number of words.
pub record Placed (k n size : ℕ) (boxes places : List ℕ) : Type 0 where
  pub boxes≤ : k ≤ 16
  pub box_long : n ≤ length boxes
  pub place_long : n ≤ length places
  pub place< : (t : ℕ) → t < n → get_or places t 0 < size

-- What a pass over n owners asks: tables long enough, and owners below 16.
pub record Owned (n : ℕ) (owners masks : List ℕ) : Type 0 where
  pub owner_long : n ≤ length owners
  pub mask_long : n ≤ length masks
  pub owner< : (i : ℕ) → i < n → get_or owners i 0 < 16

-- Of the first n places some one that box a owns has box b in its word.
unfoldable pub owns_for : ℕ → List ℕ → List ℕ → ℕ → ℕ → Bool
owns_for n owners masks a b = any n (λ i. eqb (get_or owners i 0) a && bit b (get_or masks i 0))

-- For each box the words of all that it owns together.
unfoldable pub by_owner : ℕ → List ℕ → List ℕ → List ℕ
by_owner n owners masks = tabulate 16 (λ a. mask_of 16 (owns_for n owners masks a))
