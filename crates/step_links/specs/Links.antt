-- Entries linked by key, so that a walk over the entries of one key passes over the others: a tally by its box and the owner of its offer.
use Rattle.std.specs.Prelude.{◌≡◌, List, ℕ, ◌+◌, ◌*◌, ◌≤◌, ◌<◌, length, get_or}

-- From place i on, place j below n is the first whose key is v; j is n where there is none.
pub record SkipsBy (n : ℕ) (key : ℕ → ℕ) (v i j : ℕ) : Type 0 where
  pub from : i ≤ j
  pub to : j ≤ n
  pub none : (x : ℕ) → i ≤ x → x < j → key x ≡ v → ⊥
  pub hits : j < n → key j ≡ v

-- In front stands the first place of each key below `heads`, and behind these words for each place the next of the same key.
pub record LinkedBy (heads n : ℕ) (key : ℕ → ℕ) (links : List ℕ) : Type 0 where
  pub begins : (v : ℕ) → v < heads → SkipsBy n key v 0 (get_or links v 0)
  pub goes : (i : ℕ) → i < n → SkipsBy n key (key i) (i + 1) (get_or links (heads + i) 0)

-- The key of a pair of boxes, 0 to 16 and 0 to 15. A pair has it alone; from 256 on the first of the two is nobody.
abbrev pub pair_key : ℕ → ℕ → ℕ
pair_key a b = a * 16 + b

-- The key of an entry that has a box, and a place in a table of owners: the pair of its box and the owner there.
abbrev pub pair_at : List ℕ → List ℕ → List ℕ → ℕ → ℕ
pair_at boxes places owners i = pair_key (get_or boxes i 0) (get_or owners (get_or places i 0) 0)

-- Entries linked by these keys, 0 to 271.
abbrev pub LinkedPairs : ℕ → List ℕ → List ℕ → List ℕ → List ℕ → Type 0
LinkedPairs n boxes places owners links = LinkedBy 272 n (pair_at boxes places owners) links

-- Some list passes p: the list that a contract speaks of, where the code is not lent it.
pub record Some (p : List ℕ → Type 0) : Type 0 where
  pub list : List ℕ
  pub passes : p list

-- What linking requires: at most 1,000 places, tables as long as they need, boxes up to 16, places inside the table of owners, and owners below 16.
pub record PairsKeyed (n : ℕ) (boxes places owners links : List ℕ) : Type 0 where
  pub few : n ≤ 1_000
  pub boxes_long : n ≤ length boxes
  pub places_long : n ≤ length places
  pub links_long : 272 + n ≤ length links
  pub box_in : (i : ℕ) → i < n → get_or boxes i 0 ≤ 16
  pub place_in : (i : ℕ) → i < n → get_or places i 0 < length owners
  pub owner_in : (i : ℕ) → i < n → get_or owners (get_or places i 0) 0 < 16
