-- The places of all boxes at once: what is told of each box, and the place of each tally's total.
use Rattle.std.specs.Prelude.{◌≡◌, Bool, cond, List, ℕ, ◌+◌, ◌-◌, ◌*◌, ◌<◌, ◌≤◌, eqb, ltb, length}
use Rattle.book_sort.specs.Sort.{at, begin, place}
use Rattle.book_keys.specs.Keys.{OwnersIn}
use Rattle.book_places.specs.Spots.{class_by, list_by, total_by, start_by, group_by}

-- The place of a total of box b and grocer g, in a table of the boxes from a first up to a last, with 255 words a box. A box before them leaves the
-- old word, and one behind them has the place 0.
unfoldable pub place_at : ℕ → ℕ → List ℕ → ℕ → ℕ → ℕ → ℕ
place_at first last table b g old = cond (ltb b first) old (cond (ltb b last) (at table ((b - first) * 255 + g)) 0)

-- Box b has number i of those that a list has from a place on.
unfoldable pub takes : List ℕ → List ℕ → ℕ → List ℕ → ℕ → ℕ → Bool
takes owners words b list from i = total_by owners words b (at list (from + i))

-- The owner of group d of box b: the box itself, and then each box in turn.
unfoldable pub group_owner : ℕ → ℕ → ℕ
group_owner b d = cond (eqb d 0) b (d - 1)

-- How many numbers group d of box b is taken from: all of its owner, and none for the box among the others.
unfoldable pub group_size : List ℕ → ℕ → ℕ → ℕ
group_size starts b d = cond (eqb d (b + 1)) 0 (at starts (group_owner b d + 1) - at starts (group_owner b d))

-- So many words of a list from a place on, each a number with an owner and a word.
pub record TakeIn (list : List ℕ) (from size owners words : ℕ) : Type 0 where
  pub few : size ≤ 500
  pub long : from + size ≤ length list
  pub list_few : length list ≤ 500
  pub owner_in : (i : ℕ) → i < size → at list (from + i) < owners
  pub word_in_lem : (i : ℕ) → i < size → at list (from + i) < words

-- The n numbers with these owners, sorted by owner: where each owner begins, and the numbers. Each has a word.
pub record ByOwner (k n : ℕ) (owners words starts list : List ℕ) : Type 0 where
  pub owners_in : OwnersIn k n owners
  pub words_long : n ≤ length words
  pub starts_long : k < length starts
  pub starts_are : (c : ℕ) → c ≤ k → at starts c ≡ begin (at owners) n c
  pub list_long : length list ≡ 500
  pub list_is : (x : ℕ) → x < n → at list (place (at owners) n x) ≡ x

-- Box b is told: where each of its groups begins, 18 words a box, and each number at its place.
pub record BoxTold (k n : ℕ) (owners words : List ℕ) (b : ℕ) (heads out : List ℕ) : Type 0 where
  pub heads_are : (d : ℕ) → d < k + 2 → at heads (b * 18 + d) ≡ group_by k n owners words b d
  pub numbers_are : (x : ℕ) → x < n → class_by k b owners words x < k + 1 → at out (start_by n owners words b + place (class_by k b owners words) n x) ≡ x

-- The first n boxes are told: where each group begins, 18 words a box, and the number of each place.
pub record HeadsTold (k m : ℕ) (owners words : List ℕ) (n : ℕ) (heads out : List ℕ) : Type 0 where
  pub heads_are : (c d : ℕ) → c < n → d < k + 2 → at heads (c * 18 + d) ≡ group_by k m owners words c d
  pub numbers_are : (c i : ℕ) → c < n → i < length (list_by k m owners words c) →
      at out (start_by m owners words c + i) ≡ at (list_by k m owners words c) i

-- At most 8 of the k boxes: those from a first up to a last.
pub record HalfIn (k first last : ℕ) : Type 0 where
  pub ordered : first ≤ last
  pub few : last ≤ first + 8
  pub last_in : last ≤ k

-- A part of a list: at most 8,000 words in front of its end, each a grocer, no two alike.
pub record NumbersIn (list : List ℕ) (from to : ℕ) : Type 0 where
  pub ordered : from ≤ to
  pub few : to ≤ 8_000
  pub long : to ≤ length list
  pub word_in_lem : (i : ℕ) → from ≤ i → i < to → at list i < 255
  pub once : (i x : ℕ) → from ≤ i → i < to → from ≤ x → x < to → at list i ≡ at list x → i ≡ x

-- Of each of k boxes the grocers stand from where its first group begins to where the last one ends.
pub record RowsIn (k : ℕ) (heads grocers : List ℕ) : Type 0 where
  pub k_in : k ≤ 16
  pub heads_long : k * 18 ≤ length heads
  pub numbers_in : (c : ℕ) → c < k → NumbersIn grocers (at heads (c * 18)) (at heads (c * 18 + (k + 1)))

-- The place by box and grocer, 255 words a box, for the boxes from a first up to a last.
pub record RowsTold (k first last : ℕ) (heads grocers table : List ℕ) : Type 0 where
  pub table_is : (c i : ℕ) → first ≤ c → c < last → at heads (c * 18) ≤ i → i < at heads (c * 18 + (k + 1)) →
      at table ((c - first) * 255 + at grocers i) ≡ i

-- The places of n tallies of these boxes: where their grocer stands among those of the box. Tallies of boxes before them keep their words, and those of
-- boxes behind them have the place 0.
pub record HalfPlaces (k first last n : ℕ) (boxes items heads grocers old places : List ℕ) : Type 0 where
  pub places_are : (t i : ℕ) → t < n → first ≤ at boxes t → at boxes t < last → at heads (at boxes t * 18) ≤ i → i < at heads (at boxes t * 18 + (k + 1)) →
      at grocers i ≡ at items t → at places t ≡ i
  pub before_kept : (t : ℕ) → t < n → at boxes t < first → at places t ≡ at old t
  pub behind_none : (t : ℕ) → t < n → last ≤ at boxes t → at places t ≡ 0

-- What the lists of all boxes ask: at most 16 boxes and at most 500 numbers, with owners and words, and tables of such lengths.
pub record ListsIn (k n : ℕ) (owners words : List ℕ) (heads out : ℕ) : Type 0 where
  pub owners_in : OwnersIn k n owners
  pub words_long : n ≤ length words
  pub heads_long : k * 18 ≤ heads
  pub out_long : start_by n owners words k ≤ out

-- What telling asks: at most 16 boxes and at most 255 grocers, with owners and words, and tables of such lengths.
pub record BoxRoom (k m : ℕ) (owners words : List ℕ) (heads grocers table : ℕ) : Type 0 where
  pub owners_in : OwnersIn k m owners
  pub m_in : m ≤ 255
  pub words_long : m ≤ length words
  pub heads_long : k * 18 ≤ heads
  pub grocers_long : start_by m owners words k ≤ grocers
  pub table_long : 2_040 ≤ table

-- The same for all boxes, with n tallies of these grocers.
pub record AllIn (k m n : ℕ) (owners words boxes items : List ℕ) (heads grocers places : ℕ) : Type 0 where
  pub room : BoxRoom k m owners words heads grocers 2_040
  pub boxes_long : n ≤ length boxes
  pub items_long : n ≤ length items
  pub item_in : (t : ℕ) → t < n → at items t < m
  pub places_long : n ≤ places

-- What is told: where each group of each box begins, the grocer of each place, and of each tally the start of its box and the place of its grocer
-- in the box's list. A tally of no box has the place 0.
pub record AllPlaces (k m n : ℕ) (owners words boxes items heads grocers places : List ℕ) : Type 0 where
  pub heads_are : (c d : ℕ) → c < k → d < k + 2 → at heads (c * 18 + d) ≡ group_by k m owners words c d
  pub grocers_are : (c i : ℕ) → c < k → i < length (list_by k m owners words c) →
      at grocers (start_by m owners words c + i) ≡ at (list_by k m owners words c) i
  pub places_are : (t i : ℕ) → t < n → at boxes t < k → i < length (list_by k m owners words (at boxes t)) →
      at (list_by k m owners words (at boxes t)) i ≡ at items t → at places t ≡ start_by m owners words (at boxes t) + i
  pub others_none : (t : ℕ) → t < n → k ≤ at boxes t → at places t ≡ 0
