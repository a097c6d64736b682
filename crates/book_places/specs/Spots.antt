-- Places of packed totals, from the owners of the grocers and the words of the boxes that hold tallies of each.
use Rattle.std.specs.Prelude.{Bool, cond, ◌||◌, List, ℕ, ◌+◌, ◌-◌, ◌<◌, ◌≤◌, length, eqb}
use Rattle.laws.specs.Below.{naturals, sum, count}
use Rattle.laws.specs.Masks.{bit}
use Rattle.laws.specs.Tables.{tabulate}
use Rattle.model.specs.Spans.{in_span}
use Rattle.book_sort.specs.Sort.{at, begin}
use Rattle.book_keys.specs.Keys.{class_of, number_in, OwnersIn}
use Rattle.book_places.specs.Lists.{local_list}

-- The class of number x by these owners and words.
unfoldable pub class_by : ℕ → ℕ → List ℕ → List ℕ → ℕ → ℕ
class_by k b owners words x = class_of k b (at owners x) (bit b (at words x))

-- The local list of box b, by these owners and words.
unfoldable pub list_by : ℕ → ℕ → List ℕ → List ℕ → ℕ → List ℕ
list_by k n owners words b = local_list k n (at owners) (λ x. bit b (at words x)) b

-- Box b has a total of grocer g: it owns the grocer, or holds a tally of it.
unfoldable pub total_by : List ℕ → List ℕ → ℕ → ℕ → Bool
total_by owners words b g = eqb (at owners g) b || bit b (at words g)

-- How many of the first m grocers box b has a total of.
unfoldable pub count_by : ℕ → List ℕ → List ℕ → ℕ → ℕ
count_by m owners words b = count m (total_by owners words b)

-- Where the totals of box b begin: behind those of the boxes before it.
unfoldable pub start_by : ℕ → List ℕ → List ℕ → ℕ → ℕ
start_by m owners words b = sum naturals b (count_by m owners words)

-- The place of tally i of box b, whose totals begin at a place, by the local numbers of the grocers; 0 for a tally of another box.
unfoldable pub place_by : List ℕ → List ℕ → List ℕ → ℕ → ℕ → ℕ → ℕ
place_by boxes items numbers b start i = cond (eqb (at boxes i) b) (start + at numbers (at items i)) 0

-- The places of the tallies of box b: behind the start of its totals, by local grocer; 0 for the tallies of other boxes.
unfoldable pub spot_by : ℕ → ℕ → List ℕ → List ℕ → ℕ → List ℕ → List ℕ → ℕ → ℕ
spot_by k m owners words b boxes items i =
    cond (eqb (at boxes i) b)
    (start_by m owners words b + number_in (list_by k m owners words b) (length (list_by k m owners words b)) (at items i)) 0

-- Where group c of box b begins: class c of its local list, behind the start of its totals.
unfoldable pub group_by : ℕ → ℕ → List ℕ → List ℕ → ℕ → ℕ → ℕ
group_by k m owners words b c = start_by m owners words b + begin (class_by k b owners words) m c

-- A list of l words put into a table from a place on.
unfoldable pub put_at : List ℕ → ℕ → ℕ → List ℕ → List ℕ
put_at list l start old = tabulate (length old) (λ i. cond (in_span start (start + l) i) (at list (i - start)) (at old i))

-- What counting asks: at most 500 grocers, with an owner below 16 and a word each.
pub record CountIn (m : ℕ) (owners words : List ℕ) : Type 0 where
  pub m_in : m ≤ 500
  pub owners_long : m ≤ length owners
  pub words_long : m ≤ length words
  pub owner_in : (g : ℕ) → g < m → at owners g < 16

-- What is asked for a box of at most 16 and at most 255 grocers, each with an owner among them and a word.
pub record BoxIn (k m b : ℕ) (owners words : List ℕ) : Type 0 where
  pub owners_in : OwnersIn k m owners
  pub m_in : m ≤ 255
  pub words_long : m ≤ length words
  pub box_in : b < k
