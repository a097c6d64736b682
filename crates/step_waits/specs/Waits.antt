-- Words of waits, of one bit for each box, by the tables of a job.
use Rattle.std.specs.Prelude.{Bool, cond, ◌&&◌, List, [], ℕ, ◌^◌, ◌<◌, ◌≤◌, get_or, set, length, eqb, ltb}
use Rattle.std.specs.Int.Bits.{bit_or}
use Rattle.laws.specs.Below.{any}
use Rattle.laws.specs.Masks.{mask_of}
use Rattle.laws.specs.Tables.{tabulate, cell_at}

-- The lists of a job's tallies, and of the owners of grocers and offers.
pub record TallyLists : Type 0 where
  pub offer_owner : List ℕ
  pub grocer_owner : List ℕ
  pub grocer : List ℕ
  pub box : List ℕ
  pub offer : List ℕ

-- The lists as a call is lent them.
abbrev pub tally_lists : List ℕ → List ℕ → List ℕ → List ℕ → List ℕ → TallyLists
tally_lists offer_owner grocer_owner grocer box offer =
    record { offer_owner = offer_owner; grocer_owner = grocer_owner; grocer = grocer; box = box; offer = offer }

-- The owner of the grocer of tally t,
abbrev pub grocer_box : TallyLists → ℕ → ℕ
grocer_box l t = get_or l.grocer_owner (get_or l.grocer t 0) 0

-- and of its offer.
abbrev pub offer_box : TallyLists → ℕ → ℕ
offer_box l t = get_or l.offer_owner (get_or l.offer t 0) 0

-- Of the first n tallies box a, below k, holds one of box b's grocers and of box o's offers.
unfoldable pub waits_on : ℕ → TallyLists → ℕ → ℕ → ℕ → ℕ → Bool
waits_on k l n a b o = any n (λ t. (eqb (get_or l.box t 0) a && ltb a k) && (eqb (grocer_box l t) b && eqb (offer_box l t) o))

-- For boxes a and b the owners of these offers.
unfoldable pub wait_table : ℕ → TallyLists → ℕ → List (List ℕ)
wait_table k l n = tabulate 16 (λ a. tabulate 16 (λ b. mask_of 16 (waits_on k l n a b)))

-- What the pass over n tallies asks: at most 16 boxes, tables long enough, and owners below 16.
pub record WaitsIn (k n : ℕ) (l : TallyLists) : Type 0 where
  pub boxes≤ : k ≤ 16
  pub box_long : n ≤ length l.box
  pub grocer_long : n ≤ length l.grocer
  pub offer_long : n ≤ length l.offer
  pub grocer< : (t : ℕ) → t < n → get_or l.grocer t 0 < length l.grocer_owner
  pub offer< : (t : ℕ) → t < n → get_or l.offer t 0 < length l.offer_owner
  pub grocerOwner< : (t : ℕ) → t < n → grocer_box l t < 16
  pub offerOwner< : (t : ℕ) → t < n → offer_box l t < 16

-- The words after one tally of box a, of a grocer of box b and an offer of box o: bit o of the word of a and b is set, where a is below k.
unfoldable pub waited : ℕ → ℕ → ℕ → ℕ → List (List ℕ) → List (List ℕ)
waited k a b o waits = cond (ltb a k) (set waits a (set (get_or waits a []) b (bit_or (cell_at waits a b) (2 ^ o)))) waits
