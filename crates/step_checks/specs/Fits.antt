-- The late 21 of kinds 1 to 3, by the number of the kind.
use Rattle.std.specs.Prelude.{◌≡◌, Bool, cond, List, ℕ, suc, ◌+◌, ◌-◌, ◌*◌, ◌<◌, ◌≤◌, eqb, leb, length, get_or, ℤ, pos, nat_abs}
use Rattle.laws.specs.Limits.{max_grocers, max_lists, max_amount, max_sent}
use Rattle.model.specs.Job.{Job}
use Rattle.model.specs.PackedTotals.{totals_start}
use Rattle.step_apply.specs.Apply.{SentIn, multiplied}
use Rattle.step_totals.specs.Row.{Tallies, TalliesIn, PricesIn}
use Rattle.step_row.specs.Row.{rows_fit}

-- The span of all totals of a box.
pub record BoxSpan (j : Job) (b from to : ℕ) : Type 0 where
  pub from_is : from ≡ totals_start j b
  pub to_is : to ≡ totals_start j (suc b)

-- The working totals of a span stay in range on each price list once the tallies of box a whose offers a box owns are multiplied into them.
abbrev pub row_fits : Tallies → ℕ → ℕ → ℕ → List ℕ → ℕ → ℕ → List ℤ → Bool
row_fits e width from to prices a owner working = rows_fit from (to - from) width (multiplied e width prices a owner working)

-- What the step leaves is in range: 1 raises the count of words sent, by those of so many offers; 2 and 3 add to the working totals of box a, those of
-- the span.
unfoldable pub price_fits : Tallies → ℕ → ℕ → ℕ → ℕ → List ℕ → List ℕ → List ℤ → List ℕ → ℕ → ℕ → ℕ → Bool
price_fits e width from to offers known transit working sent kind a b =
    cond (eqb kind 1) (leb (get_or sent 0 0 + offers * width) max_sent)
    (cond (eqb kind 2) (row_fits e width from to known a a working) (row_fits e width from to transit a b working))

-- A span of the working totals, at most 255 places with words in range, in which each tally of box a has its place.
pub record HeldIn (e : Tallies) (width from to a : ℕ) (working : List ℤ) : Type 0 where
  pub order : from ≤ to
  pub few : to ≤ from + max_grocers
  pub long : to * width ≤ length working
  pub word_in_lem : (p : ℕ) → from * width ≤ p → p < to * width → nat_abs (get_or working p (pos 0)) ≤ max_amount
  pub place_long_lem : e.tallies ≤ length e.place
  pub place_in : (i : ℕ) → i < e.tallies → get_or e.holder i 0 ≡ a → (from ≤ get_or e.place i 0) × (get_or e.place i 0 < to)

-- What the test requires: tables that are long enough and in range, for kinds 2 and 3 the span, a kind of their side, and boxes below K.
pub record PriceFitsIn (e : Tallies) (lists from to offers : ℕ) (known transit : List ℕ) (working : List ℤ) (sent : List ℕ) (kind a b : ℕ) : Type 0 where
  pub tallies_in : TalliesIn e
  pub lists_in : lists ≤ max_lists
  pub listed_in : offers ≤ e.offers
  pub known_in : PricesIn e.boxes (e.offers * suc lists) known
  pub transit_in : PricesIn e.boxes (e.offers * suc lists) transit
  pub held_in : 2 ≤ kind → HeldIn e (suc lists) from to a working
  pub sent_in : SentIn sent
  pub kind_from : 1 ≤ kind
  pub kind_to : kind ≤ 3
  pub a_in : a < e.boxes
  pub b_in : b < e.boxes
