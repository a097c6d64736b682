-- The words of a box, copied, and what multiplying them requires.
use Rattle.std.specs.Prelude.{◌≡◌, Bool, true, cond, List, ℕ, suc, ◌+◌, ◌*◌, ◌<◌, ◌≤◌, ltb, length, get_or, set, ℤ, pos, nat_abs, ◌+ℤ◌}
use Rattle.laws.specs.Below.{all}
use Rattle.laws.specs.Limits.{max_boxes, max_grocers, max_offers, max_tallies, max_lists, max_amount}
use Rattle.laws.specs.Tables.{tabulate}
use Rattle.model.specs.Ranges.{around}
use Rattle.step_totals.specs.Row.{TallyIn, is_taken}

-- The words of a box on list q, so many from a place on, of so many words a place, in a row of 255 words: the others are 0.
unfoldable pub row_of : ℕ → ℕ → ℕ → ℕ → List ℤ → List ℤ
row_of start len width q l = tabulate max_grocers (λ g. cond (ltb g len) (get_or l ((start + g) * width + q) (pos 0)) (pos 0))

-- The words of a box are in range, list by list.
abbrev pub rows_fit : ℕ → ℕ → ℕ → List ℤ → Bool
rows_fit start len width l = all width (λ q. around max_amount len (row_of start len width q l))

-- A list of amounts with x added to its word g.
abbrev pub raised_at : List ℤ → ℕ → ℤ → List ℤ
raised_at l g x = set l g (get_or l g (pos 0) +ℤ x)

-- What multiplying for box a requires: sizes in range, words that are there and in range, and a place among them for each tally that is taken.
pub record RowIn (start len width n t a from : ℕ) (owner place holder offer : List ℕ) (counts : List ℤ) (prices : List ℕ) (working : List ℤ) : Type 0 where
  pub few : len ≤ max_grocers
  pub width_some : 1 ≤ width
  pub width_in : width ≤ suc max_lists
  pub offers_in : n ≤ max_offers
  pub tallies_in : t ≤ max_tallies
  pub box_in : a < max_boxes
  pub owner_long_lem : n ≤ length owner
  pub holder_long : t ≤ length holder
  pub long : (start + len) * width ≤ length working
  pub word_in_lem : (p : ℕ) → start * width ≤ p → p < (start + len) * width → nat_abs (get_or working p (pos 0)) ≤ max_amount
  pub offer_in : (i : ℕ) → i < t → get_or offer i 0 < n
  pub tally_in : (i : ℕ) → i < t → TallyIn width place offer counts prices (a * (n * width)) i
  pub place_in : (i : ℕ) → i < t → is_taken owner holder offer a from i ≡ true → (start ≤ get_or place i 0) × (get_or place i 0 < start + len)
