-- Sums as code makes them: a line, the rows of a table, and the ones of the words passed; and the words of a job by them. Assumes nothing.
use mathlib.Core.Path.{◌≡◌, refl, sym, ap, ap₂, ◌∙◌}
use mathlib.Core.Bool.{Bool, true, false, cond}
use mathlib.Core.List.{List, []}
use Prim.Native.Nat.{ℕ, ◌+◌, ◌≤◌}
use native.Mathlib.Omega.{arith}
use lib.ListN.{length, get_or, get_or-eq_default}
use lib.Count.{ones}
use Rattle.laws.specs.Below.{naturals, sum}
use Rattle.laws.specs.Masks.{without}
use Rattle.laws.specs.Tables.{tabulate, cell_at}
use Rattle.laws.proofs.Sums.{sum_cong, sum_next_lem, sum_none}
use Rattle.laws.proofs.Tables.{get_d_tabulate, word_in_lem}
use Rattle.model.specs.Tables.{JobTables, job_of}
use Rattle.model.specs.Handed.{Handed}
use Rattle.model.specs.Words.{owner_words}
use Rattle.job_masks.specs.Masks.{holder_word}
use Rattle.message_tables.specs.Sums.{row_sum, column_sum, table_sum, others_sum}
use Rattle.job_masks.proofs.Holders.{need_word_lem, sharer_word_lem}
use Rattle.job_masks.proofs.InJob.{offers_room, grocers_room}

-- The first n counts of a row or a column, summed.
unfoldable pub line_to : ℕ → Bool → List (List ℕ) → ℕ → ℕ
line_to n back t x = sum naturals n (λ y. cell_at t (cond back y x) (cond back x y))

module _ (back : Bool) (t : List (List ℕ)) (x : ℕ) where
  pub line_none : line_to 0 back t x ≡ 0
  unfolding line_to sum naturals
  line_none = refl

  pub line_next : (n : ℕ) → line_to (n + 1) back t x ≡ line_to n back t x + cell_at t (cond back n x) (cond back x n)
  unfolding line_to naturals
  line_next n = sum_next_lem naturals n (λ y. cell_at t (cond back y x) (cond back x y))

-- All sixteen: what a box sends, or where `back` what it receives.
pub line-whole : (back : Bool) (t : List (List ℕ)) (x : ℕ) → line_to 16 back t x ≡ cond back (column_sum t x) (row_sum t x)
unfolding line_to row_sum column_sum
line-whole false t x = refl
line-whole true t x = refl

-- A line past the table has no word.
pub line_past : (back : Bool) (t : List (List ℕ)) (x : ℕ) → length t ≤ 16 → ((i : ℕ) → length (get_or t i []) ≤ 16) → 16 ≤ x → cond back (column_sum t x) (row_sum t x) ≡ 0
unfolding row_sum column_sum naturals
line_past false t x rows columns h = sum_none naturals 16 (λ y. cell_at t x y) (λ y l. ap (λ (r : List ℕ). get_or r y 0) (get_or-eq_default t [] {n = x} (omega arith)))
line_past true t x rows columns h = sum_none naturals 16 (λ y. cell_at t y x) (λ y l. get_or-eq_default (get_or t y []) 0 {n = x} (omega (arith, columns y)))

-- The first n rows.
unfoldable pub rows_to : ℕ → List (List ℕ) → ℕ
rows_to n t = sum naturals n (λ a. row_sum t a)

module _ (t : List (List ℕ)) where
  pub rows_none : rows_to 0 t ≡ 0
  unfolding rows_to sum naturals
  rows_none = refl

  pub rows_next : (n : ℕ) → rows_to (n + 1) t ≡ rows_to n t + row_sum t n
  unfolding rows_to naturals
  rows_next n = sum_next_lem naturals n (λ a. row_sum t a)

  pub rows_whole : rows_to 16 t ≡ table_sum t
  unfolding rows_to table_sum
  rows_whole = refl

-- The ones without the owners' bits, one word more.
pub others_none : (owners masks : List ℕ) → others_sum 0 owners masks ≡ 0
unfolding others_sum sum naturals
others_none owners masks = refl

pub others_next : (n : ℕ) (owners masks : List ℕ) → others_sum (n + 1) owners masks ≡ others_sum n owners masks + ones (without (get_or owners n 0) (get_or masks n 0))
unfolding others_sum naturals
others_next n owners masks = sum_next_lem naturals n (λ i. ones (without (get_or owners i 0) (get_or masks i 0)))

module _ (f : JobTables) (ok : Handed f) where
  -- What `words::word_total` gives is the words of the job by the owner tables.
  pub word_total :
      others_sum f.offers f.offer_owner (tabulate 500 (holder_word f.boxes f.tallies f.tally_box f.tally_offer))
      + others_sum f.grocers f.grocer_owner (tabulate 255 (holder_word f.boxes f.tallies f.tally_box f.tally_grocer))
      ≡ owner_words (job_of f)
  unfolding others_sum owner_words job_of
  word_total =
      ap₂ (λ (x y : ℕ). x + y)
      (sum_cong naturals f.offers _ _ (λ o l. ap₂ (λ (x y : ℕ). ones (without x y)) (sym (word_in_lem f.offers f.offer_owner 0 o l)) (get_d_tabulate 500 _ o 0 (let r = offers_room f ok in omega arith) ∙ need_word_lem f ok.bare o)))
      (sum_cong naturals f.grocers _ _ (λ g l. ap₂ (λ (x y : ℕ). ones (without x y)) (sym (word_in_lem f.grocers f.grocer_owner 0 g l)) (get_d_tabulate 255 _ g 0 (let r = grocers_room f ok in omega arith) ∙ sharer_word_lem f ok.bare g)))
