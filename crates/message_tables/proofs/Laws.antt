-- What the tables of messages hold, of a job in range: nothing outside the job's boxes nor from a box to itself, and rows and columns
-- that sum to the ones of the need words and the sharer words. Assumes nothing.
use mathlib.Core.Path.{◌≡◌, refl, sym, ap, ap₂, ◌∙◌}
use mathlib.Core.Bool.{Bool, true, false, ◌&&◌, not}
use Prim.Native.Nat.{ℕ, ◌+◌, ◌<◌, ◌≤◌}
use native.Mathlib.Omega.{arith}
use native.Mathlib.Nat.{le_refl}
use lib.Dec.{eqb}
use lib.Count.{ones}
use borrow.Author.Tests.{ne_eqb}
use Rattle.laws.specs.Below.{naturals, sum, only, count}
use Rattle.laws.specs.Masks.{mask_of, without}
use Rattle.laws.proofs.Bools.{split, and_one, and_false}
use Rattle.laws.proofs.Sums.{sum_cong, sum_none, sum_swap, sum_only, sum_pick}
use Rattle.model.specs.Job.{Job, needs, shares, need_word, sharer_word, price_word, total_word}
use Rattle.model.specs.Words.{owner_words}
use Rattle.model.specs.Local.{price_table, total_table}
use Rattle.laws.specs.Tables.{cell_at}
use Rattle.message_tables.specs.Sums.{row_sum, column_sum, table_sum}
use Rattle.model.proofs.Range.{InRange}
use Rattle.model.proofs.Words.{needs_past, shares_past, ones_others}
use Rattle.message_words.proofs.MessageLaws.{price_cell, total_cell}

-- None is counted where none passes.
count_zeros : (n : ℕ) (p : ℕ → Bool) → ((i : ℕ) → i < n → p i ≡ false) → count n p ≡ 0
unfolding count only naturals
count_zeros n p h = sum_none naturals n (λ i. only naturals (p i) 1) (λ i l. rw (h i l))

only_and : (a b : Bool) (x : ℕ) → only naturals (a && b) x ≡ only naturals a (only naturals b x)
unfolding only
only_and true b x = refl
only_and false b x = refl

only_true : (x : ℕ) → only naturals true x ≡ x
unfolding only
only_true x = refl

-- n owners, each with the boxes that p means for it: the words between an owner x and another box y.
module _ (n : ℕ) (owner : ℕ → ℕ) (p : ℕ → ℕ → Bool) where
  abbrev word_at : ℕ → ℕ → ℕ → Bool
  word_at x y i = eqb (owner i) x && (not (eqb (owner i) y) && p i y)

  -- The ones of the word of i without the owner's bit.
  abbrev others : ℕ → ℕ
  others i = ones (without (owner i) (mask_of 16 (p i)))

  no_holder : (x y : ℕ) → ((i : ℕ) → p i y ≡ false) → count n (word_at x y) ≡ 0
  no_holder x y h = count_zeros n (word_at x y) (λ i l. rw (h i) (simp and_false))

  no_owner : (x y : ℕ) → ((i : ℕ) → i < n → owner i ≡ x → ⊥) → count n (word_at x y) ≡ 0
  no_owner x y h = count_zeros n (word_at x y) (λ i l. rw (ne_eqb (owner i) x (h i l)))

  no_self : (x : ℕ) → count n (word_at x x) ≡ 0
  no_self x = count_zeros n (word_at x x) (λ i l. split (eqb (owner i) x) (λ e. simp e) (λ e. simp e))

  module _ (lt : (i : ℕ) → i < n → owner i < 16) (past : (i b : ℕ) → 16 ≤ b → p i b ≡ false) where
    owner_sum_lem : (x : ℕ) → sum naturals 16 (λ y. count n (word_at x y)) ≡ sum naturals n (λ i. only naturals (eqb (owner i) x) (others i))
    unfolding count
    owner_sum_lem x =
        sum_swap naturals 16 n (λ y i. only naturals (word_at x y i) 1)
        ∙ sum_cong naturals n (λ i. sum naturals 16 (λ y. only naturals (word_at x y i) 1)) (λ i. only naturals (eqb (owner i) x) (others i)) (λ i l.
        sum_cong naturals 16 (λ y. only naturals (word_at x y i) 1) (λ y. only naturals (eqb (owner i) x) (only naturals (not (eqb (owner i) y) && p i y) 1))
        (λ y m. only_and (eqb (owner i) x) (not (eqb (owner i) y) && p i y) 1)
        ∙ sum_only naturals 16 (eqb (owner i) x) (λ y. only naturals (not (eqb (owner i) y) && p i y) 1)
        ∙ ap (only naturals (eqb (owner i) x)) (sym (ones_others 16 (owner i) (p i) (le_refl 16) (lt i l) (past i))))

    whole_sum : sum naturals 16 (λ x. sum naturals 16 (λ y. count n (word_at x y))) ≡ sum naturals n others
    whole_sum =
        sum_cong naturals 16 (λ x. sum naturals 16 (λ y. count n (word_at x y))) (λ x. sum naturals n (λ i. only naturals (eqb (owner i) x) (others i))) (λ x l. owner_sum_lem x)
        ∙ sum_swap naturals 16 n (λ x i. only naturals (eqb (owner i) x) (others i))
        ∙ sum_cong naturals n (λ i. sum naturals 16 (λ x. only naturals (eqb (owner i) x) (others i))) others (λ i l.
        sum_cong naturals 16 (λ x. only naturals (eqb (owner i) x) (others i)) (λ x. only naturals (eqb (owner i) x && true) (others i)) (λ x m. rw (and_one (eqb (owner i) x)))
        ∙ sum_pick naturals 16 (owner i) true (others i) (lt i l)
        ∙ only_true (others i))

module _ (j : Job) (a b : ℕ) (la : a < 16) (lb : b < 16) where
  -- Boxes from K on have 0, as senders and as receivers.
  pub price_column_past : j.boxes ≤ b → cell_at (price_table j) a b ≡ 0
  unfolding price_word
  price_column_past h = price_cell j a b la lb ∙ no_holder j.offers j.offer_owner (needs j) a b (λ o. needs_past j o b h)

  pub total_row_past : j.boxes ≤ a → cell_at (total_table j) a b ≡ 0
  unfolding total_word
  total_row_past h = total_cell j a b la lb ∙ no_holder j.grocers j.grocer_owner (shares j) b a (λ g. shares_past j g a h)

  pub price_row_past : InRange j → j.boxes ≤ a → cell_at (price_table j) a b ≡ 0
  unfolding price_word
  price_row_past r h = price_cell j a b la lb ∙ no_owner j.offers j.offer_owner (needs j) a b (λ o l e. omega (arith, r.owner< o l))

  pub total_column_past : InRange j → j.boxes ≤ b → cell_at (total_table j) a b ≡ 0
  unfolding total_word
  total_column_past r h = total_cell j a b la lb ∙ no_owner j.grocers j.grocer_owner (shares j) b a (λ g l e. omega (arith, r.grocerOwner< g l))

module _ (j : Job) (a : ℕ) (la : a < 16) where
  -- A box to itself has 0.
  pub price_self : cell_at (price_table j) a a ≡ 0
  unfolding price_word
  price_self = price_cell j a a la la ∙ no_self j.offers j.offer_owner (needs j) a

  pub total_self : cell_at (total_table j) a a ≡ 0
  unfolding total_word
  total_self = total_cell j a a la la ∙ no_self j.grocers j.grocer_owner (shares j) a

module _ (j : Job) (r : InRange j) where
  offer_owner_lem : (o : ℕ) → o < j.offers → j.offer_owner o < 16
  offer_owner_lem o l = omega (arith, r.owner< o l, r.boxes≤)

  grocer_owner_lem : (g : ℕ) → g < j.grocers → j.grocer_owner g < 16
  grocer_owner_lem g l = omega (arith, r.grocerOwner< g l, r.boxes≤)

  needs_out : (o b : ℕ) → 16 ≤ b → needs j o b ≡ false
  needs_out o b h = needs_past j o b (omega (arith, r.boxes≤))

  shares_out : (g b : ℕ) → 16 ≤ b → shares j g b ≡ false
  shares_out g b h = shares_past j g b (omega (arith, r.boxes≤))

  -- A box's row of the price table sums to the ones in the need words of its own offers, the owner's bit left out.
  pub price_row_sum : (a : ℕ) → a < 16 → row_sum (price_table j) a ≡ sum naturals j.offers (λ o. only naturals (eqb (j.offer_owner o) a) (ones (without (j.offer_owner o) (need_word j o))))
  unfolding row_sum price_word need_word
  price_row_sum a l =
      sum_cong naturals 16 (λ b. cell_at (price_table j) a b) (λ b. count j.offers (price_word j a b)) (λ b m. price_cell j a b l m)
      ∙ owner_sum_lem j.offers j.offer_owner (needs j) offer_owner_lem needs_out a

  -- Its column of the totals table sums likewise over the sharers of its own grocers.
  pub total_column_sum : (b : ℕ) → b < 16 → column_sum (total_table j) b ≡ sum naturals j.grocers (λ g. only naturals (eqb (j.grocer_owner g) b) (ones (without (j.grocer_owner g) (sharer_word j g))))
  unfolding column_sum total_word sharer_word
  total_column_sum b l =
      sum_cong naturals 16 (λ a. cell_at (total_table j) a b) (λ a. count j.grocers (total_word j a b)) (λ a m. total_cell j a b m l)
      ∙ owner_sum_lem j.grocers j.grocer_owner (shares j) grocer_owner_lem shares_out b

  -- Each table sums to its part of the word total,
  pub price_sum : table_sum (price_table j) ≡ sum naturals j.offers (λ o. ones (without (j.offer_owner o) (need_word j o)))
  unfolding table_sum row_sum price_word need_word
  price_sum =
      sum_cong naturals 16 (λ a. sum naturals 16 (λ b. cell_at (price_table j) a b)) (λ a. sum naturals 16 (λ b. count j.offers (price_word j a b)))
      (λ a l. sum_cong naturals 16 (λ b. cell_at (price_table j) a b) (λ b. count j.offers (price_word j a b)) (λ b m. price_cell j a b l m))
      ∙ whole_sum j.offers j.offer_owner (needs j) offer_owner_lem needs_out

  pub total_sum : table_sum (total_table j) ≡ sum naturals j.grocers (λ g. ones (without (j.grocer_owner g) (sharer_word j g)))
  unfolding table_sum row_sum total_word sharer_word
  total_sum =
      sum_cong naturals 16 (λ a. sum naturals 16 (λ b. cell_at (total_table j) a b)) (λ a. sum naturals 16 (λ b. count j.grocers (total_word j a b)))
      (λ a l. sum_cong naturals 16 (λ b. cell_at (total_table j) a b) (λ b. count j.grocers (total_word j a b)) (λ b m. total_cell j a b l m))
      ∙ sum_swap naturals 16 16 (λ a b. count j.grocers (total_word j a b))
      ∙ whole_sum j.grocers j.grocer_owner (shares j) grocer_owner_lem shares_out

  -- and both together to the words of the job by the owner tables.
  pub tables_sum : table_sum (price_table j) + table_sum (total_table j) ≡ owner_words j
  unfolding owner_words
  tables_sum = ap₂ (λ (x y : ℕ). x + y) price_sum total_sum
