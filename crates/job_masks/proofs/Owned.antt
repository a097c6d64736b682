-- The words that a pass makes for each owner are those of all that it owns; and with need words and sharer words they tell the messages.
-- Assumes nothing.
use mathlib.Core.Path.{◌≡◌, refl, sym, ap, ◌∙◌}
use mathlib.Core.Bool.{Bool, true, false, ◌&&◌, ◌||◌, not}
use mathlib.Core.List.{List}
use Prim.Native.Nat.{ℕ, ◌+◌, ◌^◌, ◌<◌, ◌≤◌}
use native.Mathlib.Omega.{arith}
use lib.ListN.{get_or, set, replicate}
use lib.Dec.{eqb}
use lib.Bits.{bit_or}
use borrow.Author.Tests.{eqb-true, ne_eqb}
use Rattle.laws.specs.Below.{any, only, naturals}
use Rattle.laws.specs.Masks.{bit, mask_of}
use Rattle.laws.specs.Tables.{tabulate}
use Rattle.laws.proofs.Bools.{split, eqb_same, or_false}
use Rattle.laws.proofs.Below.{any_next, any_false, any_cong}
use Rattle.laws.proofs.Masks.{mask_cong, mask_bits, mask_join, bit_mask}
use Rattle.laws.proofs.Tables.{get_d_tabulate, word_in_lem}
use Rattle.laws.proofs.Rows.{set_tabulate}
use Rattle.model.specs.Job.{needs, shares, need_word, sharer_word, price_word, total_word, prices_due, totals_due}
use Rattle.model.specs.Tables.{JobTables, job_of}
use Rattle.model.specs.Handed.{Handed}
use Rattle.step_places.specs.Message.{reaches}
use Rattle.job_masks.specs.Masks.{owns_for, by_owner}
use Rattle.model.proofs.Step.{range, limits}

-- No place yet.
pub owner_none : (owners masks : List ℕ) → replicate 16 0 ≡ by_owner 0 owners masks
unfolding by_owner owns_for any tabulate mask_of only naturals
owner_none owners masks = refl

-- One place more, of box a and word w.
module _ (n : ℕ) (owners masks : List ℕ) (la : get_or owners n 0 < 16) (lw : get_or masks n 0 < 2 ^ 16) where
  abbrev a : ℕ
  a = get_or owners n 0

  abbrev w : ℕ
  w = get_or masks n 0

  owns_next : (x b : ℕ) → owns_for (n + 1) owners masks x b ≡ (owns_for n owners masks x b || (eqb a x && bit b w))
  unfolding owns_for
  owns_next x b = any_next n (λ o. eqb (get_or owners o 0) x && bit b (get_or masks o 0))

  abbrev word_of : ℕ → ℕ → ℕ
  word_of m x = mask_of 16 (owns_for m owners masks x)

  raised : bit_or (get_or (tabulate 16 (word_of n)) a 0) w ≡ word_of (n + 1) a
  raised =
      ap (λ (x : ℕ). bit_or x w) (get_d_tabulate 16 (word_of n) a 0 la)
      ∙ ap (bit_or (word_of n a)) (sym (mask_bits 16 w lw))
      ∙ mask_join 16 (owns_for n owners masks a) (λ b. bit b w)
      ∙ mask_cong 16 _ (owns_for (n + 1) owners masks a) (λ b l. sym (owns_next a b ∙ rw (eqb_same a)))

  owner_more : set (by_owner n owners masks) a (bit_or (get_or (by_owner n owners masks) a 0) w) ≡ by_owner (n + 1) owners masks
  unfolding by_owner
  owner_more =
      ap (set (tabulate 16 (word_of n)) a) raised
      ∙ set_tabulate 16 (word_of n) (word_of (n + 1)) a 0 la
      (λ x l ne. mask_cong 16 _ (owns_for n owners masks x) (λ b m. owns_next x b ∙ rw (ne_eqb a x (λ q. ne (sym q))) (or_false (owns_for n owners masks x b))))

  -- The same, by words that are told to be these.
  pub owner_told : (words : List ℕ) (x y : ℕ) → words ≡ by_owner n owners masks → x ≡ a → y ≡ w → set words x (bit_or (get_or words x 0) y) ≡ by_owner (n + 1) owners masks
  owner_told words x y ew ex ey = rw (ew, ex, ey) owner_more

-- Another box than b among owners: the test of each, or one test before.
module _ (n : ℕ) (owner : ℕ → ℕ) (p : ℕ → Bool) (a b : ℕ) where
  apart_any : (not (eqb a b) && any n (λ o. eqb (owner o) a && p o)) ≡ any n (λ o. eqb (owner o) a && (not (eqb (owner o) b) && p o))
  apart_any =
      split (eqb a b)
      (λ e. rw e (sym (any_false n _ (λ o l. none o e))))
      (λ e. rw e (any_cong n _ _ (λ o l. one o e)))
    where
      none : (o : ℕ) → eqb a b ≡ true → (eqb (owner o) a && (not (eqb (owner o) b) && p o)) ≡ false
      none o e = split (eqb (owner o) a) (λ q. rw (eqb-true (owner o) a q, eqb_same a, e)) (λ q. rw q)

      one : (o : ℕ) → eqb a b ≡ false → (eqb (owner o) a && p o) ≡ (eqb (owner o) a && (not (eqb (owner o) b) && p o))
      one o e = split (eqb (owner o) a) (λ q. rw (eqb-true (owner o) a q, eqb_same a, e)) (λ q. rw q)

-- A box reaches another just where it owns something whose word has that box.
module _ (n size : ℕ) (few : n ≤ size) (owners masks : List ℕ) (holds : ℕ → ℕ → Bool) (em : masks ≡ tabulate size (λ i. mask_of 16 (holds i))) where
  mask_bit : (i b : ℕ) → i < n → b < 16 → bit b (get_or masks i 0) ≡ holds i b
  mask_bit i b li lb =
      ap (λ (l : List ℕ). bit b (get_or l i 0)) em
      ∙ ap (bit b) (get_d_tabulate size (λ i. mask_of 16 (holds i)) i 0 (omega arith))
      ∙ bit_mask 16 b (holds i) lb

  owns_is : (a b : ℕ) → b < 16 → owns_for n owners masks a b ≡ any n (λ i. eqb (get_or owners i 0) a && holds i b)
  unfolding owns_for
  owns_is a b lb = any_cong n _ _ (λ i l. rw (mask_bit i b l lb))

  pub owners_reach : (a b : ℕ) → a < 16 → b < 16 → reaches (by_owner n owners masks) a b ≡ any n (λ i. eqb (get_or owners i 0) a && (not (eqb (get_or owners i 0) b) && holds i b))
  unfolding reaches by_owner
  owners_reach a b la lb =
      ap (λ (x : ℕ). not (eqb a b) && bit b x) (get_d_tabulate 16 (λ a. mask_of 16 (owns_for n owners masks a)) a 0 la)
      ∙ ap (λ (t : Bool). not (eqb a b) && t) (bit_mask 16 b (owns_for n owners masks a) lb ∙ owns_is a b lb)
      ∙ apart_any n (λ i. get_or owners i 0) (λ i. holds i b) a b

-- With the need words these are the messages of prices, and with the sharer words those of totals.
module _ (f : JobTables) (ok : Handed f) where
  small : (a : ℕ) → a < f.boxes → a < 16
  unfolding job_of
  small a l = omega (arith, (range f ok.inside).boxes≤)

  pub prices_reach : (needed : List ℕ) → needed ≡ tabulate 500 (need_word (job_of f)) → (a b : ℕ) → a < f.boxes → b < f.boxes →
      reaches (by_owner f.offers f.offer_owner needed) a b ≡ prices_due (job_of f) a b
  unfolding need_word prices_due price_word job_of
  prices_reach needed en a b la lb =
      owners_reach f.offers 500 (limits f ok.inside).offers≤ f.offer_owner needed (needs (job_of f)) en a b (small a la) (small b lb)
      ∙ any_cong f.offers _ _ (λ o l. rw (word_in_lem f.offers f.offer_owner 0 o l))

  pub totals_reach : (shared : List ℕ) → shared ≡ tabulate 255 (sharer_word (job_of f)) → (a b : ℕ) → a < f.boxes → b < f.boxes →
      reaches (by_owner f.grocers f.grocer_owner shared) b a ≡ totals_due (job_of f) a b
  unfolding sharer_word totals_due total_word job_of
  totals_reach shared es a b la lb =
      owners_reach f.grocers 255 (limits f ok.inside).grocers≤ f.grocer_owner shared (shares (job_of f)) es b a (small b lb) (small a la)
      ∙ any_cong f.grocers _ _ (λ g l. rw (word_in_lem f.grocers f.grocer_owner 0 g l))
