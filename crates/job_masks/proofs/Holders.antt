-- The words that one pass over the tallies makes are the need words and the sharer words. Assumes nothing.
use mathlib.Core.Path.{◌≡◌, sym, ap, ◌∙◌}
use mathlib.Core.Bool.{true, false, ◌&&◌, ◌||◌}
use mathlib.Core.List.{List, []}
use Prim.Native.Nat.{ℕ, ◌+◌, ◌^◌, ◌<◌, ◌≤◌}
use native.Mathlib.Omega.{arith}
use lib.ListN.{get_or, length}
use lib.Seq.{get_or-set_same, get_or-set_other}
use lib.Dec.{eqb, ltb}
use lib.Bits.{bit_or}
use borrow.Author.Tests.{ltb-true, eqb-true, eqb-false}
use Rattle.laws.specs.Below.{any}
use Rattle.laws.specs.Tables.{tabulate, word}
use Rattle.laws.proofs.Bools.{split, eqb_same, and_false, and_one, or_false}
use Rattle.laws.proofs.Below.{any_next, any_cong}
use Rattle.laws.proofs.Masks.{mask_cong, mask_none, mask_or}
use Rattle.laws.proofs.Tables.{word_in_lem, tabulate_cong}
use Rattle.model.specs.Job.{held_by, needs, shares, need_word, sharer_word}
use Rattle.model.specs.Tables.{JobTables, job_of}
use Rattle.job_masks.specs.Masks.{marked, holds, holder_word}
use Rattle.model.proofs.Handed.{bare_stands}

-- The box of a tally is b, and b is below k.
pub held_in : (k b i : ℕ) → ltb b k ≡ true → (eqb b i && ltb i k) ≡ eqb b i
held_in k b i h = split (eqb b i) (λ e. rw (sym (eqb-true b i e), h) (and_one (eqb b b))) (λ e. rw e)

pub held_out : (k b i : ℕ) → ltb b k ≡ false → (eqb b i && ltb i k) ≡ false
held_out k b i h = split (eqb b i) (λ e. rw (sym (eqb-true b i e), h) (and_false (eqb b b))) (λ e. rw e)

module _ (k : ℕ) (boxes places : List ℕ) where
  -- No tally yet.
  pub holder_none : (p : ℕ) → holder_word k 0 boxes places p ≡ 0
  unfolding holder_word holds any
  holder_none p = mask_none 16

  holds_next : (t p b : ℕ) → holds k (t + 1) boxes places p b ≡ (holds k t boxes places p b || ((eqb (get_or boxes t 0) b && ltb b k) && eqb (get_or places t 0) p))
  unfolding holds
  holds_next t p b = any_next t (λ t. (eqb (get_or boxes t 0) b && ltb b k) && eqb (get_or places t 0) p)

module _ (k : ℕ) (boxes places masks : List ℕ) (t : ℕ) (k≤ : k ≤ 16) (inside : get_or places t 0 < length masks)
    (h : (p : ℕ) → p < length masks → get_or masks p 0 ≡ holder_word k t boxes places p) where
  abbrev b : ℕ
  b = get_or boxes t 0

  abbrev q : ℕ
  q = get_or places t 0

  -- A place whose word stays.
  stays : (p : ℕ) → ((i : ℕ) → ((eqb b i && ltb i k) && eqb q p) ≡ false) → holder_word k t boxes places p ≡ holder_word k (t + 1) boxes places p
  unfolding holder_word
  stays p e =
      mask_cong 16 (holds k t boxes places p) (holds k (t + 1) boxes places p)
      (λ i l. sym (holds_next k boxes places t p i ∙ rw (e i) (or_false (holds k t boxes places p i))))

  -- The place of the tally.
  raised : ltb b k ≡ true → bit_or (holder_word k t boxes places q) (2 ^ b) ≡ holder_word k (t + 1) boxes places q
  unfolding holder_word
  raised e =
      mask_or 16 b (holds k t boxes places q) (let l : b < k = ltb-true b k e in omega arith)
      ∙ mask_cong 16 (λ i. holds k t boxes places q i || eqb b i) (holds k (t + 1) boxes places q)
      (λ i l. sym (holds_next k boxes places t q i ∙ rw (held_in k b i e, eqb_same q, and_one (eqb b i))))

  -- One tally more.
  pub holder_more : (p : ℕ) → p < length masks → get_or (marked k b q masks) p 0 ≡ holder_word k (t + 1) boxes places p
  unfolding marked
  holder_more p l =
      split (ltb b k)
      (λ e. rw e (split (eqb q p)
      (λ f. rw (sym (eqb-true q p f)) (get_or-set_same masks q (bit_or (get_or masks q 0) (2 ^ b)) 0 inside ∙ ap (λ (w : ℕ). bit_or w (2 ^ b)) (h q inside) ∙ raised e))
      (λ f. get_or-set_other masks q p (bit_or (get_or masks q 0) (2 ^ b)) 0 (λ r. eqb-false q p f (sym r)) ∙ h p l ∙ stays p (λ i. rw f (and_false (eqb b i && ltb i k))))))
      (λ e. rw e (h p l ∙ stays p (λ i. rw (held_out k b i e))))

-- The words by the tables of a job.
module _ (f : JobTables) (bare : f.tally_bag ≡ []) where
  -- A tally read by the job is read in its tables.
  held_word : (places : List ℕ) (p b t : ℕ) → t < f.tallies →
      ((eqb (get_or f.tally_box t 0) b && ltb b f.boxes) && eqb (get_or places t 0) p) ≡ (held_by (job_of f) t b && eqb (word f.tallies places 0 t) p)
  unfolding held_by job_of
  held_word places p b t l = rw (bare_stands f bare t, word_in_lem f.tallies f.tally_box 0 t l, word_in_lem f.tallies places 0 t l)

  pub need_holds : (o b : ℕ) → holds f.boxes f.tallies f.tally_box f.tally_offer o b ≡ needs (job_of f) o b
  unfolding holds needs job_of
  need_holds o b = any_cong f.tallies _ _ (λ t l. held_word f.tally_offer o b t l)

  pub share_holds : (g b : ℕ) → holds f.boxes f.tallies f.tally_box f.tally_grocer g b ≡ shares (job_of f) g b
  unfolding holds shares job_of
  share_holds g b = any_cong f.tallies _ _ (λ t l. held_word f.tally_grocer g b t l)

  pub need_word_lem : (o : ℕ) → holder_word f.boxes f.tallies f.tally_box f.tally_offer o ≡ need_word (job_of f) o
  unfolding holder_word need_word
  need_word_lem o = mask_cong 16 _ _ (λ b l. need_holds o b)

  pub sharer_word_lem : (g : ℕ) → holder_word f.boxes f.tallies f.tally_box f.tally_grocer g ≡ sharer_word (job_of f) g
  unfolding holder_word sharer_word
  sharer_word_lem g = mask_cong 16 _ _ (λ b l. share_holds g b)

  -- What `masks::needs` and `masks::sharers` give.
  pub need_words : tabulate 500 (holder_word f.boxes f.tallies f.tally_box f.tally_offer) ≡ tabulate 500 (need_word (job_of f))
  need_words = tabulate_cong 500 _ _ (λ o l. need_word_lem o)

  pub sharer_words : tabulate 255 (holder_word f.boxes f.tallies f.tally_box f.tally_grocer) ≡ tabulate 255 (sharer_word (job_of f))
  sharer_words = tabulate_cong 255 _ _ (λ g l. sharer_word_lem g)
