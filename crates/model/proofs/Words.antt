-- The words of a finished job are those of the owner tables, and no list sends more. Assumes nothing.
use mathlib.Core.Path.{◌≡◌, ap₂, ◌∙◌, sym, ap}
use mathlib.Core.Bool.{Bool, false, ◌&&◌, not}
use Prim.Native.Nat.{ℕ, ◌+◌, ◌-◌, ◌*◌, ◌<◌, ◌≤◌}
use native.Mathlib.Omega.{arith}
use lib.Dec.{eqb}
use lib.Count.{ones}
use borrow.Author.Tests.{lt-ltb}
use Rattle.laws.specs.Below.{naturals, sum, only, count}
use Rattle.laws.proofs.Bools.{and_comm, split, cond_same, no_true, and_l, eqb_same}
use Rattle.laws.proofs.Sums.{sum_cong, sum_plus, sum_swap, sum_pick, sum_front, sum_le, sum_max}
use Rattle.laws.specs.Masks.{mask_of, without}
use Rattle.laws.proofs.Masks.{ones_without}
use Rattle.laws.proofs.Below.{any_find, count_cong, count_none, count_past, count_less, only_le}
use Rattle.model.specs.Job.{Job, needs, shares, price_word, total_word, prices_due, totals_due, held_by, need_word, sharer_word}
use Rattle.model.specs.Steps.{send_prices, send_totals, Steps, fits, has_step}
use Rattle.model.specs.Words.{owner_words}
use Rattle.model.proofs.Range.{InRange, held_lt}
use Rattle.model.specs.Boxes.{sent_of, state_by_rules}

-- Boxes from K on hold nothing.
module _ (j : Job) where
  pub needs_past : (o b : ℕ) → j.boxes ≤ b → needs j o b ≡ false
  unfolding needs
  needs_past o b h = no_true (needs j o b) (λ q.
      let (t, l, e) = any_find j.tallies (λ t. held_by j t b && eqb (j.tally_offer t) o) q in
      let lt : b < j.boxes = held_lt j t b (and_l (held_by j t b) _ e) in
      absurd (omega arith))

  pub shares_past : (g b : ℕ) → j.boxes ≤ b → shares j g b ≡ false
  unfolding shares
  shares_past g b h = no_true (shares j g b) (λ q.
      let (t, l, e) = any_find j.tallies (λ t. held_by j t b && eqb (j.tally_grocer t) g) q in
      let lt : b < j.boxes = held_lt j t b (and_l (held_by j t b) _ e) in
      absurd (omega arith))

-- The ones of a mask without bit a, where no number from k on is meant.
pub ones_others : (k a : ℕ) (p : ℕ → Bool) → k ≤ 16 → a < k → ((b : ℕ) → k ≤ b → p b ≡ false) →
    ones (without a (mask_of 16 p)) ≡ count k (λ b. not (eqb a b) && p b)
ones_others k a p h l past =
    ones_without a p (omega arith)
    ∙ ap (λ (n : ℕ). count n (λ b. p b && not (eqb a b))) (room k h)
    ∙ count_past k (16 - k) (λ b. p b && not (eqb a b)) (λ b m. rw (past b m))
    ∙ count_cong k (λ b. p b && not (eqb a b)) (λ b. not (eqb a b) && p b) (λ b m. and_comm (p b) (not (eqb a b)))
  where
    room : (k : ℕ) → k ≤ 16 → 16 ≡ (16 - k) + k
    room k h = omega arith

module _ (j : Job) where
  -- A message that is not due has no words.
  send_len : (a b : ℕ) → a < j.boxes → b < j.boxes → sent_of j (has_step j) a b ≡ count j.offers (price_word j a b) + count j.grocers (total_word j a b)
  unfolding sent_of has_step fits prices_due totals_due only naturals
  send_len a b la lb =
      ap₂ (λ (x y : ℕ). x + y)
      (split (prices_due j a b)
      (λ e. simp (lt-ltb a j.boxes la, lt-ltb b j.boxes lb, e))
      (λ e. simp (count_none j.offers (price_word j a b) e, cond_same)))
      (split (totals_due j a b)
      (λ e. simp (lt-ltb a j.boxes la, lt-ltb b j.boxes lb, e))
      (λ e. simp (count_none j.grocers (total_word j a b) e, cond_same)))

  price_words_lem : InRange j →
      sum naturals j.boxes (λ a. sum naturals j.boxes (λ b. count j.offers (price_word j a b)))
      ≡ sum naturals j.offers (λ o. count j.boxes (λ b. not (eqb (j.offer_owner o) b) && needs j o b))
  unfolding count price_word
  price_words_lem r =
      sum_front naturals j.boxes j.boxes j.offers (λ a b o. only naturals (price_word j a b o) 1)
      ∙ sum_cong naturals j.offers
      (λ o. sum naturals j.boxes (λ a. sum naturals j.boxes (λ b. only naturals (price_word j a b o) 1)))
      (λ o. sum naturals j.boxes (λ b. only naturals (not (eqb (j.offer_owner o) b) && needs j o b) 1))
      (λ o l. sum_swap naturals j.boxes j.boxes (λ a b. only naturals (price_word j a b o) 1)
      ∙ sum_cong naturals j.boxes
      (λ b. sum naturals j.boxes (λ a. only naturals (price_word j a b o) 1))
      (λ b. only naturals (not (eqb (j.offer_owner o) b) && needs j o b) 1)
      (λ b m. sum_pick naturals j.boxes (j.offer_owner o) (not (eqb (j.offer_owner o) b) && needs j o b) 1 (r.owner< o l)))

  pub total_words_lem : InRange j →
      sum naturals j.boxes (λ a. sum naturals j.boxes (λ b. count j.grocers (total_word j a b)))
      ≡ sum naturals j.grocers (λ g. count j.boxes (λ b. not (eqb (j.grocer_owner g) b) && shares j g b))
  unfolding count total_word
  total_words_lem r =
      sum_front naturals j.boxes j.boxes j.grocers (λ a b g. only naturals (total_word j a b g) 1)
      ∙ sum_cong naturals j.grocers
      (λ g. sum naturals j.boxes (λ a. sum naturals j.boxes (λ b. only naturals (total_word j a b g) 1)))
      (λ g. sum naturals j.boxes (λ a. only naturals (not (eqb (j.grocer_owner g) a) && shares j g a) 1))
      (λ g l. sum_cong naturals j.boxes
      (λ a. sum naturals j.boxes (λ b. only naturals (total_word j a b g) 1))
      (λ a. only naturals (not (eqb (j.grocer_owner g) a) && shares j g a) 1)
      (λ a m. sum_pick naturals j.boxes (j.grocer_owner g) (not (eqb (j.grocer_owner g) a) && shares j g a) 1 (r.grocerOwner< g l)))

  need_ones : InRange j → (o : ℕ) → o < j.offers → ones (without (j.offer_owner o) (need_word j o)) ≡ count j.boxes (λ b. not (eqb (j.offer_owner o) b) && needs j o b)
  unfolding need_word
  need_ones r o l = ones_others j.boxes (j.offer_owner o) (needs j o) r.boxes≤ (r.owner< o l) (needs_past j o)

  pub sharer_ones : InRange j → (g : ℕ) → g < j.grocers → ones (without (j.grocer_owner g) (sharer_word j g)) ≡ count j.boxes (λ b. not (eqb (j.grocer_owner g) b) && shares j g b)
  unfolding sharer_word
  sharer_ones r g l = ones_others j.boxes (j.grocer_owner g) (shares j g) r.boxes≤ (r.grocerOwner< g l) (shares_past j g)

  -- The words of all messages are those of the owner tables.
  all_words : InRange j → sum naturals j.boxes (λ a. sum naturals j.boxes (λ b. count j.offers (price_word j a b) + count j.grocers (total_word j a b))) ≡ owner_words j
  unfolding owner_words naturals
  all_words r =
      sum_cong naturals j.boxes (λ a. sum naturals j.boxes (λ b. count j.offers (price_word j a b) + count j.grocers (total_word j a b))) (λ a. price a + total a)
      (λ a l. sum_plus naturals j.boxes (λ b. count j.offers (price_word j a b)) (λ b. count j.grocers (total_word j a b)))
      ∙ sum_plus naturals j.boxes price total
      ∙ ap₂ (λ (x y : ℕ). x + y)
      (price_words_lem r ∙ sym (sum_cong naturals j.offers (λ o. ones (without (j.offer_owner o) (need_word j o))) (λ o. count j.boxes (λ b. not (eqb (j.offer_owner o) b) && needs j o b)) (need_ones r)))
      (total_words_lem r ∙ sym (sum_cong naturals j.grocers (λ g. ones (without (j.grocer_owner g) (sharer_word j g))) (λ g. count j.boxes (λ b. not (eqb (j.grocer_owner g) b) && shares j g b)) (sharer_ones r)))
    where
      price : ℕ → ℕ
      price a = sum naturals j.boxes (λ b. count j.offers (price_word j a b))

      total : ℕ → ℕ
      total a = sum naturals j.boxes (λ b. count j.grocers (total_word j a b))

  pub end_sent : InRange j → (state_by_rules j (has_step j)).sent ≡ owner_words j
  unfolding state_by_rules
  end_sent r =
      sum_cong naturals j.boxes (λ a. sum naturals j.boxes (sent_of j (has_step j) a))
      (λ a. sum naturals j.boxes (λ b. count j.offers (price_word j a b) + count j.grocers (total_word j a b)))
      (λ a l. sum_cong naturals j.boxes (sent_of j (has_step j) a) (λ b. count j.offers (price_word j a b) + count j.grocers (total_word j a b)) (λ b m. send_len a b l m))
      ∙ all_words r

  -- Whatever steps are done, no more words are sent than these.
  pub sent_most : InRange j → (d : Steps) → (state_by_rules j d).sent ≤ owner_words j
  unfolding state_by_rules sent_of
  sent_most r d =
      omega (
        arith,
        all_words r,
        sum_le j.boxes (λ a. sum naturals j.boxes (sent_of j d a)) (λ a. sum naturals j.boxes (λ b. count j.offers (price_word j a b) + count j.grocers (total_word j a b)))
            (λ a l. sum_le j.boxes (sent_of j d a) (λ b. count j.offers (price_word j a b) + count j.grocers (total_word j a b))
            (λ b m. omega (arith, only_le (d send_prices a b) (count j.offers (price_word j a b)), only_le (d send_totals a b) (count j.grocers (total_word j a b))))),
      )

  -- The owner words are at most 15 for each offer and each grocer: no box sends to itself.
  pub owner_most : InRange j → owner_words j ≤ 15 * (j.offers + j.grocers)
  unfolding owner_words
  owner_most r =
      omega (
        arith,
        sum_max j.offers 15 (λ o. ones (without (j.offer_owner o) (need_word j o)))
            (λ o l. omega (arith, need_ones r o l, r.boxes≤, others_less (j.offer_owner o) (needs j o) (r.owner< o l))),
        sum_max j.grocers 15 (λ g. ones (without (j.grocer_owner g) (sharer_word j g)))
            (λ g l. omega (arith, sharer_ones r g l, r.boxes≤, others_less (j.grocer_owner g) (shares j g) (r.grocerOwner< g l))),
      )
    where
      others_less : (a : ℕ) (p : ℕ → Bool) → a < j.boxes → count j.boxes (λ b. not (eqb a b) && p b) < j.boxes
      others_less a p l = count_less j.boxes a (λ b. not (eqb a b) && p b) l (rw (eqb_same a))
