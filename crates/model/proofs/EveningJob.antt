-- The evening's job, in which every entry stands once for each price list, has the steps of the job, and for each entry's word one for each list.
-- Assumes nothing.
use mathlib.Core.Path.{◌≡◌, refl, sym, ap, ◌∙◌}
use mathlib.Core.Bool.{Bool, cond, ◌&&◌, ◌||◌, not}
use mathlib.Core.List.{[], ◌∷◌}
use Prim.Native.Nat.{ℕ, zero, suc, ◌+◌, ◌*◌, ◌/◌, ◌%◌}
use native.Mathlib.Nat.{mul-one, div-one, mod-one, zero-mul, zero-add, add-zero}
use lib.Arith.{digits_div}
use lib.Dec.{eqb, ltb}
use Rattle.laws.specs.Below.{count}
use Rattle.laws.specs.Tables.{word, cell}
use Rattle.laws.specs.Lists.{list_words}
use Rattle.laws.proofs.Below.{any_cong, all_cong, count_cong}
use Rattle.laws.proofs.Entries.{list_in, any_entry, all_entry, count_entry, any_pair}
use Rattle.model.specs.Job.{held_by, needs, shares, price_word, total_word, prices_due, totals_due}
use Rattle.model.specs.Steps.{Kind, send_prices, multiply_own, receive_prices, send_totals, add_own, receive_totals, kind_of, one_box, Steps, fits, has_step, added, all_added, ready, permitted}
use Rattle.model.specs.PackedTotals.{spread}
use Rattle.model.specs.Tables.{JobTables, job_of, with_lists, evening_of, StateTables, steps_done, view}
use Rattle.model.specs.Step.{is_kind, boxes_fit, step_rules}

-- Without additional lists the job is as it was.
one_list : (f : JobTables) → job_of f ≡ with_lists 0 f
unfolding with_lists spread job_of word cell
one_list f = λ i. record {
  boxes = f.boxes;
  grocers = sym (mul-one f.grocers) i;
  offers = sym (mul-one f.offers) i;
  tallies = sym (mul-one f.tallies) i;
  price = λ o. price_is o i;
  offer_owner = λ o. (job_of f).offer_owner (sym (div-one o) i);
  grocer_owner = λ g. (job_of f).grocer_owner (sym (div-one g) i);
  tally_grocer = λ t. place_is (job_of f).tally_grocer t i;
  tally_box = λ t. (job_of f).tally_box (sym (div-one t) i);
  tally_offer = λ t. place_is (job_of f).tally_offer t i;
  tally_count = λ t. (job_of f).tally_count (sym (div-one t) i);
}
  where
    price_is : (o : ℕ) → word f.offers f.price 0 o ≡ cell 1 f.offers f.price 0 (o % 1) (o / 1)
    price_is o = rw (mod-one o, div-one o, zero-mul f.offers, zero-add o)

    place_is : (w : ℕ → ℕ) (t : ℕ) → w t ≡ w (t / 1) * 1 + t % 1
    place_is w t = rw (mod-one t, div-one t, mul-one (w t), add-zero (w t))

-- With one list it is the job.
pub one_evening_lem : (f : JobTables) → f.lists ≡ 0 → evening_of f ≡ job_of f
one_evening_lem f e = ap (λ (l : ℕ). with_lists l f) e ∙ sym (one_list f)

-- What holds of its sizes: K boxes, and for each entry one word for each list.
pub at_sizes : (l : ℕ) (f : JobTables) (P : ℕ → ℕ → ℕ → Type 0) → P f.boxes (list_words l f.grocers) (list_words l f.offers) →
    P (with_lists l f).boxes (with_lists l f).grocers (with_lists l f).offers
unfolding with_lists spread job_of
at_sizes l f P x = x

-- The marks are those of K boxes.
pub evening_done : (f : JobTables) (t : StateTables) → (view (evening_of f) t).done ≡ steps_done f.boxes t.done
unfolding view
evening_done f t = at_sizes f.lists f (λ k m n. steps_done k t.done ≡ steps_done f.boxes t.done) refl

-- Boxes fit a kind in it as in the job.
pub evening_fits : (f : JobTables) (k : Kind) (a b : ℕ) → boxes_fit (evening_of f) k a b ≡ boxes_fit (job_of f) k a b
unfolding boxes_fit job_of
evening_fits f k a b =
    at_sizes f.lists f (λ x m n. (ltb a x && (ltb b x && cond (one_box k) (eqb a b) (not (eqb a b)))) ≡ (ltb a f.boxes && (ltb b f.boxes && cond (one_box k) (eqb a b) (not (eqb a b))))) refl

-- A job with suc l lists, told from the job.
module _ (l : ℕ) (f : JobTables) where
  pub held_entry : (t b : ℕ) → held_by (with_lists l f) t b ≡ held_by (job_of f) (t / suc l) b
  unfolding held_by with_lists spread job_of
  held_entry t b = refl

  pub needs_entry : (o b : ℕ) → needs (with_lists l f) o b ≡ needs (job_of f) (o / suc l) b
  unfolding needs held_by with_lists spread job_of
  needs_entry o b = any_pair l (λ t. held_by (job_of f) t b) (job_of f).tally_offer f.tallies o

  pub shares_entry : (g b : ℕ) → shares (with_lists l f) g b ≡ shares (job_of f) (g / suc l) b
  unfolding shares held_by with_lists spread job_of
  shares_entry g b = any_pair l (λ t. held_by (job_of f) t b) (job_of f).tally_grocer f.tallies g

  pub price_entry : (a b o : ℕ) → price_word (with_lists l f) a b o ≡ price_word (job_of f) a b (o / suc l)
  unfolding price_word with_lists spread
  price_entry a b o = rw (needs_entry o b)

  pub total_entry : (a b g : ℕ) → total_word (with_lists l f) a b g ≡ total_word (job_of f) a b (g / suc l)
  unfolding total_word with_lists spread
  total_entry a b g = rw (shares_entry g a)

  pub prices_due_lem : (a b : ℕ) → prices_due (with_lists l f) a b ≡ prices_due (job_of f) a b
  unfolding prices_due with_lists spread job_of
  prices_due_lem a b =
      any_cong (f.offers * suc l) (price_word (with_lists l f) a b) (λ o. price_word (job_of f) a b (o / suc l)) (λ o h. price_entry a b o)
      ∙ any_entry l f.offers (price_word (job_of f) a b)

  pub totals_due_lem : (a b : ℕ) → totals_due (with_lists l f) a b ≡ totals_due (job_of f) a b
  unfolding totals_due with_lists spread job_of
  totals_due_lem a b =
      any_cong (f.grocers * suc l) (total_word (with_lists l f) a b) (λ g. total_word (job_of f) a b (g / suc l)) (λ g h. total_entry a b g)
      ∙ any_entry l f.grocers (total_word (job_of f) a b)

  -- Each message has one word per list for each of its entries.
  pub price_words_lem : (a b : ℕ) → count (with_lists l f).offers (price_word (with_lists l f) a b) ≡ count (job_of f).offers (price_word (job_of f) a b) * suc l
  unfolding with_lists spread job_of
  price_words_lem a b =
      count_cong (f.offers * suc l) (price_word (with_lists l f) a b) (λ o. price_word (job_of f) a b (o / suc l)) (λ o h. price_entry a b o)
      ∙ count_entry l f.offers (price_word (job_of f) a b)

  pub total_words_lem : (a b : ℕ) → count (with_lists l f).grocers (total_word (with_lists l f) a b) ≡ count (job_of f).grocers (total_word (job_of f) a b) * suc l
  unfolding with_lists spread job_of
  total_words_lem a b =
      count_cong (f.grocers * suc l) (total_word (with_lists l f) a b) (λ g. total_word (job_of f) a b (g / suc l)) (λ g h. total_entry a b g)
      ∙ count_entry l f.grocers (total_word (job_of f) a b)

  fits_entry : (k : Kind) (a b : ℕ) → fits (with_lists l f) k a b ≡ fits (job_of f) k a b
  unfolding fits
  fits_entry send_prices a b = prices_due_lem a b
  fits_entry multiply_own a b = refl
  fits_entry receive_prices a b = prices_due_lem b a
  fits_entry send_totals a b = totals_due_lem a b
  fits_entry add_own a b = refl
  fits_entry receive_totals a b = totals_due_lem b a

  has_entry : (k : Kind) (a b : ℕ) → has_step (with_lists l f) k a b ≡ has_step (job_of f) k a b
  unfolding has_step with_lists spread job_of
  has_entry k a b = rw (fits_entry k a b)

  pub added_entry : (d : Steps) (t : ℕ) → added (with_lists l f) d t ≡ added (job_of f) d (t / suc l)
  unfolding added with_lists spread
  added_entry d t = rw (digits_div ((job_of f).tally_offer (t / suc l)) (list_in l t))

  all_added_lem : (d : Steps) (a b : ℕ) → all_added (with_lists l f) d a b ≡ all_added (job_of f) d a b
  unfolding all_added with_lists spread job_of
  all_added_lem d a b =
      all_cong (f.tallies * suc l) _ (λ t. of (t / suc l)) (λ t h. rw (digits_div ((job_of f).tally_grocer (t / suc l)) (list_in l t), added_entry d t, held_entry t a))
      ∙ all_entry l f.tallies of
    where
      of : ℕ → Bool
      of t = not (held_by (job_of f) t a && eqb ((job_of f).grocer_owner ((job_of f).tally_grocer t)) b) || added (job_of f) d t

  ready_entry : (d : Steps) (k : Kind) (a b : ℕ) → ready (with_lists l f) d k a b ≡ ready (job_of f) d k a b
  unfolding ready
  ready_entry d send_prices a b = refl
  ready_entry d multiply_own a b = refl
  ready_entry d receive_prices a b = refl
  ready_entry d send_totals a b = all_added_lem d a b
  ready_entry d add_own a b = all_added_lem d a a
  ready_entry d receive_totals a b = refl

  pub has_same : has_step (with_lists l f) ≡ has_step (job_of f)
  has_same = λ i k a b. has_entry k a b i

  pub fits_same : fits (with_lists l f) ≡ fits (job_of f)
  fits_same = λ i k a b. fits_entry k a b i

  pub ready_same : ready (with_lists l f) ≡ ready (job_of f)
  ready_same = λ i d k a b. ready_entry d k a b i

  pub permitted_same : permitted (with_lists l f) ≡ permitted (job_of f)
  unfolding permitted
  permitted_same = λ i d k a b. has_same i k a b && (not (d k a b) && ready_same i d k a b)

  pub rules_same : step_rules (with_lists l f) ≡ step_rules (job_of f)
  unfolding step_rules boxes_fit with_lists spread job_of
  rules_same = λ i d q.
      (not (is_kind q.kind), 22)
      ∷ (not (boxes_fit (job_of f) (kind_of q.kind) q.first q.second), 23)
      ∷ (not (fits_same i (kind_of q.kind) q.first q.second), 24)
      ∷ (d (kind_of q.kind) q.first q.second, 25)
      ∷ (not (ready_same i d (kind_of q.kind) q.first q.second), 26)
      ∷ []
