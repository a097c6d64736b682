-- Words one by one: how often each price and each part total is sent. Assumes nothing.
use mathlib.Core.Path.{◌≡◌, refl, sym, ap, ap₂, ◌∙◌}
use mathlib.Core.Bool.{true, cond, ◌&&◌, not}
use mathlib.Core.List.{List, [], ◌∷◌}
use Prim.Native.Nat.{ℕ, ◌+◌, ◌<◌}
use native.Mathlib.Omega.{arith}
use lib.Dec.{eqb, ltb}
use borrow.Author.Tests.{lt-ltb, ltb-true, ltb-false, eqb-true, ne_eqb, eq-eqb}
use Rattle.laws.specs.Below.{naturals, sum, only, any, all, count}
use Rattle.laws.proofs.Sums.{sum_cong, sum_none, sum_plus, sum_pick}
use Rattle.laws.proofs.Bools.{split, clash, eqb_same, and_r, and_false}
use Rattle.laws.proofs.Below.{any_at}
use Rattle.model.specs.Job.{Job, needs, shares, price_word, total_word, prices_due, totals_due}
use Rattle.model.specs.Words.{over, words_of, price_to, total_from}
use Rattle.model.specs.Steps.{Kind, Step, Steps, mark, State, fits, has_step, fresh, send_prices, multiply_own, receive_prices, send_totals, add_own, receive_totals}
use Rattle.model.specs.Demand3.{AllDone}
use Rattle.model.proofs.Counting.{trace_over}
use Rattle.model.proofs.Finish.{all_steps}
use Rattle.model.proofs.Lists.{marked, closed}
use Rattle.model.proofs.Range.{InRange}
use Rattle.model.proofs.Words.{needs_past, shares_past}
use Rattle.model.proofs.Core.{first<, second<, Permit, permit}
use Rattle.model.proofs.Machine.{permits, attempt, attempt_all, taken, reached, done_of}

own_price_lem : (j : Job) (o c : ℕ) → price_word j (j.offer_owner o) c o ≡ (not (eqb (j.offer_owner o) c) && needs j o c)
unfolding price_word
own_price_lem j o c = simp eqb_same

own_total : (j : Job) (g c : ℕ) → total_word j c (j.grocer_owner g) g ≡ (not (eqb (j.grocer_owner g) c) && shares j g c)
unfolding total_word
own_total j g c = simp eqb_same

module _ (j : Job) (o c : ℕ) where
  -- The price of offer o was sent to box c, as far as box c, another box than the owner, needs it.
  unfoldable pub price_sent : Steps → ℕ
  price_sent d = only naturals (d send_prices (j.offer_owner o) c && (not (eqb (j.offer_owner o) c) && needs j o c)) 1

  price_grows : (d : Steps) (k : Kind) (a b : ℕ) → Permit j d k a b → price_sent (mark d k a b) ≡ price_sent d + price_to j o c k a b
  unfolding price_sent mark price_to price_word only naturals
  price_grows d send_prices a b p =
      split (eqb b c)
      (λ e. split (eqb (j.offer_owner o) a)
      (λ f. rw (eqb-true (j.offer_owner o) a f, ← (eqb-true b c e)) (simp (eqb_same, p.fresh_one) (omega arith)))
      (λ f. rw (f, and_false (eqb b c)) (omega arith)))
      (λ e. rw (e, ne_eqb c b (λ q. clash (eq-eqb b c (sym q)) e), and_false (eqb (j.offer_owner o) a)) (omega arith))
  price_grows d multiply_own a b p = omega arith
  price_grows d receive_prices a b p = omega arith
  price_grows d send_totals a b p = omega arith
  price_grows d add_own a b p = omega arith
  price_grows d receive_totals a b p = omega arith

module _ (j : Job) (g c : ℕ) where
  -- The part total of grocer g was sent from box c, as far as box c, another box than the owner, has one.
  unfoldable pub total_sent : Steps → ℕ
  total_sent d = only naturals (d send_totals c (j.grocer_owner g) && (not (eqb (j.grocer_owner g) c) && shares j g c)) 1

  total_grows : (d : Steps) (k : Kind) (a b : ℕ) → Permit j d k a b → total_sent (mark d k a b) ≡ total_sent d + total_from j g c k a b
  unfolding total_sent mark total_from total_word only naturals
  total_grows d send_totals a b p =
      split (eqb a c)
      (λ e. split (eqb (j.grocer_owner g) b)
      (λ f. rw (eqb-true (j.grocer_owner g) b f, ← (eqb-true a c e)) (simp (eqb_same, p.fresh_one) (omega arith)))
      (λ f. rw (f, and_false (eqb a c), and_false (eqb c a)) (omega arith)))
      (λ e. rw (e, ne_eqb c a (λ q. clash (eq-eqb a c (sym q)) e)) (omega arith))
  total_grows d send_prices a b p = omega arith
  total_grows d multiply_own a b p = omega arith
  total_grows d receive_prices a b p = omega arith
  total_grows d add_own a b p = omega arith
  total_grows d receive_totals a b p = omega arith

-- Sums over the steps of a list.
over_plus : (f g : Kind → ℕ → ℕ → ℕ) (xs : List Step) → over (λ k a b. f k a b + g k a b) xs ≡ over f xs + over g xs
unfolding over
over_plus f g [] = refl
over_plus f g (x ∷ xs) = rw (over_plus f g xs) (omega arith)

over-sum : (n : ℕ) (f : ℕ → Kind → ℕ → ℕ → ℕ) (xs : List Step) → over (λ k a b. sum naturals n (λ i. f i k a b)) xs ≡ sum naturals n (λ i. over (f i) xs)
unfolding over naturals
over-sum n f [] = sym (sum_none naturals n (λ i. 0) (λ i l. refl))
over-sum n f (x ∷ xs) =
    ap (λ (y : ℕ). sum naturals n (λ i. f i x.kind x.first x.second) + y) (over-sum n f xs)
    ∙ sym (sum_plus naturals n (λ i. f i x.kind x.first x.second) (λ i. over (f i) xs))

module _ (j : Job) where
  -- The words of a step, one by one.
  unfoldable pub one_by_one : Kind → ℕ → ℕ → ℕ
  one_by_one k a b =
      sum naturals j.offers (λ o. sum naturals j.boxes (λ c. price_to j o c k a b))
      + sum naturals j.grocers (λ g. sum naturals j.boxes (λ c. total_from j g c k a b))

  no_words_lem : (n : ℕ) → sum naturals n (λ i. sum naturals j.boxes (λ c. 0)) ≡ 0
  unfolding naturals
  no_words_lem n = sum_none naturals n (λ i. sum naturals j.boxes (λ c. 0)) (λ i l. sum_none naturals j.boxes (λ c. 0) (λ c m. refl))

  step_words : (k : Kind) (a b : ℕ) → a < j.boxes → b < j.boxes → words_of j k a b ≡ one_by_one k a b
  unfolding words_of one_by_one price_to total_from count
  step_words send_prices a b la lb =
      sym (rw (no_words_lem j.grocers) (omega (
        arith,
        sum_cong naturals j.offers (λ o. sum naturals j.boxes (λ c. only naturals (eqb b c && price_word j a b o) 1)) (λ o. only naturals (price_word j a b o) 1)
            (λ o l. sum_pick naturals j.boxes b (price_word j a b o) 1 lb),
      )))
  step_words multiply_own a b la lb = sym (rw (no_words_lem j.offers, no_words_lem j.grocers))
  step_words receive_prices a b la lb = sym (rw (no_words_lem j.offers, no_words_lem j.grocers))
  step_words send_totals a b la lb =
      sym (rw (no_words_lem j.offers) (omega (
        arith,
        sum_cong naturals j.grocers (λ g. sum naturals j.boxes (λ c. only naturals (eqb a c && total_word j a b g) 1)) (λ g. only naturals (total_word j a b g) 1)
            (λ g l. sum_pick naturals j.boxes a (total_word j a b g) 1 la),
      )))
  step_words add_own a b la lb = sym (rw (no_words_lem j.offers, no_words_lem j.grocers))
  step_words receive_totals a b la lb = sym (rw (no_words_lem j.offers, no_words_lem j.grocers))

  one_word : (s : State) (q : Step) (rest : List Step) → over (words_of j) rest ≡ over one_by_one rest →
      over (words_of j) (cond (permits j s q) (q ∷ rest) rest) ≡ over one_by_one (cond (permits j s q) (q ∷ rest) rest)
  unfolding permits over
  one_word s q rest h =
      split (permits j s q)
      (λ e. let p : Permit j s.done q.kind q.first q.second = permit j s.done q.kind q.first q.second e in
      rw e (ap₂ (λ (x y : ℕ). x + y) (step_words q.kind q.first q.second (first< j q.kind q.first q.second p.has) (second< j q.kind q.first q.second p.has)) h))
      (λ e. rw e h)

  taken_words : (s : State) (qs : List Step) → over (words_of j) (taken j s qs) ≡ over one_by_one (taken j s qs)
  unfolding taken over
  taken_words s [] = refl
  taken_words s (q ∷ qs) = one_word s q (taken j (attempt j s q) qs) (taken_words (attempt j s q) qs)

  -- The words of the steps of a list, one by one.
  pub each_word_lem : (s : State) (qs : List Step) →
      over (words_of j) (taken j s qs)
      ≡ sum naturals j.offers (λ o. sum naturals j.boxes (λ c. over (price_to j o c) (taken j s qs)))
      + sum naturals j.grocers (λ g. sum naturals j.boxes (λ c. over (total_from j g c) (taken j s qs)))
  unfolding one_by_one
  each_word_lem s qs =
      taken_words s qs
      ∙ over_plus (λ k a b. sum naturals j.offers (λ o. sum naturals j.boxes (λ c. price_to j o c k a b))) (λ k a b. sum naturals j.grocers (λ g. sum naturals j.boxes (λ c. total_from j g c k a b))) (taken j s qs)
      ∙ ap₂ (λ (x y : ℕ). x + y) (both j.offers (price_to j)) (both j.grocers (total_from j))
    where
      both : (n : ℕ) (f : ℕ → ℕ → Kind → ℕ → ℕ → ℕ) → over (λ k a b. sum naturals n (λ i. sum naturals j.boxes (λ c. f i c k a b))) (taken j s qs)
          ≡ sum naturals n (λ i. sum naturals j.boxes (λ c. over (f i c) (taken j s qs)))
      both n f =
          over-sum n (λ i k a b. sum naturals j.boxes (λ c. f i c k a b)) (taken j s qs)
          ∙ sum_cong naturals n (λ i. over (λ k a b. sum naturals j.boxes (λ c. f i c k a b)) (taken j s qs)) (λ i. sum naturals j.boxes (λ c. over (f i c) (taken j s qs)))
          (λ i l. over-sum j.boxes (f i) (taken j s qs))

-- In a list that does all steps.
module _ (j : Job) (r : InRange j) (qs : List Step) (all : AllDone j (done_of j qs)) where
  end_done : (attempt_all j (fresh j) qs).done ≡ has_step j
  unfolding reached
  end_done = marked j r qs ∙ all_steps j (done_of j qs) (closed j r qs) all

  price_due : (o c : ℕ) → o < j.offers → (has_step j send_prices (j.offer_owner o) c && (not (eqb (j.offer_owner o) c) && needs j o c)) ≡ (not (eqb (j.offer_owner o) c) && needs j o c)
  unfolding has_step fits prices_due
  price_due o c l =
      split (not (eqb (j.offer_owner o) c) && needs j o c)
      (λ e. rw (e, lt-ltb (j.offer_owner o) j.boxes (r.owner< o l), lt-ltb c j.boxes (inside e), any_at j.offers (price_word j (j.offer_owner o) c) o l (word e)))
      (λ e. rw (e, and_false (ltb (j.offer_owner o) j.boxes && (ltb c j.boxes && any j.offers (price_word j (j.offer_owner o) c)))))
    where
      inside : (not (eqb (j.offer_owner o) c) && needs j o c) ≡ true → c < j.boxes
      inside e = split (ltb c j.boxes) (λ f. ltb-true c j.boxes f) (λ f. absurd (clash (and_r (not (eqb (j.offer_owner o) c)) _ e) (needs_past j o c (ltb-false c j.boxes f))))

      word : (not (eqb (j.offer_owner o) c) && needs j o c) ≡ true → price_word j (j.offer_owner o) c o ≡ true
      word e = own_price_lem j o c ∙ e

  total_due : (g c : ℕ) → g < j.grocers → (has_step j send_totals c (j.grocer_owner g) && (not (eqb (j.grocer_owner g) c) && shares j g c)) ≡ (not (eqb (j.grocer_owner g) c) && shares j g c)
  unfolding has_step fits totals_due
  total_due g c l =
      split (not (eqb (j.grocer_owner g) c) && shares j g c)
      (λ e. rw (e, lt-ltb (j.grocer_owner g) j.boxes (r.grocerOwner< g l), lt-ltb c j.boxes (inside e), any_at j.grocers (total_word j c (j.grocer_owner g)) g l (word e)))
      (λ e. rw (e, and_false (ltb c j.boxes && (ltb (j.grocer_owner g) j.boxes && any j.grocers (total_word j c (j.grocer_owner g))))))
    where
      inside : (not (eqb (j.grocer_owner g) c) && shares j g c) ≡ true → c < j.boxes
      inside e = split (ltb c j.boxes) (λ f. ltb-true c j.boxes f) (λ f. absurd (clash (and_r (not (eqb (j.grocer_owner g) c)) _ e) (shares_past j g c (ltb-false c j.boxes f))))

      word : (not (eqb (j.grocer_owner g) c) && shares j g c) ≡ true → total_word j c (j.grocer_owner g) g ≡ true
      word e = own_total j g c ∙ e

  pub one_price_lem : (o c : ℕ) → o < j.offers → over (price_to j o c) (taken j (fresh j) qs) ≡ only naturals (not (eqb (j.offer_owner o) c) && needs j o c) 1
  unfolding price_sent only naturals fresh
  one_price_lem o c l =
      sym (trace_over j (price_to j o c) (price_sent j o c) (price_grows j o c) (fresh j) qs ∙ omega arith)
      ∙ rw (end_done, price_due o c l)

  pub one_total_lem : (g c : ℕ) → g < j.grocers → over (total_from j g c) (taken j (fresh j) qs) ≡ only naturals (not (eqb (j.grocer_owner g) c) && shares j g c) 1
  unfolding total_sent only naturals fresh
  one_total_lem g c l =
      sym (trace_over j (total_from j g c) (total_sent j g c) (total_grows j g c) (fresh j) qs ∙ omega arith)
      ∙ rw (end_done, total_due g c l)
