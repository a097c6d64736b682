-- The words that are made of a job's tables tell its messages, and when all is added that a total waits for. Assumes nothing.
use mathlib.Core.Path.{◌≡◌, sym, ap, ◌∙◌}
use mathlib.Core.Bool.{Bool, true, false, ◌&&◌, ◌||◌, not}
use mathlib.Core.List.{List}
use Prim.Native.Nat.{ℕ, ◌<◌}
use native.Mathlib.Omega.{arith}
use lib.Dec.{eqb, ltb}
use lib.ListN.{get_or}
use borrow.Author.Tests.{eqb-true, eqb-false, ne_eqb, not-true, not-false}
use Rattle.laws.specs.Below.{any, all}
use Rattle.laws.specs.Masks.{bit, mask_of}
use Rattle.laws.specs.Tables.{tabulate}
use Rattle.laws.proofs.Bools.{split, same_test, clash, no_true, and_l, and_r, and_true, or_r, eqb_same}
use Rattle.laws.proofs.Below.{any_at, any_find, any_cong, all_at, all_of_lem, all_find}
use Rattle.laws.proofs.Masks.{bit_mask, mask_empty}
use Rattle.laws.proofs.Tables.{word_in_lem}
use Rattle.model.specs.Job.{Job, held_by, shares, need_word, total_word, totals_due}
use Rattle.model.specs.Steps.{Steps, added, all_added}
use Rattle.model.specs.Tables.{JobTables, job_of}
use Rattle.model.specs.Handed.{Handed}
use Rattle.step_waits.specs.Waits.{TallyLists, tally_lists, grocer_box, offer_box, waits_on, wait_table, WaitsIn}
use Rattle.step_rules.specs.Rules.{word_at, totals_due_by, has_got, all_got, ReceiversOf, WaitsOf}
use Rattle.model.proofs.Range.{InRange, held_box}
use Rattle.model.proofs.Step.{range}
use Rattle.model.proofs.Handed.{bare_stands}
use Rattle.laws.proofs.Rows.{rows_at}
use Rattle.model.proofs.Whole.{JobWhole}
use Rattle.step_places.specs.Message.{reaches}
use Rattle.job_masks.specs.Masks.{by_owner}
use Rattle.job_masks.proofs.Owned.{prices_reach}

module _ (f : JobTables) (ok : Handed f) where
  abbrev j : Job
  j = job_of f

  inside : InRange j
  inside = range f ok.inside

  small : (a : ℕ) → a < f.boxes → a < 16
  unfolding job_of
  small a l = omega (arith, inside.boxes≤)

  -- The words of receivers.
  module _ (needed : List ℕ) (en : needed ≡ tabulate 500 (need_word j)) where
    pub receivers_of : (words : List ℕ) → words ≡ by_owner f.offers f.offer_owner needed → ReceiversOf j words
    unfolding job_of
    receivers_of words ew = record { due_is = λ a b la lb. ap (λ (l : List ℕ). reaches l a b) ew ∙ prices_reach f ok needed en a b la lb }

  -- The words of waits.
  abbrev lists : TallyLists
  lists = tally_lists f.offer_owner f.grocer_owner f.tally_grocer f.tally_box f.tally_offer

  -- Tally t is one that box a holds of box b's grocers and of box o's offers.
  abbrev waits_for : ℕ → ℕ → ℕ → ℕ → Bool
  waits_for a b o t = held_by j t a && (eqb (j.grocer_owner (j.tally_grocer t)) b && eqb (j.offer_owner (j.tally_offer t)) o)

  owner_of : (t : ℕ) → t < f.tallies → (grocer_box lists t ≡ j.grocer_owner (j.tally_grocer t)) × (offer_box lists t ≡ j.offer_owner (j.tally_offer t))
  unfolding job_of
  owner_of t l =
      let g = rw (word_in_lem f.tallies f.tally_grocer 0 t l) at (inside.grocer< t l) in
      let o = rw (word_in_lem f.tallies f.tally_offer 0 t l) at (inside.offer< t l) in (
        rw (word_in_lem f.tallies f.tally_grocer 0 t l) (sym (word_in_lem f.grocers f.grocer_owner 0 _ g)),
        rw (word_in_lem f.tallies f.tally_offer 0 t l) (sym (word_in_lem f.offers f.offer_owner 0 _ o)),
      )

  -- The box of tally t, by the job and in its table.
  held_is : (a t : ℕ) → t < f.tallies → (eqb (get_or f.tally_box t 0) a && ltb a f.boxes) ≡ held_by j t a
  unfolding held_by job_of
  held_is a t l = rw (bare_stands f ok.bare t, word_in_lem f.tallies f.tally_box 0 t l)

  waits_is : (a b o : ℕ) → waits_on f.boxes lists f.tallies a b o ≡ any f.tallies (waits_for a b o)
  unfolding waits_on
  waits_is a b o = any_cong f.tallies _ _ (λ t l. rw ((owner_of t l).0, (owner_of t l).1, held_is a t l))

  -- Every tally's offer has an owner below 16.
  owner_small : (t : ℕ) → t < f.tallies → j.offer_owner (j.tally_offer t) < 16
  unfolding job_of
  owner_small t l = small _ (inside.owner< (j.tally_offer t) (inside.offer< t l))

  module _ (words : List (List ℕ)) (ew : words ≡ wait_table f.boxes lists f.tallies) (a b : ℕ) (la : a < f.boxes) (lb : b < f.boxes) where
    word_is : word_at words a b ≡ mask_of 16 (waits_on f.boxes lists f.tallies a b)
    unfolding wait_table
    word_is =
        ap (λ (w : List (List ℕ)). word_at w a b) ew
        ∙ rows_at 16 16 (λ a b. mask_of 16 (waits_on f.boxes lists f.tallies a b)) 0 a b (small a la) (small b lb)

    -- A bit of the word: some tally waits for that owner.
    bit_is : (o : ℕ) → o < 16 → bit o (word_at words a b) ≡ any f.tallies (waits_for a b o)
    bit_is o lo = ap (bit o) word_is ∙ bit_mask 16 o (waits_on f.boxes lists f.tallies a b) lo ∙ waits_is a b o

    -- A tally of box a and of box b's grocers sets a bit.
    waits_at : (t : ℕ) → t < f.tallies → held_by j t a ≡ true → j.grocer_owner (j.tally_grocer t) ≡ b → any f.tallies (waits_for a b (j.offer_owner (j.tally_offer t))) ≡ true
    waits_at t l h g = any_at f.tallies (waits_for a b (j.offer_owner (j.tally_offer t))) t l (and_true h (rw (g, eqb_same b) (eqb_same (j.offer_owner (j.tally_offer t)))))

    -- So the word is 0 just where there is none.
    abbrev empty_word : Bool
    empty_word = eqb (word_at words a b) 0

    some_bit : (t : ℕ) → t < f.tallies → held_by j t a ≡ true → j.grocer_owner (j.tally_grocer t) ≡ b → empty_word ≡ false
    some_bit t l h g =
        no_true empty_word (λ e.
        let none : all 16 (λ o. not (waits_on f.boxes lists f.tallies a b o)) ≡ true =
        sym (mask_empty 16 (waits_on f.boxes lists f.tallies a b)) ∙ sym (ap (λ (x : ℕ). eqb x 0) word_is) ∙ e in
        let o : ℕ = j.offer_owner (j.tally_offer t) in
        clash (waits_is a b o ∙ waits_at t l h g) (not-true _ (all_at 16 (λ o. not (waits_on f.boxes lists f.tallies a b o)) o (owner_small t l) none)))

    -- Totals are due.
    due_there : eqb a b ≡ false → empty_word ≡ false → totals_due j a b ≡ true
    unfolding totals_due total_word shares job_of
    due_there ne e =
        let (o, lo, h) = all_find 16 (λ o. not (waits_on f.boxes lists f.tallies a b o))
        (sym (mask_empty 16 (waits_on f.boxes lists f.tallies a b)) ∙ sym (ap (λ (x : ℕ). eqb x 0) word_is) ∙ e) in
        let (t, lt, q) = any_find f.tallies (waits_for a b o) (sym (waits_is a b o) ∙ not-false _ h) in
        let held : held_by j t a ≡ true = and_l (held_by j t a) _ q in
        let own : j.grocer_owner (j.tally_grocer t) ≡ b = eqb-true _ b (and_l (eqb (j.grocer_owner (j.tally_grocer t)) b) _ (and_r (held_by j t a) _ q)) in
        let shared : shares j (j.tally_grocer t) a ≡ true = any_at f.tallies (λ u. held_by j u a && eqb (j.tally_grocer u) (j.tally_grocer t)) t lt (and_true held (eqb_same (j.tally_grocer t))) in
        any_at f.grocers (total_word j a b) (j.tally_grocer t) (inside.grocer< t lt) (rw (own, eqb_same b, ne_eqb b a (λ q. eqb-false a b ne (sym q))) shared)

    due_told : totals_due j a b ≡ true → (eqb a b ≡ false) × (empty_word ≡ false)
    unfolding totals_due total_word shares job_of
    due_told h =
        let (g, lg, q) = any_find f.grocers _ h in
        let own : j.grocer_owner g ≡ b = eqb-true _ b (and_l (eqb (j.grocer_owner g) b) _ q) in
        let r = and_r (eqb (j.grocer_owner g) b) _ q in
        let away : eqb (j.grocer_owner g) a ≡ false = not-true _ (and_l (not (eqb (j.grocer_owner g) a)) _ r) in
        let (t, lt, p) = any_find f.tallies _ (and_r (not (eqb (j.grocer_owner g) a)) _ r) in
        let of_it : j.tally_grocer t ≡ g = eqb-true _ g (and_r (held_by j t a) _ p) in (
          ne_eqb a b (λ e. eqb-false (j.grocer_owner g) a away (own ∙ sym e)),
          some_bit t lt (and_l (held_by j t a) _ p) (ap j.grocer_owner of_it ∙ own),
        )

    totals_told : totals_due_by words a b ≡ totals_due j a b
    unfolding totals_due_by
    totals_told =
        same_test (totals_due_by words a b) (totals_due j a b)
        (λ h. due_there (not-true _ (and_l (not (eqb a b)) _ h)) (not-true _ (and_r (not (eqb a b)) _ h)))
        (λ h. let (x, y) = due_told h in rw (x, y))

    -- A tally that box a holds is added once its owner's prices are got.
    added_got : (d : Steps) (t : ℕ) → held_by j t a ≡ true → added j d t ≡ has_got d a (j.offer_owner (j.tally_offer t))
    unfolding added has_got
    added_got d t h = rw (held_box j t a h)

    -- All that is waited for is got just where every tally is added.
    got_added : (d : Steps) → all_got words d a b ≡ true → all_added j d a b ≡ true
    unfolding all_got all_added job_of
    got_added d h =
        all_of_lem f.tallies (λ t. not (held_by j t a && eqb (j.grocer_owner (j.tally_grocer t)) b) || added j d t) (λ t l.
        split (held_by j t a && eqb (j.grocer_owner (j.tally_grocer t)) b)
        (λ e.
        let held : held_by j t a ≡ true = and_l (held_by j t a) _ e in
        let own : j.grocer_owner (j.tally_grocer t) ≡ b = eqb-true _ b (and_r (held_by j t a) _ e) in
        let o : ℕ = j.offer_owner (j.tally_offer t) in
        let set : bit o (word_at words a b) ≡ true = bit_is o (owner_small t l) ∙ waits_at t l held own in
        or_r (not (held_by j t a && eqb (j.grocer_owner (j.tally_grocer t)) b)) (added j d t) (added_got d t held ∙ (rw set at (all_at 16 (λ o. not (bit o (word_at words a b)) || has_got d a o) o (owner_small t l) h))))
        (λ e. rw e))

    added_all : (d : Steps) → all_added j d a b ≡ true → all_got words d a b ≡ true
    unfolding all_got all_added job_of
    added_all d h =
        all_of_lem 16 (λ o. not (bit o (word_at words a b)) || has_got d a o) (λ o lo.
        split (bit o (word_at words a b))
        (λ e.
        let (t, l, q) = any_find f.tallies (waits_for a b o) (sym (bit_is o lo) ∙ e) in
        let held : held_by j t a ≡ true = and_l (held_by j t a) _ q in
        let r = and_r (held_by j t a) _ q in
        let from : j.offer_owner (j.tally_offer t) ≡ o = eqb-true _ o (and_r (eqb (j.grocer_owner (j.tally_grocer t)) b) _ r) in
        let there = all_at f.tallies (λ t. not (held_by j t a && eqb (j.grocer_owner (j.tally_grocer t)) b) || added j d t) t l h in
        or_r (not (bit o (word_at words a b))) (has_got d a o)
        (ap (has_got d a) (sym from) ∙ sym (added_got d t held) ∙ (rw (held, and_l (eqb (j.grocer_owner (j.tally_grocer t)) b) _ r) at there)))
        (λ e. rw e))

    added_told : (d : Steps) → all_got words d a b ≡ all_added j d a b
    added_told d = same_test (all_got words d a b) (all_added j d a b) (got_added d) (added_all d)

  pub waits_of : (words : List (List ℕ)) → words ≡ wait_table f.boxes lists f.tallies → WaitsOf j words
  unfolding job_of
  waits_of words ew = record { due_is = λ a b la lb. totals_told words ew a b la lb; added_is = λ d a b la lb. added_told words ew a b la lb d }

  -- What the pass over the tallies asks.
  pub waits_in : JobWhole f → WaitsIn f.boxes f.tallies lists
  unfolding job_of
  waits_in w = record {
    boxes≤ = inside.boxes≤;
    box_long = w.tally_box;
    grocer_long = w.tally_grocer;
    offer_long = w.tally_offer;
    grocer< = λ t l. omega (arith, rw (word_in_lem f.tallies f.tally_grocer 0 t l) at (inside.grocer< t l), w.grocer_owner);
    offer< = λ t l. omega (arith, rw (word_in_lem f.tallies f.tally_offer 0 t l) at (inside.offer< t l), w.offer_owner);
    grocerOwner< = λ t l. rw (owner_of t l).0 (small _ (inside.grocerOwner< (j.tally_grocer t) (inside.grocer< t l)));
    offerOwner< = λ t l. rw (owner_of t l).1 (owner_small t l);
  }
