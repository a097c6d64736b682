-- The packed working totals that `add_placed` leaves are the model's after steps 2 and 3. Assumes nothing.
use mathlib.Core.Path.{◌≡◌, refl, sym, ap, ◌∙◌}
use mathlib.Core.Bool.{Bool, true, false, ◌&&◌}
use mathlib.Core.List.{List, []}
use Prim.Native.Nat.{ℕ, suc, ◌+◌, ◌*◌, ◌/◌, ◌%◌, ◌<◌, ◌≤◌}
use native.Mathlib.Omega.{arith}
use lib.Arith.{digits_div}
use lib.Dec.{eqb, ltb}
use lib.ListN.{get_or, length}
use lib.IntN.{ℤ, pos, ◌+ℤ◌, ◌*ℤ◌, +ℤ_idr}
use borrow.Author.Tests.{eqb-true, lt-ltb, ltb-true, ltb-false, ne_eqb}
use Rattle.laws.specs.Below.{integers, sum, only}
use Rattle.laws.specs.Tables.{overwrite, cell}
use Rattle.laws.proofs.Bools.{split, and_one, eqb_same, cond_same}
use Rattle.laws.proofs.Sums.{sum_cong, sum_none}
use Rattle.laws.proofs.Entries.{list_in, both}
use Rattle.laws.proofs.Tables.{cell_in, cell_at, is_tabulate, get_d_overwrite, get_d_past, length_overwrite, word_in_lem}
use Rattle.model.specs.Job.{Job, held_by, needs, amount, price_word}
use Rattle.model.specs.Steps.{received, effect, multiply_own, receive_prices}
use Rattle.model.specs.PackedTotals.{totals_length, total_place, spread}
use Rattle.model.specs.Tables.{JobTables, job_of, with_lists, evening_of, StateTables, view, store}
use Rattle.model.specs.Spans.{tally_place, added_at, BySpans, ListSpans}
use Rattle.step_totals.specs.Row.{Tallies, tallies, TalliesIn, brings, product_at, placed}
use Rattle.model.proofs.EveningJob.{price_entry}
use Rattle.model.proofs.Handed.{bare_stands}
use Rattle.model.proofs.Parts.{needs_at}
use Rattle.model.proofs.Range.{InRange}
use Rattle.model.proofs.PackedTotals.{place_within}
use Rattle.model.proofs.Spans.{tally_has, tally_at}
use Rattle.model.proofs.Step.{under_at}

-- The tables of tallies of a job, with the places of their totals.
abbrev pub tallies_of : JobTables → List ℕ → Tallies
tallies_of f places =
    tallies f.boxes f.offers f.tallies f.offer_owner places f.tally_box f.tally_offer f.tally_count

-- One tally, as the model adds it and as the call does.
only_same : (h g p o : Bool) (x y : ℤ) → (h ≡ true → p ≡ o) → (h ≡ true → p ≡ true → x ≡ y) → only integers g (only integers (h && o) y) ≡ only integers (h && g && p) x
unfolding only integers
only_same false true p o x y eo ex = refl
only_same false false p o x y eo ex = refl
only_same true false p o x y eo ex = refl
only_same true true p o x y eo ex = rw (← (eo refl)) (split p (λ e. rw e (sym (ex refl e))) (λ e. rw e))

-- A box holds a tally if the tally is counted in it.
pub held_is : (f : JobTables) → f.tally_bag ≡ [] → (a : ℕ) → a < f.boxes → (i : ℕ) → i < f.tallies → held_by (job_of f) i a ≡ eqb (get_or f.tally_box i 0) a
unfolding held_by job_of
held_is f bare a la i l = rw (bare_stands f bare i, word_in_lem f.tallies f.tally_box 0 i l, lt-ltb a f.boxes la) (and_one (eqb (get_or f.tally_box i 0) a))

-- The words of an entry.
abbrev pub width_of : JobTables → ℕ
width_of f = suc f.lists

-- Nothing is added past the packed table.
added_past : (j : Job) → InRange j → (know : ℕ → ℕ) (p : ℕ → Bool) (a k : ℕ) → totals_length j ≤ k → added_at j know p a k ≡ pos 0
unfolding added_at only integers
added_past j r know p a k q =
    sum_none integers j.tallies _ (λ i l. split (held_by j i a)
    (λ e. let s = place_within j a (j.tally_grocer i) (tally_has j r i a l e) in
    rw (e, tally_at j r i a e, ne_eqb (total_place j a (j.tally_grocer i)) k (λ z. omega arith)))
    (λ e. rw e))

module _ (f : JobTables) (places : List ℕ) (bare : f.tally_bag ≡ []) (h : TalliesIn (tallies_of f places)) (r : InRange (evening_of f)) (lists : ListSpans f) (a : ℕ) (la : a < f.boxes)
    (at : (i : ℕ) → i < f.tallies → held_by (job_of f) i a ≡ true → get_or places i 0 ≡ tally_place (job_of f) i) where
  offer_in : (i : ℕ) → i < f.tallies → get_or f.tally_offer i 0 < f.offers
  offer_in i l = under_at f.offers f.tallies f.tally_offer i h.offer_in l

  box : a < (evening_of f).boxes
  unfolding with_lists spread job_of
  box = la

  -- The offer of a tally, as the model reads it: its owner, and that box a needs it if it holds the tally.
  owner_is : (i : ℕ) → i < f.tallies → (job_of f).offer_owner (get_or f.tally_offer i 0) ≡ get_or f.offer_owner (get_or f.tally_offer i 0) 0
  unfolding job_of
  owner_is i l = word_in_lem f.offers f.offer_owner 0 (get_or f.tally_offer i 0) (offer_in i l)

  needed : (i : ℕ) → i < f.tallies → held_by (job_of f) i a ≡ true → needs (job_of f) (get_or f.tally_offer i 0) a ≡ true
  unfolding job_of
  needed i l q = rw (word_in_lem f.tallies f.tally_offer 0 i l) at (needs_at (job_of f) i a l q)

  -- Prices of the evening: the word of offer o and list q.
  known_is : (t : StateTables) (w : ℕ) → (view (evening_of f) t).known a w ≡ cell f.boxes (f.offers * width_of f) t.known 0 a w
  unfolding view with_lists spread job_of
  known_is t w = refl

  evening_owner : (o q : ℕ) → q < width_of f → (evening_of f).offer_owner (o * width_of f + q) ≡ (job_of f).offer_owner o
  unfolding with_lists spread
  evening_owner o q k = ap (job_of f).offer_owner (digits_div o k)

  evening_price : (b o q : ℕ) → q < width_of f → price_word (evening_of f) b a (o * width_of f + q) ≡ price_word (job_of f) b a o
  evening_price b o q k = price_entry f.lists f b a (o * width_of f + q) ∙ ap (price_word (job_of f) b a) (digits_div o k)

  -- Of the tallies that box a holds, those whose offers stand in the message from box b are those whose offers b owns.
  received_offer : (b : ℕ) → (a ≡ b → ⊥) → (i : ℕ) → i < f.tallies → held_by (job_of f) i a ≡ true →
      price_word (job_of f) b a (get_or f.tally_offer i 0) ≡ eqb (get_or f.offer_owner (get_or f.tally_offer i 0) 0) b
  unfolding price_word
  received_offer b ne i l held =
      rw (owner_is i l, needed i l held)
      (split (eqb (get_or f.offer_owner (get_or f.tally_offer i 0) 0) b)
      (λ e. rw (eqb-true (get_or f.offer_owner (get_or f.tally_offer i 0) 0) b e, ne_eqb b a (λ q. ne (sym q)), eqb_same b))
      (λ e. rw e))

  transit_is : (t : StateTables) (w : ℕ) → (view (evening_of f) t).price_transit a w ≡ cell f.boxes (f.offers * width_of f) t.price_transit 0 a w
  unfolding view with_lists spread job_of
  transit_is t w = refl

  -- The price received of such an offer is the one in transit.
  received_price : (t : StateTables) (b w : ℕ) → price_word (evening_of f) b a w ≡ true →
      received (evening_of f) (view (evening_of f) t) a b a w ≡ cell f.boxes (f.offers * width_of f) t.price_transit 0 a w
  unfolding received
  received_price t b w e = rw (eqb_same a, e) (transit_is t w)

  -- A tally that is not held adds nothing.
  held_none : (i : ℕ) (b c : Bool) (x : ℤ) → held_by (job_of f) i a ≡ false → only integers (held_by (job_of f) i a && b && c) x ≡ pos 0
  unfolding only integers
  held_none i b c x e = rw e

  module _ (prices : List ℕ) (from : ℕ) (know : ℕ → ℕ) (p : ℕ → Bool)
      (same : (i q : ℕ) → i < f.tallies → q < width_of f → held_by (job_of f) i a ≡ true →
      p (get_or f.tally_offer i 0 * width_of f + q) ≡ eqb (get_or f.offer_owner (get_or f.tally_offer i 0) 0) from)
      (known : (w : ℕ) → p w ≡ true → know w ≡ cell f.boxes (f.offers * width_of f) prices 0 a w) where
    -- The place where the prices of box a begin.
    abbrev row_at : ℕ
    row_at = a * (f.offers * width_of f)

    abbrev brought : ℕ → ℕ → ℤ
    brought = brings f.offer_owner f.tally_box f.tally_offer f.tally_count prices a from row_at (width_of f)

    -- What tally i adds on list q, as the model adds it.
    abbrev passes : ℕ → ℕ → Bool
    passes q i = p ((job_of f).tally_offer i * width_of f + q)

    abbrev worth : ℕ → ℕ → ℤ
    worth q i = amount (job_of f) (know ((job_of f).tally_offer i * width_of f + q)) i

    -- A tally that box a does not hold.
    away : (i k q : ℕ) → i < f.tallies → held_by (job_of f) i a ≡ false → only integers (eqb (get_or places i 0) k) (brought q i) ≡ pos 0
    unfolding only integers
    away i k q l e = rw (sym (held_is f bare a la i l) ∙ e) (cond_same (eqb (get_or places i 0) k) (pos 0))

    owned : (i q : ℕ) → i < f.tallies → q < width_of f → held_by (job_of f) i a ≡ true → passes q i ≡ eqb (get_or f.offer_owner (get_or f.tally_offer i 0) 0) from
    unfolding job_of
    owned i q l k e = ap (λ (o : ℕ). p (o * width_of f + q)) (word_in_lem f.tallies f.tally_offer 0 i l) ∙ same i q l k e

    priced : (i q : ℕ) → i < f.tallies → q < width_of f → passes q i ≡ true → worth q i ≡ product_at f.tally_offer f.tally_count prices row_at (width_of f) q i
    unfolding amount job_of
    priced i q l k e =
        let o = get_or f.tally_offer i 0 in
        let w = o * width_of f + q in
        let at = word_in_lem f.tallies f.tally_offer 0 i l in
        rw (word_in_lem f.tallies f.tally_count (pos 0) i l)
        (ap (λ (x : ℕ). get_or f.tally_count i (pos 0) *ℤ pos x)
        (ap (λ (o : ℕ). know (o * width_of f + q)) at
        ∙ known w (ap (λ (o : ℕ). p (o * width_of f + q)) (sym at) ∙ e)
        ∙ cell_at f.boxes (f.offers * width_of f) prices 0 a w la (cell_in o f.offers (width_of f) q (offer_in i l) k)
        ∙ ap (λ (x : ℕ). get_or prices x 0) (regroup row_at (o * width_of f) q)))
      where
        regroup : (x y z : ℕ) → x + (y + z) ≡ x + y + z
        regroup x y z = omega arith

    one : (i k q : ℕ) → i < f.tallies → q < width_of f →
        only integers (eqb (get_or places i 0) k) (brought q i) ≡ only integers (held_by (job_of f) i a && eqb (tally_place (job_of f) i) k && passes q i) (worth q i)
    one i k q l m =
        split (held_by (job_of f) i a)
        (λ e.
        ap (λ (x : ℕ). only integers (eqb x k) (brought q i)) (at i l e)
        ∙ ap (λ (b : Bool). only integers (eqb (tally_place (job_of f) i) k)
        (only integers (b && eqb (get_or f.offer_owner (get_or f.tally_offer i 0) 0) from) (product_at f.tally_offer f.tally_count prices row_at (width_of f) q i)))
        (sym (held_is f bare a la i l))
        ∙ only_same (held_by (job_of f) i a) (eqb (tally_place (job_of f) i) k) (passes q i) (eqb (get_or f.offer_owner (get_or f.tally_offer i 0) 0) from) _ _ (owned i q l m) (λ q' s. priced i q l m s))
        (λ e. away i k q l e ∙ sym (held_none i (eqb (tally_place (job_of f) i) k) (passes q i) (worth q i) e))

    -- What all tallies add at a word.
    added_is : (k : ℕ) → sum integers f.tallies (λ i. only integers (eqb (get_or places i 0) (k / width_of f)) (brought (k % width_of f) i)) ≡ added_at (evening_of f) know p a k
    added_is k =
        sum_cong integers f.tallies _ _ (λ i l. one i (k / width_of f) (k % width_of f) l (list_in f.lists k))
        ∙ sym (lists.added know p a (k / width_of f) (k % width_of f) (list_in f.lists k))
        ∙ ap (added_at (evening_of f) know p a) (both f.lists k)

    -- The table that the call leaves.
    placed_model : (w : List ℤ) → totals_length (evening_of f) ≤ length w →
        placed f.tallies (width_of f) places brought w ≡ overwrite (totals_length (evening_of f)) (λ k. get_or w k (pos 0) +ℤ added_at (evening_of f) know p a k) w
    unfolding placed
    placed_model w long =
        let n = totals_length (evening_of f) in
        let new : ℕ → ℤ = λ k. get_or w k (pos 0) +ℤ added_at (evening_of f) know p a k in
        sym (is_tabulate (overwrite n new w) (length w)
        (λ k. get_or w k (pos 0) +ℤ sum integers f.tallies (λ i. only integers (eqb (get_or places i 0) (k / width_of f)) (brought (k % width_of f) i))) (pos 0)
        (length_overwrite n new w long)
        (λ k q. split (ltb k n)
        (λ e. get_d_overwrite n new w k (pos 0) (ltb-true k n e) ∙ ap (λ (z : ℤ). get_or w k (pos 0) +ℤ z) (sym (added_is k)))
        (λ e. let past = ltb-false k n e in
        get_d_past n new w k (pos 0) past
        ∙ sym (ap (λ (z : ℤ). get_or w k (pos 0) +ℤ z) (added_is k ∙ added_past (evening_of f) r know p a k past) ∙ +ℤ_idr (get_or w k (pos 0))))))

  -- Step 2: the working totals.
  pub multiplied_working : (t : StateTables) (b : ℕ) → BySpans (evening_of f) t → totals_length (evening_of f) ≤ length t.working →
      placed f.tallies (width_of f) places (brings f.offer_owner f.tally_box f.tally_offer f.tally_count t.known a a (a * (f.offers * width_of f)) (width_of f)) t.working
      ≡ (store (evening_of f) (effect (evening_of f) (view (evening_of f) t) multiply_own a b) t).working
  multiplied_working t b z long =
      placed_model t.known a ((view (evening_of f) t).known a) (λ o. eqb ((evening_of f).offer_owner o) a)
      (λ i q l k e. ap (λ (x : ℕ). eqb x a) (evening_owner (get_or f.tally_offer i 0) q k ∙ owner_is i l)) (λ w e. known_is t w) t.working long
      ∙ sym (z.multiplied a b box)

  -- Step 3: the working totals.
  pub received_working : (t : StateTables) (b : ℕ) → (a ≡ b → ⊥) → BySpans (evening_of f) t → totals_length (evening_of f) ≤ length t.working →
      placed f.tallies (width_of f) places (brings f.offer_owner f.tally_box f.tally_offer f.tally_count t.price_transit a b (a * (f.offers * width_of f)) (width_of f)) t.working
      ≡ (store (evening_of f) (effect (evening_of f) (view (evening_of f) t) receive_prices a b) t).working
  received_working t b ne z long =
      placed_model t.price_transit b (received (evening_of f) (view (evening_of f) t) a b a) (price_word (evening_of f) b a)
      (λ i q l k e. evening_price b (get_or f.tally_offer i 0) q k ∙ received_offer b ne i l e) (received_price t b) t.working long
      ∙ sym (z.received_prices a b box)
