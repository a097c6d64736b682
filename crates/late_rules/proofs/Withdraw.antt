-- A tally withdrawn. Assumes nothing.
use mathlib.Core.Path.{◌≡◌, refl, sym, ap, ◌∙◌}
use mathlib.Core.Bool.{false, not}
use mathlib.Core.List.{[]}
use Prim.Native.Nat.{ℕ, zero, suc, ◌+◌, ◌-◌, ◌<◌, ◌*◌}
use native.Mathlib.Omega.{arith}
use lib.Dec.{ltb}
use lib.IntN.{pos, ℤ}
use lib.ListN.{get_or}
use borrow.Author.Tests.{lt-ltb, le-ltb, ltb-true}
use Rattle.laws.specs.Below.{sum, integers}
use Rattle.laws.specs.Checks.{first_met}
use Rattle.laws.proofs.Bools.{or_off}
use Rattle.laws.proofs.Checks.{unmet}
use Rattle.laws.proofs.Sums.{sum_cong}
use Rattle.laws.proofs.Tables.{word_in_lem, get_d_recell, get_d_tabulate}
use Rattle.model.specs.Job.{plain_sum}
use Rattle.model.specs.Tables.{StateTables, counted_of, evening_of, any_short}
use Rattle.model.specs.Ranges.{Settles}
use Rattle.model.specs.Run.{ran}
use Rattle.format.specs.Job.{Head}
use Rattle.format.specs.Tables.{ReaderTables, OfferTables, store_codes, store_tallies}
use Rattle.late_rules.specs.Edit.{entry_of, freed, followed, place_before, removed, store_entries, job_in, withdrawn_head, withdrawn_tables, Entry}
use Rattle.late_rules.specs.Late.{refused_job, withdraw_rules, late_answer, late_result, late_outcome, bag_withdrawn, withdraw_faults}
use Rattle.late_rules.specs.Laws.{Edited, Withdrawn, FreedWords, PlacesFound}
use Rattle.format.specs.Codes.{code_bytes}
use Rattle.late_rules.proofs.Left.{short_not}
use Rattle.late_rules.proofs.Edited.{Whole, edited_is}
use Rattle.late_rules.proofs.Entries.{SameEntry, in_range_is, settles_is, stored, stored-whole}
use Rattle.late_rules.proofs.Counts.{Without, before_in, before_high, sum-without, other_grocer, without_stands, brought_back}
use Rattle.late_rules.proofs.Present.{not_off, Present, NotRefused, not_refused, present_place, present_statement, Allowed, allowed_is, statement_is}
use Rattle.late_rules.proofs.Places.{place_stays}
use Rattle.late_rules.proofs.Amounts.{brings_on, brings-sum, brings_none, brings_same}

-- A freed code is eleven bytes of 0.
freed_byte : (i : ℕ) → i < 11 → get_or (code_bytes freed.tally.code) i 0 ≡ 0
unfolding code_bytes
freed_byte zero k = refl
freed_byte (suc i) k = get_d_tabulate 10 (λ k. 0) i 0 (omega arith)

-- What the tables hold once the tally at place p is removed, whatever they held.
module _ (h : Head) (l : ReaderTables) (p : ℕ) (inside : p < h.tallies) where
  abbrev now : ReaderTables
  now = withdrawn_tables h l p

  -- Later entries have moved up,
  pub moved : (t : ℕ) → t < h.tallies - 1 → SameEntry (entry_of now t) (entry_of l (place_before p t))
  unfolding withdrawn_tables
  moved t q =
      rw (lt-ltb (place_before p t) h.tallies (before_in p h.tallies t q))
      at (stored h.tallies (removed p (followed h.tallies (entry_of l) freed)) l t (omega arith))

  -- and the last one's words are freed.
  last_freed : removed p (followed h.tallies (entry_of l) freed) (h.tallies - 1) ≡ freed
  last_freed =
      let e : suc (h.tallies - 1) ≡ h.tallies = omega arith in
      rw (before_high p (h.tallies - 1) (omega arith) ∙ e, le-ltb h.tallies h.tallies (omega arith))

  freed_is : SameEntry (entry_of now (h.tallies - 1)) freed
  unfolding withdrawn_tables
  freed_is = rw last_freed at (stored h.tallies (removed p (followed h.tallies (entry_of l) freed)) l (h.tallies - 1) (omega arith))

  -- So each of these words is 0, of the code all eleven.
  freed-code : (i : ℕ) → i < 11 → get_or now.job.tallies.code ((h.tallies - 1) * 11 + i) 0 ≡ 0
  unfolding withdrawn_tables store_entries store_tallies store_codes
  freed-code i k =
      get_d_recell h.tallies 11 (λ t b. get_or (code_bytes (removed p (followed h.tallies (entry_of l) freed) t).tally.code) b 0) l.job.tallies.code (h.tallies - 1) i 0 (omega arith) k
      ∙ ap (λ (e : Entry). get_or (code_bytes e.tally.code) i 0) last_freed
      ∙ freed_byte i k

  pub freed_words_lem : FreedWords (h.tallies - 1) now
  freed_words_lem =
      let w = freed_is in
      record {
        grocer = w.tally.grocer;
        box = w.tally.box;
        code = freed-code;
        count = w.tally.count;
        issuer = w.tally.issuer;
        bag = w.tally.bag;
        revision = w.tally.revision;
        place = w.place;
      }

  -- What the recount rule looks at: the counts of before without that of p.
  pub without : Without p (counted_of (job_in h l)) (counted_of (job_in (withdrawn_head h) now))
  unfolding counted_of
  without = record {
    inside = inside;
    size = refl;
    grocer = λ t q. word_in_lem (h.tallies - 1) now.job.tallies.grocer 0 t q ∙ (moved t q).tally.grocer ∙ sym (word_in_lem h.tallies l.job.tallies.grocer 0 (place_before p t) (before_in p h.tallies t q));
    offer = λ t q. word_in_lem (h.tallies - 1) now.tally_offer 0 t q ∙ (moved t q).place ∙ sym (word_in_lem h.tallies l.tally_offer 0 (place_before p t) (before_in p h.tallies t q));
    bag = λ t q. word_in_lem (h.tallies - 1) now.job.tallies.bag 0 t q ∙ (moved t q).tally.bag ∙ sym (word_in_lem h.tallies l.job.tallies.bag 0 (place_before p t) (before_in p h.tallies t q));
    revision = λ t q. word_in_lem (h.tallies - 1) now.job.tallies.revision 0 t q ∙ (moved t q).tally.revision ∙ sym (word_in_lem h.tallies l.job.tallies.revision 0 (place_before p t) (before_in p h.tallies t q));
  }

  pub whole_now : (s : StateTables) → Whole h.tallies h l s → Whole (h.tallies - 1) (withdrawn_head h) now s
  unfolding withdrawn_tables
  whole_now s w = stored-whole h.tallies (removed p (followed h.tallies (entry_of l) freed)) l h s (h.tallies - 1) h.tallies (omega arith) w

module _ (h : Head) (l : ReaderTables) (s : StateTables) (p : ℕ) (ok : first_met (withdraw_rules h l s p) ≡ 0) where
  -- The edited job.
  abbrev h' : Head
  h' = withdrawn_head h

  abbrev l' : ReaderTables
  l' = withdrawn_tables h l p

  -- The conditions, one by one.
  conditions : Allowed h.tallies h l s (withdraw_faults h l p) h' l'
  unfolding withdraw_rules
  conditions = allowed_is h.tallies h l s (withdraw_faults h l p) h' l' ok

  own : (p < h.tallies) × NotRefused h' l'
  unfolding withdraw_faults
  own =
      let r = unmet _ refl conditions.none in
      let e = or_off (not (ltb p h.tallies)) (refused_job h' l') r.0 in
      (ltb-true p h.tallies (not_off _ e.0), not_refused h' l' e.1)

  pub now_present : Present h.tallies h l s
  now_present = conditions.now

  pub there : p < h.tallies
  there = own.0

  pub accepted : NotRefused h' l'
  accepted = own.1

  pub whole_then : Whole (h.tallies - 1) h' l' s
  whole_then = whole_now h l p there s now_present.whole

  offers_stay : l'.job.offers ≡ l.job.offers
  unfolding withdrawn_tables store_entries
  offers_stay = refl

  -- Every place is the one that the reader finds, where it was so before.
  places_found : PlacesFound h l → PlacesFound h' l'
  unfolding PlacesFound
  places_found found t q =
      let m = moved h l p there t q in
      m.place ∙ found (place_before p t) (before_in p h.tallies t q)
      ∙ sym (place_stays h l l' (h.tallies - 1) offers_stay accepted.written t (place_before p t) q m)

  places_then : (t : ℕ) → t < h.tallies - 1 → get_or l'.tally_offer t 0 < h.offers
  places_then t q = rw (moved h l p there t q).place (present_place h l s now_present (place_before p t) (before_in p h.tallies t q))

  pub settles_then : Settles (job_in h' l')
  settles_then = settles_is h' l' s whole_then (in_range_is h' l' accepted.written places_then) accepted.once

  pub result_is : bag_withdrawn h l s p ≡ late_outcome (late_answer (h.tallies - 1) (ran (job_in h' l') s [] []).answer) l' (ran (job_in h' l') s [] []).tables
  unfolding bag_withdrawn late_result
  result_is = rw ok

  pub lent_then : any_short (job_in h' l') s ≡ false
  lent_then = short_not (job_in h' l') settles_then s whole_then.state conditions.totals

  pub edit_is : Edited h' l' s (bag_withdrawn h l s p)
  edit_is = rw result_is (edited_is h' l' s settles_then whole_then conditions.totals accepted.written)

  grocer_at : (t : ℕ) → t < h.tallies → (counted_of (job_in h l)).grocer t ≡ get_or l.job.tallies.grocer t 0
  unfolding counted_of
  grocer_at t q = word_in_lem h.tallies l.job.tallies.grocer 0 t q

  module _ (g q : ℕ) (ne : g ≡ get_or l.job.tallies.grocer p 0 → ⊥) where
    -- A tally that stays brings the grocer what it brought; that of p brought nothing.
    same_brings : (t : ℕ) → t < h.tallies - 1 → brings_on (job_in h' l') g q t ≡ brings_on (job_in h l) g q (place_before p t)
    unfolding counted_of
    same_brings t k =
        let m = moved h l p there t k in
        let u = place_before p t in
        brings_same (job_in h' l') (job_in h l) g q t u (ap (λ (o : OfferTables). o.price) offers_stay) refl m.tally.grocer m.tally.count m.place (λ of-g.
        without_stands p (counted_of (job_in h l)) (counted_of (job_in h' l')) (without h l p there) t k
        (other_grocer (counted_of (job_in h l)) u p (λ e. ne (sym of-g ∙ sym (grocer_at u (before_in p h.tallies t k)) ∙ e ∙ grocer_at p there))))

    sums_stay : q < suc h.lists → plain_sum (evening_of (job_in h' l')) (g * suc h.lists + q) ≡ plain_sum (evening_of (job_in h l)) (g * suc h.lists + q)
    unfolding integers
    sums_stay lq =
        let e : suc (h.tallies - 1) ≡ h.tallies = omega (arith, there) in
        let before : ℕ → ℤ = λ t. brings_on (job_in h l) g q (place_before p t) in
        brings-sum (job_in h' l') settles_then.in_range g q lq
        ∙ sum_cong integers (h.tallies - 1) (brings_on (job_in h' l') g q) before same_brings
        ∙ sym (integers.idr (sum integers (h.tallies - 1) before))
        ∙ ap (integers.plus (sum integers (h.tallies - 1) before)) (sym (brings_none (job_in h l) g q p ne))
        ∙ sum-without p integers (h.tallies - 1) (brings_on (job_in h l) g q) (omega (arith, there))
        ∙ ap (λ (n : ℕ). sum integers n (brings_on (job_in h l) g q)) e
        ∙ sym (brings-sum (job_in h l) now_present.in_range g q lq)

    -- "no other grocer's amount may change".
    pub others_is : g < h.grocers → q < suc h.lists →
        get_or (bag_withdrawn h l s p).state.statement (g * suc h.lists + q) (pos 0) ≡ get_or s.statement (g * suc h.lists + q) (pos 0)
    others_is lg lq = rw result_is (statement_is h' l' s settles_then lent_then g q lg lq ∙ sums_stay lq ∙ sym (present_statement h l s now_present g q lg lq))

  revision_at : (t : ℕ) → t < h.tallies → (counted_of (job_in h l)).revision t ≡ get_or l.job.tallies.revision t 0
  unfolding counted_of
  revision_at t q = word_in_lem h.tallies l.job.tallies.revision 0 t q

  pub withdrawn_is : Withdrawn h l s p
  unfolding counted_of
  withdrawn_is = record {
    edit = edit_is;
    places = places_found;
    others = λ g q lg lq ne. others_is g q ne lg lq;
    other_bags = λ t q off. without_stands p (counted_of (job_in h l)) (counted_of (job_in h' l')) (without h l p there) t q off;
    back = λ t q off st same most.
        brought_back p (counted_of (job_in h l)) (counted_of (job_in h' l')) (without h l p there) now_present.once t q off st same
        (λ u m e. rw (revision_at (place_before p u) (before_in p h.tallies u m), revision_at (place_before p t) (before_in p h.tallies t q)) (most u m e));
    freed_words = freed_words_lem h l p there;
  }
