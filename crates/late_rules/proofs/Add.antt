-- A tally added at the end of the list. Assumes nothing.
use mathlib.Core.Path.{◌≡◌, refl, sym, ap, ap₂, ◌∙◌}
use mathlib.Core.Bool.{true, false}
use mathlib.Core.List.{[]}
use Prim.Native.Nat.{ℕ, ◌+◌, ◌<◌, suc, ◌*◌}
use native.Mathlib.Omega.{arith}
use lib.Dec.{eqb, leb}
use lib.IntN.{pos}
use lib.ListN.{get_or}
use borrow.Author.Tests.{eqb-true, eqb-false, lt-ltb, leb-false}
use Rattle.laws.specs.Below.{sum, integers}
use Rattle.laws.specs.Checks.{first_met}
use Rattle.laws.specs.Limits.{max_tallies}
use Rattle.laws.proofs.Bools.{split}
use Rattle.laws.proofs.Checks.{unmet}
use Rattle.laws.proofs.Sums.{sum_cong, sum_next_lem}
use Rattle.laws.proofs.Tables.{word_in_lem}
use Rattle.model.specs.Job.{plain_sum}
use Rattle.model.specs.Tables.{StateTables, counted_of, evening_of, state_lengths, totals_short, any_short}
use Rattle.model.specs.Ranges.{Settles}
use Rattle.model.specs.Run.{ran}
use Rattle.format.specs.Job.{Head, Tally, FileJob, names, place_of}
use Rattle.format.specs.Tables.{ReaderTables, OfferTables, file_job_of}
use Rattle.late_rules.specs.Edit.{entry_of, followed, store_entries, job_in, place_found, added_head, added_tables}
use Rattle.late_rules.specs.Late.{add_faults, room, add_rules, late_answer, late_result, late_outcome, bag_added}
use Rattle.late_rules.specs.Laws.{Edited, PlacesFound}
use Rattle.format.proofs.Range.{fine, only_place}
use Rattle.late_rules.proofs.Left.{short_not}
use Rattle.late_rules.proofs.Edited.{Whole, edited_is}
use Rattle.late_rules.proofs.Entries.{SameEntry, in_range_is, settles_is, stored, stored-whole}
use Rattle.late_rules.proofs.Found.{added_last, added_place, added_named}
use Rattle.late_rules.proofs.Counts.{Longer, longer_stands, other_grocer}
use Rattle.late_rules.proofs.Amounts.{brings_on, brings-sum, brings_none, brings_same}
use Rattle.late_rules.proofs.Places.{place_stays}
use Rattle.late_rules.proofs.Present.{Present, Allowed, allowed_is, NotRefused, not_refused, statement_is, present_statement, present_place, fewer}

module _ (h : Head) (l : ReaderTables) (s : StateTables) (x : Tally) (ok : first_met (add_rules h l s x) ≡ 0) where
  -- The edited job.
  abbrev h' : Head
  h' = added_head h

  abbrev l' : ReaderTables
  l' = added_tables h l x

  abbrev j' : FileJob
  j' = file_job_of h' l'.job

  -- The conditions, one by one.
  conditions : Allowed (room h.tallies) h l s (add_faults h l x) h' l'
  unfolding add_rules
  conditions = allowed_is (room h.tallies) h l s (add_faults h l x) h' l' ok

  own : (leb max_tallies h.tallies ≡ false) × NotRefused h' l'
  unfolding add_faults
  own = let r = unmet _ refl conditions.none in (r.0, not_refused h' l' r.1.0)

  pub few : h.tallies < 1000
  few = leb-false max_tallies h.tallies own.0

  roomy : room h.tallies ≡ h.tallies + 1
  unfolding room
  roomy = rw (lt-ltb h.tallies max_tallies few)

  pub with_room : Present (h.tallies + 1) h l s
  with_room = rw roomy at conditions.now

  pub now_present : Present h.tallies h l s
  now_present = fewer h l s (h.tallies + 1) (omega arith) with_room

  pub accepted : NotRefused h' l'
  accepted = own.1

  -- What the tables hold then: the entries of before,
  pub kept : (t : ℕ) → t < h.tallies → SameEntry (entry_of l' t) (entry_of l t)
  unfolding added_tables
  kept t q = rw (lt-ltb t h.tallies q) at (stored (h.tallies + 1) (followed h.tallies (entry_of l) (record { tally = x; place = place_found h l x })) l t (omega arith))

  -- and behind them x.
  pub last : SameEntry (entry_of l' h.tallies) (record { tally = x; place = place_found h l x })
  last = added_last h l x

  pub place_is : place_of j' h.tallies ≡ place_found h l x
  place_is = added_place h l x accepted.written

  pub named_is : place_found h l x < h.offers
  named_is = added_named h l x accepted.written

  pub only_is : (i : ℕ) → i < h.offers → names j' h.tallies i ≡ true → place_found h l x ≡ i
  unfolding names file_job_of
  only_is i q e = sym place_is ∙ only_place j' h.tallies (fine j' accepted.written).shared i q e

  offers_stay : l'.job.offers ≡ l.job.offers
  unfolding added_tables store_entries
  offers_stay = refl

  -- ---- the edited job settles

  pub whole_then : Whole (h.tallies + 1) h' l' s
  unfolding added_tables
  whole_then =
      stored-whole (h.tallies + 1) (followed h.tallies (entry_of l) (record { tally = x; place = place_found h l x })) l h s (h.tallies + 1) (h.tallies + 1) (omega arith)
      with_room.whole

  places_then : (t : ℕ) → t < h.tallies + 1 → get_or l'.tally_offer t 0 < h.offers
  places_then t q =
      split (eqb t h.tallies)
      (λ e. rw (eqb-true t h.tallies e, last.place) named_is)
      (λ e. let ne = eqb-false t h.tallies e in rw (kept t (omega arith)).place (present_place h l s now_present t (omega arith)))

  -- Every place is the one that the reader finds, where it was so before.
  pub places_found : PlacesFound h l → PlacesFound h' l'
  unfolding PlacesFound
  places_found found t q =
      split (eqb t h.tallies)
      (λ e. rw (eqb-true t h.tallies e, last.place, place_is))
      (λ e.
      let ne = eqb-false t h.tallies e in
      let k : t < h.tallies = omega arith in
      (kept t k).place ∙ found t k ∙ sym (place_stays h l l' (h.tallies + 1) offers_stay accepted.written t t q (kept t k)))

  pub settles_then : Settles (job_in h' l')
  settles_then = settles_is h' l' s whole_then (in_range_is h' l' accepted.written places_then) accepted.once

  pub result_is : bag_added h l s x ≡ late_outcome (late_answer (h.tallies + 1) (ran (job_in h' l') s [] []).answer) l' (ran (job_in h' l') s [] []).tables
  unfolding bag_added late_result
  result_is = rw ok

  pub totals_then : totals_short (evening_of (job_in h' l')) (state_lengths s) ≡ false
  totals_then = conditions.totals

  pub lent_then : any_short (job_in h' l') s ≡ false
  lent_then = short_not (job_in h' l') settles_then s whole_then.state totals_then

  pub edit_is : Edited h' l' s (bag_added h l s x)
  edit_is = rw result_is (edited_is h' l' s settles_then whole_then totals_then accepted.written)

  -- ---- no other grocer's amount changes

  -- What the recount rule looks at: the counts of before, and x behind them.
  pub longer : Longer (counted_of (job_in h l)) (counted_of (job_in h' l'))
  unfolding counted_of
  longer = record {
    size = refl;
    grocer = λ t q. word_in_lem (h.tallies + 1) l'.job.tallies.grocer 0 t (omega arith) ∙ (kept t q).tally.grocer ∙ sym (word_in_lem h.tallies l.job.tallies.grocer 0 t q);
    offer = λ t q. word_in_lem (h.tallies + 1) l'.tally_offer 0 t (omega arith) ∙ (kept t q).place ∙ sym (word_in_lem h.tallies l.tally_offer 0 t q);
    bag = λ t q. word_in_lem (h.tallies + 1) l'.job.tallies.bag 0 t (omega arith) ∙ (kept t q).tally.bag ∙ sym (word_in_lem h.tallies l.job.tallies.bag 0 t q);
    revision = λ t q. word_in_lem (h.tallies + 1) l'.job.tallies.revision 0 t (omega arith) ∙ (kept t q).tally.revision ∙ sym (word_in_lem h.tallies l.job.tallies.revision 0 t q);
  }

  -- The grocers of a tally of before, and of x.
  grocer_then : (t : ℕ) → t < h.tallies → (counted_of (job_in h' l')).grocer t ≡ get_or l.job.tallies.grocer t 0
  unfolding counted_of
  grocer_then t q = word_in_lem (h.tallies + 1) l'.job.tallies.grocer 0 t (omega arith) ∙ (kept t q).tally.grocer

  grocer_last : (counted_of (job_in h' l')).grocer h.tallies ≡ x.grocer
  unfolding counted_of
  grocer_last = word_in_lem (h.tallies + 1) l'.job.tallies.grocer 0 h.tallies (omega arith) ∙ last.tally.grocer

  module _ (g q : ℕ) (ne : g ≡ x.grocer → ⊥) where
    -- A tally of before brings the grocer what it brought; x brings nothing.
    same_brings : (t : ℕ) → t < h.tallies → brings_on (job_in h' l') g q t ≡ brings_on (job_in h l) g q t
    unfolding counted_of
    same_brings t k =
        brings_same (job_in h' l') (job_in h l) g q t t (ap (λ (o : OfferTables). o.price) offers_stay) refl (kept t k).tally.grocer (kept t k).tally.count (kept t k).place (λ of-g.
        longer_stands (counted_of (job_in h l)) (counted_of (job_in h' l')) longer t k
        (other_grocer (counted_of (job_in h' l')) t h.tallies (λ e. ne (sym of-g ∙ sym (grocer_then t k) ∙ e ∙ grocer_last))))

    last_brings : brings_on (job_in h' l') g q h.tallies ≡ pos 0
    last_brings = brings_none (job_in h' l') g q h.tallies (λ e. ne (e ∙ last.tally.grocer))

    sums_stay : q < suc h.lists → plain_sum (evening_of (job_in h' l')) (g * suc h.lists + q) ≡ plain_sum (evening_of (job_in h l)) (g * suc h.lists + q)
    unfolding integers
    sums_stay lq =
        brings-sum (job_in h' l') settles_then.in_range g q lq
        ∙ sum_next_lem integers h.tallies (brings_on (job_in h' l') g q)
        ∙ ap₂ integers.plus (sum_cong integers h.tallies (brings_on (job_in h' l') g q) (brings_on (job_in h l) g q) same_brings) last_brings
        ∙ integers.idr (sum integers h.tallies (brings_on (job_in h l) g q))
        ∙ sym (brings-sum (job_in h l) now_present.in_range g q lq)

    -- "no other grocer's amount may change".
    pub others_is : g < h.grocers → q < suc h.lists →
        get_or (bag_added h l s x).state.statement (g * suc h.lists + q) (pos 0) ≡ get_or s.statement (g * suc h.lists + q) (pos 0)
    others_is lg lq = rw result_is (statement_is h' l' s settles_then lent_then g q lg lq ∙ sums_stay lq ∙ sym (present_statement h l s now_present g q lg lq))
