-- Withdrawing what was added leaves every word as it was but the freed ones. Assumes nothing.
use mathlib.Core.Path.{◌≡◌, refl, sym, ap, ◌∙◌}
use mathlib.Core.Bool.{true, false, cond}
use mathlib.Core.List.{List, []}
use Prim.Native.Nat.{ℕ, suc, ◌+◌, ◌-◌, ◌*◌, ◌/◌, ◌%◌, ◌<◌, ◌≤◌}
use native.Mathlib.Omega.{arith}
use lib.Dec.{ltb, eqb}
use lib.IntN.{ℤ, pos}
use lib.ListN.{get_or, length}
use borrow.Author.Tests.{lt-ltb, le-ltb, ltb-true, ltb-false}
use Rattle.laws.specs.Checks.{first_met}
use Rattle.laws.specs.Tables.{overwrite, recell, word, cell}
use Rattle.laws.proofs.Bools.{split, and_false, or_off}
use Rattle.laws.proofs.Checks.{unmet, none_met}
use Rattle.laws.proofs.Tables.{over-over, overwrite_cong, word_in_lem, word_past, get_d_overwrite, get_d_past, length_overwrite, overwrite_same}
use Rattle.laws.specs.Below.{count}
use Rattle.laws.specs.Lists.{list_words}
use Rattle.recount.specs.Recount.{stands}
use Rattle.model.specs.Job.{Job}
use Rattle.model.specs.Steps.{State, at_place, has_step, places}
use Rattle.model.specs.Boxes.{state_by_rules}
use Rattle.model.specs.Words.{owner_words, message_count, step_count}
use Rattle.model.specs.Tables.{JobTables, StateTables, counted_of, nobody, job_of, store, marks_of, with_lists, evening_of, state_tables, state_lengths, totals_short}
use Rattle.model.specs.Run.{ran}
use Rattle.format.specs.Job.{Head, Tally}
use Rattle.format.specs.Refusals.{job_refusal}
use Rattle.format.specs.Tables.{ReaderTables, file_job_of, store_codes, store_tallies}
use Rattle.late_rules.specs.Edit.{Entry, entry_of, freed, followed, removed, store_entries, job_in, place_found, added_head, added_tables, withdrawn_head, withdrawn_tables}
use Rattle.late_rules.specs.Late.{present_rules, refused_job, add_rules, withdraw_rules, edited, late_answer, LateOutcome, late_outcome, bag_added, bag_withdrawn, edited_short, withdraw_faults}
use Rattle.late_rules.specs.Laws.{Added, cleared_totals}
use Rattle.model.specs.PackedTotals.{has_total, totals_length, total_rows, pack_totals, spread}
use Rattle.late_rules.specs.Finished.{FinishedWords}
use Rattle.format.proofs.Tables.{tallies_same}
use Rattle.late_rules.proofs.Left.{end_state, end_tables, ran_end, left_end}
use Rattle.late_rules.proofs.Edited.{ran_report}
use Rattle.late_rules.proofs.Entries.{SameEntry, stored}
use Rattle.late_rules.proofs.Counts.{before_low, before_high, without_once}
use Rattle.late_rules.proofs.Less.{less_fine}
use Rattle.model.proofs.Finish.{end_total_transit}
use Rattle.model.proofs.PackedTotals.{pack_over}
use Rattle.model.proofs.Lent.{TotalsLong, totals_long}
use Rattle.format.proofs.Accept.{long}
use Rattle.late_rules.proofs.Words.{pack_none, end_totals, end_words}
use Rattle.late_rules.proofs.Present.{Present, present_settles, present_lent}
use Rattle.late_rules.proofs.Add as A
use Rattle.late_rules.proofs.Withdraw as W

-- From a job that the writer does not refuse any tally may be withdrawn, where the packed tables are long enough for the edited job.
pub withdrawable_is : (h : Head) (l : ReaderTables) (s : StateTables) (p : ℕ) → first_met (present_rules h.tallies false h l s) ≡ 0 → job_refusal (file_job_of h l.job) ≡ 0 → p < h.tallies →
    totals_short (evening_of (job_in (withdrawn_head h) (withdrawn_tables h l p))) (state_lengths s) ≡ false → first_met (withdraw_rules h l s p) ≡ 0
unfolding withdraw_rules withdraw_faults present_rules refused_job edited_short
withdrawable_is h l s p e ok q long =
    let r = unmet _ refl e in
    let n = or_off (totals_short (evening_of (job_in h l)) (state_lengths s)) false r.1.1.1.0 in
    none_met _ (
      r.0,
      (
        r.1.0,
        (
          r.1.1.0,
          (
            rw (n.0, long) (and_false (eqb (first_met (withdraw_faults h l p)) 0)),
            (
              r.1.1.1.1.0,
              (
                r.1.1.1.1.1.0,
                (
                  rw (
                    lt-ltb p h.tallies q,
                    less_fine h l p q ok,
                    without_once p (counted_of (job_in h l)) (counted_of (job_in (withdrawn_head h) (withdrawn_tables h l p))) (W.without h l p q) r.1.1.0,
                  ),
                  tt,
                ),
              ),
            ),
          ),
        ),
      ),
    )

-- ---- entries written twice

entries_over : (n : ℕ) (e d : ℕ → Entry) (l : ReaderTables) → store_entries n e (store_entries n d l) ≡ store_entries n e l
unfolding store_entries store_tallies store_codes recell
entries_over n e d l =
    let x = l.job.tallies in
    let e₀ = over-over n (λ t. (e t).tally.grocer) (λ t. (d t).tally.grocer) x.grocer in
    let e₁ = over-over n (λ t. (e t).tally.box) (λ t. (d t).tally.box) x.box in
    let e₂ = over-over (n * 11) _ _ x.code in
    let e₃ = over-over n (λ t. (e t).tally.count) (λ t. (d t).tally.count) x.count in
    let e₄ = over-over n (λ t. (e t).tally.issuer) (λ t. (d t).tally.issuer) x.issuer in
    let e₅ = over-over n (λ t. (e t).tally.bag) (λ t. (d t).tally.bag) x.bag in
    let e₆ = over-over n (λ t. (e t).tally.revision) (λ t. (d t).tally.revision) x.revision in
    let e₇ = over-over n (λ t. (e t).place) (λ t. (d t).place) l.tally_offer in
    λ i. record {
      job = record {
        offers = l.job.offers;
        grocer_owner = l.job.grocer_owner;
        tallies = record { grocer = e₀ i; box = e₁ i; code = e₂ i; count = e₃ i; issuer = e₄ i; bag = e₅ i; revision = e₆ i };
      };
      tally_offer = e₇ i;
    }

entries_same : (n : ℕ) (e d : ℕ → Entry) (l : ReaderTables) → ((t : ℕ) → t < n → SameEntry (e t) (d t)) → store_entries n e l ≡ store_entries n d l
unfolding store_entries
entries_same n e d l w =
    let a = tallies_same n l.job.tallies (λ t. (e t).tally) (λ t. (d t).tally) (λ t q. (w t q).tally) in
    let b = overwrite_cong n (λ t. (e t).place) (λ t. (d t).place) l.tally_offer (λ t q. (w t q).place) in
    λ i. record { job = record { offers = l.job.offers; grocer_owner = l.job.grocer_owner; tallies = a i }; tally_offer = b i }

-- ---- tables with the same words hold one job

words_same : {A : Type 0} (n : ℕ) (a b : List A) (z : A) → ((t : ℕ) → t < n → get_or a t z ≡ get_or b t z) → word n a z ≡ word n b z
words_same n a b z e = λ i t. at t i
  where
    at : (t : ℕ) → word n a z t ≡ word n b z t
    at t =
        split (ltb t n)
        (λ q. let k = ltb-true t n q in word_in_lem n a z t k ∙ e t k ∙ sym (word_in_lem n b z t k))
        (λ q. let k = ltb-false t n q in word_past n a z t k ∙ sym (word_past n b z t k))

-- The job by what its tables read as.
job_by : (k m n t : ℕ) (price owner grocer_owner grocer box offer : ℕ → ℕ) (count : ℕ → ℤ) (bag revision : ℕ → ℕ) → Job
job_by k m n t price owner grocer_owner grocer box offer count bag revision = record {
  boxes = k;
  grocers = m;
  offers = n;
  tallies = t;
  price = price;
  offer_owner = owner;
  grocer_owner = grocer_owner;
  tally_grocer = grocer;
  tally_box = λ u. cond (stands (record { size = t; grocer = grocer; offer = offer; bag = bag; revision = revision }) u) (box u) nobody;
  tally_offer = offer;
  tally_count = count;
}

-- Entries that agree below T, beside the same offers and grocers.
job_same : (h : Head) (l d : ReaderTables) → d.job.offers ≡ l.job.offers → d.job.grocer_owner ≡ l.job.grocer_owner →
    ((t : ℕ) → t < h.tallies → SameEntry (entry_of d t) (entry_of l t)) → job_of (job_in h d) ≡ job_of (job_in h l)
unfolding job_of counted_of job_by
job_same h l d o g w =
    let x = l.job.tallies in
    let y = d.job.tallies in
    let e₀ = words_same h.tallies y.grocer x.grocer 0 (λ t q. (w t q).tally.grocer) in
    let e₁ = words_same h.tallies y.box x.box 0 (λ t q. (w t q).tally.box) in
    let e₂ = words_same h.tallies d.tally_offer l.tally_offer 0 (λ t q. (w t q).place) in
    let e₃ = words_same h.tallies y.count x.count (pos 0) (λ t q. (w t q).tally.count) in
    let e₄ = words_same h.tallies y.bag x.bag 0 (λ t q. (w t q).tally.bag) in
    let e₅ = words_same h.tallies y.revision x.revision 0 (λ t q. (w t q).tally.revision) in
    λ i. job_by h.boxes h.grocers h.offers h.tallies (word h.offers (o i).price 0) (word h.offers (o i).owner 0) (word h.grocers (g i) 0)
    (e₀ i) (e₁ i) (e₂ i) (e₃ i) (e₄ i) (e₅ i)

evening_same : (h : Head) (l d : ReaderTables) → d.job.offers ≡ l.job.offers → d.job.grocer_owner ≡ l.job.grocer_owner →
    ((t : ℕ) → t < h.tallies → SameEntry (entry_of d t) (entry_of l t)) → evening_of (job_in h d) ≡ evening_of (job_in h l)
unfolding with_lists
evening_same h l d o g w =
    let e = job_same h l d o g w in
    λ i. spread (suc h.lists) (λ k. cell (suc h.lists) h.offers (o i).price 0 (k % suc h.lists) (k / suc h.lists)) (e i)

-- ---- states written twice

-- Words of 0 written over words of 0, in a table whose first n words are 0.
none_over : (n m : ℕ) (l : List ℤ) → n ≤ length l → m ≤ length l → ((i : ℕ) → i < n → get_or l i (pos 0) ≡ pos 0) →
    overwrite n (λ i. pos 0) (overwrite m (λ i. pos 0) l) ≡ overwrite m (λ i. pos 0) l
none_over n m l ln lm e =
    overwrite_same n (λ i. pos 0) (overwrite m (λ i. pos 0) l) (pos 0) (omega (arith, length_overwrite m (λ i. pos 0) l lm)) (λ i k.
    split (ltb i m)
    (λ q. sym (get_d_overwrite m (λ i. pos 0) l i (pos 0) (ltb-true i m q)))
    (λ q. sym (get_d_past m (λ i. pos 0) l i (pos 0) (ltb-false i m q) ∙ e i k)))

-- A table as long as before.
pack_length : (j : Job) (w : ℕ → ℕ → ℤ) (l : List ℤ) → totals_length j ≤ length l → length (pack_totals j w l) ≡ length l
pack_length j w l h = ap length (pack_over j w l) ∙ length_overwrite (totals_length j) (λ i. get_or (total_rows j j.boxes w) i (pos 0)) l h

-- A state written over one of a job with as many boxes, offers, grocers and lists: but for the packed tables it is as if it were written alone.
store-over : (a b : JobTables) (r q : State) (s : StateTables) → a.boxes ≡ b.boxes → a.offers ≡ b.offers → a.grocers ≡ b.grocers → a.lists ≡ b.lists →
    store (evening_of a) r (store (evening_of b) q s)
    ≡ state_tables (store (evening_of a) r s).known (store (evening_of a) r s).price_transit (pack_totals (evening_of a) r.working (pack_totals (evening_of b) q.working s.working))
    (pack_totals (evening_of a) r.total_transit (pack_totals (evening_of b) q.total_transit s.total_transit)) (store (evening_of a) r s).statement (store (evening_of a) r s).done
    (store (evening_of a) r s).sent
unfolding store recell marks_of with_lists spread job_of
store-over a b r q s k n m l =
    let o = list_words a.lists a.offers in
    let e₀ = over_as (k_o k n l) (λ k. r.known (k / o) (k % o)) (λ k. q.known (k / list_words b.lists b.offers) (k % list_words b.lists b.offers)) s.known in
    let e₁ = over_as (k_o k n l) (λ k. r.price_transit (k / o) (k % o)) (λ k. q.price_transit (k / list_words b.lists b.offers) (k % list_words b.lists b.offers)) s.price_transit in
    let e₄ = over_as (m_l m l) r.statement q.statement s.statement in
    let e₅ = over_as (marks_k k) (λ k. cond (at_place a.boxes r.done k) 1 0) (λ k. cond (at_place b.boxes q.done k) 1 0) s.done in
    let e₆ = over_as {n = 1} refl (λ k. r.sent) (λ k. q.sent) s.sent in
    λ i. record {
      known = e₀ i;
      price_transit = e₁ i;
      working = pack_totals (evening_of a) r.working (pack_totals (evening_of b) q.working s.working);
      total_transit = pack_totals (evening_of a) r.total_transit (pack_totals (evening_of b) q.total_transit s.total_transit);
      statement = e₄ i;
      done = e₅ i;
      sent = e₆ i;
    }
  where
    over_as : {A : Type 0} {n m : ℕ} → n ≡ m → (f g : ℕ → A) (l : List A) → overwrite n f (overwrite m g l) ≡ overwrite n f l
    over_as {n} e f g l = rw (sym e) (over-over n f g l)

    k_o : a.boxes ≡ b.boxes → a.offers ≡ b.offers → a.lists ≡ b.lists → a.boxes * list_words a.lists a.offers ≡ b.boxes * list_words b.lists b.offers
    k_o k n l = rw (k, n, l)

    m_l : a.grocers ≡ b.grocers → a.lists ≡ b.lists → list_words a.lists a.grocers ≡ list_words b.lists b.grocers
    m_l m l = rw (m, l)

    marks_k : a.boxes ≡ b.boxes → places a.boxes ≡ places b.boxes
    marks_k k = rw k

module _ (h : Head) (l : ReaderTables) (s : StateTables) (x : Tally) (ok : first_met (add_rules h l s x) ≡ 0) where
  -- The job and the state once x is added, and once it is withdrawn again.
  abbrev h' : Head
  h' = added_head h

  abbrev l' : ReaderTables
  l' = added_tables h l x

  abbrev s' : StateTables
  s' = (ran (job_in h' l') s [] []).tables

  abbrev l'' : ReaderTables
  l'' = withdrawn_tables h' l' h.tallies

  inside : h.tallies < h.tallies + 1
  inside = omega arith

  less : withdrawn_head h' ≡ h
  less = let e : h.tallies + 1 - 1 ≡ h.tallies = omega arith in λ i. record { boxes = h.boxes; grocers = h.grocers; offers = h.offers; tallies = e i; cycle = h.cycle; lists = h.lists }

  -- The tables are those of before, with freed words behind the last tally.
  tables_back : l'' ≡ store_entries (h.tallies + 1) (followed h.tallies (entry_of l) freed) l
  unfolding withdrawn_tables
  tables_back =
      entries_same (h.tallies + 1) (removed h.tallies (followed (h.tallies + 1) (entry_of l') freed)) (followed h.tallies (entry_of l) freed) l' same
      ∙ (unfold added_tables in entries_over (h.tallies + 1) (followed h.tallies (entry_of l) freed) (followed h.tallies (entry_of l) (record { tally = x; place = place_found h l x })) l)
    where
      same : (t : ℕ) → t < h.tallies + 1 → SameEntry (removed h.tallies (followed (h.tallies + 1) (entry_of l') freed) t) (followed h.tallies (entry_of l) freed t)
      same t q =
          split (ltb t h.tallies)
          (λ e. let k = ltb-true t h.tallies e in rw (before_low h.tallies t k, e, lt-ltb t (h.tallies + 1) q) (A.kept h l s x ok t k))
          (λ e.
          let k = ltb-false t h.tallies e in
          rw (before_high h.tallies t k, e, le-ltb (suc t) (h.tallies + 1) (omega arith))
          (record {
            tally = record { grocer = refl; box = refl; code = record { size = refl; digit = λ _ _. refl }; count = refl; issuer = refl; bag = refl; revision = refl };
            place = refl;
          }))

  -- The job is that of before.
  job_back : evening_of (job_in (withdrawn_head h') l'') ≡ evening_of (job_in h l)
  job_back =
      ap (λ (k : Head). evening_of (job_in k l'')) less
      ∙ evening_same h l l'' offers_stay grocers_stay (λ t q. rw tables_back (rw (lt-ltb t h.tallies q) at (stored (h.tallies + 1) (followed h.tallies (entry_of l) freed) l t (omega arith))))
    where
      offers_stay : l''.job.offers ≡ l.job.offers
      offers_stay = unfold withdrawn_tables added_tables store_entries in refl

      grocers_stay : l''.job.grocer_owner ≡ l.job.grocer_owner
      grocers_stay = unfold withdrawn_tables added_tables store_entries in refl

  -- The evenings of before, and with x.
  abbrev e : Job
  e = evening_of (job_in h l)

  abbrev e' : Job
  e' = evening_of (job_in h' l')

  was : Present h.tallies h l s
  was = A.now_present h l s x ok

  -- The state of before has every word of a finished run,
  finished_was : s ≡ end_tables (job_in h l) s
  finished_was = left_end (job_in h l) (present_settles h l s was) s (present_lent h l s was) was.left

  words_were : FinishedWords (job_in h l) s
  words_were = rw (sym finished_was) at (end_words (job_in h l) (present_settles h l s was) s)

  state_then : s' ≡ end_tables (job_in h' l') s
  state_then = ran_end (job_in h' l') (A.settles_then h l s x ok) s (A.lent_then h l s x ok) [] []

  -- and its packed tables are long enough for both jobs.
  long_was : TotalsLong (totals_length e) (state_lengths s)
  long_was = totals_long e (state_lengths s) was.totals

  long_then : TotalsLong (totals_length e') (state_lengths s)
  long_then = totals_long e' (state_lengths s) (A.totals_then h l s x ok)

  -- They are so after x is added,
  long_back : totals_short (evening_of (job_in (withdrawn_head h') l'')) (state_lengths s') ≡ false
  unfolding totals_short state_lengths store
  long_back =
      rw (
        job_back,
        state_then,
        pack_length e' (end_state (job_in h' l')).working s.working long_then.working,
        pack_length e' (end_state (job_in h' l')).total_transit s.total_transit long_then.total_transit,
      ) was.totals

  -- so that x may be withdrawn.
  may : first_met (withdraw_rules h' l' s' h.tallies) ≡ 0
  may =
      withdrawable_is h' l' s' h.tallies
      (rw (A.result_is h l s x ok) at (A.edit_is h l s x ok).again)
      (A.accepted h l s x ok).written inside long_back

  -- The packed totals that are written then.
  totals_back : (w v : ℕ → ℕ → ℤ) (t : List ℤ) → ((b g : ℕ) → has_total e b g ≡ true → w b g ≡ pos 0) → ((b g : ℕ) → has_total e' b g ≡ true → v b g ≡ pos 0) →
      totals_length e ≤ length t → totals_length e' ≤ length t → ((i : ℕ) → i < totals_length e → get_or t i (pos 0) ≡ pos 0) →
      pack_totals e w (pack_totals e' v t) ≡ overwrite (totals_length e') (λ i. pos 0) t
  totals_back w v t nw nv ln ln' z =
      pack_none e w (pack_totals e' v t) nw
      ∙ ap (overwrite (totals_length e) (λ i. pos 0)) (pack_none e' v t nv)
      ∙ none_over (totals_length e) (totals_length e') t ln ln' z

  -- So is the state, but for packed words that are 0 now.
  state_back : (ran (job_in (withdrawn_head h') l'') s' [] []).tables ≡ cleared_totals (totals_length e') s
  unfolding cleared_totals state_lengths
  state_back =
      let z' = A.settles_then h l s x ok in
      let f = job_in h l in
      let r = end_state f in
      let r' = end_state (job_in h' l') in
      let e₂ = totals_back r.working r'.working s.working (end_totals f (present_settles h l s was)) (end_totals (job_in h' l') z') long_was.working long_then.working words_were.working in
      let e₃ = totals_back r.total_transit r'.total_transit s.total_transit (λ b g k. end_total_transit e b g) (λ b g k. end_total_transit e' b g) long_was.total_transit long_then.total_transit
      words_were.total_transit in
      let back = sym finished_was in
      ran_end (job_in (withdrawn_head h') l'') (W.settles_then h' l' s' h.tallies may) s' (W.lent_then h' l' s' h.tallies may) [] []
      ∙ ap (λ (j : Job). store j (state_by_rules j (has_step j)) s') job_back
      ∙ ap (store e r) state_then
      ∙ store-over f (job_in h' l') r r' s refl refl refl refl
      ∙ (λ i. record {
        known = (back i).known;
        price_transit = (back i).price_transit;
        working = e₂ i;
        total_transit = e₃ i;
        statement = (back i).statement;
        done = (back i).done;
        sent = (back i).sent;
      })

  -- The answer is that of a run of the job of before.
  answer_back : late_answer (h.tallies + 1 - 1) (ran (job_in (withdrawn_head h') l'') s' [] []).answer ≡ edited h.tallies (owner_words e) (message_count e) (step_count e)
  unfolding late_answer
  answer_back =
      let z'' = W.settles_then h' l' s' h.tallies may in
      let k : h.tallies + 1 - 1 ≡ h.tallies = omega arith in
      rw (ran_report (job_in (withdrawn_head h') l'') z'' s' (W.lent_then h' l' s' h.tallies may) [] [], job_back, k)

  undone_is : bag_withdrawn h' l' (bag_added h l s x).state h.tallies
      ≡ late_outcome (edited h.tallies (owner_words e) (message_count e) (step_count e)) (store_entries (h.tallies + 1) (followed h.tallies (entry_of l) freed) l)
      (cleared_totals (totals_length e') s)
  undone_is =
      ap (λ (o : LateOutcome). bag_withdrawn h' l' o.state h.tallies) (A.result_is h l s x ok)
      ∙ W.result_is h' l' s' h.tallies may
      ∙ (λ i. late_outcome (answer_back i) (tables_back i) (state_back i))

  pub added_is : Added h l s x
  added_is = record {
    edit = A.edit_is h l s x ok;
    place = A.place_is h l s x ok;
    named = A.named_is h l s x ok;
    only = A.only_is h l s x ok;
    places = A.places_found h l s x ok;
    others = λ g q lg lq ne. A.others_is h l s x ok g q ne lg lq;
    undone = undone_is;
  }
