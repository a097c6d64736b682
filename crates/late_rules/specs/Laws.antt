-- What late and withdrawn bags come to: the statements of 02 §7.
use Rattle.std.specs.Prelude.{◌≡◌, List, true, false, ℕ, suc, ◌+◌, ◌-◌, ◌*◌, ◌<◌, ◌≤◌, pos, get_or}
use Rattle.laws.specs.Checks.{first_met}
use Rattle.laws.specs.Tables.{overwrite}
use Rattle.recount.specs.Recount.{stands, loose, same_bag}
use Rattle.model.specs.PackedTotals.{totals_length}
use Rattle.model.specs.Words.{owner_words, message_count, step_count}
use Rattle.model.specs.Tables.{JobTables, StateTables, state_tables, counted_of, evening_of, view, any_short, state_lengths, totals_short}
use Rattle.model.specs.Ranges.{Settles}
use Rattle.model.specs.Run.{finished, ran}
use Rattle.model.specs.Requests.{Request, tables_after, done_in}
use Rattle.model.specs.Demand3.{AllDone, Finished}
use Rattle.format.specs.Job.{Head, Tally, place_of, names}
use Rattle.format.specs.Refusals.{job_refusal}
use Rattle.format.specs.Tables.{ReaderTables, file_job_of}
use Rattle.late_rules.specs.Edit.{entry_of, freed, followed, place_before, store_entries, job_in, place_found}
use Rattle.late_rules.specs.Edit.{added_head, added_tables, withdrawn_head, withdrawn_tables}
use Rattle.late_rules.specs.Late.{present_rules, add_rules, withdraw_rules, edited, refused, LateOutcome, late_outcome, bag_added, bag_withdrawn}
use Rattle.late_rules.specs.Finished.{FinishedState}

-- An edit that is not refused: h and l are the edited job, s is the state as it was lent, o what the call gives.
pub record Edited (h : Head) (l : ReaderTables) (s : StateTables) (o : LateOutcome) : Type 0 where
  -- The tables are those of the edited job; neither the writer nor a run refuses it.
  pub tables : o.tables ≡ l
  pub written : job_refusal (file_job_of h l.job) ≡ 0
  pub settles : Settles (job_in h l)
  -- "All tables and the state must then equal those of a finished run of the edited job, words and steps included":
  -- a run with whatever choices leaves this state, word for word,
  pub runs : (choices picked : List ℕ) → (ran (job_in h l) s choices picked).tables ≡ o.state
  -- and in other buffers the same;
  pub any_run : (u : StateTables) (choices picked : List ℕ) → any_short (job_in h l) u ≡ false →
      view (evening_of (job_in h l)) (ran (job_in h l) u choices picked).tables ≡ view (evening_of (job_in h l)) o.state
  -- so does every list of step requests that does all steps of the edited job.
  pub lists : (rs : List Request) → AllDone (evening_of (job_in h l)) (done_in (job_in h l) s rs) → tables_after (job_in h l) s rs ≡ o.state
  pub any_list : (u : StateTables) (rs : List Request) → AllDone (evening_of (job_in h l)) (done_in (job_in h l) u rs) →
      view (evening_of (job_in h l)) (tables_after (job_in h l) u rs) ≡ view (evening_of (job_in h l)) o.state
  -- The answer has T, and the words, messages and steps that each such run reports.
  pub answer : o.answer
      ≡ edited h.tallies (owner_words (evening_of (job_in h l))) (message_count (evening_of (job_in h l))) (step_count (evening_of (job_in h l)))
  pub reports : (u : StateTables) (choices picked : List ℕ) → any_short (job_in h l) u ≡ false → (ran (job_in h l) u choices picked).answer
      ≡ finished (owner_words (evening_of (job_in h l))) (message_count (evening_of (job_in h l))) (step_count (evening_of (job_in h l)))
  -- The settlement is finished: every statement is the plain sum, nothing is under way, the words sent are those of the owner tables.
  pub finish : Finished (evening_of (job_in h l)) (view (evening_of (job_in h l)) o.state)
  -- The next edit finds nothing to refuse but 31 and 32, or room for one tally more.
  pub again : first_met (present_rules h.tallies false h l o.state) ≡ 0

-- "each tally with the place of the offer its code names": the places are those that the reader finds.
unfoldable pub PlacesFound : Head → ReaderTables → Type 0
PlacesFound h l = (t : ℕ) → t < h.tallies → get_or l.tally_offer t 0 ≡ place_of (file_job_of h l.job) t

-- The state s with the first n words of both packed tables 0.
unfoldable pub cleared_totals : ℕ → StateTables → StateTables
cleared_totals n s =
    state_tables s.known s.price_transit (overwrite n (λ i. pos 0) s.working) (overwrite n (λ i. pos 0) s.total_transit) s.statement
    s.done s.sent

-- A tally x added, where no condition is met.
pub record Added (h : Head) (l : ReaderTables) (s : StateTables) (x : Tally) : Type 0 where
  pub edit : Edited (added_head h) (added_tables h l x) s (bag_added h l s x)
  -- "An added tally's offer is found by its code": it has the place of the offer that it names, and names no other.
  pub place : place_of (file_job_of (added_head h) (added_tables h l x).job) h.tallies ≡ place_found h l x
  pub named : place_found h l x < h.offers
  pub only : (i : ℕ) → i < h.offers → names (file_job_of (added_head h) (added_tables h l x).job) h.tallies i ≡ true → place_found h l x ≡ i
  -- Where the places were those that the reader finds, they are so in the edited list.
  pub places : PlacesFound h l → PlacesFound (added_head h) (added_tables h l x)
  -- "no other grocer's amount may change", on any price list q.
  pub others : (g q : ℕ) → g < h.grocers → q < suc h.lists → (g ≡ x.grocer → ⊥) →
      get_or (bag_added h l s x).state.statement (g * suc h.lists + q) (pos 0) ≡ get_or s.statement (g * suc h.lists + q) (pos 0)
  -- Withdrawn again, it leaves every word as it was but the freed ones, which are 0: those of the tally, and the packed totals that it alone needed.
  pub undone : bag_withdrawn (added_head h) (added_tables h l x) (bag_added h l s x).state h.tallies
      ≡ late_outcome (edited h.tallies (owner_words (evening_of (job_in h l))) (message_count (evening_of (job_in h l))) (step_count (evening_of (job_in h l))))
      (store_entries (h.tallies + 1) (followed h.tallies (entry_of l) freed) l)
      (cleared_totals (totals_length (evening_of (job_in (added_head h) (added_tables h l x)))) s)

-- "Words freed at the list's end by a removal become 0": those of entry t, in each of the eight tables; a code has eleven.
pub record FreedWords (t : ℕ) (l : ReaderTables) : Type 0 where
  pub grocer : get_or l.job.tallies.grocer t 0 ≡ 0
  pub box : get_or l.job.tallies.box t 0 ≡ 0
  pub code : (i : ℕ) → i < 11 → get_or l.job.tallies.code (t * 11 + i) 0 ≡ 0
  pub count : get_or l.job.tallies.count t (pos 0) ≡ pos 0
  pub issuer : get_or l.job.tallies.issuer t 0 ≡ 0
  pub bag : get_or l.job.tallies.bag t 0 ≡ 0
  pub revision : get_or l.job.tallies.revision t 0 ≡ 0
  pub place : get_or l.tally_offer t 0 ≡ 0

-- The tally at place p withdrawn, where no condition is met.
pub record Withdrawn (h : Head) (l : ReaderTables) (s : StateTables) (p : ℕ) : Type 0 where
  pub edit : Edited (withdrawn_head h) (withdrawn_tables h l p) s (bag_withdrawn h l s p)
  -- Places move with their tallies: where they were those that the reader finds, they are so in the edited list.
  pub places : PlacesFound h l → PlacesFound (withdrawn_head h) (withdrawn_tables h l p)
  -- "no other grocer's amount may change", on any price list q.
  pub others : (g q : ℕ) → g < h.grocers → q < suc h.lists → (g ≡ get_or l.job.tallies.grocer p 0 → ⊥) →
      get_or (bag_withdrawn h l s p).state.statement (g * suc h.lists + q) (pos 0) ≡ get_or s.statement (g * suc h.lists + q) (pos 0)
  -- Of other bags the same tallies stand as before,
  pub other_bags : (t : ℕ) → t < h.tallies - 1 → same_bag (counted_of (job_in h l)) (place_before p t) p ≡ false →
      stands (counted_of (job_in (withdrawn_head h) (withdrawn_tables h l p))) t ≡ stands (counted_of (job_in h l)) (place_before p t)
  -- "Removing a standing revision brings back the one below it": the highest of the others did not stand, and stands now.
  pub back : (t : ℕ) → t < h.tallies - 1 → loose (counted_of (job_in h l)) p ≡ false → stands (counted_of (job_in h l)) p ≡ true →
      same_bag (counted_of (job_in h l)) (place_before p t) p ≡ true →
      ((u : ℕ) → u < h.tallies - 1 → same_bag (counted_of (job_in h l)) (place_before p t) (place_before p u) ≡ true →
      get_or l.job.tallies.revision (place_before p u) 0 ≤ get_or l.job.tallies.revision (place_before p t) 0) →
      (stands (counted_of (job_in h l)) (place_before p t) ≡ false) × (stands (counted_of (job_in (withdrawn_head h) (withdrawn_tables h l p))) t ≡ true)
  -- Words freed at the list's end are 0, in each of the eight tables; the code's eleven bytes among them.
  pub freed_words : FreedWords (h.tallies - 1) (withdrawn_tables h l p)

-- 02 §7 whole.
pub record LateLaws : Type 0 where
  pub add : (h : Head) (l : ReaderTables) (s : StateTables) (x : Tally) → first_met (add_rules h l s x) ≡ 0 → Added h l s x
  pub withdraw : (h : Head) (l : ReaderTables) (s : StateTables) (p : ℕ) → first_met (withdraw_rules h l s p) ≡ 0 → Withdrawn h l s p
  -- From a job that the writer does not refuse any tally may be withdrawn, where the packed tables have the words that the edited job needs.
  pub withdrawable : (h : Head) (l : ReaderTables) (s : StateTables) (p : ℕ) → first_met (present_rules h.tallies false h l s) ≡ 0 →
      job_refusal (file_job_of h l.job) ≡ 0 → p < h.tallies →
      totals_short (evening_of (job_in (withdrawn_head h) (withdrawn_tables h l p))) (state_lengths s) ≡ false → first_met (withdraw_rules h l s p) ≡ 0
  -- A refusal has the number of the first condition met, and changes no word.
  pub not_added : (h : Head) (l : ReaderTables) (s : StateTables) (x : Tally) → (first_met (add_rules h l s x) ≡ 0 → ⊥) →
      bag_added h l s x ≡ late_outcome (refused (first_met (add_rules h l s x))) l s
  pub not_withdrawn : (h : Head) (l : ReaderTables) (s : StateTables) (p : ℕ) → (first_met (withdraw_rules h l s p) ≡ 0 → ⊥) →
      bag_withdrawn h l s p ≡ late_outcome (refused (first_met (withdraw_rules h l s p))) l s
  -- 30 says what it is to say.
  pub state : (f : JobTables) (s : StateTables) → Settles f → any_short f s ≡ false → FinishedState f s
