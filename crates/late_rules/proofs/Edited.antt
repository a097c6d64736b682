-- What an edit leaves is what every finished run and list of the edited job leaves, and the next edit finds it so. Assumes nothing.
use mathlib.Core.Path.{◌≡◌, refl, sym, ap, ◌∙◌}
use mathlib.Core.Bool.{true, false, ◌&&◌, ◌||◌}
use mathlib.Core.List.{List, [], map}
use Prim.Native.Nat.{ℕ}
use lib.Dec.{ltb}
use lib.ListN.{length}
use Rattle.laws.specs.Checks.{first_met}
use Rattle.laws.proofs.Checks.{none_met}
use Rattle.laws.proofs.Bools.{or_off, and_l, and_r}
use Rattle.model.specs.Words.{owner_words, message_count, step_count}
use Rattle.model.specs.Tables.{JobTables, StateTables, view, state_lengths, state_short, evening_of, totals_short, any_short}
use Rattle.model.specs.Ranges.{state_in_range, Settles, totals_in_range}
use Rattle.model.specs.Run.{finished, reported, run, ran}
use Rattle.model.specs.Requests.{Request}
use Rattle.model.specs.Demand3.{Finished, whole_request}
use Rattle.format.specs.Job.{Head}
use Rattle.format.specs.Refusals.{job_refusal}
use Rattle.format.specs.Tables.{ReaderTables, short_tables, file_job_of}
use Rattle.late_rules.specs.Edit.{with_tallies, job_in}
use Rattle.late_rules.specs.Late.{left_by_run, late_short, present_rules, late_answer, late_outcome}
use Rattle.late_rules.specs.Laws.{Edited}
use Rattle.model.proofs.Demand3.{demand3, demand3_run, all_is}
use Rattle.model.proofs.Lent.{store-store}
use Rattle.model.proofs.Step.{whole-store, whole_totals}
use Rattle.late_rules.proofs.Left.{end_state, end_tables, ran_end, list_end, end_left, short_not}

module _ (f : JobTables) (z : Settles f) where
  -- The requests of a run.
  abbrev asked_in : List ℕ → List Request
  asked_in cs = map (whole_request f) (run (evening_of f) cs)

  -- What a run leaves holds the state of all steps done.
  pub ran_view : (u : StateTables) → any_short f u ≡ false → (cs p : List ℕ) → view (evening_of f) (ran f u cs p).tables ≡ end_state f
  ran_view u h cs p = ap (view (evening_of f)) ((demand3_run f z u cs p).tables h) ∙ all_is f z u (asked_in cs) (demand3_run f z u cs p).all_done

  pub ran_report : (u : StateTables) → any_short f u ≡ false → (cs p : List ℕ) →
      (ran f u cs p).answer ≡ finished (owner_words (evening_of f)) (message_count (evening_of f)) (step_count (evening_of f))
  unfolding reported
  ran_report u h cs p = (demand3_run f z u cs p).answer ∙ rw h

  pub ran_finished : (u : StateTables) → any_short f u ≡ false → Finished (evening_of f) (view (evening_of f) (ran f u [] []).tables)
  ran_finished u h = rw ((demand3_run f z u [] []).tables h) ((demand3 f z u (asked_in [])).finish (demand3_run f z u [] []).all_done)

  ran_in_range : (u : StateTables) → any_short f u ≡ false → (state_in_range f (ran f u [] []).tables && totals_in_range (evening_of f) (ran f u [] []).tables) ≡ true
  ran_in_range u h = rw ((demand3_run f z u [] []).tables h) (demand3 f z u (asked_in [])).in_range

  pub ran_whole : (u : StateTables) → any_short f u ≡ false → state_short f (state_lengths (ran f u [] []).tables) ≡ false
  ran_whole u h = rw (ran_end f z u h [] []) (whole-store f (end_state f) u)

  pub ran_totals : (u : StateTables) → any_short f u ≡ false → totals_short (evening_of f) (state_lengths (ran f u [] []).tables) ≡ false
  ran_totals u h = rw (ran_end f z u h [] []) (whole_totals (evening_of f) (end_state f) u)

  -- What a run leaves passes 30.
  pub ran_left : (u : StateTables) → any_short f u ≡ false → left_by_run f (ran f u [] []).tables ≡ true
  ran_left u h =
      rw (ran_end f z u h [] [])
      (end_left f z (end_tables f u) (short_not f z (end_tables f u) (whole-store f (end_state f) u) (whole_totals (evening_of f) (end_state f) u))
      (sym (store-store (evening_of f) (end_state f) (end_state f) u)))

-- ---- an edit

-- What is not lent short of the tables with codes, the places and the state.
pub record Whole (t : ℕ) (h : Head) (l : ReaderTables) (s : StateTables) : Type 0 where
  pub tables : short_tables (with_tallies h t) l.job ≡ false
  pub places : ltb (length l.tally_offer) t ≡ false
  pub state : state_short (job_in h l) (state_lengths s) ≡ false

pub whole_is : (t : ℕ) (h : Head) (l : ReaderTables) (s : StateTables) → late_short t h l s ≡ false → Whole t h l s
unfolding late_short
whole_is t h l s e =
    let a = or_off (short_tables (with_tallies h t) l.job || ltb (length l.tally_offer) t) (state_short (job_in h l) (state_lengths s)) e in
    let b = or_off (short_tables (with_tallies h t) l.job) (ltb (length l.tally_offer) t) a.0 in
    record { tables = b.0; places = b.1; state = a.1 }

pub is_whole : (t : ℕ) (h : Head) (l : ReaderTables) (s : StateTables) → Whole t h l s → late_short t h l s ≡ false
unfolding late_short
is_whole t h l s w = rw (w.tables, w.places, w.state)

module _ (h : Head) (l : ReaderTables) (s : StateTables) (z : Settles (job_in h l)) (w : Whole h.tallies h l s) (n : totals_short (evening_of (job_in h l)) (state_lengths s) ≡ false) where
  not_lent_short : any_short (job_in h l) s ≡ false
  not_lent_short = short_not (job_in h l) z s w.state n

  -- Nothing but 31 and 32 is met once a job has been run.
  pub passes : first_met (present_rules h.tallies false h l (ran (job_in h l) s [] []).tables) ≡ 0
  unfolding present_rules
  passes =
      let r = ran_in_range (job_in h l) z s not_lent_short in
      none_met _ (
        is_whole h.tallies h l (ran (job_in h l) s [] []).tables (record { tables = w.tables; places = w.places; state = ran_whole (job_in h l) z s not_lent_short }),
        (
          rw (z.in_range, and_l (state_in_range (job_in h l) (ran (job_in h l) s [] []).tables) _ r),
          (
            z.once,
            (
              rw (ran_totals (job_in h l) z s not_lent_short),
              (rw (and_r (state_in_range (job_in h l) (ran (job_in h l) s [] []).tables) _ r), (rw (ran_left (job_in h l) z s not_lent_short), tt)),
            ),
          ),
        ),
      )

  pub edited_is : job_refusal (file_job_of h l.job) ≡ 0 → Edited h l s (late_outcome (late_answer h.tallies (ran (job_in h l) s [] []).answer) l (ran (job_in h l) s [] []).tables)
  edited_is ok = record {
    tables = refl;
    written = ok;
    settles = z;
    runs = λ cs p. ran_end (job_in h l) z s not_lent_short cs p ∙ sym (ran_end (job_in h l) z s not_lent_short [] []);
    any_run = λ u cs p e. ran_view (job_in h l) z u e cs p ∙ sym (ran_view (job_in h l) z s not_lent_short [] []);
    lists = λ rs d. list_end (job_in h l) z s rs d ∙ sym (ran_end (job_in h l) z s not_lent_short [] []);
    any_list = λ u rs d. all_is (job_in h l) z u rs d ∙ sym (ran_view (job_in h l) z s not_lent_short [] []);
    answer = rw (ran_report (job_in h l) z s not_lent_short [] []) (unfold late_answer in refl);
    reports = λ u cs p e. ran_report (job_in h l) z u e cs p;
    finish = ran_finished (job_in h l) z s not_lent_short;
    again = passes;
  }
