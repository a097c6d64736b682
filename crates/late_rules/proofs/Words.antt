-- 30 told from the words of the tables. Assumes nothing.
use mathlib.Core.Path.{◌≡◌, refl, sym, ap, ◌∙◌}
use mathlib.Core.Bool.{true, false, cond}
use mathlib.Core.List.{List, [], ◌∷◌}
use Prim.Native.Nat.{ℕ, ◌+◌, ◌*◌, ◌/◌, ◌%◌, ◌<◌}
use native.Mathlib.Nat.{div-add-mod', mod-lt, div-lt_iff_lt-mul}
use native.Mathlib.Omega.{arith}
use lib.Dec.{eqb, ltb}
use lib.IntN.{pos, ℤ}
use lib.ListN.{get_or}
use borrow.Author.Tests.{lt-ltb, ltb-true}
use Rattle.laws.specs.Tables.{overwrite, recell}
use Rattle.laws.proofs.Below.{any_at}
use Rattle.laws.proofs.Bools.{split, eqb_same, and_l, and_r}
use Rattle.laws.proofs.Checks.{all_each}
use Rattle.laws.proofs.Tables.{get_d_overwrite, get_d_recell, pos_right, overwrite_cong}
use Rattle.laws.specs.Lists.{list_words}
use Rattle.model.specs.Job.{Job, needs, price_word, prices_due}
use Rattle.model.specs.Steps.{receive_prices, places, at_place, fits, has_step}
use Rattle.model.specs.Boxes.{knows, state_by_rules}
use Rattle.model.specs.Tables.{JobTables, StateTables, job_of, store, marks_of, with_lists, evening_of, any_short}
use Rattle.model.specs.Ranges.{Settles}
use Rattle.late_rules.specs.Late.{left_by_run, same_state}
use Rattle.late_rules.specs.Finished.{known_at_end, FinishedWords, FinishedState}
use Rattle.model.specs.PackedTotals.{has_total, totals_length, pack_totals, spread}
use Rattle.model.proofs.Range.{InRange}
use Rattle.model.proofs.Finish.{end_price_transit, end_total_transit, end_working, end_statement}
use Rattle.model.proofs.Words.{end_sent}
use Rattle.model.proofs.Served.{settles_in}
use Rattle.late_rules.proofs.Left.{end_state, end_tables, ran_end, list_end, words_of_lem, amounts_of, left_end, end_left}
use Rattle.model.proofs.PackedTotals.{total_inside, pack_over, rows_each, pack_cong}
use Rattle.model.proofs.Step.{evening_range}

-- A box that needs an offer of another's has a step that receives its price.
needs_step : (j : Job) → InRange j → (b o : ℕ) → b < j.boxes → o < j.offers → eqb (j.offer_owner o) b ≡ false → needs j o b ≡ true → has_step j receive_prices b (j.offer_owner o) ≡ true
unfolding has_step fits prices_due price_word
needs_step j r b o lb lo e n =
    simp (lt-ltb b j.boxes lb, lt-ltb (j.offer_owner o) j.boxes (r.owner< o lo))
    (any_at j.offers (price_word j (j.offer_owner o) b) o lo (simp (eqb_same, e, n)))

-- What a box knows in the end.
pub end_known : (j : Job) → InRange j → (b o : ℕ) → b < j.boxes → o < j.offers → (state_by_rules j (has_step j)).known b o ≡ known_at_end j b o
unfolding state_by_rules knows known_at_end
end_known j r b o lb lo =
    split (eqb (j.offer_owner o) b)
    (λ e. rw e)
    (λ e. rw e (split (needs j o b) (λ n. rw (n, needs_step j r b o lb lo e n)) (λ n. rw n)))

-- Totals that are all 0 are packed as words of 0.
pub pack_none : (j : Job) (w : ℕ → ℕ → ℤ) (l : List ℤ) → ((b g : ℕ) → has_total j b g ≡ true → w b g ≡ pos 0) → pack_totals j w l ≡ overwrite (totals_length j) (λ i. pos 0) l
pack_none j w l h =
    pack_cong j w (λ b g. pos 0) l h
    ∙ pack_over j (λ b g. pos 0) l
    ∙ overwrite_cong (totals_length j) _ (λ i. pos 0) l (λ i k. rows_each j (λ b g. pos 0) (λ (z : ℤ). z ≡ pos 0) refl (λ b g. refl) i)

-- No working total is left in the end.
pub end_totals : (f : JobTables) → Settles f → (b g : ℕ) → has_total (evening_of f) b g ≡ true → (end_state f).working b g ≡ pos 0
end_totals f z b g e =
    let both-in = total_inside (evening_of f) b g e in
    end_working (evening_of f) (evening_range f (settles_in f z)) b g (ltb-true b (evening_of f).boxes (and_l (ltb b (evening_of f).boxes) _ both-in))
    (ltb-true g (evening_of f).grocers (and_r (ltb b (evening_of f).boxes) _ both-in))

module _ (f : JobTables) (z : Settles f) (s : StateTables) where
  in_job : InRange (evening_of f)
  in_job = evening_range f (settles_in f z)

  end_done : (i : ℕ) → cond {A = ℕ} (at_place f.boxes (end_state f).done i) 1 0 ≡ cond (at_place f.boxes (has_step (evening_of f)) i) 1 0
  unfolding state_by_rules
  end_done i = refl

  -- Packed totals that are all 0 are words of 0.
  packed_none : (w : ℕ → ℕ → ℤ) → ((b g : ℕ) → has_total (evening_of f) b g ≡ true → w b g ≡ pos 0) → (l : List ℤ) (i : ℕ) → i < totals_length (evening_of f) →
      get_or (pack_totals (evening_of f) w l) i (pos 0) ≡ pos 0
  packed_none w h l i k =
      ap (λ (x : List ℤ). get_or x i (pos 0)) (pack_none (evening_of f) w l h) ∙ get_d_overwrite (totals_length (evening_of f)) (λ i. pos 0) l i (pos 0) k

  -- The tables of a finished run, word by word.
  pub end_words : FinishedWords f (end_tables f s)
  unfolding store recell marks_of with_lists spread job_of
  end_words = record {
    known = λ b o lb lo. get_d_recell f.boxes (list_words f.lists f.offers) (end_state f).known s.known b o 0 lb lo ∙ end_known (evening_of f) in_job b o lb lo;
    price_transit = λ i l. get_d_overwrite _ _ s.price_transit i 0 l ∙ end_price_transit (evening_of f) (i / list_words f.lists f.offers) (i % list_words f.lists f.offers);
    working = packed_none (end_state f).working (end_totals f z) s.working;
    total_transit = packed_none (end_state f).total_transit (λ b g e. end_total_transit (evening_of f) b g) s.total_transit;
    statement = λ g l. get_d_overwrite _ _ s.statement g (pos 0) l ∙ end_statement (evening_of f) in_job g l;
    done = λ i l. get_d_overwrite (places f.boxes) (λ i. cond (at_place f.boxes (end_state f).done i) 1 0) s.done i 0 l ∙ end_done i;
    sent = get_d_overwrite 1 (λ i. (end_state f).sent) s.sent 0 0 (omega arith) ∙ end_sent (evening_of f) in_job;
  }

  -- A state with these words has the needed words of a finished run.
  pub words_end : FinishedWords f s → same_state f s (end_tables f s) ≡ true
  unfolding same_state
  words_end w =
      all_each (_ ∷ _ ∷ _ ∷ _ ∷ _ ∷ _ ∷ _ ∷ []) (
        words_of_lem (f.boxes * list_words f.lists f.offers) s.known (end_tables f s).known (λ i l. rw (sym (div-add-mod' i (list_words f.lists f.offers))) (known_at i l)),
        (
          words_of_lem _ _ _ (λ i l. w.price_transit i l ∙ sym (end_words.price_transit i l)),
          (
            amounts_of _ _ _ (λ i l. w.working i l ∙ sym (end_words.working i l)),
            (
              amounts_of _ _ _ (λ i l. w.total_transit i l ∙ sym (end_words.total_transit i l)),
              (
                amounts_of _ _ _ (λ i l. w.statement i l ∙ sym (end_words.statement i l)),
                (
                  words_of_lem _ _ _ (λ i l. w.done i l ∙ sym (end_words.done i l)),
                  (words_of_lem 1 s.sent (end_tables f s).sent (λ i l. let e : i ≡ 0 = omega arith in rw e (w.sent ∙ sym end_words.sent)), tt),
                ),
              ),
            ),
          ),
        ),
      )
    where
      known_at : (i : ℕ) → i < f.boxes * list_words f.lists f.offers →
          get_or s.known (i / list_words f.lists f.offers * list_words f.lists f.offers + i % list_words f.lists f.offers) 0
          ≡ get_or (end_tables f s).known (i / list_words f.lists f.offers * list_words f.lists f.offers + i % list_words f.lists f.offers) 0
      known_at i l =
          let p = pos_right f.boxes (list_words f.lists f.offers) i l in
          let lb = (div-lt_iff_lt-mul p).1 l in
          let lo = mod-lt i p in
          w.known (i / list_words f.lists f.offers) (i % list_words f.lists f.offers) lb lo ∙ sym (end_words.known (i / list_words f.lists f.offers) (i % list_words f.lists f.offers) lb lo)

module _ (f : JobTables) (s : StateTables) (z : Settles f) (h : any_short f s ≡ false) where
  pub finished_state : FinishedState f s
  finished_state = record {
    runs = λ cs p. (λ e. left_end f z s h e ∙ sym (ran_end f z s h cs p), λ e. end_left f z s h (e ∙ ran_end f z s h cs p));
    lists = λ rs d. (λ e. left_end f z s h e ∙ sym (list_end f z s rs d), λ e. end_left f z s h (e ∙ list_end f z s rs d));
    words = (λ e. rw (sym (left_end f z s h e)) at (end_words f z s), λ w. unfold left_by_run in rw (ran_end f z s h [] []) (words_end f z s w));
  }
