-- The tables as inner calls are handed them hold the same job; in range the tallies that count are those that stand. Assumes nothing.
use mathlib.Core.Path.{◌≡◌, refl, sym, ap, ap₂, ◌∙◌}
use mathlib.Core.Bool.{Bool, true, false, ◌&&◌, not}
use mathlib.Core.List.{List, [], ◌∷◌, ◌++◌}
use Prim.Native.Nat.{ℕ, suc, ◌/◌, ◌%◌, ◌≤◌}
use native.Mathlib.Omega.{arith}
use lib.ListN.{get_or, length}
use lib.Dec.{ltb, leb}
use lib.IntN.{pos}
use borrow.Author.Tests.{eq-eqb, ltb-true, ltb-false, le-ltb, le-leb}
use Rattle.laws.specs.Checks.{first_met}
use Rattle.laws.specs.Tables.{word, cell, lay_over}
use Rattle.laws.proofs.Bools.{split, and_true, and_l, cond_same, cond_either}
use Rattle.laws.proofs.Below.{all_of_lem}
use Rattle.laws.proofs.Checks.{any_each, all_each}
use Rattle.laws.proofs.Tables.{word_in_lem, word_past}
use Rattle.recount.specs.Recount.{loose, stands, counted_twice}
use Rattle.model.specs.Job.{Job}
use Rattle.model.specs.Steps.{kind_of, effect}
use Rattle.model.specs.Words.{over, messages_of}
use Rattle.model.specs.PackedTotals.{spread}
use Rattle.model.specs.Tables.{JobTables, counted_of, nobody, job_of, with_lists, evening_of, job_lengths, job_short, StateTables, view, store, state_lengths, lent_short, totals_short}
use Rattle.model.specs.Ranges.{up_to, sizes_in_range, job_words_in_range, job_in_range, state_in_range, totals_in_range}
use Rattle.model.specs.Step.{Asked, step_rules, moved, refusals, step_refusal}
use Rattle.model.specs.Run.{run, run_state, reported, finished, run_refusals, ran, picked_places}
use Rattle.model.specs.Handed.{handed_tables, Standing, handed_in_range, Handed}
use Rattle.recount.proofs.Recount.{loose_stands_lem}
use Rattle.model.proofs.Step.{job_in_lem, in_handed, up_at}
use Rattle.model.proofs.Lent.{job_long}

-- A tally whose bag is 0 stands.
bag_stands : (f : JobTables) (t : ℕ) → word f.tallies f.tally_bag 0 t ≡ 0 → stands (counted_of f) t ≡ true
unfolding counted_of loose
bag_stands f t e = loose_stands_lem (counted_of f) t (eq-eqb (word f.tallies f.tally_bag 0 t) 0 e)

-- Past the tallies all stand.
past_stands : (f : JobTables) (t : ℕ) → f.tallies ≤ t → stands (counted_of f) t ≡ true
past_stands f t l = bag_stands f t (word_past f.tallies f.tally_bag 0 t l)

no_word : (n t : ℕ) → word {A = ℕ} n [] 0 t ≡ 0
unfolding word
no_word n t = cond_same (ltb t n) 0

-- In tables without bags all tallies stand,
pub bare_stands : (f : JobTables) → f.tally_bag ≡ [] → (t : ℕ) → stands (counted_of f) t ≡ true
bare_stands f e t = bag_stands f t (ap (λ (l : List ℕ). word f.tallies l 0 t) e ∙ no_word f.tallies t)

-- and a tally's box is the one lent.
pub bare_box : (f : JobTables) → f.tally_bag ≡ [] → (t : ℕ) → (job_of f).tally_box t ≡ word f.tallies f.tally_box 0 t
unfolding job_of
bare_box f e t = rw (bare_stands f e t)

-- Boxes that inner calls are handed for the tables f.
module _ (f : JobTables) (boxes : List ℕ) (s : Standing f boxes) where
  box_is : (t : ℕ) → (job_of (handed_tables f boxes)).tally_box t ≡ (job_of f).tally_box t
  unfolding job_of
  box_is t =
      bare_box (handed_tables f boxes) refl t
      ∙ split (ltb t f.tallies)
      (λ e. let l = ltb-true t f.tallies e in rw (word_in_lem f.tallies boxes 0 t l, word_in_lem f.tallies f.tally_box 0 t l) (s.each t l))
      (λ e. let l = ltb-false t f.tallies e in
      rw (past_stands f t l, word_past f.tallies boxes 0 t l, word_past f.tallies f.tally_box 0 t l))

  -- They hold the same job,
  pub handed_job : job_of (handed_tables f boxes) ≡ job_of f
  unfolding job_of
  handed_job = λ i. record {
    boxes = f.boxes;
    grocers = f.grocers;
    offers = f.offers;
    tallies = f.tallies;
    price = word f.offers f.price 0;
    offer_owner = word f.offers f.offer_owner 0;
    grocer_owner = word f.grocers f.grocer_owner 0;
    tally_grocer = word f.tallies f.tally_grocer 0;
    tally_box = λ t. box_is t i;
    tally_offer = word f.tallies f.tally_offer 0;
    tally_count = word f.tallies f.tally_count (pos 0);
  }

  -- and so for all price lists,
  handed_lists : (q : ℕ) → with_lists q (handed_tables f boxes) ≡ with_lists q f
  unfolding with_lists
  handed_lists q = λ i. spread (suc q) (λ o. cell (suc q) f.offers f.price 0 (o % suc q) (o / suc q)) (handed_job i)

  pub handed_evening : evening_of (handed_tables f boxes) ≡ evening_of f
  handed_evening = handed_lists f.lists

  -- are whole,
  pub handed-whole : job_short f (job_lengths f) ≡ false → job_short (handed_tables f boxes) (job_lengths (handed_tables f boxes)) ≡ false
  unfolding job_short job_lengths
  handed-whole h =
      let l = job_long f (job_lengths f) h in
      any_each (_ ∷ _ ∷ _ ∷ _ ∷ _ ∷ _ ∷ _ ∷ []) (
        le-ltb _ _ l.price,
        (
          le-ltb _ _ l.offer_owner,
          (
            le-ltb _ _ l.grocer_owner,
            (le-ltb _ _ l.tally_grocer, (le-ltb _ _ s.long, (le-ltb _ _ l.tally_offer, (le-ltb _ _ l.tally_count, tt)))),
          ),
        ),
      )

  boxes_few : job_in_range f ≡ true → up_to nobody f.tallies boxes ≡ true
  unfolding up_to
  boxes_few ok =
      all_of_lem f.tallies (λ t. leb (get_or boxes t 0) nobody) (λ t l.
      le-leb (get_or boxes t 0) nobody (rw (s.each t l) (cond_either (λ (b : ℕ). b ≤ nobody) (stands (counted_of f) t) (get_or f.tally_box t 0) nobody
      (up_at nobody f.tallies f.tally_box t (job_in_lem f (in_handed f ok)).tally_box l) (omega arith))))

  -- and are in range.
  pub handed_range : job_in_range f ≡ true → handed_in_range (handed_tables f boxes) ≡ true
  unfolding job_in_range handed_in_range sizes_in_range
  handed_range ok =
      let w = job_in_lem f (in_handed f ok) in
      and_true (and_l (sizes_in_range f) (job_words_in_range f) ok) (all_each (_ ∷ _ ∷ _ ∷ _ ∷ _ ∷ _ ∷ _ ∷ [])
      (w.price, (w.offer_owner, (w.grocer_owner, (w.tally_grocer, (boxes_few ok, (w.tally_offer, (w.tally_count, tt))))))))

  -- So they are what inner calls are handed.
  pub handed_in : job_in_range f ≡ true → Handed (handed_tables f boxes)
  handed_in ok = record { bare = refl; inside = handed_range ok }

  pub handed_state_range : (t : StateTables) → state_in_range (handed_tables f boxes) t ≡ state_in_range f t
  unfolding state_in_range
  handed_state_range t = refl

  -- The step as inner calls do it, on the tables as handed.
  pub handed_moved : (t : StateTables) (q : Asked) → moved (handed_tables f boxes) t q ≡ moved f t q
  unfolding moved
  handed_moved t q = ap (λ (j : Job). store j (effect j (view j t) (kind_of q.kind) q.first q.second) t) handed_evening

  -- Where 20, 21 and 9 are not met, the number of the refusal is that of 22 to 26 and the late 21 on the tables as handed.
  pub handed_refusal : (t : StateTables) (q : Asked) → lent_short f t ≡ false → (job_in_range f && state_in_range f t) ≡ true → counted_twice (counted_of f) ≡ false →
      totals_short (evening_of f) (state_lengths t) ≡ false → totals_in_range (evening_of f) t ≡ true →
      step_refusal f t q ≡ first_met (step_rules (evening_of (handed_tables f boxes)) (view (evening_of (handed_tables f boxes)) t).done q
      ++ (not (state_in_range (handed_tables f boxes) (moved (handed_tables f boxes) t q) && totals_in_range (evening_of (handed_tables f boxes)) (moved (handed_tables f boxes) t q)), 21) ∷ [])
  unfolding step_refusal refusals first_met
  handed_refusal t q short inside once packed amounts =
      rw (short, inside, once, packed, amounts)
      (ap₂ (λ (j : Job) (u : StateTables). first_met (step_rules j (view j t).done q ++ (not (state_in_range f u && totals_in_range j u), 21) ∷ [])) (sym handed_evening) (sym (handed_moved t q))
      ∙ ap (λ (b : Bool). first_met (step_rules (evening_of (handed_tables f boxes)) (view (evening_of (handed_tables f boxes)) t).done q
      ++ (not (b && totals_in_range (evening_of (handed_tables f boxes)) (moved (handed_tables f boxes) t q)), 21) ∷ []))
      (sym (handed_state_range (moved (handed_tables f boxes) t q))))

  -- The run likewise.
  pub handed_run : (t : StateTables) (cs p : List ℕ) → lent_short f t ≡ false → job_in_range f ≡ true → counted_twice (counted_of f) ≡ false →
      totals_short (evening_of f) (state_lengths t) ≡ false →
      ran f t cs p ≡ record {
        answer = finished (run_state (evening_of (handed_tables f boxes)) cs).sent (over messages_of (run (evening_of (handed_tables f boxes)) cs))
            (length (run (evening_of (handed_tables f boxes)) cs));
        tables = store (evening_of (handed_tables f boxes)) (run_state (evening_of (handed_tables f boxes)) cs) t;
        picked = lay_over (picked_places (evening_of (handed_tables f boxes)) cs) p;
      }
  unfolding ran run_refusals first_met reported
  handed_run t cs p short inside once packed =
      rw (short, inside, once, packed)
      (ap (λ (j : Job). record {
        answer = finished (run_state j cs).sent (over messages_of (run j cs)) (length (run j cs));
        tables = store j (run_state j cs) t;
        picked = lay_over (picked_places j cs) p;
      }) (sym handed_evening))

-- Without bags the checks of the other tables are the same.
pub bare_short : (f : JobTables) → job_short (handed_tables f f.tally_box) (job_lengths (handed_tables f f.tally_box)) ≡ job_short f (job_lengths f)
unfolding job_short job_lengths
bare_short f = refl

pub bare_range : (f : JobTables) → job_in_range (handed_tables f f.tally_box) ≡ job_in_range f
unfolding job_in_range sizes_in_range job_words_in_range
bare_range f = refl
