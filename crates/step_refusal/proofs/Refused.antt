-- The conditions on the tables, and the whole answer in two parts. Assumes nothing.
use mathlib.Core.Path.{◌≡◌, refl, sym, ap, ◌∙◌, subst}
use mathlib.Core.Bool.{Bool, true, false, cond, ◌&&◌, ◌||◌, not}
use mathlib.Core.List.{List, [], ◌∷◌}
use Prim.Native.Nat.{ℕ, ◌<◌}
use native.Mathlib.Omega.{arith}
use lib.Dec.{ltb}
use lib.ListN.{length, get_or}
use Rattle.laws.specs.Checks.{first_met}
use Rattle.laws.specs.Limits.{max_amount}
use Rattle.laws.specs.Tables.{tabulate}
use Rattle.laws.proofs.Tables.{length_tabulate}
use Rattle.laws.proofs.Bools.{and_l, and_r, or_off}
use Rattle.recount.specs.Recount.{counted_twice}
use Rattle.model.specs.Job.{Job, sharer_word}
use Rattle.model.specs.PackedTotals.{totals_length}
use Rattle.model.specs.Tables.{JobTables, counted_of, job_of, evening_of, job_lengths, job_short, bags_short, StateTables, state_lengths, state_short, lent_short, totals_short}
use Rattle.model.specs.Ranges.{around, job_in_range, state_in_range, totals_in_range}
use Rattle.model.specs.Step.{Asked, refusals, step_refusal}
use Rattle.model.specs.Handed.{handed_tables, Standing, Handed}
use Rattle.book_keys.specs.Keys.{TalliesIn}
use Rattle.book_places.specs.Spots.{CountIn, BoxIn}
use Rattle.job_checks.specs.Sizes.{sizes}
use Rattle.step_refusal.specs.Late.{early_rules, packed_rules, table_rules, later_rules, Held}
use Rattle.model.proofs.Handed.{handed_evening, handed-whole, handed_in, handed_refusal}
use Rattle.model.proofs.Step.{JobIn, job_in_lem, under_at}
use Rattle.model.proofs.Whole.{JobWhole}
use Rattle.job_checks.proofs.Sizes.{short_sizes, range_sizes}
use Rattle.step_refusal.proofs.Extra.{met_first, none_first}

-- What the tests of lengths say: job, bags and state.
module _ (f : JobTables) (t : StateTables) (x b y : Bool) (ex : x ≡ job_short f (job_lengths f)) (eb : b ≡ bags_short f (job_lengths f))
    (ey : y ≡ state_short (sizes f.boxes f.grocers f.offers f.lists) (state_lengths t)) where
  short_is : ((x || b) || y) ≡ lent_short f t
  unfolding lent_short
  short_is = rw (ex, eb, ey ∙ short_sizes f (state_lengths t))

  -- 20: a table is lent short.
  pub met_short : ((x || b) || y) ≡ true → 20 ≡ first_met (early_rules f t)
  unfolding early_rules first_met
  met_short h = rw (sym short_is ∙ h)

  module _ (h : ((x || b) || y) ≡ false) where
    pub job_long : job_short f (job_lengths f) ≡ false
    job_long = sym ex ∙ (or_off x b (or_off (x || b) y h).0).0

    pub bags_long : bags_short f (job_lengths f) ≡ false
    bags_long = sym eb ∙ (or_off x b (or_off (x || b) y h).0).1

    pub state_long : state_short (sizes f.boxes f.grocers f.offers f.lists) (state_lengths t) ≡ false
    state_long = sym ey ∙ (or_off (x || b) y h).1

    module _ (u v : Bool) (eu : u ≡ job_in_range f) (ev : v ≡ state_in_range (sizes f.boxes f.grocers f.offers f.lists) t) where
      range_is : (u && v) ≡ (job_in_range f && state_in_range f t)
      range_is = rw (eu, ev ∙ range_sizes f t)

      -- 21: a word is out of range.
      pub met_range : not (u && v) ≡ true → 21 ≡ first_met (early_rules f t)
      unfolding early_rules first_met
      met_range g = rw (sym short_is ∙ h, sym range_is, g)

      module _ (g : not (u && v) ≡ false) where
        -- The job's words are in range.
        pub job_inside : job_in_range f ≡ true
        job_inside = sym eu ∙ and_l u v (not_off (u && v) g)
          where
            not_off : (b : Bool) → not b ≡ false → b ≡ true
            not_off true e = refl
            not_off false e = sym e

        module _ (c : Bool) (ec : c ≡ counted_twice (counted_of f)) where
          -- 9: one bag and revision twice.
          pub met_twice : c ≡ true → 9 ≡ first_met (early_rules f t)
          unfolding early_rules first_met
          met_twice e = rw (sym short_is ∙ h, sym range_is, g, sym ec ∙ e)

          -- None of them.
          pub met_none : c ≡ false → 0 ≡ first_met (early_rules f t)
          unfolding early_rules first_met
          met_none e = rw (sym short_is ∙ h, sym range_is, g, sym ec ∙ e)

module _ (f : JobTables) (t : StateTables) where
  -- One of the first three is met, or none: then 20 and 21 on the packed tables decide.
  pub tested_early : (r : ℕ) → r ≡ first_met (early_rules f t) → (r ≡ 0 → ⊥) → r ≡ first_met (table_rules f t)
  unfolding table_rules
  tested_early r e n = e ∙ sym (met_first (early_rules f t) (packed_rules (evening_of f) t) (λ z. n (e ∙ z)))

  pub tested_packed : first_met (early_rules f t) ≡ 0 → first_met (table_rules f t) ≡ first_met (packed_rules (evening_of f) t)
  unfolding table_rules early_rules
  tested_packed z = none_first (early_rules f t) (packed_rules (evening_of f) t) (omega arith, (omega arith, (omega arith, tt))) z

  -- One of the conditions on the tables is met: it is the answer.
  pub answer_tested : (q : Asked) (r : ℕ) → r ≡ first_met (table_rules f t) → (r ≡ 0 → ⊥) → r ≡ step_refusal f t q
  unfolding step_refusal refusals table_rules early_rules packed_rules later_rules
  answer_tested q r e n = e ∙ sym (met_first (table_rules f t) (later_rules f t q) (λ z. n (e ∙ z)))

  neither : (a b c d e : Bool) → cond {A = ℕ} a 20 (cond (not b) 21 (cond c 9 (cond d 20 (cond (not e) 21 0)))) ≡ 0 →
      (a ≡ false) × ((b ≡ true) × ((c ≡ false) × ((d ≡ false) × (e ≡ true))))
  neither true b c d e h = absurd (omega arith)
  neither false false c d e h = absurd (omega arith)
  neither false true true d e h = absurd (omega arith)
  neither false true false true e h = absurd (omega arith)
  neither false true false false false h = absurd (omega arith)
  neither false true false false true h = (refl, (refl, (refl, (refl, refl))))

  -- None is met: the tables with the boxes of the tallies that stand are whole and in range, and the later conditions decide.
  module _ (z : first_met (table_rules f t) ≡ 0) (standing : List ℕ) (s : Standing f standing) where
    all_off : (lent_short f t ≡ false) × (((job_in_range f && state_in_range f t) ≡ true) × ((counted_twice (counted_of f) ≡ false)
        × ((totals_short (evening_of f) (state_lengths t) ≡ false) × (totals_in_range (evening_of f) t ≡ true))))
    unfolding table_rules early_rules packed_rules first_met
    all_off = neither (lent_short f t) (job_in_range f && state_in_range f t) (counted_twice (counted_of f)) (totals_short (evening_of f) (state_lengths t)) (totals_in_range (evening_of f) t) z

    pub held : Held (handed_tables f standing) t
    unfolding lent_short state_short state_in_range
    held =
        let l = or_off (job_short f (job_lengths f) || bags_short f (job_lengths f)) (state_short f (state_lengths t)) all_off.0 in
        let j = sym (handed_evening f standing s) in
        record {
          job_long = handed-whole f standing s (or_off (job_short f (job_lengths f)) (bags_short f (job_lengths f)) l.0).0;
          state_long = l.1;
          job_in_lem = handed_in f standing s (and_l (job_in_range f) (state_in_range f t) all_off.1.0);
          state_in = and_r (job_in_range f) (state_in_range f t) all_off.1.0;
          totals_long = subst (λ (x : Job). totals_short x (state_lengths t) ≡ false) j all_off.1.1.1.0;
          totals_in = subst (λ (x : Job). totals_in_range x t ≡ true) j all_off.1.1.1.1;
        }

    pub answer_later : (q : Asked) (r : ℕ) → r ≡ first_met (later_rules (handed_tables f standing) t q) → r ≡ step_refusal f t q
    unfolding later_rules
    answer_later q r e = e ∙ sym (handed_refusal f standing s t q all_off.0 all_off.1.0 all_off.1.1.0 all_off.1.1.1.0 all_off.1.1.1.1)

-- None of the first three is met: what the calls that make the sharer words ask for.
module _ (f : JobTables) (t : StateTables) (z : first_met (early_rules f t) ≡ 0) (standing : List ℕ) (s : Standing f standing) where
  none : (a b c : Bool) → cond {A = ℕ} a 20 (cond (not b) 21 (cond c 9 0)) ≡ 0 → (a ≡ false) × (b ≡ true)
  none true b c h = absurd (omega arith)
  none false false c h = absurd (omega arith)
  none false true c h = (refl, refl)

  off : (lent_short f t ≡ false) × ((job_in_range f && state_in_range f t) ≡ true)
  unfolding early_rules first_met
  off = none (lent_short f t) (job_in_range f && state_in_range f t) (counted_twice (counted_of f)) z

  job_ranged : job_in_range f ≡ true
  job_ranged = and_l (job_in_range f) (state_in_range f t) off.1

  pub job_handed : Handed (handed_tables f standing)
  job_handed = handed_in f standing s job_ranged

  pub job_whole_at : job_short (handed_tables f standing) (job_lengths (handed_tables f standing)) ≡ false
  unfolding lent_short
  job_whole_at =
      let l = or_off (job_short f (job_lengths f) || bags_short f (job_lengths f)) (state_short f (state_lengths t)) off.0 in
      handed-whole f standing s (or_off (job_short f (job_lengths f)) (bags_short f (job_lengths f)) l.0).0

-- What the test of the packed tables says, where it is told their length.
pub packed_told : (j : Job) (t : StateTables) (words : ℕ) → words ≡ totals_length j →
    first_met ((ltb (length t.working) words || ltb (length t.total_transit) words, 20)
    ∷ (not (around max_amount words t.working && around max_amount words t.total_transit), 21) ∷ []) ≡ first_met (packed_rules j t)
unfolding packed_rules totals_short totals_in_range state_lengths
packed_told j t words e = rw e

-- The grocers and tallies of a job as handed, as the calls that make places ask for them.
module _ (f : JobTables) (h : Handed f) (w : JobWhole f) (words : List ℕ) (ew : words ≡ tabulate 255 (sharer_word (job_of f))) where
  long : length words ≡ 255
  long = ap length ew ∙ length_tabulate 255 (sharer_word (job_of f))

  in_range_lem : JobIn f
  in_range_lem = job_in_lem f h.inside

  owner_below : (g : ℕ) → g < f.grocers → get_or f.grocer_owner g 0 < f.boxes
  owner_below g l = under_at f.boxes f.grocers f.grocer_owner g in_range_lem.grocer_owner l

  pub count_in : CountIn f.grocers f.grocer_owner words
  count_in = record {
    m_in = omega (arith, in_range_lem.grocers≤);
    owners_long = w.grocer_owner;
    words_long = omega (arith, in_range_lem.grocers≤, long);
    owner_in = λ g l. omega (arith, owner_below g l, in_range_lem.boxes≤);
  }

  pub box_in : (b : ℕ) → b < f.boxes → BoxIn f.boxes f.grocers b f.grocer_owner words
  box_in b l = record {
    owners_in = record {
      k_in = in_range_lem.boxes≤;
      n_in = omega (arith, in_range_lem.grocers≤);
      owners_long = w.grocer_owner;
      owner_in = owner_below;
    };
    m_in = in_range_lem.grocers≤;
    words_long = omega (arith, in_range_lem.grocers≤, long);
    box_in = l;
  }

  pub tallies-placed : TalliesIn f.tally_box f.tally_grocer f.tallies
  tallies-placed = record {
    tallies_in = in_range_lem.tallies≤;
    boxes_long = w.tally_box;
    items_long = w.tally_grocer;
    item_in = λ t l. omega (arith, under_at f.grocers f.tallies f.tally_grocer t in_range_lem.tally_grocer l, in_range_lem.grocers≤);
  }
