-- What a trial refuses, and what it comes to. Assumes nothing.
use mathlib.Core.Path.{◌≡◌, refl, sym, ap, ◌∙◌}
use mathlib.Core.Bool.{Bool, true, false, not, ◌||◌}
use mathlib.Core.List.{List, [], ◌∷◌}
use Prim.Native.Nat.{ℕ, ◌+◌, ◌-◌, ◌≤◌}
use native.Mathlib.Omega.{arith}
use lib.Dec.{ltb}
use lib.ListN.{length, set, take}
use borrow.Author.Tests.{ne_eqb, ltb-false}
use Rattle.laws.specs.Tables.{tabulate, overwrite, lay_over}
use Rattle.laws.specs.Checks.{first_met}
use Rattle.laws.proofs.Bools.{or_false, or_off}
use Rattle.laws.proofs.Tables.{overwrite_cong}
use Rattle.model.specs.Job.{Job, need_word, sharer_word}
use Rattle.model.specs.Tables.{JobTables, job_of, with_lists, evening_of, StateTables, job_lengths, state_lengths, job_short, bags_short, state_short, lent_short, totals_short, counted_of}
use Rattle.model.specs.PackedTotals.{spread}
use Rattle.model.specs.Ranges.{job_in_range}
use Rattle.model.specs.Local.{job_refusals}
use Rattle.model.specs.Handed.{handed_tables, Standing}
use Rattle.recount.specs.Recount.{counted_twice}
use Rattle.job_checks.specs.Sizes.{sizes}
use Rattle.step_places.specs.Order.{steps_in}
use Rattle.run_steps.specs.All.{without_marks, AllOut}
use Rattle.run_order.specs.Order.{MarksFrom}
use Rattle.run.specs.Run.{Begins}
use Rattle.trial_rules.specs.Rounds.{is_preference, trial, taken_steps, of_box, idle_rounds, taken_places, trial_state, TrialEnds}
use Rattle.trial_rules.specs.Trial.{tried, refused, trial_outcome, trial_short, trial_refusals, tried_all, tried_on}
use Rattle.trial_rounds.specs.Taken.{AllRounds}
use Rattle.model.proofs.Handed.{handed_evening}
use Rattle.model.proofs.Step.{evening_range}
use Rattle.job_masks.proofs.InJob.{some_box}
use Rattle.run_order.proofs.Few.{steps_few as job_few}
use Rattle.run.proofs.Done.{tables_done, places_done}
use Rattle.run.proofs.Behind.{met_before, met_behind}
use Rattle.run.proofs.Ends.{state_is, packed_is}
use Rattle.trial_rules.proofs.Rounds.{every_kind, trial_is}
use Rattle.trial.proofs.Rounds.{evening_rounds}

-- A trial may begin with a preference list: the order of its steps is the trial's.
module _ (f : JobTables) (t : StateTables) (g : Begins f t) (list : List ℕ) (is_list : is_preference list ≡ true) where
  -- What every trial of the evening comes to.
  ends : TrialEnds (evening_of f) list
  unfolding with_lists spread job_of
  ends = trial_is (evening_of f) (evening_range f g.job_in_lem.inside) list (every_kind list is_list) (some_box f g.job_in_lem)

  module _ (done order : List ℕ) (n r : ℕ) (w : AllRounds (job_of f) list done order n r) where
    -- The steps of the order are those of the trial on every price list,
    steps_of : steps_in f.boxes n order ≡ taken_steps (trial (evening_of f) list)
    unfolding job_of
    steps_of = w.steps_are ∙ ap taken_steps (sym (evening_rounds f list))

    rounds_of_lem : r ≡ length (trial (evening_of f) list)
    rounds_of_lem = w.rounds_are ∙ ap length (sym (evening_rounds f list))

    -- and no box takes more than one in a round.
    idle_of : (b : ℕ) → idle_rounds b (trial (evening_of f) list) + of_box b (steps_in f.boxes n order) ≡ r
    idle_of b = rw (steps_of, rounds_of_lem) (ends.idle b)

    pub steps_few : (b : ℕ) → of_box b (steps_in f.boxes n order) ≤ r
    steps_few b = omega (arith, idle_of b)

    pub rounds_few : r ≤ 1056
    unfolding with_lists spread job_of
    rounds_few = omega (arith, rounds_of_lem, ends.at_most, job_few (evening_of f) (evening_range f g.job_in_lem.inside).boxes≤)

    idle_is : (idle idle' : List ℕ) → idle' ≡ overwrite f.boxes (λ b. r - of_box b (steps_in f.boxes n order)) idle → idle' ≡ overwrite (evening_of f).boxes (λ b. idle_rounds b (trial (evening_of f) list)) idle
    unfolding with_lists spread job_of
    idle_is idle idle' e = e ∙ overwrite_cong f.boxes _ (λ b. idle_rounds b (trial (evening_of f) list)) idle (λ b l. omega (arith, idle_of b))

    -- Where its steps are done the trial has ended.
    pub trial_ended : (packed : totals_short (evening_of f) (state_lengths t) ≡ false) (needs sharers : List ℕ)
        (en : needs ≡ tabulate 500 (need_word (job_of f))) (es : sharers ≡ tabulate 255 (sharer_word (job_of f))) (t' : StateTables) (words messages : ℕ) →
        AllOut (evening_of f) (without_marks t.known t.price_transit t.working t.total_transit t.statement)
        (without_marks t'.known t'.price_transit t'.working t'.total_transit t'.statement) order n words messages →
        MarksFrom f.boxes t.done done → t'.done ≡ done → t'.sent ≡ set t.sent 0 words →
        (idle idle' : List ℕ) → idle' ≡ overwrite f.boxes (λ b. r - of_box b (steps_in f.boxes n order)) idle → (p p' : List ℕ) → p' ≡ lay_over (take n order) p →
        trial_outcome (tried r) t' idle' p' ≡ tried_all (evening_of f) t list idle p
    unfolding tried_all trial_state taken_places
    trial_ended packed needs sharers en es t' words messages a m ed es' idle idle' ei p p' ep =
        let tables = tables_done f t g packed needs sharers done order n en es w.so_far (taken_steps (trial (evening_of f) list)) steps_of t' words messages a m ed es' in
        let places = ep ∙ ap (λ (l : List ℕ). lay_over l p)
        (places_done f t g packed needs sharers done order n en es w.so_far (taken_steps (trial (evening_of f) list)) steps_of t' words messages a m ed es') in
        λ i. trial_outcome (tried (rounds_of_lem i)) (tables i) (idle_is idle idle' ei i) (places i)

-- The refusals of a trial: 20 on the state's tables, the preference list and idle rounds; those of the job's tables; 20 on the packed tables; 33.
module _ (f : JobTables) (t : StateTables) (c : Bool) (e : c ≡ state_short (sizes f.boxes f.grocers f.offers f.lists) (state_lengths t)) (list idle p : List ℕ) (x : Bool)
    (ex : x ≡ (ltb (length list) 6 || ltb (length idle) f.boxes)) where
  -- A number that is met is the trial's refusal.
  said : (n : ℕ) → first_met (trial_refusals f t list idle) ≡ n → (n ≡ 0 → ⊥) → trial_outcome (refused n) t idle p ≡ tried_on f t list idle p
  unfolding tried_on
  said n q k = rw (q, ne_eqb n 0 k)

  -- Something is short: no word is changed.
  pub trial_short_lem : (c || x) ≡ true → trial_outcome (refused 20) t idle p ≡ tried_on f t list idle p
  unfolding trial_refusals first_met trial_short lent_short
  trial_short_lem h = said 20 (rw short) (λ q. omega arith)
    where
      both : (a b d : Bool) → (b || d) ≡ true → (a || b || d) ≡ true
      both true b d h = refl
      both false b d h = h

      short : (job_short f (job_lengths f) || bags_short f (job_lengths f) || state_short f (state_lengths t) || (ltb (length list) 6 || ltb (length idle) f.boxes)) ≡ true
      short = both (job_short f (job_lengths f) || bags_short f (job_lengths f)) (state_short f (state_lengths t)) _ (rw (sym (state_is f t c e), sym ex) h)

  -- Nothing is: the refusals are those of the job's tables, 20 on the packed tables, and 33.
  module _ (h : (c || x) ≡ false) where
    pub state_long : c ≡ false
    state_long = (or_off c x h).0

    lists_long : (ltb (length list) 6 || ltb (length idle) f.boxes) ≡ false
    lists_long = sym ex ∙ (or_off c x h).1

    pub list_long : 6 ≤ length list
    list_long = ltb-false (length list) 6 (or_off (ltb (length list) 6) _ lists_long).0

    pub idle_long : f.boxes ≤ length idle
    idle_long = ltb-false (length idle) f.boxes (or_off (ltb (length list) 6) _ lists_long).1

    short_is : trial_short f t list idle ≡ (job_short f (job_lengths f) || bags_short f (job_lengths f))
    unfolding trial_short lent_short
    short_is = rw (lists_long, sym (state_is f t c e) ∙ state_long, or_false (job_short f (job_lengths f) || bags_short f (job_lengths f))) (or_false (job_short f (job_lengths f) || bags_short f (job_lengths f)))

    -- The refusals behind those of the job's tables.
    abbrev behind : List (Bool × ℕ)
    behind = (totals_short (evening_of f) (state_lengths t), 20) ∷ (not (is_preference list), 33) ∷ []

    pub trial_refused : (n : ℕ) → n ≡ first_met (job_refusals f) → (n ≡ 0 → ⊥) → trial_outcome (refused n) t idle p ≡ tried_on f t list idle p
    unfolding trial_refusals job_refusals
    trial_refused n q k =
        said n (rw short_is (met_before (job_short f (job_lengths f) || bags_short f (job_lengths f)) (not (job_in_range f)) (counted_twice (counted_of f)) behind n q k)) k

    module _ (z : first_met (job_refusals f) ≡ 0) where
      behind_is : first_met (trial_refusals f t list idle) ≡ first_met behind
      unfolding trial_refusals job_refusals
      behind_is = rw short_is (met_behind (job_short f (job_lengths f) || bags_short f (job_lengths f)) (not (job_in_range f)) (counted_twice (counted_of f)) behind z)

      module _ (standing : List ℕ) (s : Standing f standing) where
        -- The packed tables of the job as handed are those of the tables as lent.
        packed_told : (y : Bool) → y ≡ totals_short (evening_of (handed_tables f standing)) (state_lengths t) → y ≡ totals_short (evening_of f) (state_lengths t)
        packed_told = packed_is f t c e state_long z standing s

        pub trial_packed : (y : Bool) → y ≡ totals_short (evening_of (handed_tables f standing)) (state_lengths t) → y ≡ true → trial_outcome (refused 20) t idle p ≡ tried_on f t list idle p
        unfolding first_met
        trial_packed y q k = said 20 (behind_is ∙ rw (sym (packed_told y q) ∙ k)) (λ q. omega arith)

        module _ (long : totals_short (evening_of (handed_tables f standing)) (state_lengths t) ≡ false) where
          whole : totals_short (evening_of f) (state_lengths t) ≡ false
          whole = sym (packed_told _ refl) ∙ long

          pub trial_listless : not (is_preference list) ≡ true → trial_outcome (refused 33) t idle p ≡ tried_on f t list idle p
          unfolding first_met
          trial_listless k = said 33 (behind_is ∙ rw (whole, k)) (λ q. omega arith)

          -- None is met: what the trial comes to is the trial of the tables as lent.
          pub trial_finished : is_preference list ≡ true → tried_all (evening_of (handed_tables f standing)) t list idle p ≡ tried_on f t list idle p
          unfolding tried_on first_met
          trial_finished k = ap (λ (j : Job). tried_all j t list idle p) (handed_evening f standing s) ∙ rw (behind_is, whole, k)
