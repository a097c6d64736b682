-- A request in a list that begins fresh: its answer and the tables it leaves, in terms of the state. Assumes nothing.
use mathlib.Core.Path.{◌≡◌, refl, sym, ap, ◌∙◌}
use mathlib.Core.Bool.{Bool, true, false, cond, ◌&&◌, ◌||◌, not}
use mathlib.Core.List.{[], ◌∷◌, ◌++◌}
use Prim.Native.Nat.{ℕ}
use lib.Dec.{eqb}
use borrow.Author.Tests.{eqb-true}
use Rattle.laws.specs.Checks.{first_met}
use Rattle.laws.proofs.Bools.{or_off, split, and_true, and_r}
use Rattle.recount.specs.Recount.{counted_twice}
use Rattle.model.specs.Job.{Job}
use Rattle.model.specs.Requests.{Request, lent_job, lent_state, lends_short, answer_to, serve}
use Rattle.model.specs.Tables.{JobTables, counted_of, evening_of, StateTables, view, store, JobLengths, StateLengths, job_lengths, state_lengths, job_short, bags_short, state_short, lent_short, totals_short}
use Rattle.model.specs.PackedTotals.{totals_length}
use Rattle.model.specs.Ranges.{job_in_range, Settles, state_in_range, totals_in_range}
use Rattle.model.specs.Handed.{handed_in_range}
use Rattle.model.specs.Step.{Asked, is_kind, boxes_fit, step_rules, moved, refusals, step_refusal, step_tables, step_answer, stepped}
use Rattle.model.specs.Steps.{kind_of, Steps, State, fits, ready, permitted, effect}
use Rattle.model.specs.Demand3.{refusal_of}
use Rattle.model.specs.Boxes.{Sound}
use Rattle.model.proofs.Tables.{view_store, held_form}
use Rattle.model.proofs.Ranges.{Within, form_within}
use Rattle.model.proofs.Step.{evening_range, evening_bounds, in_handed, ok_store, totals_store, whole-store, whole_totals}
use Rattle.model.proofs.Core.{permit}
use Rattle.model.proofs.Lent.{TotalsLong, totals_long, lent_totals_short, lent_totals_range, job_long, bags_long, state_long, evening_long, lent_job_short, lent_bags_short, lent_counted, lent_evening, lent_job_range}
use Rattle.model.proofs.Lent.{lent_state_short, lent_view, lent_store, lent_state_range, lent_back, store-store}
use Rattle.model.proofs.Refusal.{rules_zero}
use Rattle.model.proofs.Reach.{sound_effect}

-- The late 21 comes after conditions 22 to 26.
pub then_last : (i x f d r c : Bool) →
    cond {A = ℕ} i 22 (cond x 23 (cond f 24 (cond d 25 (cond r 26 (cond c 21 0)))))
    ≡ cond (eqb (cond i 22 (cond x 23 (cond f 24 (cond d 25 (cond r 26 0))))) 0) (cond c 21 0) (cond i 22 (cond x 23 (cond f 24 (cond d 25 (cond r 26 0)))))
then_last true x f d r c = refl
then_last false true f d r c = refl
then_last false false true d r c = refl
then_last false false false true r c = refl
then_last false false false false true c = refl
then_last false false false false false c = refl

pub rules_then : (j : Job) (d : Steps) (q : Asked) (c : Bool) →
    first_met (step_rules j d q ++ (c, 21) ∷ []) ≡ cond (eqb (first_met (step_rules j d q)) 0) (cond c 21 0) (first_met (step_rules j d q))
unfolding step_rules first_met
rules_then j d q c =
    then_last (not (is_kind q.kind)) (not (boxes_fit j (kind_of q.kind) q.first q.second)) (not (fits j (kind_of q.kind) q.first q.second))
    (d (kind_of q.kind) q.first q.second) (not (ready j d (kind_of q.kind) q.first q.second)) c

-- The step that is asked for is one, and it is permitted.
unfoldable pub allowed : Job → State → Asked → Bool
allowed j s q = is_kind q.kind && permitted j s.done (kind_of q.kind) q.first q.second

-- A step on tables u that hold the state s of the job j, where nothing is short and all is in range.
module _ (f : JobTables) (u : StateTables) (j : Job) (s : State) (q : Asked)
    (job : evening_of f ≡ j) (holds : view j u ≡ s) (short : lent_short f u ≡ false) (inside : (job_in_range f && state_in_range f u) ≡ true) (once : counted_twice (counted_of f) ≡ false)
    (packed : totals_short j (state_lengths u) ≡ false) (amounts : totals_in_range j u ≡ true)
    (late : allowed j s q ≡ true →
    (state_in_range f (store j (effect j s (kind_of q.kind) q.first q.second) u) && totals_in_range j (store j (effect j s (kind_of q.kind) q.first q.second) u)) ≡ true) where
  moved_is : moved f u q ≡ store j (effect j s (kind_of q.kind) q.first q.second) u
  unfolding moved
  moved_is = rw (job, holds)

  zero_is : eqb (first_met (step_rules j s.done q)) 0 ≡ allowed j s q
  unfolding allowed
  zero_is = rules_zero j s.done q

  pub answer_is : step_refusal f u q ≡ first_met (step_rules j s.done q)
  unfolding step_refusal refusals first_met
  answer_is =
      rw (short, inside, once, job, packed, amounts, holds, moved_is)
      (rules_then j s.done q
      (not (state_in_range f (store j (effect j s (kind_of q.kind) q.first q.second) u) && totals_in_range j (store j (effect j s (kind_of q.kind) q.first q.second) u)))
      ∙ split (allowed j s q)
      (λ e. rw (zero_is, e, late e) (sym (eqb-true (first_met (step_rules j s.done q)) 0 (zero_is ∙ e))))
      (λ e. rw (zero_is, e)))

  pub after_is : step_tables f u q ≡ cond (allowed j s q) (store j (effect j s (kind_of q.kind) q.first q.second) u) u
  unfolding step_tables
  after_is = rw (answer_is, zero_is, moved_is)

module _ (f : JobTables) (ok : handed_in_range f ≡ true) (t : StateTables) where
  pub within : (s : State) → Sound (evening_of f) s → Within s
  within s o = rw o.form (form_within (evening_of f) (evening_bounds f ok) (evening_range f ok) s.done)

  -- Tables that hold a state that a list can leave.
  pub view_is : (s : State) → Sound (evening_of f) s → view (evening_of f) (store (evening_of f) s t) ≡ s
  view_is s o = view_store (evening_of f) s t ∙ held_form (evening_of f) (evening_range f ok) s o

-- A job that demand 3 speaks of.
pub settles_in : (f : JobTables) → Settles f → handed_in_range f ≡ true
settles_in f z = in_handed f z.in_range

-- The same, and the buffers of its state.
module _ (f : JobTables) (z : Settles f) (t : StateTables) where
  sound_allowed : (s : State) (q : Asked) → Sound (evening_of f) s → allowed (evening_of f) s q ≡ true → Sound (evening_of f) (effect (evening_of f) s (kind_of q.kind) q.first q.second)
  unfolding allowed
  sound_allowed s q o e =
      sound_effect (evening_of f) (evening_range f (settles_in f z)) s (kind_of q.kind) q.first q.second o
      (permit (evening_of f) s.done (kind_of q.kind) q.first q.second (and_r (is_kind q.kind) _ e))

  same_sizes : (n m : JobLengths) → job_short (lent_job f n) m ≡ job_short f m
  unfolding job_short lent_job
  same_sizes n m = refl

  same_bags : (n m : JobLengths) → bags_short (lent_job f n) m ≡ bags_short f m
  unfolding bags_short lent_job
  same_bags n m = refl

  same_sizes' : (n : JobLengths) (m : StateLengths) → state_short (lent_job f n) m ≡ state_short f m
  unfolding state_short lent_job
  same_sizes' n m = refl

  -- A table that is not packed is lent short.
  unfoldable else_short : Request → Bool
  else_short r = job_short f r.job || bags_short f r.job || state_short f r.state

  lends_is : (r : Request) → lends_short f r ≡ (else_short r || totals_short (evening_of f) r.state)
  unfolding lends_short else_short
  lends_is r = refl

  short_is : (s : State) (r : Request) → lent_short (lent_job f r.job) (lent_state (store (evening_of f) s t) r.state) ≡ else_short r
  unfolding lent_short else_short
  short_is s r =
      rw (
        same_sizes r.job (job_lengths (lent_job f r.job)),
        same_bags r.job (job_lengths (lent_job f r.job)),
        same_sizes' r.job (state_lengths (lent_state (store (evening_of f) s t) r.state)),
        lent_job_short f r.job z.whole,
        lent_bags_short f r.job z.bags,
        lent_state_short f (store (evening_of f) s t) r.state (whole-store f s t),
      )

  -- A request that lends such a table short.
  else_answer : (s : State) (r : Request) → else_short r ≡ true → step_refusal (lent_job f r.job) (lent_state (store (evening_of f) s t) r.state) r.asked ≡ 20
  unfolding step_refusal refusals first_met
  else_answer s r y = rw (short_is s r, y)

  -- A request that lends enough of these tables.
  module _ (s : State) (o : Sound (evening_of f) s) (r : Request) (y : else_short r ≡ false) where
    no_short : lent_short (lent_job f r.job) (lent_state (store (evening_of f) s t) r.state) ≡ false
    no_short = short_is s r ∙ y

    job_enough : job_short f r.job ≡ false
    unfolding else_short
    job_enough = (or_off (job_short f r.job) (bags_short f r.job) (or_off (job_short f r.job || bags_short f r.job) (state_short f r.state) y).0).0

    bags_enough : bags_short f r.job ≡ false
    unfolding else_short
    bags_enough = (or_off (job_short f r.job) (bags_short f r.job) (or_off (job_short f r.job || bags_short f r.job) (state_short f r.state) y).0).1

    state_enough : state_short f r.state ≡ false
    unfolding else_short
    state_enough = (or_off (job_short f r.job || bags_short f r.job) (state_short f r.state) y).1

    job_is : evening_of (lent_job f r.job) ≡ evening_of f
    job_is = lent_evening f r.job (job_long f r.job job_enough) (bags_long f r.job bags_enough)

    once_is : counted_twice (counted_of (lent_job f r.job)) ≡ false
    once_is = ap counted_twice (lent_counted f r.job (job_long f r.job job_enough) (bags_long f r.job bags_enough)) ∙ z.once

    range_is : job_in_range (lent_job f r.job) ≡ true
    range_is = lent_job_range f r.job (job_long f r.job job_enough) (bags_long f r.job bags_enough) ∙ z.in_range

    states_is : state_in_range (lent_job f r.job) (lent_state (store (evening_of f) s t) r.state) ≡ true
    states_is = lent_state_range f r.job (store (evening_of f) s t) r.state (state_long f r.state state_enough) ∙ ok_store f s t (within f (settles_in f z) t s o)

    same_range : (u : StateTables) → state_in_range (lent_job f r.job) u ≡ state_in_range f u
    unfolding state_in_range lent_job
    same_range u = refl

    packed_is : totals_short (evening_of f) (state_lengths (lent_state (store (evening_of f) s t) r.state)) ≡ totals_short (evening_of f) r.state
    packed_is = lent_totals_short (evening_of f) (store (evening_of f) s t) r.state (whole_totals (evening_of f) s t)

    -- It lends a packed table short.
    totals_answer : totals_short (evening_of f) r.state ≡ true → step_refusal (lent_job f r.job) (lent_state (store (evening_of f) s t) r.state) r.asked ≡ 20
    unfolding step_refusal refusals first_met
    totals_answer e = rw (no_short, range_is, states_is, once_is, job_is, packed_is, e)

    -- It lends enough of these too.
    module _ (e : totals_short (evening_of f) r.state ≡ false) where
      packed_long : TotalsLong (totals_length (evening_of f)) r.state
      packed_long = totals_long (evening_of f) r.state e

      lent_is : view (evening_of f) (lent_state (store (evening_of f) s t) r.state) ≡ s
      lent_is = lent_view (evening_of f) (store (evening_of f) s t) r.state (evening_long f r.state state_enough) packed_long ∙ view_is f (settles_in f z) t s o

      amounts_is : totals_in_range (evening_of f) (lent_state (store (evening_of f) s t) r.state) ≡ true
      amounts_is = lent_totals_range (evening_of f) (store (evening_of f) s t) r.state packed_long ∙ totals_store (evening_of f) s t (within f (settles_in f z) t s o)

      late_is : allowed (evening_of f) s r.asked ≡ true →
          (state_in_range (lent_job f r.job) (store (evening_of f) (effect (evening_of f) s (kind_of r.asked.kind) r.asked.first r.asked.second) (lent_state (store (evening_of f) s t) r.state))
          && totals_in_range (evening_of f) (store (evening_of f) (effect (evening_of f) s (kind_of r.asked.kind) r.asked.first r.asked.second) (lent_state (store (evening_of f) s t) r.state))) ≡ true
      late_is e =
          and_true (same_range _ ∙ ok_store f _ _ (within f (settles_in f z) t _ (sound_allowed s r.asked o e)))
          (totals_store (evening_of f) _ _ (within f (settles_in f z) t _ (sound_allowed s r.asked o e)))

      whole_answer : step_refusal (lent_job f r.job) (lent_state (store (evening_of f) s t) r.state) r.asked ≡ first_met (step_rules (evening_of f) s.done r.asked)
      whole_answer =
          answer_is (lent_job f r.job) (lent_state (store (evening_of f) s t) r.state) (evening_of f) s r.asked job_is lent_is no_short (and_true range_is states_is) once_is
          (packed_is ∙ e) amounts_is late_is

      whole-after : step_tables (lent_job f r.job) (lent_state (store (evening_of f) s t) r.state) r.asked
          ≡ cond (allowed (evening_of f) s r.asked) (store (evening_of f) (effect (evening_of f) s (kind_of r.asked.kind) r.asked.first r.asked.second) (lent_state (store (evening_of f) s t) r.state))
          (lent_state (store (evening_of f) s t) r.state)
      whole-after =
          after_is (lent_job f r.job) (lent_state (store (evening_of f) s t) r.state) (evening_of f) s r.asked job_is lent_is no_short (and_true range_is states_is) once_is
          (packed_is ∙ e) amounts_is late_is

  -- A request that lends a table short.
  module _ (s : State) (o : Sound (evening_of f) s) (r : Request) where
    short_answer : lends_short f r ≡ true → step_refusal (lent_job f r.job) (lent_state (store (evening_of f) s t) r.state) r.asked ≡ 20
    short_answer y =
        split (else_short r)
        (λ e. else_answer s r e)
        (λ e. totals_answer s o r e (rw e at (sym (lends_is r) ∙ y)))

    short_after : lends_short f r ≡ true → step_tables (lent_job f r.job) (lent_state (store (evening_of f) s t) r.state) r.asked ≡ lent_state (store (evening_of f) s t) r.state
    unfolding step_tables
    short_after y = rw (short_answer y)

    -- One that does not lends enough of both.
    enough : lends_short f r ≡ false → (else_short r ≡ false) × (totals_short (evening_of f) r.state ≡ false)
    enough y = or_off (else_short r) (totals_short (evening_of f) r.state) (sym (lends_is r) ∙ y)

  -- What a request does to the state.
  unfoldable pub next : State → Request → State
  next s r = cond (not (lends_short f r) && allowed (evening_of f) s r.asked) (effect (evening_of f) s (kind_of r.asked.kind) r.asked.first r.asked.second) s

  pub one_answer : (s : State) → Sound (evening_of f) s → (r : Request) → answer_to f (store (evening_of f) s t) r ≡ step_answer (refusal_of f s.done r)
  unfolding answer_to stepped refusal_of
  one_answer s o r =
      ap step_answer (split (lends_short f r)
      (λ e. short_answer s o r e ∙ rw e)
      (λ e. whole_answer s o r (enough s o r e).0 (enough s o r e).1 ∙ rw e))

  pub one_serve : (s : State) → Sound (evening_of f) s → (r : Request) → serve f (store (evening_of f) s t) r ≡ store (evening_of f) (next s r) t
  unfolding serve stepped next
  one_serve s o r =
      split (lends_short f r)
      (λ e. rw (short_after s o r e, e) (lent_back (store (evening_of f) s t) r.state))
      (λ e. rw (whole-after s o r (enough s o r e).0 (enough s o r e).1, e) (split (allowed (evening_of f) s r.asked)
      (λ a. rw a (lent_store (evening_of f) (store (evening_of f) s t) r.state (evening_long f r.state (state_enough s o r (enough s o r e).0))
      (packed_long s o r (enough s o r e).0 (enough s o r e).1) _ ∙ store-store (evening_of f) _ s t))
      (λ a. rw a (lent_back (store (evening_of f) s t) r.state))))

  pub one_sound : (s : State) → Sound (evening_of f) s → (r : Request) → Sound (evening_of f) (next s r)
  unfolding next
  one_sound s o r =
      split (not (lends_short f r) && allowed (evening_of f) s r.asked)
      (λ e. rw e (sound_allowed s r.asked o (and_r (not (lends_short f r)) _ e)))
      (λ e. rw e o)
