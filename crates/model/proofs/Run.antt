-- A run does every step of the job, and every request that it picks is accepted. Assumes nothing.
use mathlib.Core.Path.{◌≡◌, refl, sym, ap, ◌∙◌, subst}
use mathlib.Core.Bool.{true, false}
use mathlib.Core.List.{List, ◌∷◌}
use Prim.Native.Nat.{ℕ, zero, suc, ◌+◌, ◌<◌, ◌≤◌, ◌*◌, ◌-◌, ◌%◌}
use native.Mathlib.Omega.{arith}
use native.Mathlib.Nat.{mul-le-mul_right, mod-lt}
use lib.Dec.{eqb}
use lib.ListN.{length, get_or, drop}
use lib.Arith.{digits_div, digits_mod}
use borrow.Author.Tests.{eqb-true, eqb-false}
use Rattle.laws.proofs.Bools.{split, clash}
use Rattle.laws.proofs.Below.{count_zero}
use Rattle.model.specs.Job.{Job}
use Rattle.model.specs.Steps.{Kind, kind_number, Steps, State, has_step, permitted, fresh, Step, effect_of, step_at, places}
use Rattle.model.specs.Run.{listed, ready_count, pick, picks, run, after_steps, run_state}
use Rattle.model.specs.Demand3.{AllDone, SomeStep}
use Rattle.model.specs.Words.{message_count, over, step_count, messages_of}
use Rattle.model.proofs.Range.{InRange}
use Rattle.model.proofs.Machine.{attempt, attempt_all, size, taken, done_of, permits, reached}
use Rattle.model.specs.Boxes.{Sound}
use Rattle.model.proofs.Reach.{sound_fresh, effect_done, sound_effect}
use Rattle.model.proofs.Core.{first<, second<, Permit, permit}
use Rattle.model.proofs.Lists.{marked, all_length, all_sends}
use Rattle.model.proofs.Tables.{kind_place, kind_six}
use Rattle.model.proofs.Progress.{progress}
use Rattle.laws.proofs.Ascending.{nth_passes}
use Rattle.model.proofs.Listed.{ready_count_lem, pick_is}
use Rattle.model.proofs.Counting.{size_mark, size_le, all_of_size, steps_number}

module _ (j : Job) (d : Steps) where
  -- A permitted step has its place in the list of ready steps.
  place : (k : Kind) (a b : ℕ) → permitted j d k a b ≡ true → (i : ℕ) × (i < places j.boxes) × (listed j d i ≡ true)
  unfolding listed step_at
  place k a b h = (
    ((kind_number k - 1) * j.boxes + a) * j.boxes + b,
    omega (arith, lb, mul-le-mul_right j.boxes row),
    rw (digits_div ((kind_number k - 1) * j.boxes + a) lb, digits_mod ((kind_number k - 1) * j.boxes + a) lb, digits_div (kind_number k - 1) la, digits_mod (kind_number k - 1) la, kind_place k) h,
  )
    where
      la : a < j.boxes
      la = first< j k a b (permit j d k a b h).has

      lb : b < j.boxes
      lb = second< j k a b (permit j d k a b h).has

      row : (kind_number k - 1) * j.boxes + a < 6 * j.boxes
      row = omega (arith, la, mul-le-mul_right j.boxes (kind_six k))

  -- No step is ready: all are done.
  pub none_ready : InRange j → ready_count j d ≡ 0 → AllDone j d
  unfolding AllDone
  none_ready r z k a b h =
      split (d k a b)
      (λ e. e)
      (λ e. let x : SomeStep (permitted j d) = progress j r d k a b h e in
      let (i, l, f) = place x.kind x.first x.second x.holds in
      absurd (clash f (count_zero (places j.boxes) (listed j d) i l (sym (ready_count_lem j d) ∙ z))))

  -- What is picked is permitted.
  pub picked : (c : ℕ) → eqb (ready_count j d) 0 ≡ false → permitted j d (pick j d c).kind (pick j d c).first (pick j d c).second ≡ true
  unfolding listed
  picked c h =
      let ne : ready_count j d ≡ 0 → ⊥ = eqb-false (ready_count j d) 0 h in
      let l : c % ready_count j d < ready_count j d = mod-lt c (omega arith) in
      rw (pick_is j d c) (nth_passes (places j.boxes) (listed j d) (c % ready_count j d) (omega (arith, ready_count_lem j d))).1

module _ (j : Job) where
  -- A step that is picked is permitted,
  pick_permitted : (s : State) (c : ℕ) → eqb (ready_count j s.done) 0 ≡ false → permits j s (pick j s.done c) ≡ true
  unfolding permits
  pick_permitted s c h = picked j s.done c h

  -- so an attempt does it.
  attempt_does : (s : State) (x : Step) → permits j s x ≡ true → attempt j s x ≡ effect_of j s x
  unfolding attempt
  attempt_does s x h = rw h

  pick_does : (s : State) (c : ℕ) → eqb (ready_count j s.done) 0 ≡ false → attempt j s (pick j s.done c) ≡ effect_of j s (pick j s.done c)
  pick_does s c h = attempt_does s (pick j s.done c) (pick_permitted s c h)

  picks_taken : (n : ℕ) (s : State) (cs : List ℕ) → taken j s (picks j n s cs) ≡ picks j n s cs
  unfolding picks taken
  picks_taken zero s cs = refl
  picks_taken (suc n) s cs =
      split (eqb (ready_count j s.done) 0)
      (λ e. rw e)
      (λ e. rw (e, pick_permitted s (get_or cs 0 0) e, pick_does s (get_or cs 0 0) e)
      (ap (λ (l : List Step). pick j s.done (get_or cs 0 0) ∷ l) (picks_taken n (effect_of j s (pick j s.done (get_or cs 0 0))) (drop 1 cs))))

  picks_after : (n : ℕ) (s : State) (cs : List ℕ) → after_steps j s (picks j n s cs) ≡ attempt_all j s (picks j n s cs)
  unfolding picks after_steps attempt_all
  picks_after zero s cs = refl
  picks_after (suc n) s cs =
      split (eqb (ready_count j s.done) 0)
      (λ e. rw e)
      (λ e. rw e (picks_after n (effect_of j s (pick j s.done (get_or cs 0 0))) (drop 1 cs)
      ∙ ap (λ (u : State). attempt_all j u (picks j n (effect_of j s (pick j s.done (get_or cs 0 0))) (drop 1 cs))) (sym (pick_does s (get_or cs 0 0) e))))

module _ (j : Job) (r : InRange j) where
  sound_does : (s : State) (x : Step) → Sound j s → permits j s x ≡ true → Sound j (effect_of j s x)
  unfolding permits
  sound_does s x o h = sound_effect j r s x.kind x.first x.second o (permit j s.done x.kind x.first x.second h)

  size_does : (s : State) (x : Step) → permits j s x ≡ true → size j (effect_of j s x).done ≡ size j s.done + 1
  unfolding permits
  size_does s x h =
      let p : Permit j s.done x.kind x.first x.second = permit j s.done x.kind x.first x.second h in
      rw (effect_done j s x.kind x.first x.second)
      (size_mark j s.done x.kind x.first x.second p.fresh_one (first< j x.kind x.first x.second p.has) (second< j x.kind x.first x.second p.has))

  picks_all : (n : ℕ) (s : State) (cs : List ℕ) → Sound j s → size j (has_step j) ≤ size j s.done + n → AllDone j (attempt_all j s (picks j n s cs)).done
  unfolding picks attempt_all
  picks_all zero s cs o h = all_of_size j s.done o.closed (omega (arith, size_le j s.done (has_step j) o.closed.steps))
  picks_all (suc n) s cs o h =
      split (eqb (ready_count j s.done) 0)
      (λ e. rw e (none_ready j s.done r (eqb-true (ready_count j s.done) 0 e)))
      (λ e. rw e (subst (λ (u : State). AllDone j (attempt_all j u (picks j n (effect_of j s (pick j s.done (get_or cs 0 0))) (drop 1 cs))).done) (sym (pick_does j s (get_or cs 0 0) e))
      (picks_all n (effect_of j s (pick j s.done (get_or cs 0 0))) (drop 1 cs)
      (sound_does s (pick j s.done (get_or cs 0 0)) o (pick_permitted j s (get_or cs 0 0) e))
      (omega (arith, size_does s (pick j s.done (get_or cs 0 0)) (pick_permitted j s (get_or cs 0 0) e))))))

  -- A run does all steps, and each step of it is permitted.
  pub run_done : (cs : List ℕ) → AllDone j (done_of j (run j cs))
  unfolding run reached
  run_done cs = rw (marked j r (run j cs)) at (picks_all (step_count j) (fresh j) cs (sound_fresh j) (omega (arith, steps_number j)))

  pub run_taken : (cs : List ℕ) → taken j (fresh j) (run j cs) ≡ run j cs
  unfolding run
  run_taken cs = picks_taken j (step_count j) (fresh j) cs

  -- The state that a run leaves is that of all steps.
  pub run_reached : (cs : List ℕ) → run_state j cs ≡ reached j (run j cs)
  unfolding run_state reached run
  run_reached cs = picks_after j (step_count j) (fresh j) cs

  pub run_length : (cs : List ℕ) → length (run j cs) ≡ step_count j
  run_length cs = ap length (sym (run_taken cs)) ∙ all_length j r (run j cs) (run_done cs)

  pub run_sends : (cs : List ℕ) → over messages_of (run j cs) ≡ message_count j
  run_sends cs = ap (over messages_of) (sym (run_taken cs)) ∙ all_sends j r (run j cs) (run_done cs)
