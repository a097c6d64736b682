-- The state that a list of steps leaves is the closed form of the steps done in it. Assumes nothing.
use mathlib.Core.Path.{◌≡◌, sym, ap, ◌∙◌}
use mathlib.Core.List.{List}
use native.Mathlib.Omega.{arith}
use lib.ListN.{length}
use Rattle.laws.proofs.Bools.{or_false}
use Rattle.model.specs.Job.{Job}
use Rattle.model.specs.Steps.{has_step, fresh, Step, done_by}
use Rattle.model.specs.Demand3.{AllDone}
use Rattle.model.specs.Words.{over, message_count, step_count, messages_of}
use Rattle.model.proofs.Range.{InRange}
use Rattle.model.specs.Boxes.{state_by_rules, Closed, Sound}
use Rattle.model.proofs.Machine.{taken, size, done_of, reached}
use Rattle.model.proofs.Reach.{sound_all, sound_fresh}
use Rattle.model.proofs.Trace.{trace_done}
use Rattle.model.proofs.Finish.{all_steps}
use Rattle.model.proofs.Counting.{trace_size, size_none, sent_size, trace_sends, sends_none, steps_number, sends_number}

module _ (j : Job) (r : InRange j) (qs : List Step) where
  -- The marks of the state are the steps done in the list.
  pub marked : (reached j qs).done ≡ done_of j qs
  unfolding reached done_of fresh
  marked = λ i k a b. (trace_done j (fresh j) qs k a b ∙ or_false (done_by (taken j (fresh j) qs) k a b)) i

  pub sound : Sound j (reached j qs)
  unfolding reached
  sound = sound_all j r (fresh j) qs (sound_fresh j)

  -- The state is that of the steps done.
  pub form : reached j qs ≡ state_by_rules j (done_of j qs)
  form = sound.form ∙ ap (state_by_rules j) marked

  pub closed : Closed j (done_of j qs)
  closed = rw marked at sound.closed

  pub taken_size : size j (done_of j qs) ≡ length (taken j (fresh j) qs)
  unfolding reached fresh
  taken_size = ap (size j) (sym marked) ∙ trace_size j (fresh j) qs ∙ rw (size_none j) (omega arith)

  -- All done: the state is that of all steps.
  pub all_reached : AllDone j (done_of j qs) → reached j qs ≡ state_by_rules j (has_step j)
  all_reached f = form ∙ ap (state_by_rules j) (all_steps j (done_of j qs) closed f)

  -- As many steps are taken as the job has, and as many messages sent.
  pub all_length : AllDone j (done_of j qs) → length (taken j (fresh j) qs) ≡ step_count j
  all_length f = sym taken_size ∙ ap (size j) (all_steps j (done_of j qs) closed f) ∙ steps_number j

  pub all_sends : AllDone j (done_of j qs) → over messages_of (taken j (fresh j) qs) ≡ message_count j
  unfolding reached fresh
  all_sends f =
      sym (ap (sent_size j) (sym marked) ∙ trace_sends j (fresh j) qs ∙ rw (sends_none j) (omega arith))
      ∙ ap (sent_size j) (all_steps j (done_of j qs) closed f)
      ∙ sends_number j
