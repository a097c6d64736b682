-- How many requests of a list are accepted, and how many steps a job has. Assumes nothing.
use mathlib.Core.Path.{◌≡◌, refl, ◌∙◌}
use mathlib.Core.Bool.{Bool, true, false, cond}
use mathlib.Core.List.{List, [], ◌∷◌}
use Prim.Native.Nat.{ℕ, ◌+◌, ◌<◌, ◌≤◌}
use native.Mathlib.Omega.{arith}
use lib.Dec.{eqb}
use lib.ListN.{length}
use borrow.Author.Tests.{lt-ltb}
use Rattle.laws.specs.Below.{naturals, sum, only, count}
use Rattle.laws.proofs.Bools.{split, and_one}
use Rattle.laws.proofs.Sums.{sum_cong, sum_swap, sum_pick, sum_ones}
use Rattle.model.specs.Job.{Job, prices_due, totals_due}
use Rattle.model.specs.Steps.{Kind, send_prices, multiply_own, receive_prices, send_totals, add_own, receive_totals, kind_of, Steps, mark, State, fits, has_step, Step}
use Rattle.model.specs.Words.{message_count, over, step_count, messages_of}
use Rattle.model.specs.Demand3.{AllDone}
use Rattle.model.specs.Boxes.{Closed}
use Rattle.model.proofs.Marks as M
use Rattle.model.proofs.Machine.{kinds, attempt, attempt_all, taken, size_of, size, permits}
use Rattle.model.proofs.Reach.{effect_done}
use Rattle.model.proofs.Core.{Permit, permit, first<, second<}

-- One step more is one more of its kind,
grows : (j : Job) (d : Steps) (k : Kind) (a b : ℕ) → d k a b ≡ false → a < j.boxes → b < j.boxes → size_of j (mark d k a b) k ≡ size_of j d k + 1
unfolding mark
grows j = M.grows kinds j.boxes

-- and one more of all.
pub size_mark : (j : Job) (d : Steps) (k : Kind) (a b : ℕ) → d k a b ≡ false → a < j.boxes → b < j.boxes → size j (mark d k a b) ≡ size j d + 1
unfolding mark
size_mark j = M.size_mark kinds j.boxes

module _ (j : Job) where
  -- What steps add up to, and a measure of the set of done steps that grows by as much with each permitted step.
  module _ (f : Kind → ℕ → ℕ → ℕ) (m : Steps → ℕ) (grow : (d : Steps) (k : Kind) (a b : ℕ) → Permit j d k a b → m (mark d k a b) ≡ m d + f k a b) where
    one_over : (s : State) (q : Step) (rest : List Step) → over f rest + m (attempt j s q).done ≡ over f (cond (permits j s q) (q ∷ rest) rest) + m s.done
    unfolding attempt permits over
    one_over s q rest =
        split (permits j s q)
        (λ e. rw (e, effect_done j s q.kind q.first q.second, grow s.done q.kind q.first q.second (permit j s.done q.kind q.first q.second e)) (omega arith))
        (λ e. rw e)

    pub trace_over : (s : State) (qs : List Step) → m (attempt_all j s qs).done ≡ over f (taken j s qs) + m s.done
    unfolding attempt_all taken over
    trace_over s [] = omega arith
    trace_over s (q ∷ qs) = trace_over (attempt j s q) qs ∙ one_over s q (taken j (attempt j s q) qs)

  permit_size : (d : Steps) (k : Kind) (a b : ℕ) → Permit j d k a b → size j (mark d k a b) ≡ size j d + 1
  permit_size d k a b p = size_mark j d k a b p.fresh_one (first< j k a b p.has) (second< j k a b p.has)

  over_ones : (qs : List Step) → over (λ k a b. 1) qs ≡ length qs
  unfolding over
  over_ones [] = refl
  over_ones (q ∷ qs) = rw (over_ones qs) (omega arith)

  pub trace_size : (s : State) (qs : List Step) → size j (attempt_all j s qs).done ≡ length (taken j s qs) + size j s.done
  trace_size s qs = trace_over (λ k a b. 1) (size j) permit_size s qs ∙ rw (over_ones (taken j s qs))

  -- Messages: one more for each step 1 and each step 4.
  unfoldable pub sent_size : Steps → ℕ
  sent_size d = size_of j d send_prices + size_of j d send_totals

  permit_sends : (d : Steps) (k : Kind) (a b : ℕ) → Permit j d k a b → sent_size (mark d k a b) ≡ sent_size d + messages_of k a b
  unfolding sent_size M.size_of mark messages_of
  permit_sends d send_prices a b p = omega (arith, grows j d send_prices a b p.fresh_one (first< j send_prices a b p.has) (second< j send_prices a b p.has))
  permit_sends d multiply_own a b p = omega arith
  permit_sends d receive_prices a b p = omega arith
  permit_sends d send_totals a b p = omega (arith, grows j d send_totals a b p.fresh_one (first< j send_totals a b p.has) (second< j send_totals a b p.has))
  permit_sends d add_own a b p = omega arith
  permit_sends d receive_totals a b p = omega arith

  pub trace_sends : (s : State) (qs : List Step) → sent_size (attempt_all j s qs).done ≡ over messages_of (taken j s qs) + sent_size s.done
  trace_sends s qs = trace_over messages_of sent_size permit_sends s qs

  pub sends_none : sent_size (λ k a b. false) ≡ 0
  unfolding sent_size
  sends_none = omega (arith, M.none_of kinds j.boxes send_prices, M.none_of kinds j.boxes send_totals)

  pub size_none : size j (λ k a b. false) ≡ 0
  size_none = M.size_none kinds j.boxes

module _ (j : Job) where
  -- In the job's own boxes the bounds pass.
  inside : (k : Kind) (p : ℕ → ℕ → Bool) → ((a b : ℕ) → fits j k a b ≡ p a b) → size_of j (has_step j) k ≡ sum naturals j.boxes (λ a. count j.boxes (λ b. p a b))
  unfolding M.size_of count has_step
  inside k p e =
      sum_cong naturals j.boxes (λ a. sum naturals j.boxes (λ b. only naturals (has_step j k a b) 1)) (λ a. sum naturals j.boxes (λ b. only naturals (p a b) 1))
      (λ a l. sum_cong naturals j.boxes (λ b. only naturals (has_step j k a b) 1) (λ b. only naturals (p a b) 1)
      (λ b m. simp (lt-ltb a j.boxes l, lt-ltb b j.boxes m, e a b)))

  turned : (p : ℕ → ℕ → Bool) → sum naturals j.boxes (λ a. count j.boxes (λ b. p b a)) ≡ sum naturals j.boxes (λ a. count j.boxes (λ b. p a b))
  unfolding count
  turned p = sum_swap naturals j.boxes j.boxes (λ a b. only naturals (p b a) 1)

  own_boxes : sum naturals j.boxes (λ a. count j.boxes (λ b. eqb a b)) ≡ j.boxes
  unfolding count only
  own_boxes =
      sum_cong naturals j.boxes (λ a. sum naturals j.boxes (λ b. only naturals (eqb a b) 1)) (λ a. 1)
      (λ a l. simp and_one at (sum_pick naturals j.boxes a true 1 l))
      ∙ sum_ones j.boxes

  -- A job has 2 × K + 2 × (messages) steps.
  pub steps_number : size j (has_step j) ≡ step_count j
  unfolding M.size sum naturals kind_of step_count message_count fits
  steps_number =
      omega (
        arith,
        inside send_prices (prices_due j) (λ a b. refl),
        inside multiply_own eqb (λ a b. refl),
        inside receive_prices (λ a b. prices_due j b a) (λ a b. refl),
        inside send_totals (totals_due j) (λ a b. refl),
        inside add_own eqb (λ a b. refl),
        inside receive_totals (λ a b. totals_due j b a) (λ a b. refl),
        turned (prices_due j),
        turned (totals_due j),
        own_boxes,
      )

-- The messages of the job are its steps 1 and 4.
pub sends_number : (j : Job) → sent_size j (has_step j) ≡ message_count j
unfolding sent_size message_count fits
sends_number j = omega (arith, inside j send_prices (prices_due j) (λ a b. refl), inside j send_totals (totals_due j) (λ a b. refl))

-- As many steps done as the job has: all are done.
pub all_of_size : (j : Job) (d : Steps) → Closed j d → size j d ≡ size j (has_step j) → AllDone j d
unfolding AllDone
all_of_size j d c h k a b e = M.size_tight kinds j.boxes d (has_step j) c.steps (omega arith) k a b (first< j k a b e) (second< j k a b e) e

pub size_le : (j : Job) (d e : Steps) → ((k : Kind) (a b : ℕ) → d k a b ≡ true → e k a b ≡ true) → size j d ≤ size j e
size_le j = M.size_le kinds j.boxes
