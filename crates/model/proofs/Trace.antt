-- What a list of requests leaves in the marks and in the count of words, from any state. Assumes nothing.
use mathlib.Core.Path.{◌≡◌, refl, ◌∙◌}
use mathlib.Core.Bool.{cond, ◌&&◌, ◌||◌}
use mathlib.Core.List.{List, [], ◌∷◌}
use Prim.Native.Nat.{ℕ, ◌+◌}
use native.Mathlib.Omega.{arith}
use lib.Dec.{eqb}
use Rattle.laws.proofs.Bools.{split, or_turn}
use Rattle.model.specs.Job.{Job}
use Rattle.model.specs.Steps.{Kind, send_prices, multiply_own, receive_prices, send_totals, add_own, receive_totals, kind_number, mark, State, effect, Step, done_by}
use Rattle.model.specs.Words.{words_of, over}
use Rattle.model.proofs.Machine.{attempt, attempt_all, taken, permits}
use Rattle.model.proofs.Reach.{effect_done}

effect_sent : (j : Job) (s : State) (k : Kind) (a b : ℕ) → (effect j s k a b).sent ≡ s.sent + words_of j k a b
unfolding effect words_of
effect_sent j s send_prices a b = refl
effect_sent j s multiply_own a b = omega arith
effect_sent j s receive_prices a b = omega arith
effect_sent j s send_totals a b = refl
effect_sent j s add_own a b = omega arith
effect_sent j s receive_totals a b = omega arith

module _ (j : Job) where
  one_done : (s : State) (q : Step) (rest : List Step) (k : Kind) (a b : ℕ) →
      (done_by rest k a b || (attempt j s q).done k a b) ≡ (done_by (cond (permits j s q) (q ∷ rest) rest) k a b || s.done k a b)
  unfolding attempt done_by mark
  one_done s q rest k a b =
      split (permits j s q)
      (λ e. rw (e, effect_done j s q.kind q.first q.second)
      (or_turn (eqb (kind_number k) (kind_number q.kind) && (eqb a q.first && eqb b q.second)) (done_by rest k a b) (s.done k a b)))
      (λ e. rw e)

  -- Done marks are the accepted requests, and those there were.
  pub trace_done : (s : State) (qs : List Step) (k : Kind) (a b : ℕ) → (attempt_all j s qs).done k a b ≡ (done_by (taken j s qs) k a b || s.done k a b)
  unfolding attempt_all taken done_by
  trace_done s [] k a b = refl
  trace_done s (q ∷ qs) k a b = trace_done (attempt j s q) qs k a b ∙ one_done s q (taken j (attempt j s q) qs) k a b

  one_sent : (s : State) (q : Step) (rest : List Step) →
      (attempt j s q).sent + over (words_of j) rest ≡ s.sent + over (words_of j) (cond (permits j s q) (q ∷ rest) rest)
  unfolding attempt over
  one_sent s q rest =
      split (permits j s q)
      (λ e. rw (e, effect_sent j s q.kind q.first q.second) (omega arith))
      (λ e. rw e)

  -- The count of words is what the accepted requests sent, and what there was.
  pub trace_sent : (s : State) (qs : List Step) → (attempt_all j s qs).sent ≡ s.sent + over (words_of j) (taken j s qs)
  unfolding attempt_all taken over
  trace_sent s [] = omega arith
  trace_sent s (q ∷ qs) = trace_sent (attempt j s q) qs ∙ one_sent s q (taken j (attempt j s q) qs)
