-- `run_steps::sent_more` meets its contract: a step sends one message at most. Assumes nothing.
use mathlib.Core.Path.{refl, ap}
use Prim.Native.Nat.{ℕ, ◌+◌}
use native.Mathlib.Omega.{arith}
use Rattle.model.specs.Steps.{kind_of}
use Rattle.step_places.proofs.Sends.{one_each}
use Rattle.run_steps.proofs.sent_more.Goals as goal

pub overflow_add-result-2 : goal.overflow_add-result-2
overflow_add-result-2 c =
    omega (arith, c.requires.3, c.sent_by.ensures 0 0, one_each (kind_of c.args.kind) 0 0)

pub returns : goal.returns
returns c =
    (refl, λ a b. ap (λ (n : ℕ). c.args.sent.messages + n) (c.sent_by.ensures a b))
