-- How many steps a job has at most. Assumes nothing.
use Prim.Native.Nat.{◌≤◌}
use native.Mathlib.Omega.{arith}
use native.Mathlib.Nat.{mul-le-mul}
use Rattle.laws.specs.Below.{count}
use Rattle.laws.proofs.Sums.{sum_max}
use Rattle.laws.proofs.Below.{count_le}
use Rattle.model.specs.Job.{Job, prices_due, totals_due}
use Rattle.model.specs.Words.{message_count, step_count}

-- At most 16 boxes have at most 512 messages.
pub messages_few : (j : Job) → j.boxes ≤ 16 → message_count j ≤ 512
unfolding message_count
messages_few j l =
    omega (
      arith,
      sum_max j.boxes j.boxes (λ a. count j.boxes (λ b. prices_due j a b)) (λ a l. count_le j.boxes (λ b. prices_due j a b)),
      sum_max j.boxes j.boxes (λ a. count j.boxes (λ b. totals_due j a b)) (λ a l. count_le j.boxes (λ b. totals_due j a b)),
      mul-le-mul l l,
    )

-- So they have at most 1,056 steps.
pub steps_few : (j : Job) → j.boxes ≤ 16 → step_count j ≤ 1056
unfolding step_count
steps_few j l = omega (arith, messages_few j l)
