-- `settle::due::due_order` meets its contract. Assumes nothing.
use mathlib.Core.Path.{ap₂, ◌∙◌}
use mathlib.Core.List.{List}
use Prim.Native.Nat.{ℕ, ◌*◌}
use Rattle.laws.specs.Below.{ascending}
use Rattle.job_masks.specs.Due.{due_at}
use Rattle.settle.proofs.due.due_order.Goals as goal

pub returns : goal.returns
returns c =
    let k = c.args.job.now.sizes.boxes in
    (c.put_due.ensures.0, c.put_due.ensures.1, c.put_due.ensures.2 ∙ ap₂ (λ (x y : List ℕ). ascending (6 * k * k) (due_at k x y)) c.by_owner-receivers.ensures c.by_owner-senders.ensures)
