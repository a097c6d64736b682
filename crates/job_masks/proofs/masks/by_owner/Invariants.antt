-- `job_masks::masks::by_owner` meets its contract: the words are those of the places passed. Assumes nothing.
use mathlib.Core.Path.{◌≡◌}
use Rattle.job_masks.specs.Masks.{by_owner}
use Rattle.job_masks.proofs.masks.by_owner.Given as goal

abbrev pub invariant-loop-i : goal.invariant-loop-i
invariant-loop-i l = l.words ≡ by_owner l.i l.owners l.masks
