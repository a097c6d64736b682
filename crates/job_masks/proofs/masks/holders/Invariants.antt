-- `job_masks::masks::holders` meets its contract: the words are those of the tallies passed. Assumes nothing.
use mathlib.Core.Path.{◌≡◌}
use Prim.Native.Nat.{ℕ, ◌<◌}
use lib.ListN.{length, get_or}
use Rattle.job_masks.specs.Masks.{holder_word}
use Rattle.job_masks.proofs.masks.holders.Given as goal

abbrev pub invariant-loop-t : goal.invariant-loop-t
invariant-loop-t g l =
    (length l.masks ≡ g.row.SIZE) × ((p : ℕ) → p < g.row.SIZE → get_or l.masks p 0 ≡ holder_word l.boxes l.t l.tally_box l.places p)
