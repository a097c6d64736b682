-- `step_links::link_pairs` meets its contract. The invariant: the entries from i on are linked. Assumes nothing.
use mathlib.Core.Path.{◌≡◌}
use lib.ListN.{length}
use Rattle.step_links.specs.Links.{pair_at}
use Rattle.step_links.proofs.Walks.{LinkedFrom}
use Rattle.step_links.proofs.link_pairs.Given as goal

abbrev pub invariant-loop-i : goal.invariant-loop-i
invariant-loop-i l =
    (length l.links ≡ length l.initial.links) × LinkedFrom 272 l.n (pair_at l.boxes l.places l.owners) l.i l.links
