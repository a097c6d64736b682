-- `run::totals_short` meets its contract. Assumes nothing.
use mathlib.Core.Path.{ap, ap₂, ◌∙◌}
use mathlib.Core.Bool.{◌||◌}
use Prim.Native.Nat.{ℕ, ◌*◌}
use native.Mathlib.Omega.{arith}
use lib.Dec.{ltb}
use lib.ListN.{length}
use Rattle.book_places.specs.Spots.{start_by}
use Rattle.run.proofs.totals_short.Goals as goal

pub returns : goal.returns
returns c =
    ap (λ (n : ℕ). ltb (length c.args.state.now.working.now) n || ltb (length c.args.state.now.total_transit.now) n)
    (c.words_at-words.ensures.0
    ∙ ap₂ ◌*◌
    (c.from-places.ensures ∙ c.box_start.ensures.0
    ∙ ap (λ (m : ℕ). start_by m c.args.job.now.grocer_owner.now c.args.sharers.now c.args.job.now.sizes.boxes) c.from-m.ensures)
    c.width_of.ensures.0)

pub box_start-requires : goal.box_start-requires
box_start-requires c =
    (rw c.from-m.ensures c.requires.0, c.requires.1.0)

pub words_at-words-requires : goal.words_at-words-requires
words_at-words-requires c =
    (omega (arith, c.from-places.ensures, c.box_start.ensures.1), c.width_of.ensures.1)

pub width_of-requires : goal.width_of-requires
width_of-requires c =
    c.requires.1.1
