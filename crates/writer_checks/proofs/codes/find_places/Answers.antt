-- `writer_checks::codes::find_places` meets its contract. The invariant: the first i tallies name offers, whose places are kept. Assumes nothing.
use mathlib.Core.Path.{◌≡◌, refl, sym}
use Prim.Native.Nat.{◌<◌}
use native.Mathlib.Omega.{arith}
use lib.ListN.{length-set}
use Rattle.format.specs.Job.{place_of}
use Rattle.file_blocks.proofs.Looked.{none_yet, named_more, unnamed_hit, unnamed_end, placed_none, placed_more, placed_end}
use Rattle.writer_checks.proofs.codes.find_places.Goals as goal

pub loop-i-init : goal.loop-i-init
loop-i-init c = (refl, λ j f. (none_yet j, placed_none j _))

pub returns-in-None-clause-value : goal.returns-in-None-clause-value
returns-in-None-clause-value c = λ j f e.
    let x = c.args.tables.now in
    rw (unnamed_hit j x.head.sizes.offers c.loop-i.i _ x.head.sizes.tallies (sym f.size) (sym e) refl (c.in-None.ensures j f) (omega arith))

pub loop-i-preserved : goal.loop-i-preserved
loop-i-preserved c =
    let n = c.args.tables.now.head.sizes.offers in (
      simp length-set c.loop-i.invariant.0,
      λ j f.
          let found : (place_of j c.loop-i.i ≡ c.in-Some.p) × (c.in-Some.p < n) = c.in-Some.ensures j f in
          let inv = c.loop-i.invariant.1 j f in (
            named_more j n c.loop-i.i c.in-Some.p (sym f.size) (sym found.0) (λ e. omega arith) inv.0,
            placed_more _ inv.1 (omega arith) (sym found.0),
          ),
    )

pub returns-clause-value : goal.returns-clause-value
returns-clause-value c = λ j f e.
    rw (unnamed_end j c.loop-i.i c.args.tables.now.head.sizes.tallies (omega arith) (omega arith) (sym e) (c.loop-i.invariant.1 j f).0)

pub returns-clause-placed : goal.returns-clause-placed
returns-clause-placed c = λ j f. placed_end c.loop-i.i c.args.tables.now.head.sizes.tallies (omega arith) (omega arith) (c.loop-i.invariant.1 j f).1
