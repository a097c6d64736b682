-- `job_masks::masks::holders` meets its contract: the words are those of the tallies passed. Assumes nothing.
use mathlib.Core.Path.{sym, ap, ◌∙◌}
use mathlib.Core.List.{List}
use Prim.Native.Nat.{ℕ}
use lib.ListN.{get_or, length-replicate}
use Rattle.std.proofs.Common.{arith}
use Rattle.laws.proofs.Rows.{get_d_same}
use Rattle.laws.proofs.Tables.{is_tabulate}
use Rattle.job_masks.specs.Masks.{holder_word}
use Rattle.job_masks.proofs.Holders.{holder_none, holder_more}
use Rattle.job_masks.proofs.masks.holders.Goals as goal

pub loop-t-init : goal.loop-t-init
loop-t-init g c =
    (length-replicate g.row.SIZE 0, λ p l. get_d_same g.row.SIZE p 0 ∙ sym (holder_none c.args.boxes c.args.tally_box.now c.args.places.now p))

pub mark-requires : goal.mark-requires
mark-requires g c =
    let t = c.loop-t.t in
    (c.requires.boxes≤, rw (c.loop-t.invariant.0, c.u16_at-in-loop-t.ensures) (c.requires.place< t (omega arith)))

pub loop-t-preserved : goal.loop-t-preserved
loop-t-preserved g c =
    let t = c.loop-t.t in
    let long = c.loop-t.invariant.0 in (
      c.mark.auto.masks ∙ long,
      λ p l. ap (λ (x : List ℕ). get_or x p 0) c.mark.ensures
          ∙ rw (c.u16_at.ensures, c.u16_at-in-loop-t.ensures)
          (holder_more c.args.boxes c.args.tally_box.now c.args.places.now c.loop-t.masks t c.requires.boxes≤ (rw long (c.requires.place< t (omega arith))) (λ q m. c.loop-t.invariant.1 q (rw long at m)) p (rw long l)),
    )

pub returns : goal.returns
returns g c =
    is_tabulate c.loop-t.masks g.row.SIZE (holder_word c.args.boxes c.args.tallies c.args.tally_box.now c.args.places.now) 0 c.loop-t.invariant.0
    (λ p l. c.loop-t.invariant.1 p l ∙ ap (λ (n : ℕ). holder_word c.args.boxes n c.args.tally_box.now c.args.places.now p) (omega arith))
