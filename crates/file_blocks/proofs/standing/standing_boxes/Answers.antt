-- `file_blocks::standing::standing_boxes` meets its contract. Assumes nothing.
use mathlib.Core.Path.{◌≡◌, sym, ap, ◌∙◌, subst}
use mathlib.Core.Bool.{not}
use mathlib.Core.List.{List}
use Prim.Native.Nat.{ℕ}
use native.Mathlib.Omega.{arith}
use lib.Dec.{eqb}
use lib.ListN.{get_or}
use Rattle.laws.specs.Below.{any}
use Rattle.laws.specs.Tables.{overwrite}
use Rattle.format.specs.Job.{Head, counted_tallies}
use Rattle.format.specs.Blocks.{tallies_at}
use Rattle.format.specs.File.{decode}
use Rattle.index.specs.Bags.{Struck}
use Rattle.index.proofs.Loose.{loose_struck}
use Rattle.file_blocks.proofs.Fields.{tally_boxes}
use Rattle.file_blocks.proofs.Last.{all_loose}
use Rattle.file_blocks.proofs.standing.standing_boxes.Goals as goal

pub returns-then-any_bag : goal.returns-then-any_bag
returns-then-any_bag c =
    let boxes : c.fill_bytes.new.words ≡ overwrite c.args.file.now.head.sizes.tallies (λ i. ((decode c.args.file.now.bytes.now).tally i).box) c.args.boxes.now =
    tally_boxes c.args.file.now.bytes.now _ _ (c.tallies_at.ensures ∙ ap tallies_at c.args.file.now.whole.says) (rw c.from-t.ensures at c.fill_bytes.ensures) in
    subst (λ (l : List ℕ). Struck (counted_tallies (decode c.args.file.now.bytes.now)) c.args.file.now.head.sizes.tallies l c.strike_keys.new.boxes) boxes c.strike_keys.ensures

pub returns-else-any_bag : goal.returns-else-any_bag
unfolding counted_tallies
returns-else-any_bag c =
    let boxes : c.fill_bytes.new.words ≡ overwrite c.args.file.now.head.sizes.tallies (λ i. ((decode c.args.file.now.bytes.now).tally i).box) c.args.boxes.now =
    tally_boxes c.args.file.now.bytes.now _ _ (c.tallies_at.ensures ∙ ap tallies_at c.args.file.now.whole.says) (rw c.from-t.ensures at c.fill_bytes.ensures) in
    let f = c.args.file.now.bytes.now in
    let says = c.args.file.now.whole.says in
    let n = ap (λ (h : Head). any h.tallies (λ t. not (eqb ((decode f).tally t).bag 0))) (sym says) in
    loose_struck (counted_tallies (decode f)) (all_loose (decode f) (n ∙ sym c.any_bag.ensures ∙ c.if-any_bag.false)) (ap (λ (h : Head). h.tallies) (sym says)) _ _
    (omega (arith, c.fill_bytes.auto.words, c.requires.tallies_in_bounds.1))
    (λ i l. ap (λ (l : List ℕ). get_or l i 0) boxes)
