-- `file_blocks::twice::any_bag` meets its contract. Assumes nothing.
use Rattle.std.proofs.Common.{rules}
use mathlib.Core.Path.{◌≡◌, ap, ◌∙◌}
use mathlib.Core.Bool.{not}
use Prim.Native.Nat.{ℕ, ◌+◌}
use lib.Dec.{eqb}
use Rattle.format.specs.Bytes.{from, word16}
use Rattle.format.specs.File.{record_at, decode}
use Rattle.file_blocks.proofs.ByPlace.{tested_by}
use Rattle.file_blocks.proofs.RecordWords.{tally_bag_lem}
use Rattle.file_blocks.proofs.twice.any_bag.Goals as goal

pub returns : goal.returns
returns c =
    let f = c.args.file.now.bytes.now in
    rw c.from-t.ensures at
    (tested_by (λ (i : ℕ). not (eqb ((decode f).tally i).bag 0)) _ c.any_by.ensures
    (λ i b l e. let t : b ≡ not (eqb (word16 (from f (record_at c.tallies_at-first.result i + 20))) 0) = search rules in
    t ∙ ap (λ (x : ℕ). not (eqb x 0)) (tally_bag_lem f i c.args.file.now.whole (ap (λ (k : ℕ). record_at k i) c.tallies_at-first.ensures))))
