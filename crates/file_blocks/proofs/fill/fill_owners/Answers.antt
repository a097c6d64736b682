-- `file_blocks::fill::fill_owners` meets its contract. Assumes nothing.
use Rattle.std.proofs.Common.{rules}
use mathlib.Core.Path.{◌≡◌, ap, ◌∙◌}
use Prim.Native.Nat.{ℕ, ◌+◌, ◌*◌}
use lib.ListN.{get_or}
use Rattle.format.specs.File.{decode}
use Rattle.file_blocks.proofs.ByPlace.{filled_by}
use Rattle.file_blocks.proofs.RecordWords.{grocer_owner_lem}
use Rattle.file_blocks.proofs.fill.fill_owners.Goals as goal

pub returns : goal.returns
returns c =
    let f = c.args.file.now.bytes.now in
    let at = ap (λ (k : ℕ). 512 * k + 4) c.grocers_at.ensures in
    rw c.from-m.ensures at
    (filled_by 0 (decode f).grocer_owner c.fill_by.ensures (rw c.from-m.ensures c.requires) c.fill_by.auto.table
    (λ i v l e. let t : v ≡ get_or f (512 * c.grocers_at.result + 4 + i) 0 = search rules in t ∙ grocer_owner_lem f i c.args.file.now.whole at))
