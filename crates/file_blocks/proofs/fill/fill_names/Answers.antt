-- `file_blocks::fill::fill_names` meets its contract. Assumes nothing.
use Rattle.std.proofs.Common.{rules}
use Prim.Native.Nat.{ℕ}
use Rattle.format.specs.Codes.{name_number}
use Rattle.format.specs.Job.{offer_name}
use Rattle.format.specs.File.{decode}
use Rattle.file_blocks.proofs.ByPlace.{filled_by}
use Rattle.file_blocks.proofs.fill.fill_names.Goals as goal

pub returns : goal.returns
returns c =
    let g = λ (i : ℕ). name_number (offer_name (decode c.args.file.now.bytes.now) i) in
    rw c.from.ensures at (filled_by 0 g c.fill_by.ensures (rw c.from.ensures c.requires.numbers_long) c.fill_by.auto.table (λ i v l e. search rules))
