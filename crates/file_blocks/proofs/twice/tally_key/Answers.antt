-- `file_blocks::twice::tally_key` meets its contract. Assumes nothing.
use mathlib.Core.Path.{◌∙◌}
use native.Mathlib.Omega.{arith}
use Rattle.file_blocks.proofs.twice.tally_key.Goals as goal

pub returns : goal.returns
returns c =
    record {
      value = c.count_key.ensures ∙ rw (c.narrow16.ensures, c.narrow16-2.ensures, c.narrow16-3.ensures);
      fits = (omega (arith, c.narrow16-2.ensures, c.narrow16-2.type_inv), omega (arith, c.narrow16-3.ensures, c.narrow16-3.type_inv));
    }
