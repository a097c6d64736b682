-- `writer_checks::codes::index_names` meets its contract. Assumes nothing.
use Rattle.std.proofs.Common.{rules}
use native.Mathlib.Omega.{arith}
use Rattle.laws.proofs.Tables.{filled_right}
use Rattle.format.specs.Codes.{name_number}
use Rattle.format.specs.Tables.{name_in}
use Rattle.file_blocks.proofs.ByPlace.{filled_by}
use Rattle.writer_checks.proofs.codes.index_names.Goals as goal

pub returns : goal.returns
returns c =
    let a = c.args in
    record {
      numbers = _;
      index = c.build.ensures;
      right = filled_right 0 (λ i. name_number (name_in a.code.now a.issuer.now i)) _ _ _
          (filled_by 0 (λ i. name_number (name_in a.code.now a.issuer.now i)) c.fill_by.ensures (omega arith) c.fill_by.auto.table (λ i v l e. search rules));
    }
