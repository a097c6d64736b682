-- `late::edit_all` meets its contract, column by column. Assumes nothing.
use mathlib.Core.Path.{ap, ◌∙◌}
use lib.IntN.{ℤ, pos}
use Rattle.laws.proofs.Signed.{read32}
use Rattle.format.specs.Bytes.{from}
use Rattle.late_edits.specs.Columns.{edit_entries}
use Rattle.late.proofs.Result.{code_bytes_lem}
use Rattle.late.proofs.edit_all.Goals as goal

pub returns-clause-left : goal.returns-clause-left
returns-clause-left c =
    record {
      grocer = c.edit.ensures 0;
      box = c.edit-2.ensures 0;
      code = c.edit_code.ensures;
      bytes = code_bytes_lem (from c.args.code.now 0);
      count = c.edit-3.ensures (pos 0) ∙ ap (λ (v : ℤ). edit_entries 1 c.args.p c.args.n (pos 0) (λ k. v) c.args.tables.now.tally_count.now)
          (read32 c.args.x.count c.struct_told-1.given.1.1.0.1);
      issuer = c.edit-4.ensures 0;
      bag = c.edit-5.ensures 0;
      revision = c.edit-6.ensures 0;
      places = c.edit-7.ensures 0;
    }
