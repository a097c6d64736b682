-- `reader::refusal` meets its contract. Assumes nothing.
use mathlib.Core.Path.{sym, ◌∙◌}
use Rattle.std.proofs.lemmas.Result.{on_ok_weaker}
use Rattle.reader.proofs.Results.{short_refused, file_decides}
use Rattle.reader.proofs.refusal.Goals as goal

pub returns-then-short_tables : goal.returns-then-short_tables
returns-then-short_tables c =
    record {
      value = short_refused _ _ (sym c.short_tables.ensures ∙ c.if-short_tables.true);
      kept = tt;
    }

pub returns : goal.returns
returns c =
    let long = sym c.short_tables.ensures ∙ c.if-short_tables.false in
    record {
      value = file_decides _ _ _ long c.file_refusal.ensures.value;
      kept = on_ok_weaker c.file_refusal.result (λ k. (long, k)) c.file_refusal.ensures.kept;
    }
