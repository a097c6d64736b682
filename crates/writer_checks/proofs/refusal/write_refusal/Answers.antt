-- `writer_checks::refusal::write_refusal` meets its contract. Assumes nothing.
use mathlib.Core.Path.{sym, ◌∙◌}
use Rattle.format.proofs.Order.{writer_20, writer_job}
use Rattle.writer_checks.proofs.Joining.{long_enough}
use Rattle.writer_checks.proofs.refusal.write_refusal.Goals as goal

pub returns-then-short_writer : goal.returns-then-short_writer
returns-then-short_writer c = sym (writer_20 _ _ _ (sym c.short_writer.ensures ∙ c.if-short_writer.true))

pub job_refusal-requires : goal.job_refusal-requires
job_refusal-requires c = long_enough _ _ _ (sym c.short_writer.ensures ∙ c.if-short_writer.false)

pub returns : goal.returns
returns c = c.job_refusal.ensures ∙ sym (writer_job _ _ _ (sym c.short_writer.ensures ∙ c.if-short_writer.false))
