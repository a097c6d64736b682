-- `writer_checks::refusal::job_refusal` meets its contract. Assumes nothing.
use mathlib.Core.Path.{sym, ◌∙◌}
use Rattle.format.specs.Tables.{file_job_of}
use Rattle.format.proofs.Order.{job_4, job_6}
use Rattle.file_blocks.specs.Due.{as_head}
use Rattle.writer_checks.specs.Held.{held}
use Rattle.writer_checks.proofs.Joining.{has_names, has_bags, job_rest, names_in}
use Rattle.writer_checks.proofs.refusal.job_refusal.Goals as goal

pub returns-then-bad_sizes : goal.returns-then-bad_sizes
unfolding file_job_of
returns-then-bad_sizes c = sym (job_4 _ (sym c.bad_sizes.ensures ∙ c.if-bad_sizes.true))

pub returns-then-bad_records : goal.returns-then-bad_records
unfolding file_job_of
returns-then-bad_records c =
    let x = c.args.tables.now in
    sym (job_6 _ (sym c.bad_sizes.ensures ∙ c.if-bad_sizes.false)
    (sym (c.bad_records.ensures x.offer_issuer.now x.tally_issuer.now x.tally_bag.now x.tally_revision.now) ∙ c.if-bad_records.true))

pub last_refusal-requires-clause-names_in : goal.last_refusal-requires-clause-names_in
last_refusal-requires-clause-names_in c =
    let x = c.args.tables.now in
    names_in (as_head x.head) (held x) c.requires (sym c.bad_sizes.ensures ∙ c.if-bad_sizes.false)
    (sym (c.bad_records.ensures x.offer_issuer.now x.tally_issuer.now x.tally_bag.now x.tally_revision.now) ∙ c.if-bad_records.false)

pub returns : goal.returns
unfolding file_job_of
returns c =
    let x = c.args.tables.now in
    c.last_refusal.ensures _ (has_names (as_head x.head) (held x)) (has_bags (as_head x.head) (held x))
    ∙ sym (job_rest _ (sym c.bad_sizes.ensures ∙ c.if-bad_sizes.false)
    (sym (c.bad_records.ensures x.offer_issuer.now x.tally_issuer.now x.tally_bag.now x.tally_revision.now) ∙ c.if-bad_records.false))
