-- `job_checks::checks::job_in_range` meets its contract: what each of the range checks ensures. Assumes nothing.
use mathlib.Core.Path.{ap, ◌∙◌}
use Prim.Native.Nat.{ℕ}
use Rattle.laws.specs.Limits.{max_price}
use Rattle.model.specs.Ranges.{up_to, sizes_in_range}
use Rattle.tables.specs.Lent.{job_held}
use Rattle.job_checks.proofs.Tested.{job_tested}
use Rattle.model.proofs.Whole.{job_whole}
use Rattle.job_checks.proofs.checks.job_in_range.Goals as goal

pub upto32-requires : goal.upto32-requires
upto32-requires c =
    rw c.list_words.ensures.0 (job_whole (job_held c.args.job.now) c.requires).price

pub under16-requires : goal.under16-requires
under16-requires c =
    (job_whole (job_held c.args.job.now) c.requires).offer_owner

pub under16-requires-2 : goal.under16-requires-2
under16-requires-2 c =
    (job_whole (job_held c.args.job.now) c.requires).grocer_owner

pub under16-requires-3 : goal.under16-requires-3
under16-requires-3 c =
    (job_whole (job_held c.args.job.now) c.requires).tally_grocer

pub under16-requires-4 : goal.under16-requires-4
under16-requires-4 c =
    (job_whole (job_held c.args.job.now) c.requires).tally_box

pub under16-requires-5 : goal.under16-requires-5
under16-requires-5 c =
    (job_whole (job_held c.args.job.now) c.requires).tally_offer

pub around32-requires : goal.around32-requires
around32-requires c =
    (job_whole (job_held c.args.job.now) c.requires).tally_count

pub returns : goal.returns
unfolding sizes_in_range
returns c =
    let job = job_held c.args.job.now in
    job_tested job c.sizes_in_range.result c.upto32.result c.under16.result c.under16-2.result c.under16-3.result c.under16-4.result
    c.under16-5.result c.around32.result c.sizes_in_range.ensures (c.upto32.ensures ∙ ap (λ (n : ℕ). up_to max_price n job.price) c.list_words.ensures.0)
    c.under16.ensures c.under16-2.ensures c.under16-3.ensures c.under16-4.ensures c.under16-5.ensures c.around32.ensures
