-- `late::run_edited` meets its contract: the run of the job that the tables hold. Assumes nothing.
use mathlib.Core.Path.{◌≡◌, refl, ap₂, ◌∙◌}
use Rattle.format.specs.Tables.{ReaderTables}
use Rattle.slices.specs.declared.sizes.Sizes.{Sizes}
use Rattle.tables.specs.Lent.{job_held, state_held}
use Rattle.run.specs.Run.{answer_of}
use Rattle.late_rules.specs.Edit.{job_in}
use Rattle.late.specs.Calls.{sizes_head}
use Rattle.late.specs.Lent.{reader_now}
use Rattle.late.proofs.Result.{outcome}
use Rattle.late.proofs.run_edited.Goals as goal

pub returns-clause-ran : goal.returns-clause-ran
returns-clause-ran c =
    let z = c.args.sizes in
    let l = reader_now c.args.tables.now in
    let job_is : job_held c.run_job-job.result ≡ job_in (sizes_head c.args.sizes) (reader_now c.args.tables.now) =
    c.run_job-job.ensures ∙ ap₂ (λ (z : Sizes) (r : ReaderTables). job_in (sizes_head z) r) c.lent-present.ensures.0 c.lent-present.ensures.1 in
    outcome z.tallies (sizes_head z) (state_held c.args.state.now) _ (answer_of c.run-done.result) l l _ _ _ c.told.ensures refl (rw job_is at c.run-done.ensures.ran)
