-- `book::refusal` meets its contract. Assumes nothing.
use mathlib.Core.Path.{◌≡◌, sym, ◌∙◌}
use native.Mathlib.Omega.{arith}
use Rattle.std.proofs.lemmas.Result.{err_from_is_err_and}
use Rattle.laws.specs.Checks.{first_met}
use Rattle.refusals.specs.Numbers.{number}
use Rattle.refusals.proofs.Numbers.{number_positive}
use Rattle.model.specs.Local.{job_refusals}
use Rattle.tables.specs.Lent.{job_held}
use Rattle.book.proofs.Ready.{met_20, met_job, met_23, met_none}
use Rattle.book.proofs.refusal.Goals as goal

pub returns-then-short-clause-value : goal.returns-then-short-clause-value
returns-then-short-clause-value c =
    λ n es. met_20 (job_held c.args.job.now) n c.args.b (sym es ∙ c.if-short.true)

pub returns-in_err-job_refusal-clause-value : goal.returns-in_err-job_refusal-clause-value
returns-in_err-job_refusal-clause-value c =
    let p = err_from_is_err_and c.from_residual.result c.from_residual.ensures.1 in
    let e : number c.from_residual.result ≡ first_met (job_refusals (job_held c.args.job.now)) = rw (p.1, p.2) c.in_err-job_refusal.ensures.value in
    λ n es. e ∙ met_job (job_held c.args.job.now) n c.args.b (sym es ∙ c.if-short.false)
    (λ z. omega (arith, number_positive c.in_err-job_refusal.field-0.0, c.in_err-job_refusal.ensures.value, z))

pub returns-then-b-job-clause-value : goal.returns-then-b-job-clause-value
returns-then-b-job-clause-value c =
    λ n es. met_23 (job_held c.args.job.now) n c.args.b (sym es ∙ c.if-short.false) (sym c.in_ok-job_refusal.ensures.value) c.if-b-job.true

pub returns-clause-value : goal.returns-clause-value
returns-clause-value c =
    λ n es. met_none (job_held c.args.job.now) n c.args.b (sym es ∙ c.if-short.false) (sym c.in_ok-job_refusal.ensures.value) c.if-b-job.false
