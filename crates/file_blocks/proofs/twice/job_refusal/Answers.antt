-- `file_blocks::twice::job_refusal` meets its contract. Assumes nothing.
use mathlib.Core.Path.{◌≡◌, refl, sym, ◌∙◌}
use native.Mathlib.Omega.{arith}
use Rattle.std.proofs.lemmas.Result.{err_from_is_err_and}
use Rattle.format.specs.File.{decode}
use Rattle.refusals.specs.Numbers.{number_of}
use Rattle.refusals.proofs.Numbers.{number_positive}
use Rattle.file_blocks.specs.Sound.{names_refusal}
use Rattle.file_blocks.proofs.Last.{last_names, last_9, last_0}
use Rattle.file_blocks.proofs.twice.job_refusal.Goals as goal

pub returns-in_err-names_refusal-clause-value : goal.returns-in_err-names_refusal-clause-value
returns-in_err-names_refusal-clause-value c =
    let p = err_from_is_err_and c.from_residual.result c.from_residual.ensures.1 in
    let x = c.in_err-names_refusal.field-0.0 in
    let e : number_of x ≡ names_refusal (decode c.args.file.now.bytes.now) = c.in_err-names_refusal.ensures.value in
    rw (p.1, p.2) (last_names _ _ e (λ z. omega (arith, number_positive x, z)))

pub returns-then-bags_twice-clause-value : goal.returns-then-bags_twice-clause-value
returns-then-bags_twice-clause-value c =
    let e : 0 ≡ names_refusal (decode c.args.file.now.bytes.now) = c.in_ok-names_refusal.ensures.value in
    last_9 _ _ e refl (sym c.bags_twice.ensures ∙ c.if-bags_twice.true)

pub returns : goal.returns
returns c =
    let e : 0 ≡ names_refusal (decode c.args.file.now.bytes.now) = c.in_ok-names_refusal.ensures.value in
    record {
      value = last_0 _ _ e refl (sym c.bags_twice.ensures ∙ c.if-bags_twice.false);
      placed = c.in_ok-names_refusal.ensures.placed;
    }
