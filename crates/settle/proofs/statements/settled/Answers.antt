-- `settle::statements::settled` meets its contract, by the file's refusal. Assumes nothing.
use mathlib.Core.Path.{sym, ap, ◌∙◌}
use Rattle.refusals.proofs.Numbers.{number_positive}
use Rattle.file_blocks.proofs.Shapes.{has_header}
use Rattle.printing.specs.Printed.{refused_text}
use Rattle.printing.proofs.Blank.{printed_refusal}
use Rattle.settle_text.proofs.Puts.{reworded, shown}
use Rattle.settle.proofs.statements.settled.Goals as goal
use native.Mathlib.Omega.{arith}

pub returns-in-Err : goal.returns-in-Err
returns-in-Err c =
    let e = c.in-Err.ensures.value in
    let s = shown (reworded (ap refused_text (c.number.ensures ∙ e) ∙ sym (printed_refusal _ (λ z. omega (arith, z, e, number_positive c.in-Err.refusal)))) c.put_refused.ensures) in
    record { prefix_len = s.0; out_after = s.1.0; out_unchanged = s.1.1 }

pub read_head-requires : goal.read_head-requires
read_head-requires c =
    has_header c.in-Ok.ensures.kept.sound

pub put_job-requires : goal.put_job-requires
put_job-requires c =
    (c.read_head.ensures, (sym c.in-Ok.ensures.value, c.in-Ok.ensures.kept))

pub returns-in-Ok : goal.returns-in-Ok
returns-in-Ok c =
    let s = shown c.put_job.ensures in
    record { prefix_len = s.0; out_after = s.1.0; out_unchanged = s.1.1 }
