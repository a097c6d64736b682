-- `writer::write` meets its contract. Assumes nothing.
use mathlib.Core.Path.{sym}
use native.Mathlib.Omega.{arith}
use Rattle.std.proofs.lemmas.Result.{err_from_is_err_and}
use Rattle.refusals.specs.Numbers.{number_of}
use Rattle.refusals.proofs.Numbers.{number_positive}
use Rattle.file_blocks.specs.Due.{as_head}
use Rattle.writer_checks.specs.Held.{held}
use Rattle.writer.proofs.Written.{ready, refused_is, written_is}
use Rattle.writer.proofs.write.Goals as goal

pub returns-in_err-write_refusal : goal.returns-in_err-write_refusal
returns-in_err-write_refusal c =
    let x = c.args.tables.now in
    let p = err_from_is_err_and c.from_residual.result c.from_residual.ensures.1 in
    let r = c.in_err-write_refusal.field-0.0 in
    let l = number_positive r in
    rw (p.1, p.2) (refused_is (as_head x.head) (held x) c.args.out.now (number_of r) c.in_err-write_refusal.ensures (λ z. omega arith))

pub put_file-requires : goal.put_file-requires
put_file-requires c =
    let x = c.args.tables.now in
    ready (as_head x.head) (held x) c.args.out.now (sym c.in_ok-write_refusal.ensures)

pub returns : goal.returns
returns c =
    let x = c.args.tables.now in
    written_is (as_head x.head) (held x) c.args.out.now (sym c.in_ok-write_refusal.ensures) _ _ c.file_length.ensures c.put_file.ensures
