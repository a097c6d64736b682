-- `reader::read` meets its contract. Assumes nothing.
use mathlib.Core.Path.{◌≡◌, refl, sym}
use mathlib.Core.Bool.{false}
use native.Mathlib.Omega.{arith}
use Rattle.std.proofs.lemmas.Result.{err_from_is_err_and}
use Rattle.format.specs.Tables.{short_reader, read_refusal}
use Rattle.refusals.specs.Numbers.{number_of}
use Rattle.refusals.proofs.Numbers.{number_positive}
use Rattle.file_blocks.specs.Sound.{Kept}
use Rattle.file_blocks.proofs.Shapes.{sound_read}
use Rattle.reader.specs.Lent.{held}
use Rattle.reader.proofs.Results.{room, read_refusal_lem, read_job}
use Rattle.reader.proofs.read.Goals as goal

pub returns-in_err-refusal-clause-answer : goal.returns-in_err-refusal-clause-answer
returns-in_err-refusal-clause-answer c =
    let p = err_from_is_err_and c.from_residual.result c.from_residual.ensures.1 in
    let x = c.in_err-refusal.field-0.0 in
    let e : number_of x ≡ read_refusal c.args.file.now (held c.args.tables.now) = c.in_err-refusal.ensures.value in
    rw (p.1, p.2) (read_refusal_lem _ _ (number_of x) e (λ z. omega (arith, number_positive x, z)))

pub invariant_of-fill : goal.invariant_of-fill
invariant_of-fill c =
    let kept : (short_reader (held c.args.tables.now) ≡ false) × Kept c.args.file.now c.refusal.new.places = c.in_ok-refusal.ensures.kept in
    record { whole = (sound_read c.read_head-head.ensures kept.1.sound).whole }

pub fill-requires-clause-room : goal.fill-requires-clause-room
fill-requires-clause-room c =
    let kept : (short_reader (held c.args.tables.now) ≡ false) × Kept c.args.file.now c.refusal.new.places = c.in_ok-refusal.ensures.kept in
    room _ _ (sound_read c.read_head-head.ensures kept.1.sound).whole.most kept.0

pub returns-clause-answer : goal.returns-clause-answer
returns-clause-answer c =
    let e : 0 ≡ read_refusal c.args.file.now (held c.args.tables.now) = c.in_ok-refusal.ensures.value in
    read_job _ _ _ refl (sym e) c.read_head-head.ensures c.fill.ensures.filled
