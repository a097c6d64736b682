-- `file_blocks::file::file_refusal` meets its contract. Assumes nothing.
use mathlib.Core.Path.{◌≡◌, sym}
use native.Mathlib.Omega.{arith}
use Rattle.std.proofs.lemmas.Result.{err_from_is_err_and, on_ok_weaker}
use Rattle.refusals.specs.Numbers.{number_of}
use Rattle.refusals.proofs.Numbers.{number_positive}
use Rattle.file_blocks.specs.Shape.{shape_refusal}
use Rattle.file_blocks.proofs.Shapes.{shape_refused, shape_passed, sound, sound_read, kept_read, has_header}
use Rattle.file_blocks.proofs.file.file_refusal.Goals as goal

pub returns-in_err-shape_refusal-clause-value : goal.returns-in_err-shape_refusal-clause-value
returns-in_err-shape_refusal-clause-value c =
    let p = err_from_is_err_and c.from_residual.result c.from_residual.ensures.1 in
    let x = c.in_err-shape_refusal.field-0.0 in
    let e : number_of x ≡ shape_refusal c.args.f.now = c.in_err-shape_refusal.ensures in
    rw (p.1, p.2) (shape_refused _ _ e (λ z. omega (arith, number_positive x, z)))

pub read_head-requires : goal.read_head-requires
read_head-requires c =
    let e : 0 ≡ shape_refusal c.args.f.now = c.in_ok-shape_refusal.ensures in
    has_header (sound _ (sym e))

pub invariant_of-file : goal.invariant_of-file
invariant_of-file c =
    let e : 0 ≡ shape_refusal c.args.f.now = c.in_ok-shape_refusal.ensures in
    record { whole = (sound_read c.read_head.ensures (sound _ (sym e))).whole }

pub job_refusal-requires : goal.job_refusal-requires
job_refusal-requires c =
    let e : 0 ≡ shape_refusal c.args.f.now = c.in_ok-shape_refusal.ensures in
    let k = sound_read c.read_head.ensures (sound _ (sym e)) in
    (k, omega (arith, k.whole.most.tallies, c.requires))

pub returns : goal.returns
returns c =
    let e : 0 ≡ shape_refusal c.args.f.now = c.in_ok-shape_refusal.ensures in
    record {
      value = shape_passed _ _ (sym e) c.job_refusal.ensures.value;
      kept = on_ok_weaker c.job_refusal.result (λ p. kept_read c.read_head.ensures (sound _ (sym e)) p) c.job_refusal.ensures.placed;
    }
