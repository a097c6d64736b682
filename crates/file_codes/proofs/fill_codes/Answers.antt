-- `file_codes::fill_codes` meets its contract. The invariant: the first i codes are stored. Assumes nothing.
use mathlib.Core.Path.{ap, ◌∙◌}
use Prim.Native.Nat.{ℕ, ◌+◌}
use native.Mathlib.Omega.{arith}
use Rattle.format.specs.Bytes.{from}
use Rattle.format.specs.Codes.{read_code}
use Rattle.format.specs.File.{record_at}
use Rattle.file_blocks.proofs.RecordWords.{code_shift}
use Rattle.file_codes.proofs.Codes.{codes_none, codes_more}
use Rattle.file_codes.proofs.fill_codes.Goals as goal

pub loop-i-init : goal.loop-i-init
loop-i-init c = codes_none _ _

pub loop-i-preserved : goal.loop-i-preserved
loop-i-preserved c =
    let f = c.args.f.now in
    let i = c.loop-i.i in
    let long = c.copy_code.auto.code ∙ c.loop-i.auto.code in
    let e = ap (λ (p : ℕ). read_code (from f (p + c.args.at))) c.record_at.ensures in
    codes_more _ i _ _ _ _ c.loop-i.invariant (omega (arith, c.requires.first_bound.3)) long c.copy_code.ensures (e ∙ code_shift f (record_at c.args.first i) c.args.at)
