-- `file_blocks::records::bad_offer` meets its contract. Assumes nothing.
use Prim.Native.Nat.{ℕ}
use mathlib.Core.Path.{ap, ◌∙◌}
use Rattle.format.specs.Codes.{read_code, is_code}
use Rattle.format.specs.Job.{bad_offer}
use Rattle.format.specs.File.{read_offer}
use Rattle.file_bytes.proofs.After.{from-after}
use Rattle.file_blocks.proofs.records.bad_offer.Goals as goal

pub returns : goal.returns
unfolding bad_offer read_offer
returns c =
    let e = c.is_code.ensures ∙ ap (λ (g : ℕ → ℕ). is_code (read_code g)) (from-after c.args.f.now c.args.at 5) in
    rw (c.word32.ensures, c.byte16.ensures, e)
