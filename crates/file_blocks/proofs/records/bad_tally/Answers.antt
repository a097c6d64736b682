-- `file_blocks::records::bad_tally` meets its contract. Assumes nothing.
use native.Mathlib.Omega.{arith}
use Rattle.std.proofs.lemmas.Grind.{common_steps}
use Prim.Native.Nat.{ℕ}
use mathlib.Core.Path.{◌≡◌, ap, ◌∙◌}
use lib.Dec.{ltb}
use lib.IntN.{nat_abs}
use mir.Syntax.{w32}
use mir.Val.{to_z}
use Rattle.format.specs.Bytes.{from, after, word32}
use Rattle.format.specs.Codes.{read_code, is_code}
use Rattle.format.specs.Job.{bad_tally}
use Rattle.format.specs.File.{read_tally}
use Rattle.file_bytes.proofs.After.{from-after}
use Rattle.file_blocks.proofs.records.bad_tally.Goals as goal

pub returns : goal.returns
unfolding bad_tally read_tally
returns c =
    let f = c.args.f.now in
    let e = c.is_code.ensures ∙ ap (λ (g' : ℕ → ℕ). is_code (read_code g')) (from-after f c.args.at 3) in
    let here = c.count32.ensures ∙ ap (λ (g' : ℕ → ℕ). to_z w32 (word32 g')) (from-after f c.args.at 14) in
    let n : c.bad_count.result ≡ ltb 99999 (nat_abs (to_z w32 (word32 (after (from f c.args.at) 14)))) = grind (arith, common_steps, here) in
    rw (c.narrow16.ensures, c.byte16.ensures, e, n)
