-- `file_blocks::plan::not_due` meets its contract. Assumes nothing.
use Prim.Native.Nat.{ℕ, ◌+◌, ◌*◌}
use mathlib.Core.Path.{◌≡◌, sym, ap, ◌∙◌}
use native.Mathlib.Nat.{add-zero}
use lib.ListN.{get_or}
use Rattle.format.specs.Bytes.{word16}
use Rattle.format.specs.Refusals.{not_due}
use Rattle.file_bytes.proofs.After.{from-after}
use Rattle.file_blocks.proofs.plan.not_due.Goals as goal

pub returns : goal.returns
unfolding not_due
returns c =
    let f = c.args.f.now in
    let at = 512 * c.args.k in
    let a : c.byte_at.result ≡ get_or f (at + 0) 0 = c.byte_at.ensures.0 ∙ ap (λ (p : ℕ). get_or f p 0) (sym (add-zero at)) in
    let b = c.word16.ensures.0 ∙ ap word16 (from-after f at 2) in
    rw (← c.requires.due.kind, ← c.number.ensures, ← c.requires.due.count, a, b, c.byte_at-2.ensures.0)
