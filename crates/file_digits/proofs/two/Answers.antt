-- `file_digits::two` meets its contract. Assumes nothing.
use mathlib.Core.Path.{sym, ap, ◌∙◌}
use Prim.Native.Nat.{ℕ, ◌+◌, ◌*◌, ◌%◌}
use native.Mathlib.Nat.{add-zero}
use native.Mathlib.Omega.{arith}
use lib.ListN.{get_or}
use Rattle.format.specs.Bytes.{from}
use Rattle.file_digits.proofs.Digits.{two_is}
use Rattle.file_digits.proofs.two.Goals as goal

pub returns : goal.returns
returns c =
    let x = c.low-2.ensures in
    let y = c.low.ensures in
    let f = c.args.f.now in
    let at = c.args.at in
    let e = two_is (λ k. from f at k % 16) ∙ ap (λ (p : ℕ). get_or f p 0 % 16 * 10 + get_or f (at + 1) 0 % 16) (add-zero at) in
    (rw (y.0, x.0) (sym e), omega (arith, x.1, y.1))
