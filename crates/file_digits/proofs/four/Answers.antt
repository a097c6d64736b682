-- `file_digits::four` meets its contract. Assumes nothing.
use mathlib.Core.Path.{sym, ap, ◌∙◌}
use Prim.Native.Nat.{ℕ, ◌%◌}
use native.Mathlib.Omega.{arith}
use Rattle.format.specs.Bytes.{from}
use Rattle.file_bytes.proofs.After.{from-after}
use Rattle.format.specs.Codes.{value}
use Rattle.file_digits.proofs.Digits.{lows, four_is}
use Rattle.file_digits.proofs.four.Goals as goal

pub returns : goal.returns
returns c =
    let g = from c.args.f.now c.args.at in
    let a = c.two.ensures in
    let b = c.two-2.ensures in
    let e = b.0 ∙ ap (λ (h : ℕ → ℕ). value 2 (lows h)) (from-after c.args.f.now c.args.at 2) in
    (rw (a.0, e) (sym (four_is (λ k. g k % 16))), omega (arith, a.1, b.1))
