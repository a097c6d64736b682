-- `file_digits::number_at` meets its contract. Assumes nothing.
use mathlib.Core.Path.{◌≡◌, ap, ◌∙◌}
use Prim.Native.Nat.{ℕ, ◌+◌, ◌%◌}
use native.Mathlib.Omega.{arith}
use lib.ListN.{get_or}
use Rattle.format.specs.Bytes.{from}
use Rattle.format.specs.Codes.{read_code}
use Rattle.format.proofs.Codes.{IsCode, code_is, value_cong}
use Rattle.file_digits.proofs.Digits.{lows, number_is}
use Rattle.file_digits.proofs.number_at.Goals as goal

pub share-requires : goal.share-requires
share-requires c =
    let code : IsCode (read_code (from c.args.f.now c.args.at)) =
    code_is (read_code (from c.args.f.now c.args.at)) c.requires.at_value in
    let count_is : c.from-n.result ≡ from c.args.f.now c.args.at 0 =
    c.from-n.ensures ∙ ap (λ (p : ℕ). get_or c.args.f.now p 0) (omega arith) in
    let i = code in
    (omega (arith, count_is, i.some), omega (arith, count_is, i.few))

pub returns : goal.returns
returns c =
    let code : IsCode (read_code (from c.args.f.now c.args.at)) =
    code_is (read_code (from c.args.f.now c.args.at)) c.requires.at_value in
    let count_is : c.from-n.result ≡ from c.args.f.now c.args.at 0 =
    c.from-n.ensures ∙ ap (λ (p : ℕ). get_or c.args.f.now p 0) (omega arith) in
    let f = c.args.f.now in
    let at = c.args.at in
    let g = from f at in
    let n = count_is in
    let p = c.share.ensures in
    let e = c.nine.ensures.0 ∙ value_cong 9 (lows (from f (at + 1))) (lows (read_code g).digit) (λ k l. ap (λ (x : ℕ). 48 + get_or f x 0 % 16) (omega arith)) in
    let r = number_is (read_code g) code _ c.share.result e (rw n at p.0) (rw n at p.1) in
    rw (c.scale.ensures.0, c.low.ensures.0, n) r
