-- `settle_text::lines::put_statement` meets its contract. Assumes nothing.
use mathlib.Core.Path.{ap}
use Prim.Native.Nat.{ℕ, ◌+◌, ◌≤◌}
use native.Mathlib.Omega.{arith}
use lib.IntN.{pos}
use lib.ListN.{get_or}
use Rattle.printing.specs.Cents.{rule}
use Rattle.settle_text.specs.Puts.{spaced_amounts}
use Rattle.settle_text.proofs.Puts.{behind, reworded, same_long}
use Rattle.settle_text.proofs.Decimals.{decimal_few}
use Rattle.settle_text.proofs.lines.put_statement.Goals as goal

pub put_amounts-end-requires : goal.put_amounts-end-requires
put_amounts-end-requires c =
    let few : c.put_decimal-named.result ≤ c.args.at + 3 =
    omega (arith, c.put_decimal-named.ensures.next, decimal_few 2 c.args.g (omega arith)) in
    (omega arith, omega (arith, c.put_decimal-named.ensures.room, same_long c.put_decimal-named.ensures), omega (arith, few), omega (arith, c.words_at-from.ensures.0))

pub put_byte-requires : goal.put_byte-requires
put_byte-requires c =
    let few : c.put_decimal-named.result ≤ c.args.at + 3 =
    omega (arith, c.put_decimal-named.ensures.next, decimal_few 2 c.args.g (omega arith)) in
    omega (arith, c.put_amounts-end.ensures.upper_bound, few)

pub returns : goal.returns
returns c =
    let few : c.put_decimal-named.result ≤ c.args.at + 3 =
    omega (arith, c.put_decimal-named.ensures.next, decimal_few 2 c.args.g (omega arith)) in
    let a = c.args in
    let e = ap (λ (x : ℕ). spaced_amounts (rule a.to_even) a.width (λ (q : ℕ). get_or a.statement.now (x + q) (pos 0))) c.words_at-from.ensures.0 in record {
      put = behind (behind c.put_decimal-named.ensures (reworded e c.put_amounts-end.ensures.put)) c.put_byte.ensures;
      upper_bound = omega (arith, c.put_byte.ensures.next, c.put_amounts-end.ensures.upper_bound, few);
    }
