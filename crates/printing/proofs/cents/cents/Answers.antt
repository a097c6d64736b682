-- `printing::cents::cents` meets its contract. Assumes nothing.
use mathlib.Core.Path.{◌≡◌, sym, ap, ◌∙◌}
use Prim.Native.Nat.{ℕ, suc, ◌-◌}
use native.Mathlib.Omega.{arith}
use lib.IntN.{ℤ, pos, negsuc, nat_abs, ◌-ℤ◌}
use lib.Signed.{quot_z}
use mir.Syntax.{w64}
use mir.Val.{to_z, of_z}
use mir.Facts.{to_z-of_z}
use Rattle.laws.proofs.Signed.{fits64, read64_abs}
use Rattle.printing.specs.Cents.{rule, edge}
use Rattle.printing.proofs.Rounding.{edge-from, edge_to, up, down, level, whole_fits, read_whole, read_rest, more_fits, less_fits, minus}
use Rattle.printing.proofs.cents.cents.Goals as goal

pub nonzero_div-whole : goal.nonzero_div-whole
nonzero_div-whole c =
    let read : to_z w64 (of_z w64 c.args.amount) ≡ c.args.amount =
    to_z-of_z {w = w64} c.ranges.amount in
    (omega arith, rw read (whole_fits c.args.amount c.ranges.amount))

pub nonzero_rem-rest : goal.nonzero_rem-rest
nonzero_rem-rest c =
    let read : to_z w64 (of_z w64 c.args.amount) ≡ c.args.amount =
    to_z-of_z {w = w64} c.ranges.amount in
    (omega arith, rw read (whole_fits c.args.amount c.ranges.amount))

pub overflow_add-result : goal.overflow_add-result
overflow_add-result c =
    let read : to_z w64 (of_z w64 c.args.amount) ≡ c.args.amount =
    to_z-of_z {w = w64} c.ranges.amount in
    rw (read, read_whole c.args.amount c.ranges.amount) (more_fits c.args.amount c.ranges.amount)

pub returns-then-rest-least : goal.returns-then-rest-least
returns-then-rest-least c =
    let read : to_z w64 (of_z w64 c.args.amount) ≡ c.args.amount =
    to_z-of_z {w = w64} c.ranges.amount in
    let least : ℕ =
    edge (rule c.args.even) (nat_abs (quot_z c.args.amount (pos 10))) in
    let least_is : suc (least - 1) ≡ least =
    omega (arith, edge-from (rule c.args.even) (nat_abs (quot_z c.args.amount (pos 10)))) in
    let told : c.edge-least.result ≡ pos (suc (least - 1)) =
    rw (read, read_whole c.args.amount c.ranges.amount) at c.edge-least.ensures ∙ ap pos (sym least_is) in
    let told_back : to_z w64 (of_z w64 c.edge-least.result) ≡ pos (suc (least - 1)) =
    ap (λ (z : ℤ). to_z w64 (of_z w64 z)) told ∙ read64_abs (pos (suc (least - 1))) (omega (arith, least_is, edge_to (rule c.args.even) (nat_abs (quot_z c.args.amount (pos 10))))) in
    let z = c.args.amount in
    let f = c.ranges.amount in
    rw (read, read_whole z f, to_z-of_z {w = w64} (more_fits z f)) (up (rule c.args.even) z (least - 1) least_is (rw (told_back, read, read_rest z f) at c.if-rest-least.true))

pub overflow_sub-least : goal.overflow_sub-least
overflow_sub-least c =
    let read : to_z w64 (of_z w64 c.args.amount) ≡ c.args.amount =
    to_z-of_z {w = w64} c.ranges.amount in
    let least : ℕ =
    edge (rule c.args.even) (nat_abs (quot_z c.args.amount (pos 10))) in
    let least_is : suc (least - 1) ≡ least =
    omega (arith, edge-from (rule c.args.even) (nat_abs (quot_z c.args.amount (pos 10)))) in
    let told : c.edge-least.result ≡ pos (suc (least - 1)) =
    rw (read, read_whole c.args.amount c.ranges.amount) at c.edge-least.ensures ∙ ap pos (sym least_is) in
    let told_back : to_z w64 (of_z w64 c.edge-least.result) ≡ pos (suc (least - 1)) =
    ap (λ (z : ℤ). to_z w64 (of_z w64 z)) told ∙ read64_abs (pos (suc (least - 1))) (omega (arith, least_is, edge_to (rule c.args.even) (nat_abs (quot_z c.args.amount (pos 10))))) in
    rw (told_back, minus (least - 1)) (fits64 (omega (arith, least_is, edge_to (rule c.args.even) (nat_abs (quot_z c.args.amount (pos 10))))))

pub overflow_sub-result : goal.overflow_sub-result
overflow_sub-result c =
    let read : to_z w64 (of_z w64 c.args.amount) ≡ c.args.amount =
    to_z-of_z {w = w64} c.ranges.amount in
    rw (read, read_whole c.args.amount c.ranges.amount) (less_fits c.args.amount c.ranges.amount)

pub returns-then-rest-least-2 : goal.returns-then-rest-least-2
returns-then-rest-least-2 c =
    let read : to_z w64 (of_z w64 c.args.amount) ≡ c.args.amount =
    to_z-of_z {w = w64} c.ranges.amount in
    let least : ℕ =
    edge (rule c.args.even) (nat_abs (quot_z c.args.amount (pos 10))) in
    let least_is : suc (least - 1) ≡ least =
    omega (arith, edge-from (rule c.args.even) (nat_abs (quot_z c.args.amount (pos 10)))) in
    let told : c.edge-least.result ≡ pos (suc (least - 1)) =
    rw (read, read_whole c.args.amount c.ranges.amount) at c.edge-least.ensures ∙ ap pos (sym least_is) in
    let told_back : to_z w64 (of_z w64 c.edge-least.result) ≡ pos (suc (least - 1)) =
    ap (λ (z : ℤ). to_z w64 (of_z w64 z)) told ∙ read64_abs (pos (suc (least - 1))) (omega (arith, least_is, edge_to (rule c.args.even) (nat_abs (quot_z c.args.amount (pos 10))))) in
    let below : to_z w64 (of_z w64 (pos 0 -ℤ to_z w64 (of_z w64 c.edge-least.result))) ≡ negsuc (least - 1) =
    rw (told_back, minus (least - 1))
    (read64_abs (negsuc (least - 1)) (omega (arith, least_is, edge_to (rule c.args.even) (nat_abs (quot_z c.args.amount (pos 10)))))) in
    let z = c.args.amount in
    let f = c.ranges.amount in
    rw (read, read_whole z f, to_z-of_z {w = w64} (less_fits z f)) (down (rule c.args.even) z (least - 1) least_is (rw (below, read, read_rest z f) at c.if-rest-least-2.true))

pub returns : goal.returns
returns c =
    let read : to_z w64 (of_z w64 c.args.amount) ≡ c.args.amount =
    to_z-of_z {w = w64} c.ranges.amount in
    let least : ℕ =
    edge (rule c.args.even) (nat_abs (quot_z c.args.amount (pos 10))) in
    let least_is : suc (least - 1) ≡ least =
    omega (arith, edge-from (rule c.args.even) (nat_abs (quot_z c.args.amount (pos 10)))) in
    let told : c.edge-least.result ≡ pos (suc (least - 1)) =
    rw (read, read_whole c.args.amount c.ranges.amount) at c.edge-least.ensures ∙ ap pos (sym least_is) in
    let told_back : to_z w64 (of_z w64 c.edge-least.result) ≡ pos (suc (least - 1)) =
    ap (λ (z : ℤ). to_z w64 (of_z w64 z)) told ∙ read64_abs (pos (suc (least - 1))) (omega (arith, least_is, edge_to (rule c.args.even) (nat_abs (quot_z c.args.amount (pos 10))))) in
    let below : to_z w64 (of_z w64 (pos 0 -ℤ to_z w64 (of_z w64 c.edge-least.result))) ≡ negsuc (least - 1) =
    rw (told_back, minus (least - 1))
    (read64_abs (negsuc (least - 1)) (omega (arith, least_is, edge_to (rule c.args.even) (nat_abs (quot_z c.args.amount (pos 10)))))) in
    let z = c.args.amount in
    let f = c.ranges.amount in
    rw (read, read_whole z f)
    (level (rule c.args.even) z (least - 1) least_is (rw (told_back, read, read_rest z f) at c.if-rest-least.false) (rw (below, read, read_rest z f) at c.if-rest-least-2.false))
