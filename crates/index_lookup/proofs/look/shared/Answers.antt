-- `index_lookup::look::shared` meets its contract. The invariant: no two neighbours before i are equal. Assumes nothing.
use native.Mathlib.Omega.{arith}
use Rattle.index_lookup.proofs.Looking.{keys_shared, none_shared}
use Prim.Native.Nat.{◌-◌}
use mathlib.Core.Path.{sym}
use Rattle.index_lookup.proofs.look.shared.Goals as goal

pub returns-then-keys-i : goal.returns-then-keys-i
returns-then-keys-i c =
    λ places numbers x. sym (keys_shared x (c.loop-i.i - 1) c.loop-i.i (omega arith) (omega arith) c.if-keys-i.true)

pub returns : goal.returns
returns c =
    λ places numbers x. sym (none_shared x (λ k l. c.loop-i.invariant k (omega arith)))
