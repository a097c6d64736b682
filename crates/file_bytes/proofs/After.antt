-- Bytes of a file from a later place on. Assumes nothing.
use Prim.Native.Nat.{ℕ, ◌+◌}
use mathlib.Core.Path.{◌≡◌, ap, fun_ext}
use mathlib.Core.List.{List}
use native.Mathlib.Nat.{add_assoc}
use lib.ListN.{get_or}
use Rattle.format.specs.Bytes.{from, after}

-- The bytes from a later place on.
pub from-after : (f : List ℕ) (at p : ℕ) → from f (at + p) ≡ after (from f at) p
from-after f at p = fun_ext (λ k. ap (λ (q : ℕ). get_or f q 0) (add_assoc at p k))
