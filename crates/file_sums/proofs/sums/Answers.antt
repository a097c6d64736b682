-- `file_sums::sums` meets its contract. Assumes nothing.
use mathlib.Core.Path.{◌≡◌, ap}
use Prim.Native.Nat.{ℕ, ◌+◌}
use native.Mathlib.Nat.{add_assoc}
use lib.ListN.{get_or}
use Rattle.format.specs.Bytes.{from}
use Rattle.format.specs.Blocks.{first_sum, second_sum}
use Rattle.file_sums.proofs.Halves.{first_both, second_both}
use Rattle.file_sums.proofs.sums.Goals as goal

pub returns : goal.returns
unfolding first_sum second_sum
returns c =
    let g = from c.args.f.now c.args.at in
    let h = from c.args.f.now (c.args.at + 254) in
    let e : (p : ℕ) → h p ≡ g (254 + p) = λ p. ap (λ (x : ℕ). get_or c.args.f.now x 0) (add_assoc c.args.at 254 p) in (
      rw (c.half-a.ensures.first_value.0, c.half-b.ensures.first_value.0, first_both g h e),
      rw (c.half-a.ensures.first_value.0, c.half-a.ensures.second_value.0, c.half-b.ensures.second_value.0, second_both g h e),
    )
