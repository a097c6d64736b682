-- `file_blocks::spares::spare_in` meets its contract. Assumes nothing.
use Rattle.std.proofs.Common.{rules}
use mathlib.Core.Path.{◌≡◌, sym, ap, ap₂, ◌∙◌}
use mathlib.Core.Bool.{◌||◌}
use mathlib.Core.List.{List}
use Prim.Native.Nat.{ℕ, ◌+◌, ◌*◌, ◌-◌}
use Rattle.laws.specs.Below.{any}
use Rattle.format.specs.Bytes.{from, after}
use Rattle.file_blocks.specs.Shape.{used}
use Rattle.file_bytes.proofs.After.{from-after}
use Rattle.file_blocks.proofs.ByPlace.{tested_by}
use Rattle.file_blocks.proofs.SpareWalk.{spare_walk}
use Rattle.file_blocks.proofs.spares.spare_in.Goals as goal

-- The bytes behind a place.
used_behind : (f : List ℕ) (at p n : ℕ) → any n (λ i. used (from f (at + p) i)) ≡ any n (λ i. used (after (from f at) p i))
used_behind f at p n = ap (λ (g : ℕ → ℕ). any n (λ i. used (g i))) (from-after f at p)

pub returns : goal.returns
returns c =
    let f = c.args.f.now in
    let at = c.args.at in
    let z = c.args.size in
    let w = c.args.fields in
    let p = c.args.count * z in
    ap₂ ◌||◌
    (tested_by _ _ c.any_by.ensures
    (λ r b l e. let t : b ≡ any (z - w) (λ i. used (from f (at + (r * z + w)) i)) = search rules in t ∙ used_behind f at (r * z + w) (z - w)))
    (c.any_used.ensures ∙ used_behind f at p (504 - p))
    ∙ sym (spare_walk c.args.count z w (from f at) c.requires.size_bound.0 c.requires.size_bound.1 c.requires.size_bound.2)
