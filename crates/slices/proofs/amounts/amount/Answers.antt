-- `slices::amounts::amount` meets its contract: the product of the two is at most 99,999 × 9,999,999. Assumes nothing.
use mathlib.Core.Path.{◌≡◌, ap, ap₂, ◌∙◌}
use native.Mathlib.Nat.{le_trans}
use lib.Dec.{lit≤}
use lib.IntN.{ℤ, pos, ◌*ℤ◌}
use mir.Syntax.{w64}
use mir.Val.{to_z, of_z}
use Rattle.laws.proofs.Signed.{read32_abs, read64, read64_abs, abs_times_le}
use Rattle.slices.proofs.amounts.amount.Goals as goal

pub returns : goal.returns
returns c =
    let count : to_z w64 (of_z w64 c.from.result) ≡ c.args.count =
    read64 c.from.result c.from.type_inv ∙ c.from.ensures ∙ read32_abs c.args.count (le_trans c.requires.0 (lit≤ tt)) in
    let price : to_z w64 (of_z w64 c.from-2.result) ≡ pos c.args.price =
    read64 c.from-2.result c.from-2.type_inv ∙ c.from-2.ensures in
    ap (λ (z : ℤ). to_z w64 (of_z w64 z)) (ap₂ ◌*ℤ◌ count price)
    ∙ read64_abs (c.args.count *ℤ pos c.args.price) (le_trans (abs_times_le c.args.count (pos c.args.price) c.requires.0 c.requires.1) (lit≤ tt))
