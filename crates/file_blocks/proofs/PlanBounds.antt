-- Where the tally blocks of a plan begin, at most. Assumes nothing.
use mathlib.Core.Path.{◌≡◌, ap, ap₂, ◌∙◌}
use Prim.Native.Nat.{ℕ, ◌*◌, ◌≤◌}
use native.Mathlib.Nat.{mul-le-mul}
use native.Mathlib.Omega.{arith}
use Rattle.format.specs.Job.{Head}
use Rattle.format.specs.Blocks.{list_blocks, tallies_at}
use Rattle.file_blocks.specs.Due.{Most}

-- The price blocks of all additional lists, as they are counted,
pub lists_product : (h : Head) {o l b : ℕ} → o ≡ h.offers → l ≡ h.lists → b ≡ list_blocks o → l * b ≡ h.lists * list_blocks h.offers
lists_product h p q r = ap₂ ◌*◌ q (r ∙ ap list_blocks p)

-- and of numbers within their values.
lists_few : (h : Head) → Most h → h.lists * list_blocks h.offers ≤ 28
lists_few h m = mul-le-mul {n₂ = 7} {m₂ = 4} m.lists (omega (arith, m.offers))

-- The first tally block is early.
pub tallies_low : (h : Head) → Most h → tallies_at h ≤ 54
tallies_low h m = omega (arith, lists_few h m, m.offers)
