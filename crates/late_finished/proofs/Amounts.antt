-- Words of 64 bits are equal where the amounts are. Assumes nothing.
use mathlib.Core.Path.{◌≡◌, sym, ap, ◌∙◌}
use lib.Dec.{eqb}
use lib.IntN.{ℤ}
use mir.Syntax.{w64}
use mir.Val.{of_z, to_z}
use borrow.Author.Tests.{eqb-true}
use Rattle.laws.proofs.Bools.{same_test, eqb_same}
use Rattle.late_rules.specs.Late.{same_amount}
use Rattle.late_rules.proofs.Left.{amount_true, amount_same}

-- Of amounts that are read back as they were.
pub word_same : (x y : ℤ) → to_z w64 (of_z w64 x) ≡ x → to_z w64 (of_z w64 y) ≡ y → eqb (of_z w64 x) (of_z w64 y) ≡ same_amount x y
word_same x y fx fy =
    same_test (eqb (of_z w64 x) (of_z w64 y)) (same_amount x y)
    (λ h. rw (sym fx ∙ ap (to_z w64) (eqb-true (of_z w64 x) (of_z w64 y) h) ∙ fy) (amount_same y))
    (λ h. rw (amount_true x y h) (eqb_same (of_z w64 y)))
