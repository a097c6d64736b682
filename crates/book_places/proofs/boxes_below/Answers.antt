-- `book_places::boxes_below` meets its contract. Assumes nothing.
use mathlib.Core.Path.{sym, ap}
use Prim.Native.Nat.{ℕ, ◌-◌, ◌^◌, ◌<◌}
use native.Mathlib.Omega.{arith}
use Rattle.laws.proofs.Masks.{shl_one}
use Rattle.book_places.proofs.boxes_below.Goals as goal

pub returns-then-b-eq-MAX_BOXES : goal.returns-then-b-eq-MAX_BOXES
returns-then-b-eq-MAX_BOXES c =
    ap (λ (b : ℕ). 2 ^ b - 1) (sym c.if-b-eq-MAX_BOXES.true)

pub returns : goal.returns
returns c =
    let less : c.args.b < 16 =
    omega (arith, c.if-b-eq-MAX_BOXES.false, c.requires) in
    ap (λ (x : ℕ). x - 1) (shl_one c.args.b less)
