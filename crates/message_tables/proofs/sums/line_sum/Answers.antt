-- `message_tables::sums::line_sum` meets its contract: the sum is that of the counts passed; a line past the table has none. Assumes nothing.
use mathlib.Core.Path.{◌≡◌, sym, ap, ap₂, ◌∙◌}
use mathlib.Core.Bool.{cond}
use mathlib.Core.List.{List, [], ◌∷◌}
use Prim.Native.Nat.{ℕ, zero, suc, ◌≤◌, ◌+◌}
use native.Mathlib.Omega.{arith}
use lib.ListN.{length, get_or}
use mir.Syntax.{w16}
use mir.Val.{Val}
use Rattle.laws.specs.Tables.{cell_at}
use denote.Shadow.{shadow}
use denote.Array.{Array, each}
use denote.Plain.{UInt}
use Rattle.message_tables.proofs.Summing.{line_to, line_past, line_none, line_next, line-whole}
use Rattle.message_tables.proofs.sums.line_sum.Goals as goal
use Rattle.message_tables.proofs.sums.line_sum.Goals.{then-back, else-back}

-- What an array of arrays is says how long its rows are.
rows_long : (t : List (List ℕ)) (us : List Val) → shadow (each (List ℕ) (Array (UInt w16) 16).own_val t us) → (i : ℕ) → length (get_or t i []) ≤ 16
rows_long [] us p i = omega arith
rows_long (x ∷ t) [] p i = absurd p
rows_long (x ∷ t) (u ∷ us) p zero = omega (arith, p.0.1.0.1)
rows_long (x ∷ t) (u ∷ us) p (suc i) = rows_long t us p.1 i

pub returns-then-x-ge-BOXES : goal.returns-then-x-ge-BOXES
returns-then-x-ge-BOXES c = (
  sym (line_past c.args.back c.args.table c.args.x (omega arith)
      (rows_long c.args.table c.well_formed.0.0 c.well_formed.0.1.1) c.if-x-ge-BOXES.true),
  omega arith,
)

pub loop-y-init : goal.loop-y-init
loop-y-init c = (sym (line_none _ _ _), omega arith)

pub loop-y-preserved : goal.loop-y-preserved
loop-y-preserved c =
    let x = c.args.x in
    let y = c.loop-y.y in
    let from_is : c.if-back.from.0 ≡ cond c.args.back y x =
    elim c.if-back.branch [ then-back w ↦ rw (w.from-is, w.if-back.true) | else-back w ↦ rw (w.from-is, w.if-back.false) ] in
    let to_is : c.if-back.from.1 ≡ cond c.args.back x y =
    elim c.if-back.branch [ then-back w ↦ rw (w.from-is, w.if-back.true) | else-back w ↦ rw (w.from-is, w.if-back.false) ] in (
      ap₂ (λ (x y : ℕ). x + y) c.loop-y.invariant.0 (c.from-sum.ensures ∙ ap₂ (λ (a b : ℕ). cell_at c.args.table a b) from_is to_is)
          ∙ sym (line_next c.args.back c.args.table x y),
      omega arith,
    )

pub returns : goal.returns
returns c =
    let done : c.loop-y.y ≡ 16 = omega arith in
    (c.loop-y.invariant.0 ∙ ap (λ (n : ℕ). line_to n c.args.back c.args.table c.args.x) done ∙ line-whole c.args.back c.args.table c.args.x, omega (arith, c.loop-y.invariant.1))
