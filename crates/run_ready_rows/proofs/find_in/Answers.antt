-- `run_ready_rows::find_in` meets its contract: at kind q, what is left to pass and the rows before it make c. Assumes nothing.
use mathlib.Core.Path.{◌≡◌, ap}
use Prim.Native.Nat.{ℕ, ◌+◌, ◌*◌, ◌≤◌}
use native.Mathlib.Omega.{arith}
use native.Mathlib.Nat.{zero-mul}
use Rattle.run_ready.specs.Rows.{rows_total}
use Rattle.run_ready.proofs.Rows.{rows_none}
use Rattle.run_ready_rows.proofs.ByRow.{kind_rows, next_kind, rows_end}
use Rattle.run_ready_rows.proofs.find_in.Goals as goal

pub loop-q-init : goal.loop-q-init
loop-q-init c =
    omega (arith, ap (rows_total c.args.rows.now) (zero-mul c.args.k), rows_none c.args.rows.now)

pub places_in-found-requires : goal.places_in-found-requires
places_in-found-requires c =
    let rows_at_turn : c.loop-q.q * c.args.k + c.args.k ≤ 6 * c.args.k =
    kind_rows c.loop-q.q c.args.k c.loop-q-test.true in
    (c.requires.1, rows_at_turn)

pub find_row-requires : goal.find_row-requires
find_row-requires c =
    let rows_at_turn : c.loop-q.q * c.args.k + c.args.k ≤ 6 * c.args.k =
    kind_rows c.loop-q.q c.args.k c.loop-q-test.true in
    (c.requires.0, c.requires.1.boxes_in, rows_at_turn)

pub returns-then-left-found : goal.returns-then-left-found
returns-then-left-found c =
    λ f. λ h. λ lt. rw c.loop-q.invariant at (c.find_row.ensures f h (omega (arith, c.places_in-found.ensures, c.if-left-found.true)))

pub loop-q-preserved : goal.loop-q-preserved
loop-q-preserved c =
    omega (arith, c.loop-q.invariant, c.if-left-found.false, c.places_in-found.ensures, ap (rows_total c.args.rows.now) (next_kind c.loop-q.q c.args.k))

pub returns : goal.returns
returns c =
    λ f. λ h. λ lt. let end : c.loop-q.q ≡ 6 = omega arith in
    absurd (rows_end c.args.k f c.args.rows.now h (c.loop-q.q * c.args.k) c.loop-q.left c.args.c (ap (λ (x : ℕ). x * c.args.k) end) c.loop-q.invariant lt)

pub overflow_mul-q : goal.overflow_mul-q
overflow_mul-q c =
    let rows_at_turn : c.loop-q.q * c.args.k + c.args.k ≤ 6 * c.args.k =
    kind_rows c.loop-q.q c.args.k c.loop-q-test.true in
    omega (arith, rows_at_turn, c.requires.1.boxes_in)

pub overflow_mul-q-then-left-found : goal.overflow_mul-q-then-left-found
overflow_mul-q-then-left-found c =
    let rows_at_turn : c.loop-q.q * c.args.k + c.args.k ≤ 6 * c.args.k =
    kind_rows c.loop-q.q c.args.k c.loop-q-test.true in
    omega (arith, rows_at_turn, c.requires.1.boxes_in)
