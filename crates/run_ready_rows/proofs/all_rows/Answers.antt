-- `run_ready_rows::all_rows` meets its contract: at row r the rows before it are made. Assumes nothing.
use Prim.Native.Nat.{◌*◌, ◌<◌}
use native.Mathlib.Omega.{arith}
use Rattle.run_ready_rows.proofs.ByRow.{kind_few, row_in, row_places, renewed_cong, made_first, made_next, made_all}
use Rattle.run_ready_rows.proofs.all_rows.Goals as goal

pub loop-r-init : goal.loop-r-init
loop-r-init c =
    made_first _ _ _ c.no_rows-rows.ensures

pub overflow_add-r : goal.overflow_add-r
overflow_add-r c =
    let row_at_turn : c.loop-r.r < 6 * c.args.rules.now.boxes =
    omega (arith, c.loop-r-test.true) in
    omega (arith, kind_few c.args.rules.now.boxes c.loop-r.r c.requires.some row_at_turn)

pub row_word-word-requires : goal.row_word-word-requires
row_word-word-requires c =
    let row_at_turn : c.loop-r.r < 6 * c.args.rules.now.boxes =
    omega (arith, c.loop-r-test.true) in
    row_in c.args.rules.now.boxes c.loop-r.r _ c.requires (row_at_turn)

pub put_word-requires : goal.put_word-requires
put_word-requires c =
    let row_at_turn : c.loop-r.r < 6 * c.args.rules.now.boxes =
    omega (arith, c.loop-r-test.true) in
    (omega (arith, row_at_turn, c.requires.boxes_in, c.from.ensures), c.loop-r.invariant.long)

pub loop-r-preserved : goal.loop-r-preserved
loop-r-preserved c =
    let row_at_turn : c.loop-r.r < 6 * c.args.rules.now.boxes =
    omega (arith, c.loop-r-test.true) in
    made_next c.args.rules.now.boxes _ c.loop-r.r _ _ (omega (arith, row_at_turn, c.requires.boxes_in)) c.loop-r.invariant
    (renewed_cong c.args.rules.now.boxes _ _ c.from.result c.loop-r.r _ _ c.from.ensures (row_places c.args.rules.now.boxes c.loop-r.r _ _ _ c.requires.some c.requires.boxes_in row_at_turn)
    (c.put_word.ensures c.args.rules.now.boxes _ c.row_word-word.ensures))

pub returns : goal.returns
returns c =
    made_all c.args.rules.now.boxes _ _ c.loop-r.r (omega (arith, c.loop-r-test.false)) c.loop-r.invariant
