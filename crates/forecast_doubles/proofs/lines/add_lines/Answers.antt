-- `forecast_doubles::lines::add_lines` meets its contract: before line i the row has the part sums over the lines before it. Assumes nothing.
use mathlib.Core.Path.{◌≡◌}
use Prim.Native.Nat.{ℕ, ◌*◌, ◌≤◌, ◌<◌}
use native.Mathlib.Omega.{arith}
use native.Mathlib.Nat.{mul-le-mul}
use lib.ListN.{length}
use Rattle.forecast_doubles.specs.Lines.{LineLists, line_lists}
use Rattle.model.proofs.Step.{under_at}
use Rattle.forecast_doubles.proofs.Rows.{added_start, added_more, added_over, line_is, cleared_at}
use Rattle.forecast_doubles.proofs.lines.add_lines.Goals as goal

-- They are few.
few : (a m n : ℕ) → a < 16 → m ≤ n → a * m ≤ 15 * n
few a m n h k = mul-le-mul {n₂ = 15} (omega arith) k

-- Where a row begins, by the size as it is given.
row_at : (row a size m : ℕ) → row ≡ a * size → size ≡ m → row ≡ a * m
row_at row a size m e h = rw h at e

pub loop-i-init : goal.loop-i-init
loop-i-init c =
    let f = c.args.f.now in
    let row : c.row_start-row.result ≡ c.args.a * c.args.f.now.grocers = row_at _ _ _ _ c.row_start-row.ensures c.from-grocers.ensures in
    added_start _ f.grocers f.offers c.args.a c.args.known.now c.args.part.now _ (cleared_at _ _ _ _ _ _ row c.from-grocers.ensures c.zero_row.ensures)

pub line_at-requires-clause-from_bound : goal.line_at-requires-clause-from_bound
line_at-requires-clause-from_bound c =
    let f = c.args.f.now in
    let w = c.requires.row_in in
    let from : c.row_start-from.result ≡ c.args.a * c.args.f.now.offers = row_at _ _ _ _ c.row_start-from.ensures c.from.ensures in (
      omega (arith, from, few c.args.a f.offers 500 w.box_in w.offers_in),
      omega (arith, from, w.known_long_lem, under_at f.offers c.args.n f.line_offer.now c.loop-i.i c.requires.lines_in.offers c.loop-i-test.true),
    )

pub add_line-requires-clause-grocer_in_bounds : goal.add_line-requires-clause-grocer_in_bounds
add_line-requires-clause-grocer_in_bounds c =
    let f = c.args.f.now in
    let w = c.requires.row_in in
    let row : c.row_start-row.result ≡ c.args.a * c.args.f.now.grocers = row_at _ _ _ _ c.row_start-row.ensures c.from-grocers.ensures in
    let long : length c.zero_row.new.part ≡ length c.args.part.now = c.zero_row.auto.part in
    omega (
      arith,
      row,
      w.part_long,
      c.loop-i.auto.part,
      long,
      c.line_at.ensures.0,
      under_at f.grocers c.args.n f.line_grocer.now c.loop-i.i c.requires.lines_in.grocers c.loop-i-test.true,
    )

pub loop-i-preserved : goal.loop-i-preserved
loop-i-preserved c =
    let f = c.args.f.now in
    let w = c.requires.row_in in
    let lists : LineLists =
    line_lists c.args.f.now.line_grocer.now c.args.f.now.line_offer.now c.args.f.now.line_box.now c.args.f.now.line_rate.now in
    let row : c.row_start-row.result ≡ c.args.a * c.args.f.now.grocers = row_at _ _ _ _ c.row_start-row.ensures c.from-grocers.ensures in
    let from : c.row_start-from.result ≡ c.args.a * c.args.f.now.offers = row_at _ _ _ _ c.row_start-from.ensures c.from.ensures in
    let long : length c.zero_row.new.part ≡ length c.args.part.now = c.zero_row.auto.part in
    added_more lists f.grocers f.offers c.args.a c.args.known.now _ c.loop-i.i c.loop-i.part _ c.loop-i.invariant
    (under_at f.grocers c.args.n f.line_grocer.now c.loop-i.i c.requires.lines_in.grocers c.loop-i-test.true)
    (omega (arith, w.part_long, c.loop-i.auto.part, long))
    (line_is lists f.grocers f.offers c.args.a c.loop-i.i c.args.known.now c.loop-i.part _ _ _ _ _ _ _ c.add_line.ensures row from
    c.line_at.ensures.0 c.line_at.ensures.1.0 c.line_at.ensures.1.1.0 c.line_at.ensures.1.1.1)

pub returns : goal.returns
returns c =
    let f = c.args.f.now in
    let row : c.row_start-row.result ≡ c.args.a * c.args.f.now.grocers = row_at _ _ _ _ c.row_start-row.ensures c.from-grocers.ensures in
    let e : c.loop-i.i ≡ c.args.n = omega (arith, c.loop-i.auto.i-end, c.loop-i-test.false) in
    added_over _ f.grocers f.offers c.args.a c.args.n c.args.known.now c.args.part.now _ _
    (cleared_at _ _ _ _ _ _ row c.from-grocers.ensures c.zero_row.ensures) (rw e at c.loop-i.invariant)
