-- `run_steps::step_of` meets its contract. Assumes nothing.
use mathlib.Core.Path.{◌≡◌, ap, ◌∙◌}
use Prim.Native.Nat.{ℕ, ◌-◌, ◌*◌, ◌/◌, ◌%◌, ◌≤◌, ◌<◌}
use native.Mathlib.Nat.{div-lt_iff_lt-mul, div-add-mod', div-mul-le_self}
use native.Mathlib.Omega.{arith}
use Rattle.run_steps.proofs.step_of.Goals as goal

-- What is left of x where the whole times are taken off.
left : (x q k : ℕ) → q ≡ x / k → x - q * k ≡ x % k
left x q k e = rw e (omega (arith, div-add-mod' x k))

whole : (x q k : ℕ) → q ≡ x / k → q * k ≤ x
whole x q k e = rw e (div-mul-le_self x k)

pub returns : goal.returns
returns c =
    let row_is : c.by_boxes-row.result ≡ c.args.place / c.args.k =
    c.by_boxes-row.ensures in
    let rows_are : c.by_boxes-rows.result ≡ c.by_boxes-row.result / c.args.k =
    c.by_boxes-rows.ensures in (
      (let e : c.by_boxes-rows.result ≡ c.args.place / c.args.k / c.args.k = rows_are ∙ ap (λ (r : ℕ). r / c.args.k) row_is in omega (arith, e)),
      left c.by_boxes-row.result c.by_boxes-rows.result c.args.k rows_are ∙ ap (λ (r : ℕ). r % c.args.k) (row_is),
      left c.args.place c.by_boxes-row.result c.args.k (row_is),
    )

pub overflow_add-result : goal.overflow_add-result
overflow_add-result c =
    let row_is : c.by_boxes-row.result ≡ c.args.place / c.args.k =
    c.by_boxes-row.ensures in
    let rows_are : c.by_boxes-rows.result ≡ c.by_boxes-row.result / c.args.k =
    c.by_boxes-rows.ensures in
    let few : c.by_boxes-rows.result < 6 =
    rw (rows_are, row_is) ((div-lt_iff_lt-mul c.requires.0).1 ((div-lt_iff_lt-mul c.requires.0).1 c.requires.2)) in
    omega (arith, few)

pub overflow_mul-result : goal.overflow_mul-result
overflow_mul-result c =
    let row_is : c.by_boxes-row.result ≡ c.args.place / c.args.k =
    c.by_boxes-row.ensures in
    let rows_are : c.by_boxes-rows.result ≡ c.by_boxes-row.result / c.args.k =
    c.by_boxes-rows.ensures in
    let row_whole : c.by_boxes-rows.result * c.args.k ≤ c.by_boxes-row.result =
    whole c.by_boxes-row.result c.by_boxes-rows.result c.args.k (rows_are) in
    let place-whole : c.by_boxes-row.result * c.args.k ≤ c.args.place =
    whole c.args.place c.by_boxes-row.result c.args.k (row_is) in
    omega (arith, row_whole, place-whole, c.ranges.place.fits)

pub overflow_mul-result-2 : goal.overflow_mul-result-2
overflow_mul-result-2 c =
    let row_is : c.by_boxes-row.result ≡ c.args.place / c.args.k =
    c.by_boxes-row.ensures in
    let place-whole : c.by_boxes-row.result * c.args.k ≤ c.args.place =
    whole c.args.place c.by_boxes-row.result c.args.k (row_is) in
    omega (arith, place-whole, c.ranges.place.fits)
