-- `step_packed::span_fits` meets its contract. The invariant: the words of the places passed are in range. Assumes nothing.
use mathlib.Core.Path.{◌≡◌, sym, ap, ◌∙◌}
use mathlib.Core.Bool.{Bool, true}
use mathlib.Core.List.{List}
use Prim.Native.Nat.{ℕ, ◌≤◌, ◌<◌, ◌+◌, ◌-◌, ◌*◌}
use native.Mathlib.Nat.{mul-le-mul}
use native.Mathlib.Omega.{arith}
use lib.ListN.{get_or}
use borrow.Author.Tests.{not-true, not-false}
use Rattle.laws.specs.Below.{all}
use Rattle.laws.proofs.Below.{all_start}
use Rattle.laws.proofs.Tables.{row_next, row_in}
use Rattle.model.specs.Spans.{beside}
use Rattle.model.proofs.SideBySide.{get_d_beside}
use Rattle.step_spans.specs.Credit.{PlaceIn}
use Rattle.step_packed.specs.Fits.{word_fits}
use Rattle.step_packed.proofs.Fits.{fits_more, fits_fails}
use Rattle.step_packed.proofs.span_fits.Goals as goal

pub loop-i-init : goal.loop-i-init
loop-i-init c =
    let first : ℕ =
    c.args.from * c.args.width in
    let numbers : List ℕ =
    beside c.args.width c.args.grocers.now in
    let test : ℕ → Bool =
    word_fits first numbers c.args.source.now c.args.statement.now in
    let none : 0 ≡ first - first = omega arith in
    (omega arith, c.requires.order, ap (λ (n : ℕ). all n test) (sym none) ∙ all_start test)

pub place_fits-requires : goal.place_fits-requires
place_fits-requires c =
    let first : ℕ =
    c.args.from * c.args.width in
    let numbers : List ℕ =
    beside c.args.width c.args.grocers.now in
    let words : (i : ℕ) → c.args.from ≤ i → i < c.args.to → (first ≤ i * c.args.width) × (i * c.args.width + c.args.width ≤ c.args.to * c.args.width) =
    λ i. λ l. λ h. (mul-le-mul l (omega arith), row_in i c.args.to c.args.width h) in
    let number_is : (i q : ℕ) → i < c.args.to → q < c.args.width → get_or numbers (i * c.args.width + q) 0 ≡ get_or c.args.grocers.now i 0 * c.args.width + q =
    λ i. λ q. λ h. λ l. get_d_beside c.args.width c.args.grocers.now i q (omega (arith, c.requires.grocers_long)) l in
    let place_in : (i : ℕ) → c.args.from ≤ i → i < c.args.to → PlaceIn 1_000_000_000_000_000 i c.args.width c.args.grocers.now c.args.source.now c.args.statement.now =
    λ i. λ l. λ h. let z = c.requires.words_in in
    let w = words i l h in
    record {
      width_in = c.requires.width_in;
      place_in = omega (arith, c.requires.grocers_long);
      source_long = omega (arith, z.source_long, w.1);
      statement_long_lem = λ q m. rw (← number_is i q h m) (z.grocer_in (i * c.args.width + q) (omega (arith, w.0)) (omega (arith, w.1)));
      source_in = λ q m. z.source_in (i * c.args.width + q) (omega (arith, w.0)) (omega (arith, w.1));
      statement_in = λ q m. rw (← number_is i q h m) (z.statement_in (i * c.args.width + q) (omega (arith, w.0)) (omega (arith, w.1)));
    } in
    place_in c.loop-i.i c.loop-i.invariant.0 c.loop-i-test.true

pub returns-then-not-place_fits : goal.returns-then-not-place_fits
returns-then-not-place_fits c =
    let first : ℕ =
    c.args.from * c.args.width in
    let numbers : List ℕ =
    beside c.args.width c.args.grocers.now in
    let words : (i : ℕ) → c.args.from ≤ i → i < c.args.to → (first ≤ i * c.args.width) × (i * c.args.width + c.args.width ≤ c.args.to * c.args.width) =
    λ i. λ l. λ h. (mul-le-mul l (omega arith), row_in i c.args.to c.args.width h) in
    let w = words c.loop-i.i c.loop-i.invariant.0 c.loop-i-test.true in
    sym (fits_fails first numbers c.args.source.now c.args.statement.now (c.loop-i.i * c.args.width) c.args.width w.0 (c.args.to * c.args.width) w.1
    (sym c.place_fits.ensures ∙ not-true c.place_fits.result (mathlib.Core.Path.ap mathlib.Core.Bool.not c.if-not-place_fits.true)))

pub loop-i-preserved : goal.loop-i-preserved
loop-i-preserved c =
    let first : ℕ =
    c.args.from * c.args.width in
    let numbers : List ℕ =
    beside c.args.width c.args.grocers.now in
    let words : (i : ℕ) → c.args.from ≤ i → i < c.args.to → (first ≤ i * c.args.width) × (i * c.args.width + c.args.width ≤ c.args.to * c.args.width) =
    λ i. λ l. λ h. (mul-le-mul l (omega arith), row_in i c.args.to c.args.width h) in
    let w = words c.loop-i.i c.loop-i.invariant.0 c.loop-i-test.true in (
      omega (arith, c.loop-i.invariant.0),
      omega (arith, c.loop-i-test.true),
      fits_more first numbers c.args.source.now c.args.statement.now (c.loop-i.i * c.args.width) c.args.width w.0 ((c.loop-i.i + 1) * c.args.width)
          (sym (row_next c.loop-i.i c.args.width)) c.loop-i.invariant.2 (sym c.place_fits.ensures ∙ not-false c.place_fits.result (mathlib.Core.Path.ap mathlib.Core.Bool.not c.if-not-place_fits.false)),
    )
