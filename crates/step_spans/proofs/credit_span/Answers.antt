-- `step_spans::credit_span` meets its contract. The invariant: the totals of the places before i are added. Assumes nothing.
use mathlib.Core.Path.{◌≡◌, refl, sym, ap, ap₂, ◌∙◌}
use mathlib.Core.List.{List}
use Prim.Native.Nat.{ℕ, ◌+◌, ◌-◌, ◌*◌, ◌<◌, ◌≤◌}
use native.Mathlib.Omega.{arith}
use native.Mathlib.Nat.{mul-le-mul}
use lib.IntN.{ℤ, pos}
use lib.ListN.{length, get_or}
use Rattle.laws.proofs.Tables.{row_next, row_in}
use Rattle.model.specs.Spans.{span_written, beside}
use Rattle.model.proofs.SideBySide.{get_d_beside}
use Rattle.step_spans.specs.Credit.{credit_span, PlaceIn}
use Rattle.step_spans.proofs.Laws.{length_span, length_credit, span_none, span_past, span_join, credit_none, size_as, credit_most, credit_join}
use Rattle.step_spans.proofs.credit_span.Goals as goal

pub loop-i-init : goal.loop-i-init
loop-i-init c =
    let first : ℕ =
    c.args.from * c.args.width in
    (omega arith, c.requires.order, refl, refl, span_none _ _ _, credit_none (first - first) _ _ _ _ (omega arith))

pub credit_place-requires : goal.credit_place-requires
credit_place-requires c =
    let first : ℕ =
    c.args.from * c.args.width in
    let numbers : List ℕ =
    beside c.args.width c.args.grocers.now in
    let words : (i : ℕ) → c.args.from ≤ i → i < c.args.to → (first ≤ i * c.args.width) × (i * c.args.width + c.args.width ≤ c.args.to * c.args.width) =
    λ i. λ l. λ h. (mul-le-mul l (omega arith), row_in i c.args.to c.args.width h) in
    let number_is : (i q : ℕ) → i < c.args.to → q < c.args.width → get_or numbers (i * c.args.width + q) 0 ≡ get_or c.args.grocers.now i 0 * c.args.width + q =
    λ i. λ q. λ h. λ l. get_d_beside c.args.width c.args.grocers.now i q (omega (arith, c.requires.grocers_long)) l in
    let total_is : c.loop-i.i < c.args.to → (q : ℕ) → q < c.args.width → get_or c.loop-i.source (c.loop-i.i * c.args.width + q) (pos 0) ≡ get_or c.args.source.now (c.loop-i.i * c.args.width + q) (pos 0) =
    λ h. λ q. λ l. span_past first (c.loop-i.i * c.args.width) (c.loop-i.i * c.args.width + q) _ _ _ c.loop-i.invariant.4 (omega arith)
    (omega (arith, (words c.loop-i.i c.loop-i.invariant.0 h).1, c.requires.words_in.source_long)) in
    let place_in : c.loop-i.i < c.args.to → PlaceIn 3_000_000_000_000_000_000 c.loop-i.i c.args.width c.args.grocers.now c.loop-i.source c.loop-i.statement =
    λ h. let i = c.loop-i.i in
    let z = c.requires.words_in in
    let w = words c.loop-i.i c.loop-i.invariant.0 h in
    record {
      width_in = c.requires.width_in;
      place_in = omega (arith, c.requires.grocers_long);
      source_long = omega (arith, c.loop-i.invariant.2, z.source_long, w.1);
      statement_long_lem = λ q l. rw (← number_is i q h l, c.loop-i.invariant.3) (z.grocer_in (i * c.args.width + q) (omega (arith, w.0)) (omega (arith, w.1)));
      source_in = λ q l. rw (total_is h q l) (z.source_in (i * c.args.width + q) (omega (arith, w.0)) (omega (arith, w.1)));
      statement_in = λ q l. size_as _ _ _ _ 3_000_000_000_000_000_000 c.loop-i.invariant.5 (sym (number_is i q h l))
          (omega (
            arith,
            credit_most (i * c.args.width - first) first 1_000_000_000_000_000 numbers c.args.source.now c.args.statement.now
                (λ k m. z.grocer_in (first + k) (omega arith) (omega (arith, w.0, w.1, m)))
                (λ k m. z.source_in (first + k) (omega arith) (omega (arith, w.0, w.1, m)))
                (get_or numbers (i * c.args.width + q) 0) (z.statement_in (i * c.args.width + q) (omega (arith, w.0)) (omega (arith, w.1))),
            z.few,
            w.1,
          ));
    } in
    place_in c.loop-i-test.true

pub loop-i-preserved : goal.loop-i-preserved
loop-i-preserved c =
    let first : ℕ =
    c.args.from * c.args.width in
    let numbers : List ℕ =
    beside c.args.width c.args.grocers.now in
    let words : (i : ℕ) → c.args.from ≤ i → i < c.args.to → (first ≤ i * c.args.width) × (i * c.args.width + c.args.width ≤ c.args.to * c.args.width) =
    λ i. λ l. λ h. (mul-le-mul l (omega arith), row_in i c.args.to c.args.width h) in
    let total_is : c.loop-i.i < c.args.to → (q : ℕ) → q < c.args.width → get_or c.loop-i.source (c.loop-i.i * c.args.width + q) (pos 0) ≡ get_or c.args.source.now (c.loop-i.i * c.args.width + q) (pos 0) =
    λ h. λ q. λ l. span_past first (c.loop-i.i * c.args.width) (c.loop-i.i * c.args.width + q) _ _ _ c.loop-i.invariant.4 (omega arith)
    (omega (arith, (words c.loop-i.i c.loop-i.invariant.0 h).1, c.requires.words_in.source_long)) in
    let i = c.loop-i.i in
    let h = c.loop-i-test.true in
    let w = words c.loop-i.i c.loop-i.invariant.0 h in
    let at : first + (c.loop-i.i * c.args.width - first) ≡ c.loop-i.i * c.args.width = omega (arith, w.0) in
    let more : c.loop-i.i * c.args.width - first + c.args.width ≡ (c.loop-i.i + 1) * c.args.width - first = omega (arith, w.0, row_next c.loop-i.i c.args.width) in (
      omega (arith, c.loop-i.invariant.0),
      omega (arith, h),
      ap length c.credit_place.ensures.0 ∙ length_span _ _ _ c.loop-i.source ∙ c.loop-i.invariant.2,
      ap length c.credit_place.ensures.1 ∙ length_credit _ _ _ c.loop-i.source c.loop-i.statement ∙ c.loop-i.invariant.3,
      c.credit_place.ensures.0 ∙ ap (span_written (i * c.args.width) (i * c.args.width + c.args.width) (λ k. pos 0)) c.loop-i.invariant.4
          ∙ span_join first (i * c.args.width) (i * c.args.width + c.args.width) (λ k. pos 0) c.args.source.now w.0 (omega arith)
          ∙ ap (λ (k : ℕ). span_written first k (λ k. pos 0) c.args.source.now) (sym (row_next i c.args.width)),
      c.credit_place.ensures.1 ∙ ap₂ (λ (x : List ℤ) (k : ℕ). credit_span c.args.width k numbers c.loop-i.source x) c.loop-i.invariant.5 (sym at)
          ∙ credit_join (i * c.args.width - first) c.args.width first numbers c.args.source.now c.loop-i.source c.args.statement.now
          (λ q l. rw at (total_is h q l))
          ∙ ap (λ (k : ℕ). credit_span k first numbers c.args.source.now c.args.statement.now) more,
    )
