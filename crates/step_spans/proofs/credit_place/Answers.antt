-- `step_spans::credit_place` meets its contract. The invariant: the words before word q of the place are added. Assumes nothing.
use mathlib.Core.Path.{◌≡◌, refl, sym, ap, ap₂, ◌∙◌}
use mathlib.Core.List.{List}
use Prim.Native.Nat.{ℕ, ◌+◌, ◌*◌, ◌<◌}
use native.Mathlib.Omega.{arith}
use lib.IntN.{ℤ, pos, ◌+ℤ◌}
use lib.ListN.{length, length-set, get_or, set}
use Rattle.model.specs.Spans.{span_written, beside}
use Rattle.model.proofs.SideBySide.{get_d_beside}
use Rattle.step_spans.proofs.Laws.{span_none, span_past, span_more, span_end, credit_none, size_as, credit_most, credit_next}
use Rattle.step_spans.proofs.credit_place.Goals as goal

pub loop-q-init : goal.loop-q-init
loop-q-init c =
    let first : ℕ =
    c.args.i * c.args.width in
    (omega arith, refl, refl, span_end first first (first + 0) _ _ _ (span_none first (λ k. pos 0) c.args.source.now) (omega arith) (omega arith), credit_none 0 _ _ _ _ refl)

pub credit_word-requires : goal.credit_word-requires
credit_word-requires c =
    let numbers : List ℕ =
    beside c.args.width c.args.grocers.now in
    let first : ℕ =
    c.args.i * c.args.width in
    let number_is : (q : ℕ) → q < c.args.width → get_or numbers (first + q) 0 ≡ get_or c.args.grocers.now c.args.i 0 * c.args.width + q =
    λ q. λ l. get_d_beside c.args.width c.args.grocers.now c.args.i q c.requires.place_in l in
    let here : c.loop-q.q < c.args.width → get_or numbers (first + c.loop-q.q) 0 ≡ c.index_at.result * c.args.width + c.loop-q.q =
    λ l. number_is c.loop-q.q l ∙ ap (λ (g : ℕ). g * c.args.width + c.loop-q.q) (sym c.index_at.ensures.0) in
    let total_is : c.loop-q.q < c.args.width → get_or c.loop-q.source (first + c.loop-q.q) (pos 0) ≡ get_or c.args.source.now (first + c.loop-q.q) (pos 0) =
    λ l. span_past first (first + c.loop-q.q) (first + c.loop-q.q) _ _ _ c.loop-q.invariant.3 (omega arith) (omega (arith, c.requires.source_long)) in
    let q = c.loop-q.q in
    let l = c.loop-q-test.true in
    let in-statement : (k : ℕ) → k < c.args.width → get_or numbers (first + k) 0 < length c.args.statement.now = λ k m. rw (number_is k m) (c.requires.statement_long_lem k m) in
    let few = credit_most q first 3_000_000_000_000_000_000 numbers c.args.source.now c.args.statement.now (λ k m. in-statement k (omega arith)) (λ k m. c.requires.source_in k (omega arith))
    (get_or numbers (first + q) 0) (rw (number_is q l) (c.requires.statement_in q l)) in record {
      w_in_bounds = (omega (arith, c.loop-q.invariant.1, c.requires.source_long), omega (arith, here l, in-statement q l, c.loop-q.invariant.2));
      pos_bound = (rw (total_is l) (c.requires.source_in q l), size_as _ _ _ _ 4_000_000_000_000_000_000 c.loop-q.invariant.4 (sym (here l)) (omega (arith, few, c.requires.width_in)));
    }

pub loop-q-preserved : goal.loop-q-preserved
loop-q-preserved c =
    let numbers : List ℕ =
    beside c.args.width c.args.grocers.now in
    let first : ℕ =
    c.args.i * c.args.width in
    let number_is : (q : ℕ) → q < c.args.width → get_or numbers (first + q) 0 ≡ get_or c.args.grocers.now c.args.i 0 * c.args.width + q =
    λ q. λ l. get_d_beside c.args.width c.args.grocers.now c.args.i q c.requires.place_in l in
    let here : c.loop-q.q < c.args.width → get_or numbers (first + c.loop-q.q) 0 ≡ c.index_at.result * c.args.width + c.loop-q.q =
    λ l. number_is c.loop-q.q l ∙ ap (λ (g : ℕ). g * c.args.width + c.loop-q.q) (sym c.index_at.ensures.0) in
    let total_is : c.loop-q.q < c.args.width → get_or c.loop-q.source (first + c.loop-q.q) (pos 0) ≡ get_or c.args.source.now (first + c.loop-q.q) (pos 0) =
    λ l. span_past first (first + c.loop-q.q) (first + c.loop-q.q) _ _ _ c.loop-q.invariant.3 (omega arith) (omega (arith, c.requires.source_long)) in
    let q = c.loop-q.q in
    let l = c.loop-q-test.true in
    let at = first + q in (
      omega (arith, l),
      ap length c.credit_word.ensures.0 ∙ length-set c.loop-q.source (first + q) (pos 0) ∙ c.loop-q.invariant.1,
      ap length c.credit_word.ensures.1 ∙ length-set c.loop-q.statement _ _ ∙ c.loop-q.invariant.2,
      c.credit_word.ensures.0 ∙ span_more first (first + q) (λ k. pos 0) _ _ _ c.loop-q.invariant.3 (omega arith) (omega (arith, l, c.requires.source_long)) refl
          ∙ ap (λ (k : ℕ). span_written first k (λ k. pos 0) c.args.source.now) (next first q),
      c.credit_word.ensures.1 ∙ ap₂ (λ (x : List ℤ) (z : ℤ). set x (c.index_at.result * c.args.width + q) (get_or x (c.index_at.result * c.args.width + q) (pos 0) +ℤ z)) c.loop-q.invariant.4 (total_is l)
          ∙ credit_next q first (first + q) _ numbers c.args.source.now c.args.statement.now refl (here l),
    )
  where
    next : (a q : ℕ) → a + q + 1 ≡ a + (q + 1)
    next a q = omega arith
