-- `step_prices::receive::receive_prices` meets its contract. The invariant: the words of the offers before place i of the list are known, and no longer in transit. Assumes nothing.
use mathlib.Core.Path.{◌≡◌, refl, sym, ap, ◌∙◌}
use mathlib.Core.Bool.{cond}
use Prim.Native.Nat.{ℕ, ◌+◌, ◌*◌}
use native.Mathlib.Omega.{arith}
use native.Mathlib.Nat.{le_antisymm}
use lib.ListN.{get_or}
use Rattle.laws.specs.Tables.{cell}
use Rattle.laws.proofs.Loops.{window}
use Rattle.laws.proofs.Tables.{cell_at}
use Rattle.model.specs.Spans.{in_span}
use Rattle.step_prices.specs.Prices.{received_known, received_transit}
use Rattle.step_prices.proofs.Words.{stored, stored_next, stored_row, still}
use Rattle.step_prices.proofs.receive.receive_prices.Goals as goal

pub loop-i-preserved : goal.loop-i-preserved
unfolding in_span
loop-i-preserved c =
    let row : ℕ =
    c.row_start-row.result in
    let knew : ℕ → ℕ =
    λ k. get_or c.args.known.now k 0 in
    let came : ℕ → ℕ =
    λ k. get_or c.args.transit.now k 0 in
    let offer : ℕ =
    get_or c.args.offers.now c.loop-i.i 0 in
    let place_is : c.words_at-at.result ≡ offer * c.args.width =
    c.words_at-at.ensures.0 ∙ ap (λ (x : ℕ). x * c.args.width) c.index_at.ensures.0 in
    let taken_known : (k : ℕ) → get_or c.take_words.new.known k 0
    ≡ cond (window (row + offer * c.args.width) c.args.width k) (get_or c.loop-i.transit k 0) (get_or c.loop-i.known k 0) =
    λ k. c.take_words.ensures.0 k
    ∙ ap (λ (p : ℕ). cond (window (row + p) c.args.width k) (get_or c.loop-i.transit k 0) (get_or c.loop-i.known k 0)) (place_is) in
    let taken_transit : (k : ℕ) → get_or c.take_words.new.transit k 0
    ≡ cond (window (row + offer * c.args.width) c.args.width k) 0 (get_or c.loop-i.transit k 0) =
    λ k. c.take_words.ensures.1 k
    ∙ ap (λ (p : ℕ). cond (window (row + p) c.args.width k) 0 (get_or c.loop-i.transit k 0)) (place_is) in
    let at = row in
    let v = c.loop-i in
    let h = c.loop-i-test.true in
    let some = c.requires.width_some in
    let list = c.args.offers.now in (
      omega (arith, v.invariant.0),
      omega (arith, h),
      c.take_words.auto.known ∙ v.invariant.2,
      c.take_words.auto.transit ∙ v.invariant.3,
      λ p l. stored_next c.args.n c.args.width some p c.args.from c.args.to list l at v.i v.invariant.0 h
          came knew v.known c.take_words.new.known 0 (v.invariant.4 p l) (λ k. taken_known k
          ∙ still c.args.n c.args.width some p c.args.from c.args.to list l at v.i v.invariant.0 h 0 came v.transit 0 (v.invariant.5 p l) k (get_or v.known k 0)),
      λ p l. stored_next c.args.n c.args.width some p c.args.from c.args.to list l at v.i v.invariant.0 h
          (λ k. 0) came v.transit c.take_words.new.transit 0 (v.invariant.5 p l) (taken_transit),
    )

pub returns : goal.returns
unfolding received_known received_transit
returns c =
    let row : ℕ =
    c.row_start-row.result in
    let row_is : row ≡ c.args.a * (c.args.n * c.args.width) =
    c.row_start-row.ensures ∙ ap (λ (x : ℕ). c.args.a * x) c.words_at.ensures.0 in
    let knew : ℕ → ℕ =
    λ k. get_or c.args.known.now k 0 in
    let came : ℕ → ℕ =
    λ k. get_or c.args.transit.now k 0 in
    λ k. λ p. λ h. λ l. let v = c.loop-i in
    let m = c.args.n * c.args.width in
    let some = c.requires.width_some in
    let list = c.args.offers.now in
    let end : v.i ≡ c.args.to = le_antisymm v.invariant.1 c.loop-i-test.false in (
      stored_row c.args.n c.args.width some p c.args.from c.args.to list l k c.args.a row c.args.known.now v.known 0
          came (cell k m c.args.transit.now 0 c.args.a) h.a_in h.known_long_lem row_is v.invariant.2
          (λ i. v.invariant.4 p l i ∙ ap (λ (x : ℕ). cond (stored c.args.n c.args.width p c.args.from row x i) (came i) (knew i)) end)
          (λ w lw. sym (cell_at k m c.args.transit.now 0 c.args.a w h.a_in lw)),
      stored_row c.args.n c.args.width some p c.args.from c.args.to list l k c.args.a row c.args.transit.now v.transit 0
          (λ i. 0) (λ w. 0) h.a_in h.transit_long_lem row_is v.invariant.3
          (λ i. v.invariant.5 p l i ∙ ap (λ (x : ℕ). cond (stored c.args.n c.args.width p c.args.from row x i) 0 (came i)) end)
          (λ w lw. refl),
    )
