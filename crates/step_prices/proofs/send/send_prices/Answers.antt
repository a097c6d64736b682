-- `step_prices::send::send_prices` meets its contract. The invariant: the words of the offers before place i of the list are in transit. Assumes nothing.
use mathlib.Core.Path.{◌≡◌, sym, ap, ◌∙◌}
use mathlib.Core.Bool.{cond}
use Prim.Native.Nat.{ℕ, ◌<◌, ◌+◌, ◌-◌, ◌*◌}
use native.Mathlib.Omega.{arith}
use native.Mathlib.Nat.{le_antisymm}
use lib.ListN.{get_or}
use Rattle.laws.specs.Tables.{cell}
use Rattle.laws.proofs.Loops.{window}
use Rattle.laws.proofs.Tables.{cell_at}
use Rattle.model.specs.Spans.{in_span}
use Rattle.step_prices.specs.Prices.{sent_transit}
use Rattle.step_prices.proofs.Words.{told, stored, stored_next, stored_row}
use Rattle.step_prices.proofs.send.send_prices.Goals as goal

pub loop-i-preserved : goal.loop-i-preserved
unfolding in_span
loop-i-preserved c =
    let sender : ℕ =
    c.row_start-sender.result in
    let receiver : ℕ =
    c.row_start-receiver.result in
    let new : ℕ → ℕ =
    λ k. get_or c.args.known.now (sender + (k - receiver)) 0 in
    let old : ℕ → ℕ =
    λ k. get_or c.args.transit.now k 0 in
    let place_is : c.words_at-at.result ≡ get_or c.args.offers.now c.loop-i.i 0 * c.args.width =
    c.words_at-at.ensures.0 ∙ ap (λ (x : ℕ). x * c.args.width) c.index_at.ensures.0 in
    let written : (k : ℕ) → get_or c.copy_words.new.words k 0
    ≡ cond (window (receiver + get_or c.args.offers.now c.loop-i.i 0 * c.args.width) c.args.width k) (new k) (get_or c.loop-i.transit k 0) =
    λ k. c.copy_words.ensures k
    ∙ told sender receiver c.words_at-at.result c.args.width k c.args.known.now (get_or c.loop-i.transit k 0)
    ∙ ap (λ (p : ℕ). cond (window (receiver + p) c.args.width k) (new k) (get_or c.loop-i.transit k 0)) (place_is) in
    let v = c.loop-i in (
      omega (arith, v.invariant.0),
      omega (arith, c.loop-i-test.true),
      c.copy_words.auto.words ∙ v.invariant.2,
      λ p l. stored_next c.args.n c.args.width c.requires.width_some p c.args.from c.args.to c.args.offers.now l receiver v.i v.invariant.0 c.loop-i-test.true
          new old v.transit c.copy_words.new.words 0 (v.invariant.3 p l) (written),
    )

pub returns : goal.returns
unfolding sent_transit
returns c =
    let sender : ℕ =
    c.row_start-sender.result in
    let receiver : ℕ =
    c.row_start-receiver.result in
    let sender_is : sender ≡ c.args.a * (c.args.n * c.args.width) =
    c.row_start-sender.ensures ∙ ap (λ (x : ℕ). c.args.a * x) c.words_at-words.ensures.0 in
    let receiver_is : receiver ≡ c.args.b * (c.args.n * c.args.width) =
    c.row_start-receiver.ensures ∙ ap (λ (x : ℕ). c.args.b * x) c.words_at-words.ensures.0 in
    let new : ℕ → ℕ =
    λ k. get_or c.args.known.now (sender + (k - receiver)) 0 in
    let old : ℕ → ℕ =
    λ k. get_or c.args.transit.now k 0 in
    let row_word : (k : ℕ) → c.args.a < k → (w : ℕ) → w < c.args.n * c.args.width → new (c.args.b * (c.args.n * c.args.width) + w) ≡ cell k (c.args.n * c.args.width) c.args.known.now 0 c.args.a w =
    λ k. λ la. λ w. λ l. ap (λ (x : ℕ). get_or c.args.known.now x 0) (omega (arith, sender_is, receiver_is))
    ∙ sym (cell_at k (c.args.n * c.args.width) c.args.known.now 0 c.args.a w la l) in
    λ k. λ p. λ h. λ l. let v = c.loop-i in
    let end : v.i ≡ c.args.to = le_antisymm v.invariant.1 c.loop-i-test.false in
    stored_row c.args.n c.args.width c.requires.width_some p c.args.from c.args.to c.args.offers.now l k c.args.b receiver c.args.transit.now v.transit 0
    new (cell k (c.args.n * c.args.width) c.args.known.now 0 c.args.a) h.c_in h.transit_long_lem receiver_is v.invariant.2
    (λ i. v.invariant.3 p l i ∙ ap (λ (x : ℕ). cond (stored c.args.n c.args.width p c.args.from receiver x i) (new i) (old i)) end)
    (row_word k h.a_in)
