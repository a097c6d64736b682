-- `step_prices::list::list_message` meets its contract: at offer o the list has the offers below o that stand in the message. Assumes nothing.
use mathlib.Core.Path.{◌≡◌, refl, sym, ap, ap₂, ◌∙◌}
use mathlib.Core.Bool.{Bool, true}
use mathlib.Core.List.{List}
use Prim.Native.Nat.{ℕ, ◌+◌, ◌<◌, ◌≤◌}
use native.Mathlib.Omega.{arith}
use native.Mathlib.Nat.{le_antisymm, zero-add}
use lib.ListN.{length, get_or, length-set}
use mir.Val.{bool_byte}
use Rattle.laws.specs.Below.{count}
use Rattle.laws.specs.Listed.{Listed}
use Rattle.laws.proofs.Below.{count_start, count_le}
use Rattle.laws.proofs.Listed.{stands_next, count_more}
use Rattle.step_places.specs.Message.{in_message, word_in}
use Rattle.step_prices.proofs.list.list_message.Goals as goal

-- The list, from its length and its words.
listed : (n : ℕ) (p : ℕ → Bool) (l : ℕ) (table : List ℕ) → l ≤ length table → l ≡ count n p → ((x : ℕ) → x < n → p x ≡ true → get_or table (count x p) 0 ≡ x) → Listed n p 0 l table
listed n p l table h e each = record { long = h; many = e ∙ sym (zero-add (count n p)); each = λ x lx px. ap (λ (i : ℕ). get_or table i 0) (zero-add (count x p)) ∙ each x lx px }

pub loop-o-init : goal.loop-o-init
loop-o-init c =
    let due : ℕ → Bool =
    word_in c.args.owners.now c.args.masks.now c.args.a c.args.b in
    (omega arith, refl, sym (count_start due), λ y l e. absurd (omega arith))

pub offset_bounds-offers-l : goal.offset_bounds-offers-l
offset_bounds-offers-l c =
    let due : ℕ → Bool =
    word_in c.args.owners.now c.args.masks.now c.args.a c.args.b in
    let few : c.loop-o.l ≤ c.loop-o.o =
    let v = c.loop-o in omega (arith, v.invariant.2, count_le v.o due) in
    let small : c.loop-o.o < 500 =
    omega (arith, c.loop-o-test.true, c.requires.n_bound.0) in
    omega (arith, few, small)

pub bounds-offers-l : goal.bounds-offers-l
bounds-offers-l c =
    let due : ℕ → Bool =
    word_in c.args.owners.now c.args.masks.now c.args.a c.args.b in
    let few : c.loop-o.l ≤ c.loop-o.o =
    let v = c.loop-o in omega (arith, v.invariant.2, count_le v.o due) in
    let there : c.loop-o.l < length c.loop-o.offers =
    omega (arith, few, c.loop-o-test.true, c.loop-o.invariant.1, c.requires.b_bound.1) in
    there

pub overflow_add-l : goal.overflow_add-l
unfolding word_in
overflow_add-l c =
    let due : ℕ → Bool =
    word_in c.args.owners.now c.args.masks.now c.args.a c.args.b in
    let small : c.loop-o.o < 500 =
    omega (arith, c.loop-o-test.true, c.requires.n_bound.0) in
    let told : c.in_message.result ≡ due c.loop-o.o =
    c.in_message.ensures ∙ ap₂ (λ (x y : ℕ). in_message x y c.args.a c.args.b) c.u16_at.ensures c.u16_at-in-loop-o.ensures in
    let more : c.loop-o.l + bool_byte c.in_message.result ≡ count (c.loop-o.o + 1) (due) =
    count_more due c.loop-o.o _ _ c.loop-o.invariant.2 (told) in
    omega (arith, more, count_le (c.loop-o.o + 1) (due), small)

pub loop-o-preserved : goal.loop-o-preserved
unfolding word_in
loop-o-preserved c =
    let due : ℕ → Bool =
    word_in c.args.owners.now c.args.masks.now c.args.a c.args.b in
    let few : c.loop-o.l ≤ c.loop-o.o =
    let v = c.loop-o in omega (arith, v.invariant.2, count_le v.o due) in
    let there : c.loop-o.l < length c.loop-o.offers =
    omega (arith, few, c.loop-o-test.true, c.loop-o.invariant.1, c.requires.b_bound.1) in
    let told : c.in_message.result ≡ due c.loop-o.o =
    c.in_message.ensures ∙ ap₂ (λ (x y : ℕ). in_message x y c.args.a c.args.b) c.u16_at.ensures c.u16_at-in-loop-o.ensures in
    let more : c.loop-o.l + bool_byte c.in_message.result ≡ count (c.loop-o.o + 1) (due) =
    count_more due c.loop-o.o _ _ c.loop-o.invariant.2 (told) in
    let v = c.loop-o in (
      omega (arith, c.loop-o-test.true),
      length-set v.offers v.l c.word_of.result ∙ v.invariant.1,
      rw c.from-l.ensures more,
      rw v.invariant.2 (stands_next due v.o c.word_of.result v.offers (omega (arith, there, v.invariant.2)) c.word_of.ensures v.invariant.3),
    )

pub returns : goal.returns
returns c =
    let due : ℕ → Bool =
    word_in c.args.owners.now c.args.masks.now c.args.a c.args.b in
    let v = c.loop-o in
    let last : v.o ≡ c.args.n = le_antisymm v.invariant.0 c.loop-o-test.false in
    let is : v.l ≡ count c.args.n due = v.invariant.2 ∙ ap (λ (x : ℕ). count x due) last in
    let most : v.l ≤ c.args.n = omega (arith, is, count_le c.args.n due) in
    record {
      listed = listed c.args.n due v.l v.offers (omega (arith, most, v.invariant.1, c.requires.b_bound.1)) is (λ x h. v.invariant.3 x (omega (arith, last)));
      upper_bound = most;
    }
