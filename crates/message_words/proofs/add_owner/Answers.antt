-- `message_words::add_owner` meets its contract: the words of the boxes passed are added. Assumes nothing.
use mathlib.Core.Path.{◌≡◌, ap, ap₂, ◌∙◌}
use mathlib.Core.Bool.{cond}
use Prim.Native.Nat.{ℕ, ◌<◌, ◌^◌}
use native.Mathlib.Omega.{arith}
use lib.ListN.{get_or}
use Rattle.laws.specs.Below.{naturals, only}
use Rattle.laws.specs.Masks.{bit, without}
use Rattle.message_words.proofs.Sending.{passing_table, passing_none, passing_all, passing_more, passing_max}
use Rattle.message_words.proofs.add_owner.Goals as goal
use Rattle.message_words.proofs.add_owner.Goals.{then-back, else-back}

pub loop-b-init : goal.loop-b-init
loop-b-init c = c.requires.table_value ∙ passing_none c.args.back c.args.n c.args.owners.now c.args.masks.now

pub overflow_add-table : goal.overflow_add-table
overflow_add-table c =
    let x = c.args in
    let b = c.loop-b.b in
    let owner_in : get_or x.owners.now x.n 0 < 16 = c.requires.owned.owner< x.n (omega arith) in
    let mask_in : get_or x.masks.now x.n 0 < 2 ^ 16 = omega arith in
    let owner_is : c.from-o.result ≡ get_or x.owners.now x.n 0 = c.from-o.ensures ∙ c.u16_at-owner.ensures in
    let from_is : c.if-back.from.0 ≡ cond x.back b c.from-o.result =
    elim c.if-back.branch [ then-back w ↦ rw (w.from-is, w.if-back.true) | else-back w ↦ rw (w.from-is, w.if-back.false) ] in
    let to_is : c.if-back.from.1 ≡ cond x.back c.from-o.result b =
    elim c.if-back.branch [ then-back w ↦ rw (w.from-is, w.if-back.true) | else-back w ↦ rw (w.from-is, w.if-back.false) ] in
    let more_is : c.bit_word.result ≡ only naturals (bit b (without (get_or x.owners.now x.n 0) (get_or x.masks.now x.n 0))) 1 =
    c.bit_word.ensures ∙ ap (λ (w : ℕ). only naturals (bit b w) 1) (c.clear_bit-others.ensures ∙ ap₂ without c.u16_at-owner.ensures c.u16_at.ensures) in
    rw (c.loop-b.invariant, from_is, to_is, owner_is, more_is)
    (omega (arith, c.requires.n_bound, passing_max x.back x.n x.owners.now x.masks.now owner_in mask_in b c.loop-b-test.true))

pub loop-b-preserved : goal.loop-b-preserved
loop-b-preserved c =
    let x = c.args in
    let b = c.loop-b.b in
    let owner_in : get_or x.owners.now x.n 0 < 16 = c.requires.owned.owner< x.n (omega arith) in
    let mask_in : get_or x.masks.now x.n 0 < 2 ^ 16 = omega arith in
    let owner_is : c.from-o.result ≡ get_or x.owners.now x.n 0 = c.from-o.ensures ∙ c.u16_at-owner.ensures in
    let from_is : c.if-back.from.0 ≡ cond x.back b c.from-o.result =
    elim c.if-back.branch [ then-back w ↦ rw (w.from-is, w.if-back.true) | else-back w ↦ rw (w.from-is, w.if-back.false) ] in
    let to_is : c.if-back.from.1 ≡ cond x.back c.from-o.result b =
    elim c.if-back.branch [ then-back w ↦ rw (w.from-is, w.if-back.true) | else-back w ↦ rw (w.from-is, w.if-back.false) ] in
    let more_is : c.bit_word.result ≡ only naturals (bit b (without (get_or x.owners.now x.n 0) (get_or x.masks.now x.n 0))) 1 =
    c.bit_word.ensures ∙ ap (λ (w : ℕ). only naturals (bit b w) 1) (c.clear_bit-others.ensures ∙ ap₂ without c.u16_at-owner.ensures c.u16_at.ensures) in
    rw (c.loop-b.invariant, from_is, to_is, owner_is)
    (passing_more x.back x.n x.owners.now x.masks.now owner_in mask_in b c.loop-b-test.true c.bit_word.result more_is)

pub returns : goal.returns
returns c =
    let x = c.args in
    let done : c.loop-b.b ≡ 16 = omega arith in
    c.loop-b.invariant ∙ ap (passing_table x.back x.n x.owners.now x.masks.now) done ∙ passing_all x.back x.n x.owners.now x.masks.now
