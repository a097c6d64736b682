-- `forecast_checks::refusal::words_in` meets its contract: before word i those of the message before it are counted. Assumes nothing.
use mathlib.Core.Path.{◌≡◌, sym, ap₂, ◌∙◌}
use mathlib.Core.Bool.{Bool}
use mathlib.Core.List.{List}
use Prim.Native.Nat.{ℕ, ◌+◌, ◌<◌}
use native.Mathlib.Omega.{arith}
use lib.ListN.{get_or}
use mir.Val.{bool_byte}
use Rattle.laws.specs.Below.{count}
use Rattle.laws.proofs.Below.{count_start, count_le}
use Rattle.laws.proofs.Listed.{count_more}
use Rattle.step_places.specs.Message.{in_message, word_in}
use Rattle.forecast_checks.proofs.refusal.words_in.Goals as goal

-- One word more, from what the calls give.
one_more : (a b : ℕ) (owner mask : List ℕ) (i n one x y : ℕ) (due : Bool) → n ≡ count i (word_in owner mask a b) → one ≡ bool_byte due → due ≡ in_message x y a b →
    x ≡ get_or owner i 0 → y ≡ get_or mask i 0 → n + one ≡ count (i + 1) (word_in owner mask a b)
unfolding word_in
one_more a b owner mask i n one x y due en eo ed ex ey =
    rw eo (count_more (word_in owner mask a b) i _ _ en (ed ∙ ap₂ (λ (x y : ℕ). in_message x y a b) ex ey))

pub loop-i-init : goal.loop-i-init
loop-i-init c =
    sym (count_start _)

pub overflow_add-words : goal.overflow_add-words
unfolding word_in
overflow_add-words c =
    let due : ℕ → Bool = word_in c.args.owner.now c.args.mask.now c.args.a c.args.b in
    let turn : c.loop-i.i < c.args.n = omega (arith, c.loop-i-test.true, c.from-i-end.ensures) in
    let more : c.loop-i.words + c.from-words.result ≡ count (c.loop-i.i + 1) due =
    one_more c.args.a c.args.b c.args.owner.now c.args.mask.now c.loop-i.i _ _ _ _ _ c.loop-i.invariant c.from-words.ensures c.in_message.ensures c.u16_at.ensures c.u16_at-in-loop-i.ensures in
    omega (arith, more, count_le (c.loop-i.i + 1) due, turn, c.requires.1.0)

pub loop-i-preserved : goal.loop-i-preserved
loop-i-preserved c =
    one_more c.args.a c.args.b c.args.owner.now c.args.mask.now c.loop-i.i _ _ _ _ _ c.loop-i.invariant c.from-words.ensures c.in_message.ensures c.u16_at.ensures c.u16_at-in-loop-i.ensures
