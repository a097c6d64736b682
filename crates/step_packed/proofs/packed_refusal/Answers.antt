-- `step_packed::packed_refusal` meets its contract. Assumes nothing.
use mathlib.Core.Path.{sym}
use Rattle.laws.specs.Checks.{first_met}
use Rattle.step_packed.proofs.packed_refusal.Goals as goal

pub returns-then-working-words : goal.returns-then-working-words
unfolding first_met
returns-then-working-words c =
    rw c.if-working-words.true

pub returns-then-not-around64 : goal.returns-then-not-around64
unfolding first_met
returns-then-not-around64 c =
    rw (c.if-working-words.false, sym c.around64.ensures, sym c.around64-2.ensures, (mathlib.Core.Path.ap mathlib.Core.Bool.not c.if-not-around64.true))

pub returns : goal.returns
unfolding first_met
returns c =
    rw (c.if-working-words.false, sym c.around64.ensures, sym c.around64-2.ensures, (mathlib.Core.Path.ap mathlib.Core.Bool.not c.if-not-around64.false))
