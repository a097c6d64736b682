-- `late_checks::names::find_offer` meets its contract: at offer i none before it has the number. Assumes nothing.
use mathlib.Core.Path.{refl, sym, ap, ◌∙◌}
use Prim.Native.Nat.{ℕ}
use native.Mathlib.Nat.{le_antisymm}
use native.Mathlib.Omega.{arith}
use borrow.Author.Rules.{rules}
use borrow.Author.Tests.{eq-eqb, ne_eqb}
use Rattle.laws.specs.Below.{any}
use Rattle.laws.proofs.Below.{any_next, find_none}
use Rattle.late_checks.specs.Named.{is_number}
use Rattle.late_checks.proofs.First.{find_first}
use Rattle.late_checks.proofs.names.find_offer.Goals as goal

pub loop-i-init : goal.loop-i-init
unfolding any
loop-i-init c =
    (search rules, refl)

pub returns-then-number_of-number : goal.returns-then-number_of-number
unfolding is_number
returns-then-number_of-number c = (
  sym (find_first c.args.n (is_number c.args.offer_code.now c.args.offer_issuer.now c.args.number) c.loop-i.i c.loop-i-test.true
      (eq-eqb _ _ (sym c.number_of.ensures ∙ c.if-number_of-number.true)) c.loop-i.invariant.1),
  c.loop-i.invariant.0,
)

pub loop-i-preserved : goal.loop-i-preserved
unfolding is_number
loop-i-preserved c =
    (search rules, any_next c.loop-i.i _ ∙ rw c.loop-i.invariant.1 (ne_eqb _ _ (λ e. c.if-number_of-number.false (c.number_of.ensures ∙ e))))

pub returns : goal.returns
returns c =
    let s = c.args in (
      sym (find_none s.n (is_number s.offer_code.now s.offer_issuer.now s.number)
          (ap (λ (k : ℕ). any k (is_number s.offer_code.now s.offer_issuer.now s.number)) (sym (le_antisymm c.loop-i.invariant.0 c.loop-i-test.false)) ∙ c.loop-i.invariant.1)),
      omega arith,
    )
