-- `desk::settle` meets its contract, by the tests that led to each answer. Assumes nothing.
use mathlib.Core.Path.{sym, ap, ◌∙◌}
use native.Mathlib.Omega.{arith}
use lib.IntN.{ℤ}
use mir.Syntax.{w64}
use mir.Val.{of_z, to_z}
use Rattle.laws.proofs.Signed.{read64_abs}
use Rattle.desk_records.proofs.Taking.{unmarked_abs}
use Rattle.desk.proofs.Settling.{refused_twice, owed_sum, marks_stand}
use Rattle.desk.proofs.settle.Goals as goal

pub returns-then-strike : goal.returns-then-strike
returns-then-strike c =
    λ d k. refused_twice d c.args.entries.now.shares (sym (c.strike.ensures.value d k) ∙ c.if-strike.true)

pub standing_sum-requires : goal.standing_sum-requires
standing_sum-requires c = record {
  n_bound = (c.requires.few, omega (arith, c.requires.few, c.requires.shares_long), omega (arith, c.requires.few, c.strike.auto.boxes));
  by_index = c.requires.small;
}

pub returns : goal.returns
returns c =
    let e = c.args.entries.now in
    λ d k.
    owed_sum d e.shares _ (sym (c.strike.ensures.value d k) ∙ c.if-strike.false)
    (ap (λ (y : ℤ). to_z w64 (of_z w64 y)) c.standing_sum.ensures
    ∙ read64_abs _ (omega (arith, unmarked_abs c.args.len c.strike.new.boxes e.shares c.requires.few c.requires.small))
    ∙ marks_stand d c.args.len c.strike.new.boxes e.shares k.size (c.strike.ensures.struck d k c.if-strike.false))
