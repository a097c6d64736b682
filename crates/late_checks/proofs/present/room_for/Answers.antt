-- `late_checks::present::room_for` meets its contract. Assumes nothing.
use native.Mathlib.Omega.{arith}
use borrow.Author.Tests.{lt-ltb, le-ltb}
use Rattle.laws.specs.Limits.{max_tallies}
use Rattle.late_rules.specs.Late.{room}
use Rattle.late_checks.proofs.present.room_for.Goals as goal

pub returns-then-tallies-lt-MAX_TALLIES : goal.returns-then-tallies-lt-MAX_TALLIES
unfolding room
returns-then-tallies-lt-MAX_TALLIES c =
    let same = c.from-t.ensures in
    (rw (lt-ltb c.args.tallies max_tallies c.if-tallies-lt-MAX_TALLIES.true) (omega arith), (omega arith, omega (arith, c.if-tallies-lt-MAX_TALLIES.true)))

pub returns : goal.returns
unfolding room
returns c =
    let same = c.from-t.ensures in
    (rw (le-ltb c.args.tallies max_tallies c.if-tallies-lt-MAX_TALLIES.false) same, (omega arith, omega (arith, same)))
