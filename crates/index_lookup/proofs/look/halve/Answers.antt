-- `index_lookup::look::halve` meets its contract. The invariant: a key that is the number is among the `len` places from `at` on. Assumes nothing.
use native.Mathlib.Omega.{arith}
use Rattle.index_lookup.proofs.Looking.{half_in, bracket_half, bracket_end}
use Rattle.index_lookup.proofs.look.halve.Goals as goal

pub loop-most-init : goal.loop-most-init
loop-most-init c =
    (c.requires.0, c.requires.1.0, c.requires.1.1.0, c.requires.1.1.1, λ n b. b)

pub nearer-at-requires : goal.nearer-at-requires
nearer-at-requires c =
    let v = c.loop-most.invariant in omega (arith, v.0, v.1, v.3)

pub loop-most-smaller : goal.loop-most-smaller
loop-most-smaller c =
    omega (arith, c.loop-most-test.true)

pub loop-most-preserved : goal.loop-most-preserved
loop-most-preserved c =
    let s = c.args in
    let v = c.loop-most.invariant in (
      omega (arith, v.0),
      omega (arith, v.1),
      omega (arith, v.2),
      half_in s.keys.now s.number c.loop-most.at c.loop-most.len _ c.nearer-at.ensures v.3,
      λ n b. (bracket_half c.nearer-at.result (v.4 n b) v.0 c.nearer-at.ensures).1,
    )

pub returns : goal.returns
returns c =
    let v = c.loop-most.invariant in λ n b. bracket_end (v.4 n b) v.0 (omega (arith, v.2, c.loop-most-test.false))
