-- `file_blocks::plan::kind_at` meets its contract. Assumes nothing.
use native.Mathlib.Omega.{arith}
use borrow.Author.Tests.{lt-ltb, le-ltb}
use Rattle.format.specs.Blocks.{offers_at, grocers_at, prices_at, tallies_at, kind_at}
use Rattle.file_blocks.specs.Due.{as_head}
use Rattle.file_blocks.proofs.plan.kind_at.Goals as goal

pub returns-then-k-lt1 : goal.returns-then-k-lt1
unfolding kind_at
returns-then-k-lt1 c =
    rw (lt-ltb _ offers_at c.if-k-lt1.true)

pub returns-then-k-grocers : goal.returns-then-k-grocers
unfolding kind_at
returns-then-k-grocers c =
    let n = as_head c.args.head in
    let k = c.args.k in
    rw (le-ltb k offers_at c.if-k-lt1.false, lt-ltb k (grocers_at n) (omega arith))

pub returns-then-k-grocers-2 : goal.returns-then-k-grocers-2
unfolding kind_at
returns-then-k-grocers-2 c =
    let n = as_head c.args.head in
    let k = c.args.k in
    rw (le-ltb k offers_at c.if-k-lt1.false, le-ltb k (grocers_at n) (omega arith), lt-ltb k (prices_at n) (omega arith))

pub returns-then-k-tallies_at : goal.returns-then-k-tallies_at
unfolding kind_at
returns-then-k-tallies_at c =
    let n = as_head c.args.head in
    let k = c.args.k in
    rw (
      le-ltb k offers_at c.if-k-lt1.false,
      le-ltb k (grocers_at n) (omega arith),
      le-ltb k (prices_at n) (omega arith),
      lt-ltb k (tallies_at n) (omega (arith, c.tallies_at.ensures, c.if-k-tallies_at.true)),
    )

pub returns : goal.returns
unfolding kind_at
returns c =
    let n = as_head c.args.head in
    let k = c.args.k in
    rw (
      le-ltb k offers_at c.if-k-lt1.false,
      le-ltb k (grocers_at n) (omega arith),
      le-ltb k (prices_at n) (omega arith),
      le-ltb k (tallies_at n) (omega (arith, c.tallies_at.ensures, c.if-k-tallies_at.false)),
    )
