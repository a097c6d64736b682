-- `cycle_store::rows::moved_word` meets its contract. Assumes nothing.
use mathlib.Core.Path.{◌∙◌}
use borrow.Author.Tests.{lt-ltb, le-ltb}
use Rattle.laws.proofs.Signed.{read64}
use Rattle.cycle_store.specs.Moved.{word_moved}
use Rattle.cycle_store.proofs.rows.moved_word.Goals as goal

pub returns-then-p-m : goal.returns-then-p-m
unfolding word_moved
returns-then-p-m c =
    read64 c.i64_at.result c.i64_at.type_inv ∙ c.i64_at.ensures ∙ rw (lt-ltb _ _ c.if-p-m.true)

pub returns-then-p-back : goal.returns-then-p-back
unfolding word_moved
returns-then-p-back c =
    rw (le-ltb _ _ c.if-p-m.false, lt-ltb _ _ c.if-p-back.true)

pub returns : goal.returns
unfolding word_moved
returns c =
    read64 c.i64_at-2.result c.i64_at-2.type_inv ∙ c.i64_at-2.ensures ∙ rw (le-ltb _ _ c.if-p-m.false, le-ltb _ _ c.if-p-back.false)
