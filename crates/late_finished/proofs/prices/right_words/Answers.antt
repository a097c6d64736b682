-- `late_finished::prices::right_words` meets its contract. Assumes nothing.
use Rattle.late_finished.specs.Tests.{no_words, right_words}
use Rattle.late_finished.proofs.prices.right_words.Goals as goal

pub returns-then-knows : goal.returns-then-knows
unfolding right_words
returns-then-knows c =
    rw c.if-knows.true c.same_prices.ensures

pub returns : goal.returns
unfolding right_words no_words
returns c =
    rw c.if-knows.false c.no_words.ensures
