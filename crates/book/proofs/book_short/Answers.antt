-- `book::book_short` meets its contract. Assumes nothing.
use native.Mathlib.Numerals.{add-one}
use Rattle.model.specs.Local.{book_short}
use Rattle.book.proofs.book_short.Goals as goal

pub returns : goal.returns
unfolding book_short
returns c =
    rw (c.from-m.ensures, c.from-n.ensures, c.from-t.ensures, add-one c.args.z.offers)
