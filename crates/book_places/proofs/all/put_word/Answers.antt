-- `book_places::all::put_word` meets its contract. Assumes nothing.
use mathlib.Core.Path.{sym}
use lib.Seq.{set_out}
use Rattle.book_places.proofs.all.put_word.Goals as goal

pub returns-else-i-out : goal.returns-else-i-out
returns-else-i-out c =
    sym (set_out c.args.out.now c.args.i c.args.word c.if-i-out.false)
