-- `book_places::all::Half::row_of` meets its contract. Assumes nothing.
use mathlib.Core.Path.{refl, sym, ◌∙◌}
use mathlib.Core.Bool.{true≢false}
use Prim.Native.Nat.{◌<◌, ◌≤◌}
use native.Mathlib.Omega.{arith}
use lib.Dec.{ltb, leb}
use borrow.Author.Tests.{ltb-false, leb-false, le-ltb, lt-leb}
use Rattle.laws.proofs.Bools.{or_off}
use Rattle.book_places.proofs.all.Half.row_of.Goals as goal

pub returns-then-b-self : goal.returns-then-b-self
returns-then-b-self c =
    ((λ l h. absurd (true≢false (sym c.if-b-self.true ∙ rw (le-ltb c.args.b c.args.self.first l, lt-leb c.args.self.last c.args.b h)))), omega arith)

pub returns : goal.returns
returns c =
    let from : c.args.self.first ≤ c.args.b =
    ltb-false c.args.b c.args.self.first (or_off (ltb c.args.b c.args.self.first) (leb c.args.self.last c.args.b) c.if-b-self.false).0 in
    let to : c.args.b < c.args.self.last =
    leb-false c.args.self.last c.args.b (or_off (ltb c.args.b c.args.self.first) (leb c.args.self.last c.args.b) c.if-b-self.false).1 in
    ((λ l h. refl), omega (arith, from, to, c.args.self.few))
