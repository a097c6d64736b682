-- `book_places::all::Half::place_at` meets its contract. Assumes nothing.
use mathlib.Core.Path.{sym, ap, ◌∙◌}
use Prim.Native.Nat.{ℕ, ◌+◌, ◌*◌, ◌<◌, ◌≤◌}
use native.Mathlib.Omega.{arith}
use Rattle.book_sort.specs.Sort.{at}
use Rattle.book_places.proofs.Boxes.{place_before_lem, place_in_half, place_behind}
use Rattle.book_places.proofs.all.Half.place_at.Goals as goal

pub returns-then-b-self : goal.returns-then-b-self
returns-then-b-self c =
    sym (place_before_lem c.args.self.first c.args.self.last c.args.table.now c.args.b c.args.g c.args.old c.if-b-self.true)

pub returns-then-b-self-2 : goal.returns-then-b-self-2
returns-then-b-self-2 c =
    sym (place_behind c.args.self.first c.args.self.last c.args.table.now c.args.b c.args.g c.args.old (omega (arith, c.if-b-self.false)) (omega (arith, c.if-b-self-2.true)))

pub returns : goal.returns
returns c =
    let from : c.args.self.first ≤ c.args.b = omega (arith, c.if-b-self.false) in
    let to : c.args.b < c.args.self.last = omega (arith, c.if-b-self-2.false) in
    c.u16_at-told.ensures
    ∙ ap (λ (x : ℕ). at c.args.table.now (x * 255 + c.args.g)) (c.from-row.ensures ∙ c.row_of.ensures.0 from to)
    ∙ sym (place_in_half c.args.self.first c.args.self.last c.args.table.now c.args.b c.args.g c.args.old from to)
