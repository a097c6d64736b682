-- `book_places::all::Half::put_half` meets its contract. Assumes nothing.
use Rattle.book_places.proofs.Boxes.{half_told}
use Rattle.book_places.proofs.all.Half.put_half.Goals as goal

pub returns : goal.returns
returns c =
    half_told c.args.k c.args.self.first c.args.self.last c.args.n c.args.boxes.now c.args.items.now c.args.heads.now c.args.grocers.now _ c.args.places.now _
    c.requires.rows_in.1.0.ordered c.put_rows.ensures c.look_places.ensures
