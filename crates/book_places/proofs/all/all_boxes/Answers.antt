-- `book_places::all::all_boxes` meets its contract. Assumes nothing.
use native.Mathlib.Omega.{arith}
use Rattle.book_places.specs.Boxes.{RowsIn}
use Rattle.book_places.proofs.Boxes.{told_rows, all_told}
use Rattle.book_places.proofs.all.all_boxes.Goals as goal

pub put_half-requires : goal.put_half-requires
put_half-requires c =
    let rows : RowsIn c.args.k c.all_lists.new.heads c.all_lists.new.out =
    let r = c.requires.room in
    told_rows c.args.k c.args.m c.args.owners.now c.args.words.now _ _ r.owners_in c.all_lists.ensures.1 r.m_in
    (omega (arith, r.heads_long, c.all_lists.auto.heads)) (omega (arith, r.grocers_long, c.all_lists.auto.out)) in
    let a = c.requires in record {
      rows_in = (
        rows,
        (
          record { ordered = omega arith; few = omega (arith, a.room.owners_in.k_in); last_in = omega arith },
          (a.boxes_long, (a.items_long, a.places_long)),
        ),
      );
      by_index = λ t h. omega (arith, a.item_in t h, a.room.m_in);
    }

pub put_half-requires-2 : goal.put_half-requires-2
put_half-requires-2 c =
    let rows : RowsIn c.args.k c.all_lists.new.heads c.all_lists.new.out =
    let r = c.requires.room in
    told_rows c.args.k c.args.m c.args.owners.now c.args.words.now _ _ r.owners_in c.all_lists.ensures.1 r.m_in
    (omega (arith, r.heads_long, c.all_lists.auto.heads)) (omega (arith, r.grocers_long, c.all_lists.auto.out)) in
    let a = c.requires in record {
      rows_in = (
        rows,
        (
          record { ordered = omega arith; few = omega (arith, a.room.owners_in.k_in); last_in = omega arith },
          (a.boxes_long, (a.items_long, omega (arith, a.places_long, c.put_half.auto.places))),
        ),
      );
      by_index = λ t h. omega (arith, a.item_in t h, a.room.m_in);
    }

pub returns : goal.returns
returns c =
    all_told c.args.k c.args.m c.args.owners.now c.args.words.now _ _ c.requires.room.owners_in c.all_lists.ensures.1 _ c.args.n c.args.boxes.now c.args.items.now
    c.args.places.now _ _ c.put_half.ensures c.put_half-2.ensures
