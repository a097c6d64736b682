-- `book_places::box_places` meets its contract. Assumes nothing.
use mathlib.Core.Path.{◌≡◌, ap₂, ◌∙◌}
use Prim.Native.Nat.{ℕ, ◌+◌, ◌≤◌}
use native.Mathlib.Omega.{arith}
use lib.ListN.{replicate}
use Rattle.laws.specs.Tables.{overwrite}
use Rattle.book_places.specs.Spots.{spot_by}
use Rattle.book_places.proofs.Joined.{spot_is, number_le, list_few, list_ready}
use Rattle.book_places.proofs.box_places.Goals as goal

pub numbers-by_grocer-requires : goal.numbers-by_grocer-requires
numbers-by_grocer-requires c =
    list_ready c.args.k c.args.m c.args.owners.now c.args.words.now c.args.b _ _ c.requires.0.m_in c.box_list-l.ensures.out_after c.box_list-l.ensures.value

pub put_places-requires : goal.put_places-requires
put_places-requires c =
    let few : c.box_list-l.result ≤ 255 =
    omega (arith, c.box_list-l.ensures.value, list_few c.args.k c.args.m c.args.owners.now c.args.words.now c.args.b, c.requires.0.m_in) in
    record {
      tallies_in = (c.requires.1.0, (omega (arith, c.box_start-start.ensures.1), c.requires.1.1));
      by_index = number_le _ c.box_list-l.result _ (omega (arith, few)) c.numbers-by_grocer.ensures;
    }

pub overflow_add-end : goal.overflow_add-end
overflow_add-end c =
    let few : c.box_list-l.result ≤ 255 =
    omega (arith, c.box_list-l.ensures.value, list_few c.args.k c.args.m c.args.owners.now c.args.words.now c.args.b, c.requires.0.m_in) in
    omega (arith, c.box_start-start.ensures.1, few)

pub returns : goal.returns
returns c =
    let put_is : c.put_places.new.out ≡ overwrite c.args.n (spot_by c.args.k c.args.m c.args.owners.now c.args.words.now c.args.b c.args.boxes.now c.args.items.now) c.args.places.now =
    c.put_places.ensures
    ∙ spot_is c.args.k c.args.m c.args.owners.now c.args.words.now c.args.b c.args.n c.args.boxes.now c.args.items.now _ (replicate 255 0) _ c.args.places.now c.box_list-l.result
    c.box_start-start.result c.requires.1.0.item_in c.box_list-l.ensures.out_after c.box_list-l.ensures.value c.numbers-by_grocer.ensures c.box_start-start.ensures.0 in
    record {
      from_value = (
        c.from.ensures ∙ c.box_start-start.ensures.0,
        c.from-2.ensures ∙ ap₂ (λ (x y : ℕ). x + y) c.box_start-start.ensures.0 c.box_list-l.ensures.value,
      );
      places_after = put_is;
    }
