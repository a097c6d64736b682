-- `book::lists::list` meets its contract. Assumes nothing.
use mathlib.Core.Path.{◌≡◌, ap, ◌∙◌}
use mathlib.Core.List.{List}
use Prim.Native.Nat.{ℕ}
use lib.ListN.{length}
use Rattle.book_sort.specs.Sort.{at, in_front}
use Rattle.book_places.specs.Lists.{local_list, held_of}
use Rattle.book_places.specs.Spots.{list_by}
use Rattle.book_places.proofs.Modelled.{by_holders}
use Rattle.book.proofs.lists.list.Goals as goal

pub returns : goal.returns
returns c =
    let same : list_by c.args.job.now.sizes.boxes c.args.n c.args.owners.now c.needs-words.result c.args.b
    ≡ local_list c.args.job.now.sizes.boxes c.args.n (at c.args.owners.now) (held_of c.args.items.now c.args.job.now.tally_box.now c.args.job.now.sizes.tallies c.args.b) c.args.b =
    by_holders 500 c.args.job.now.sizes.boxes c.args.n c.args.job.now.sizes.tallies c.args.b c.args.owners.now c.args.job.now.tally_box.now c.args.items.now
    c.needs-words.result c.requires.owners_in.0.k_in c.requires.b_lt_k.0 c.requires.owners_in.0.n_in
    c.needs-words.ensures in
    record {
      value = (rw c.from.ensures at c.box_list.ensures.value) ∙ ap length same;
      out_after = (rw c.from.ensures at c.box_list.ensures.out_after) ∙ ap (λ (l : List ℕ). in_front l c.args.out.now) same;
    }
