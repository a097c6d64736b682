-- `book::pack::pack` meets its contract. Assumes nothing.
use mathlib.Core.Path.{◌≡◌, ap, ◌∙◌}
use mathlib.Core.List.{List}
use Prim.Native.Nat.{ℕ, suc, ◌<◌, ◌≤◌}
use native.Mathlib.Omega.{arith}
use lib.ListN.{length}
use Rattle.laws.specs.Tables.{overwrite}
use Rattle.laws.proofs.Tables.{overwrite_cong, get_d_overwrite, get_d_tabulate, length_tabulate}
use Rattle.book_sort.specs.Sort.{at, below}
use Rattle.book_order.specs.Twice.{PackLent, pack_lent, packed_tallies, packed_start, OrderIn}
use Rattle.book.specs.Pack.{packed_grocer, packed_number, packed_count}
use Rattle.book_sort.proofs.Extra.{below_in}
use Rattle.book_order.proofs.Packing.{order_in}
use Rattle.book.proofs.Packing.{item_put, grocer_put, count_put}
use Rattle.book_order.proofs.Twice.{packed_le, packed_in}
use Rattle.book.proofs.pack.pack.Goals as goal

pub put_tallies-requires : goal.put_tallies-requires
put_tallies-requires c =
    let lent : PackLent =
    pack_lent c.args.job.now c.args.lists.now in
    let order : List ℕ =
    c.order_twice-order.result in
    let starts : List ℕ =
    c.order_twice-order.new.starts in
    let number_is : at starts c.from.result ≡ packed_start lent c.args.lists.now.l =
    ap (at starts) c.from.ensures
    ∙ ap (λ (r : List ℕ). at r c.args.lists.now.l) c.order_twice-order.ensures.starts_after
    ∙ get_d_overwrite (suc c.args.lists.now.l) (packed_start lent) c.args.starts.now c.args.lists.now.l 0 (omega arith) in
    let total_is : c.from-total.result ≡ packed_start lent c.args.lists.now.l =
    c.from-total.ensures ∙ number_is in
    let total_in : c.from-total.result ≤ c.args.job.now.sizes.tallies =
    omega (arith, total_is, packed_le lent) in
    let order_at : (i : ℕ) → i < c.from-total.result → at order i ≡ at (packed_tallies lent) i =
    λ i. λ h. let p = lent in
    ap (λ (r : List ℕ). at r i) c.order_twice-order.ensures.value
    ∙ get_d_tabulate 1_000 (below (packed_start p c.args.lists.now.l) (at (packed_tallies p))) i 0 (omega (arith, total_in, c.requires.tallies_in.0.tallies_in))
    ∙ below_in (packed_start p c.args.lists.now.l) (at (packed_tallies p)) i (omega (arith, total_is)) in
    let tally_in : (i : ℕ) → i < c.from-total.result → at (packed_tallies lent) i < c.args.job.now.sizes.tallies =
    λ i. λ h. packed_in lent i (omega (arith, total_is)) in
    let in_order : (size : ℕ) → c.args.job.now.sizes.tallies ≤ size → OrderIn order c.from-total.result size =
    λ size. λ h. let long : length order ≡ 1_000 = ap length c.order_twice-order.ensures.value ∙ length_tabulate 1_000 (below (packed_start lent c.args.lists.now.l) (at (packed_tallies lent))) in
    order_in (packed_tallies lent) order c.from-total.result c.args.job.now.sizes.tallies tally_in order_at size h
    (omega (arith, total_in, c.requires.tallies_in.0.tallies_in)) (omega (arith, total_in, c.requires.tallies_in.0.tallies_in)) in
    record {
      order_in = (in_order (length c.args.job.now.tally_grocer.now) c.requires.tallies_in.1.items_long, in_order (length c.args.job.now.tally_count.now) c.requires.l_in_bounds.1.0);
      n_in_bounds = (omega (arith, total_in, c.requires.l_in_bounds.1.1.0), omega (arith, total_in, c.requires.l_in_bounds.1.1.1));
      by_index = item_put (packed_tallies lent) order c.from-total.result c.args.job.now.sizes.tallies tally_in order_at c.args.job.now.tally_grocer.now c.requires.tallies_in.1.item_in;
    }

pub returns : goal.returns
returns c =
    let lent : PackLent =
    pack_lent c.args.job.now c.args.lists.now in
    let order : List ℕ =
    c.order_twice-order.result in
    let starts : List ℕ =
    c.order_twice-order.new.starts in
    let number_is : at starts c.from.result ≡ packed_start lent c.args.lists.now.l =
    ap (at starts) c.from.ensures
    ∙ ap (λ (r : List ℕ). at r c.args.lists.now.l) c.order_twice-order.ensures.starts_after
    ∙ get_d_overwrite (suc c.args.lists.now.l) (packed_start lent) c.args.starts.now c.args.lists.now.l 0 (omega arith) in
    let total_is : c.from-total.result ≡ packed_start lent c.args.lists.now.l =
    c.from-total.ensures ∙ number_is in
    let total_in : c.from-total.result ≤ c.args.job.now.sizes.tallies =
    omega (arith, total_is, packed_le lent) in
    let order_at : (i : ℕ) → i < c.from-total.result → at order i ≡ at (packed_tallies lent) i =
    λ i. λ h. let p = lent in
    ap (λ (r : List ℕ). at r i) c.order_twice-order.ensures.value
    ∙ get_d_tabulate 1_000 (below (packed_start p c.args.lists.now.l) (at (packed_tallies p))) i 0 (omega (arith, total_in, c.requires.tallies_in.0.tallies_in))
    ∙ below_in (packed_start p c.args.lists.now.l) (at (packed_tallies p)) i (omega (arith, total_is)) in
    let tally_in : (i : ℕ) → i < c.from-total.result → at (packed_tallies lent) i < c.args.job.now.sizes.tallies =
    λ i. λ h. packed_in lent i (omega (arith, total_is)) in
    record {
      value = number_is;
      starts_after = c.order_twice-order.ensures.starts_after;
      packed_grocers_after = c.put_tallies.ensures.packed_grocers_after
          ∙ overwrite_cong c.from-total.result (packed_grocer c.numbers-places.result c.args.job.now.tally_grocer.now order)
          (packed_number c.args.lists.now.local_grocers.now c.args.lists.now.g c.args.job.now.tally_grocer.now (packed_tallies lent)) c.args.packed_grocers.now
          (grocer_put (packed_tallies lent) order c.from-total.result c.args.job.now.sizes.tallies tally_in order_at c.numbers-places.result c.args.job.now.tally_grocer.now
          c.args.lists.now.local_grocers.now c.args.lists.now.g c.numbers-places.ensures c.requires.tallies_in.1.item_in)
          ∙ ap (λ (k : ℕ). overwrite k (packed_number c.args.lists.now.local_grocers.now c.args.lists.now.g c.args.job.now.tally_grocer.now (packed_tallies lent)) c.args.packed_grocers.now)
          c.from-total.ensures;
      packed_counts_after = c.put_tallies.ensures.packed_counts_after
          ∙ overwrite_cong c.from-total.result (packed_count c.args.job.now.tally_count.now order) (packed_count c.args.job.now.tally_count.now (packed_tallies lent)) c.args.packed_counts.now
          (count_put (packed_tallies lent) order c.from-total.result c.args.job.now.sizes.tallies tally_in order_at c.args.job.now.tally_count.now)
          ∙ ap (λ (k : ℕ). overwrite k (packed_count c.args.job.now.tally_count.now (packed_tallies lent)) c.args.packed_counts.now) c.from-total.ensures;
    }
