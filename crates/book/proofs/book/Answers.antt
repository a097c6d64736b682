-- `book::book` meets its contract. Assumes nothing.
use mathlib.Core.Path.{◌≡◌, sym}
use mathlib.Core.List.{List}
use Prim.Native.Nat.{ℕ, ◌≤◌}
use native.Mathlib.Omega.{arith}
use Rattle.laws.specs.Checks.{first_met}
use Rattle.std.proofs.lemmas.Result.{err_from_is_err_and}
use Rattle.model.specs.Tables.{JobTables}
use Rattle.tables.specs.Lent.{job_held}
use Rattle.model.specs.Handed.{Standing}
use Rattle.model.specs.Local.{book_short, book_refusals}
use Rattle.book_sort.specs.Sort.{at}
use Rattle.book_keys.specs.Keys.{PlacesIn}
use Rattle.book.specs.Book.{BookTables, book_tables, book_lengths}
use Rattle.book.proofs.Ready.{box_in, long, whole, offer_owners_lem, grocer_owners_lem, offer_tallies, grocer_tallies, places_in}
use Rattle.book.proofs.Booking.{booked_refused, booked-written}
use Rattle.book.proofs.book.Goals as goal

pub returns-in_err-refusal : goal.returns-in_err-refusal
unfolding book_short
returns-in_err-refusal c =
    let job : JobTables = job_held c.args.job.now in
    let lent : BookTables =
    book_tables c.args.local_offers.now c.args.local_grocers.now c.args.starts.now c.args.packed_grocers.now c.args.packed_counts.now in
    let p = err_from_is_err_and c.from_residual.result c.from_residual.ensures.1 in
    rw (p.1, p.2) (booked_refused job c.args.b lent c.in_err-refusal.field-0.0 (c.in_err-refusal.ensures.value (book_lengths lent) c.book_short-short.ensures))

pub list-l-requires : goal.list-l-requires
unfolding book_short
list-l-requires c =
    let job : JobTables = job_held c.args.job.now in
    let lent : BookTables =
    book_tables c.args.local_offers.now c.args.local_grocers.now c.args.starts.now c.args.packed_grocers.now c.args.packed_counts.now in
    let accepted : first_met (book_refusals job (book_lengths lent) c.args.b) ≡ 0 = sym (c.in_ok-refusal.ensures.value (book_lengths lent) c.book_short-short.ensures) in
    let boxes : List ℕ = c.refusal.new.standing in
    let stand : Standing job boxes = c.in_ok-refusal.ensures.standing in
    let f = job in record {
      owners_in = (offer_owners_lem f (book_lengths lent) c.args.b (accepted), offer_tallies f (book_lengths lent) c.args.b accepted boxes stand);
      b_lt_k = (box_in f (book_lengths lent) c.args.b (accepted), (long f (book_lengths lent) c.args.b accepted).local_offers);
    }

pub list-g-requires : goal.list-g-requires
unfolding book_short
list-g-requires c =
    let job : JobTables = job_held c.args.job.now in
    let lent : BookTables =
    book_tables c.args.local_offers.now c.args.local_grocers.now c.args.starts.now c.args.packed_grocers.now c.args.packed_counts.now in
    let accepted : first_met (book_refusals job (book_lengths lent) c.args.b) ≡ 0 = sym (c.in_ok-refusal.ensures.value (book_lengths lent) c.book_short-short.ensures) in
    let boxes : List ℕ = c.refusal.new.standing in
    let stand : Standing job boxes = c.in_ok-refusal.ensures.standing in
    let f = job in record {
      owners_in = (grocer_owners_lem f (book_lengths lent) c.args.b (accepted), grocer_tallies f (book_lengths lent) c.args.b accepted boxes stand);
      b_lt_k = (box_in f (book_lengths lent) c.args.b (accepted), (long f (book_lengths lent) c.args.b accepted).local_grocers);
    }

pub pack-n-requires : goal.pack-n-requires
unfolding book_short
pack-n-requires c =
    let job : JobTables = job_held c.args.job.now in
    let lent : BookTables =
    book_tables c.args.local_offers.now c.args.local_grocers.now c.args.starts.now c.args.packed_grocers.now c.args.packed_counts.now in
    let accepted : first_met (book_refusals job (book_lengths lent) c.args.b) ≡ 0 = sym (c.in_ok-refusal.ensures.value (book_lengths lent) c.book_short-short.ensures) in
    let boxes : List ℕ = c.refusal.new.standing in
    let stand : Standing job boxes = c.in_ok-refusal.ensures.standing in
    let offers : List ℕ =
    c.list-l.new.out in
    let grocers : List ℕ =
    c.list-g.new.out in
    let offer_places : PlacesIn offers c.list-l.result × (c.list-l.result ≤ c.args.job.now.sizes.offers) =
    let f = job in
    places_in c.args.job.now.sizes.boxes c.args.job.now.sizes.offers (at c.args.job.now.offer_owner.now) c.args.job.now.tally_offer.now boxes c.args.job.now.sizes.tallies c.args.b offers c.args.local_offers.now c.list-l.result
    (offer_owners_lem f (book_lengths lent) c.args.b accepted).n_in (long f (book_lengths lent) c.args.b accepted).local_offers c.list-l.auto.out c.list-l.ensures.out_after c.list-l.ensures.value in
    let grocer_places : PlacesIn grocers c.list-g.result × (c.list-g.result ≤ c.args.job.now.sizes.grocers) =
    let f = job in
    places_in c.args.job.now.sizes.boxes c.args.job.now.sizes.grocers (at c.args.job.now.grocer_owner.now) c.args.job.now.tally_grocer.now boxes c.args.job.now.sizes.tallies c.args.b grocers c.args.local_grocers.now c.list-g.result
    (grocer_owners_lem f (book_lengths lent) c.args.b accepted).n_in (long f (book_lengths lent) c.args.b accepted).local_grocers c.list-g.auto.out c.list-g.ensures.out_after c.list-g.ensures.value in
    let f = job in
    let w = long f (book_lengths lent) c.args.b accepted in record {
      tallies_in = (offer_tallies f (book_lengths lent) c.args.b accepted boxes (stand), grocer_tallies f (book_lengths lent) c.args.b accepted boxes stand);
      places_in = (offer_places.0, grocer_places.0);
      l_in_bounds = (omega (arith, offer_places.1, w.starts), ((whole f (book_lengths lent) c.args.b accepted).tally_count, (w.packed_grocers, w.packed_counts)));
    }

pub returns : goal.returns
unfolding book_short
returns c =
    let job : JobTables = job_held c.args.job.now in
    let lent : BookTables =
    book_tables c.args.local_offers.now c.args.local_grocers.now c.args.starts.now c.args.packed_grocers.now c.args.packed_counts.now in
    let accepted : first_met (book_refusals job (book_lengths lent) c.args.b) ≡ 0 = sym (c.in_ok-refusal.ensures.value (book_lengths lent) c.book_short-short.ensures) in
    let boxes : List ℕ = c.refusal.new.standing in
    let stand : Standing job boxes = c.in_ok-refusal.ensures.standing in
    let offers : List ℕ =
    c.list-l.new.out in
    let grocers : List ℕ =
    c.list-g.new.out in
    booked-written job c.args.b lent accepted boxes stand c.list-l.result c.list-g.result c.pack-n.result
    (book_tables offers grocers c.pack-n.new.starts c.pack-n.new.packed_grocers c.pack-n.new.packed_counts)
    c.list-l.ensures.value c.list-l.ensures.out_after c.list-g.ensures.value c.list-g.ensures.out_after c.pack-n.ensures.value c.pack-n.ensures.starts_after c.pack-n.ensures.packed_grocers_after c.pack-n.ensures.packed_counts_after
