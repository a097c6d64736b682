-- `step_totals::row::add_placed` meets its contract. The invariant: each word is the word at entry with the tallies passed
-- added, and the next tally is of the pair, by any two lists that the links link. A tally passed over is of another pair,
-- and brings nothing. Assumes nothing.
use mathlib.Core.Path.{◌≡◌, refl, sym, ap, ap₂, ◌∙◌, subst}
use mathlib.Core.Bool.{true}
use mathlib.Core.List.{List}
use Prim.Native.Nat.{ℕ, ◌≤◌, ◌<◌, ◌+◌, ◌*◌, ◌/◌, ◌%◌}
use native.Mathlib.Omega.{arith}
use lib.Arith.{digits_div, digits_mod}
use lib.ListN.{length, get_or}
use lib.IntN.{ℤ, pos, nat_abs, ◌+ℤ◌, +ℤ_idr}
use Rattle.laws.specs.Below.{integers, sum}
use Rattle.laws.proofs.Loops.{share}
use Rattle.laws.proofs.Sums.{sum_start, sum_over}
use Rattle.step_links.specs.Links.{SkipsBy, pair_key, pair_at}
use Rattle.step_totals.specs.Row.{TallyIn, TalliesLinked, is_taken, product_at, brings, placed}
use Rattle.step_totals.proofs.Rows.{raised_by}
use Rattle.step_totals.proofs.Placed.{shares, placed_still, placed_more, placed_is}
use Rattle.step_totals.proofs.Walks.{goes_to, pair_taken, other_share}
use Rattle.step_totals.proofs.row.add_placed.Goals as goal

pub loop-i-init : goal.loop-i-init
unfolding integers
loop-i-init c =
    let linked : List ℕ → List ℕ → Type 0 =
    λ owner. λ holder. TalliesLinked c.args.job.now.sizes.tallies owner holder c.args.job.now.tally_offer.now c.args.links.now in
    let owners : List ℕ =
    c.requires.from_bound.1.list in
    let holders : List ℕ =
    c.requires.from_bound.1.passes.list in
    let some : linked owners (holders) =
    c.requires.from_bound.1.passes.passes in
    let brought : List ℕ → List ℕ → ℕ → ℕ → ℕ → ℤ =
    λ owner. λ holder. λ at. brings owner holder c.args.job.now.tally_offer.now c.args.job.now.tally_count.now c.args.prices.now c.args.a c.args.from at c.args.width in
    let piled : List ℕ → List ℕ → ℕ → ℕ → ℕ → ℤ =
    λ owner. λ holder. λ at. shares c.args.width c.args.tally_place.now (brought owner holder at) c.args.working.now in
    let place : ℕ → ℕ =
    λ i. get_or c.args.tally_place.now i 0 in
    let key : List ℕ → List ℕ → ℕ → ℕ =
    λ owner. λ holder. pair_at holder c.args.job.now.tally_offer.now owner in
    let walked : ℕ =
    pair_key c.args.a c.args.from in
    let at_of : ℕ =
    c.row_start-at.result in
    let none : (owner holder : List ℕ) → (at p i j : ℕ) → SkipsBy c.args.job.now.sizes.tallies (key owner holder) walked i j → (x : ℕ) → i ≤ x → x < j → piled owner holder at p x ≡ integers.none =
    λ owner. λ holder. λ at. λ p. λ i. λ j. λ k. λ x. λ l. λ q.
    other_share owner holder c.args.job.now.tally_offer.now c.args.job.now.tally_count.now c.args.prices.now place c.args.a c.args.from at c.args.width (p % c.args.width) (p / c.args.width) x (k.none x l q) in
    let first_of : (owner holder : List ℕ) → linked owner holder → SkipsBy c.args.job.now.sizes.tallies (key owner holder) walked 0 c.begin_pair-i.result =
    λ owner. λ holder. λ l. subst (λ (x : ℕ). SkipsBy c.args.job.now.sizes.tallies (key owner holder) walked 0 x) (sym c.begin_pair-i.ensures)
    (l.linked.begins walked (omega (arith, c.requires.placed_tallies.box_in, c.requires.from_bound.0))) in
    let i = c.begin_pair-i.result in (
      rw c.from-t.ensures (first_of owners holders some).to,
      refl,
      λ owner holder l.
          let k = first_of owner holder l in
          let adds = piled owner holder at_of in (
            (λ p h. sym (ap (λ (z : ℤ). get_or c.args.working.now p (pos 0) +ℤ z) (sum_over integers 0 i (adds p) k.from (none owner holder at_of p 0 i k) ∙ sum_start integers (adds p))
                ∙ +ℤ_idr (get_or c.args.working.now p (pos 0)))),
            k.hits,
          ),
    )

pub add_tally-requires : goal.add_tally-requires
add_tally-requires c =
    let lt : c.loop-i.i < c.args.job.now.sizes.tallies = omega arith in
    let linked : List ℕ → List ℕ → Type 0 =
    λ owner. λ holder. TalliesLinked c.args.job.now.sizes.tallies owner holder c.args.job.now.tally_offer.now c.args.links.now in
    let owners : List ℕ =
    c.requires.from_bound.1.list in
    let holders : List ℕ =
    c.requires.from_bound.1.passes.list in
    let some : linked owners (holders) =
    c.requires.from_bound.1.passes.passes in
    let brought : List ℕ → List ℕ → ℕ → ℕ → ℕ → ℤ =
    λ owner. λ holder. λ at. brings owner holder c.args.job.now.tally_offer.now c.args.job.now.tally_count.now c.args.prices.now c.args.a c.args.from at c.args.width in
    let place : ℕ → ℕ =
    λ i. get_or c.args.tally_place.now i 0 in
    let at_of : ℕ =
    c.row_start-at.result in
    let inside : (i q : ℕ) → i < c.args.job.now.sizes.tallies → q < c.args.width → place i * c.args.width + q < length c.args.working.now =
    λ i. λ q. λ l. λ m. omega (arith, c.requires.placed_tallies.places_in.place_in i l) in
    let tally : (i : ℕ) → i < c.args.job.now.sizes.tallies → TallyIn c.args.width c.args.tally_place.now c.args.job.now.tally_offer.now c.args.job.now.tally_count.now c.args.prices.now at_of i =
    λ i. λ l. subst (λ (x : ℕ). TallyIn c.args.width c.args.tally_place.now c.args.job.now.tally_offer.now c.args.job.now.tally_count.now c.args.prices.now x i)
    (sym (c.row_start-at.ensures ∙ ap (λ (n : ℕ). c.args.a * (n * c.args.width)) c.from-n.ensures)) (c.requires.placed_tallies.tally_in i l) in
    let small : (q : ℕ) → q < c.args.width → nat_abs (get_or c.loop-i.working (place c.loop-i.i * c.args.width + q) (pos 0)) ≤ 2_000_000_000_000_000 =
    λ q. λ m. let i = c.loop-i.i in
    let p = place i * c.args.width + q in
    let word = (c.loop-i.invariant.2 owners holders some).0 p (inside i q lt m) in
    placed_still c.args.job.now.sizes.tallies c.args.a c.args.width owners c.args.tally_place.now holders c.args.job.now.tally_offer.now c.args.job.now.tally_count.now
    c.args.prices.now c.args.from at_of c.requires.placed_tallies.tallies_in tally (get_or c.args.working.now p (pos 0)) (get_or c.loop-i.working p (pos 0)) i q (place i) lt m
    (c.requires.placed_tallies.places_in.word_in_lem i q lt m)
    (word ∙ ap₂ (λ (x e : ℕ). get_or c.args.working.now p (pos 0) +ℤ sum integers i (share place (brought owners holders at_of x) e)) (digits_mod (place i) m) (digits_div (place i) m)) in
    let i = c.loop-i.i in record {
      tally_in = tally i lt;
      by_index = λ q m. (omega (arith, inside i q lt m, c.loop-i.invariant.1), small q m);
    }

pub loop-i-preserved : goal.loop-i-preserved
unfolding integers
loop-i-preserved c =
    let lt : c.loop-i.i < c.args.job.now.sizes.tallies = omega arith in
    let linked : List ℕ → List ℕ → Type 0 =
    λ owner. λ holder. TalliesLinked c.args.job.now.sizes.tallies owner holder c.args.job.now.tally_offer.now c.args.links.now in
    let owners : List ℕ =
    c.requires.from_bound.1.list in
    let holders : List ℕ =
    c.requires.from_bound.1.passes.list in
    let some : linked owners (holders) =
    c.requires.from_bound.1.passes.passes in
    let brought : List ℕ → List ℕ → ℕ → ℕ → ℕ → ℤ =
    λ owner. λ holder. λ at. brings owner holder c.args.job.now.tally_offer.now c.args.job.now.tally_count.now c.args.prices.now c.args.a c.args.from at c.args.width in
    let piled : List ℕ → List ℕ → ℕ → ℕ → ℕ → ℤ =
    λ owner. λ holder. λ at. shares c.args.width c.args.tally_place.now (brought owner holder at) c.args.working.now in
    let product : ℕ → ℕ → ℕ → ℤ =
    λ at. λ i. λ q. product_at c.args.job.now.tally_offer.now c.args.job.now.tally_count.now c.args.prices.now at c.args.width q i in
    let place : ℕ → ℕ =
    λ i. get_or c.args.tally_place.now i 0 in
    let key : List ℕ → List ℕ → ℕ → ℕ =
    λ owner. λ holder. pair_at holder c.args.job.now.tally_offer.now owner in
    let walked : ℕ =
    pair_key c.args.a c.args.from in
    let at_of : ℕ =
    c.row_start-at.result in
    let none : (owner holder : List ℕ) → (at p i j : ℕ) → SkipsBy c.args.job.now.sizes.tallies (key owner holder) walked i j → (x : ℕ) → i ≤ x → x < j → piled owner holder at p x ≡ integers.none =
    λ owner. λ holder. λ at. λ p. λ i. λ j. λ k. λ x. λ l. λ q.
    other_share owner holder c.args.job.now.tally_offer.now c.args.job.now.tally_count.now c.args.prices.now place c.args.a c.args.from at c.args.width (p % c.args.width) (p / c.args.width) x (k.none x l q) in
    let taken : (owner holder : List ℕ) → linked owner holder → (i : ℕ) → i < c.args.job.now.sizes.tallies → key owner holder i ≡ walked → is_taken owner holder c.args.job.now.tally_offer.now c.args.a c.args.from i ≡ true =
    λ owner. λ holder. λ h. λ i. λ l. λ e. pair_taken owner holder c.args.job.now.tally_offer.now c.args.a c.args.from i c.requires.from_bound.0 (h.owner_in i l) e in
    let link : (owner holder : List ℕ) → linked owner holder → SkipsBy c.args.job.now.sizes.tallies (key owner holder) walked (c.loop-i.i + 1) c.next_pair-i.result =
    λ owner. λ holder. λ l. goes_to 272 c.args.job.now.sizes.tallies (key owner holder) c.args.links.now walked c.loop-i.i c.next_pair-i.result l.linked lt
    ((c.loop-i.invariant.2 owner holder l).1 lt) c.next_pair-i.ensures in
    let onward : (c.loop-i.i < c.next_pair-i.result) × (c.next_pair-i.result ≤ c.args.job.now.sizes.tallies) =
    let k = link owners holders some in
    (omega (arith, k.from), k.to) in
    let at = at_of in
    let i = c.loop-i.i in
    let h = c.next_pair-i.result in
    let w = c.loop-i.working in (
      rw c.from-t.ensures onward.1,
      c.add_tally.auto.working ∙ c.loop-i.invariant.1,
      λ owner holder l.
          let k = link owner holder l in
          let before = c.loop-i.invariant.2 owner holder l in (
            (λ p m. ap (λ (l : List ℤ). get_or l p (pos 0)) (c.add_tally.ensures
                ∙ raised_by c.args.width w (place i) _ (product at i) (taken owner holder l i lt (before.1 lt)))
                ∙ placed_more c.args.width c.args.tally_place.now (brought owner holder at) c.args.working.now w i p c.loop-i.invariant.1 m (before.0 p m)
                ∙ ap (λ (z : ℤ). get_or c.args.working.now p (pos 0) +ℤ z)
                (sym (sum_over integers (i + 1) h (piled owner holder at p) k.from (none owner holder at p (i + 1) h k)))),
            k.hits,
          ),
    )

pub returns : goal.returns
returns c =
    let end : c.loop-i.i ≡ c.args.job.now.sizes.tallies = omega (arith, c.loop-i.invariant.0) in
    let brought : List ℕ → List ℕ → ℕ → ℕ → ℕ → ℤ =
    λ owner. λ holder. λ at. brings owner holder c.args.job.now.tally_offer.now c.args.job.now.tally_count.now c.args.prices.now c.args.a c.args.from at c.args.width in
    let piled : List ℕ → List ℕ → ℕ → ℕ → ℕ → ℤ =
    λ owner. λ holder. λ at. shares c.args.width c.args.tally_place.now (brought owner holder at) c.args.working.now in
    let at_of : ℕ =
    c.row_start-at.result in
    λ owner. λ holder. λ l. placed_is c.args.width c.args.tally_place.now (brought owner holder at_of) c.args.working.now c.args.job.now.sizes.tallies c.loop-i.working c.loop-i.invariant.1
    (λ p m. (c.loop-i.invariant.2 owner holder l).0 p m
    ∙ ap (λ (n : ℕ). get_or c.args.working.now p (pos 0) +ℤ sum integers n (piled owner holder at_of p)) end)
    ∙ ap (λ (at : ℕ). placed c.args.job.now.sizes.tallies c.args.width c.args.tally_place.now (brought owner holder at) c.args.working.now)
    (c.row_start-at.ensures ∙ ap (λ (n : ℕ). c.args.a * (n * c.args.width)) c.from-n.ensures)
