-- `step_row::product_row` meets its contract. The invariant: the row has the box's words with the tallies passed added. Assumes nothing.
use mathlib.Core.Path.{◌≡◌, sym, ap, ◌∙◌, subst}
use mathlib.Core.Bool.{Bool, true, false}
use mathlib.Core.List.{List}
use Prim.Native.Nat.{ℕ, ◌≤◌, ◌<◌, ◌+◌, ◌-◌, ◌*◌}
use native.Mathlib.Nat.{mul-le-mul}
use native.Mathlib.Omega.{arith}
use lib.ListN.{length, get_or}
use lib.IntN.{ℤ, pos, nat_abs}
use borrow.Author.Rules.{rules}
use Rattle.laws.specs.Below.{integers}
use Rattle.laws.proofs.Sums.{only_no}
use Rattle.laws.proofs.Tables.{cell_in}
use Rattle.step_totals.specs.Row.{TallyIn, is_taken, product_at, brings, placed}
use Rattle.step_row.specs.Row.{row_of, raised_at}
use Rattle.step_totals.proofs.Placed.{placed_still}
use Rattle.step_row.proofs.Rows.{length_row, row_placed, row_none, row_next}
use Rattle.step_row.proofs.product_row.Goals as goal

pub loop-i-init : goal.loop-i-init
loop-i-init c =
    let start : ℕ =
    c.args.part.start in
    let len : ℕ =
    c.args.part.len in
    let width : ℕ =
    c.args.part.width in
    let brought : ℕ → ℕ → ℕ → ℤ =
    λ at. brings c.args.job.now.offer_owner.now c.args.job.now.tally_box.now c.args.job.now.tally_offer.now c.args.job.now.tally_count.now c.args.prices.now c.args.a c.args.from at (width) in (
      search rules,
      c.row_at-row.ensures
          ∙ row_none start len width c.args.q c.args.tally_place.now (brought c.row_start-at.result) c.args.working.now c.requires.1 c.requires.0.few c.requires.0.long,
    )

pub add_taken-requires : goal.add_taken-requires
add_taken-requires c =
    let lt : c.loop-i.i < c.args.job.now.sizes.tallies = omega arith in
    let start : ℕ =
    c.args.part.start in
    let len : ℕ =
    c.args.part.len in
    let width : ℕ =
    c.args.part.width in
    let brought : ℕ → ℕ → ℕ → ℤ =
    λ at. brings c.args.job.now.offer_owner.now c.args.job.now.tally_box.now c.args.job.now.tally_offer.now c.args.job.now.tally_count.now c.args.prices.now c.args.a c.args.from at (width) in
    let taken : ℕ → Bool =
    is_taken c.args.job.now.offer_owner.now c.args.job.now.tally_box.now c.args.job.now.tally_offer.now c.args.a c.args.from in
    let place : ℕ → ℕ =
    λ i. get_or c.args.tally_place.now i 0 in
    let added : ℕ → ℕ → List ℤ =
    λ at. λ i. placed i width c.args.tally_place.now (brought at) c.args.working.now in
    let rowed : ℕ → ℕ → List ℤ =
    λ at. λ i. row_of start len width c.args.q (added at i) in
    let tally : (i : ℕ) → i < c.args.job.now.sizes.tallies → TallyIn width c.args.tally_place.now c.args.job.now.tally_offer.now c.args.job.now.tally_count.now c.args.prices.now c.row_start-at.result i =
    λ i. λ l. subst (λ (x : ℕ). TallyIn width c.args.tally_place.now c.args.job.now.tally_offer.now c.args.job.now.tally_count.now c.args.prices.now x i)
    (sym (c.row_start-at.ensures ∙ ap (λ (n : ℕ). c.args.a * (n * c.args.part.width)) c.from-n.ensures)) (c.requires.0.tally_in i l) in
    let small : (i : ℕ) → i < c.args.job.now.sizes.tallies → taken i ≡ true → nat_abs (get_or (rowed c.row_start-at.result i) (place i - start) (pos 0)) ≤ 2_000_000_000_000_000 =
    λ i. λ l. λ e. let at = c.row_start-at.result in
    let g = place i - start in
    let on = c.requires.0.place_in i l e in
    let in_row : place i - start < len = omega (arith, on.0, on.1) in
    let p = (start + g) * width + c.args.q in
    let under : start * width ≤ (start + (place i - start)) * width = mul-le-mul (omega arith) (omega arith) in
    placed_still c.args.job.now.sizes.tallies c.args.a width c.args.job.now.offer_owner.now c.args.tally_place.now c.args.job.now.tally_box.now c.args.job.now.tally_offer.now c.args.job.now.tally_count.now
    c.args.prices.now c.args.from at c.requires.0.tallies_in tally (get_or c.args.working.now p (pos 0)) (get_or (rowed at i) g (pos 0)) i c.args.q (start + g) l c.requires.1
    (c.requires.0.word_in_lem p (omega (arith, under)) (cell_in (start + g) (start + len) width c.args.q (omega (arith, in_row)) c.requires.1))
    (row_placed start len width c.args.q c.args.tally_place.now (brought at) c.args.working.now c.requires.1 c.requires.0.few c.requires.0.long i g in_row) in
    let long : length c.loop-i.row ≡ 255 =
    ap length c.loop-i.invariant.1 ∙ length_row start len width c.args.q (added c.row_start-at.result c.loop-i.i) in
    let i = c.loop-i.i in
    let l = lt in record {
      tally_in = (tally i l, c.requires.1);
      i_in_bounds = (omega (arith, l, c.requires.0.holder_long), omega (arith, c.requires.0.offer_in i l, c.requires.0.owner_long_lem));
      start_bound = λ q. let on = c.requires.0.place_in i l q in (
        on.0,
        omega (arith, on.0, on.1, c.requires.0.few, long),
        subst (λ (r : List ℤ). nat_abs (get_or r (place i - start) (pos 0)) ≤ 2_000_000_000_000_000) (sym c.loop-i.invariant.1) (small i l q),
      );
    }

pub loop-i-preserved : goal.loop-i-preserved
unfolding integers
loop-i-preserved c =
    let lt : c.loop-i.i < c.args.job.now.sizes.tallies = omega arith in
    let start : ℕ =
    c.args.part.start in
    let len : ℕ =
    c.args.part.len in
    let width : ℕ =
    c.args.part.width in
    let brought : ℕ → ℕ → ℕ → ℤ =
    λ at. brings c.args.job.now.offer_owner.now c.args.job.now.tally_box.now c.args.job.now.tally_offer.now c.args.job.now.tally_count.now c.args.prices.now c.args.a c.args.from at (width) in
    let product : ℕ → ℕ → ℤ =
    λ at. λ i. product_at c.args.job.now.tally_offer.now c.args.job.now.tally_count.now c.args.prices.now at width c.args.q i in
    let taken : ℕ → Bool =
    is_taken c.args.job.now.offer_owner.now c.args.job.now.tally_box.now c.args.job.now.tally_offer.now c.args.a c.args.from in
    let place : ℕ → ℕ =
    λ i. get_or c.args.tally_place.now i 0 in
    let unbrought : (at i : ℕ) → taken i ≡ false → brought at c.args.q i ≡ pos 0 =
    λ at. λ i. λ q. only_no integers (taken i) (product at i) q in
    let i = c.loop-i.i in
    let at = c.row_start-at.result in (
      omega (arith, lt),
      c.add_taken.ensures
          ∙ ap (λ (r : List ℤ). raised_at r (place i - start) (brought at c.args.q i)) c.loop-i.invariant.1
          ∙ row_next start len width c.args.q c.args.tally_place.now (brought at) c.args.working.now c.requires.1 c.requires.0.few c.requires.0.long i (taken i)
          (c.requires.0.place_in i lt) (λ q. unbrought at i q),
    )
