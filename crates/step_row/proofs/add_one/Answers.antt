-- `step_row::add_one` meets its contract. Assumes nothing.
use mathlib.Core.Path.{◌≡◌, ap, ap₂, ◌∙◌}
use Prim.Native.Nat.{ℕ, ◌+◌, ◌-◌, ◌*◌}
use native.Mathlib.Nat.{le_trans}
use native.Mathlib.Omega.{arith}
use lib.Dec.{lit≤}
use lib.ListN.{get_or}
use lib.IntN.{ℤ, pos, ◌+ℤ◌, ◌*ℤ◌}
use mir.Syntax.{w32, w64}
use mir.Val.{to_z, of_z}
use Rattle.laws.proofs.Signed.{read64, read32_abs, fits64_as, abs_plus, abs_times_le}
use Rattle.step_totals.specs.Row.{product_at}
use Rattle.step_row.proofs.add_one.Goals as goal

pub raise_at-requires : goal.raise_at-requires
raise_at-requires c =
    let product : ℤ =
    product_at c.args.job.now.tally_offer.now c.args.job.now.tally_count.now c.args.prices.now c.args.at c.args.part.width c.args.q c.args.i in
    let place : ℕ =
    get_or c.args.tally_place.now c.args.i 0 - c.args.part.start in
    let count_is : to_z w32 (of_z w32 c.i32_at.result) ≡ get_or c.args.job.now.tally_count.now c.args.i (pos 0) =
    let z = get_or c.args.job.now.tally_count.now c.args.i (pos 0) in
    ap (λ (x : ℤ). to_z w32 (of_z w32 x)) c.i32_at.ensures ∙ read32_abs z (le_trans c.requires.tally_in.0.count_in (lit≤ tt)) in
    let price_is : c.u32_at.result ≡ get_or c.args.prices.now
    (c.args.at + get_or c.args.job.now.tally_offer.now c.args.i 0 * c.args.part.width + c.args.q) 0 =
    c.u32_at.ensures ∙ ap (λ (o : ℕ). get_or c.args.prices.now (c.args.at + o * c.args.part.width + c.args.q) 0) c.index_at.ensures.0 in
    let amount_is : to_z w64 (of_z w64 c.amount-x.result) ≡ product =
    read64 c.amount-x.result c.amount-x.type_inv ∙ c.amount-x.ensures ∙ ap₂ (λ (z : ℤ) (p : ℕ). z *ℤ pos p) count_is (price_is) in
    let place_is : c.index_at-2.result - c.args.part.start ≡ place =
    ap (λ (g : ℕ). g - c.args.part.start) c.index_at-2.ensures.0 in (
      rw c.index_at-2.ensures.0 c.requires.start_bound.1,
      fits64_as (ap₂ (λ (g : ℕ) (z : ℤ). get_or c.args.row.now g (pos 0) +ℤ z) place_is amount_is) (omega (
        arith,
        abs_plus (get_or c.args.row.now place (pos 0)) (product),
        c.requires.start_bound.2,
        abs_times_le (get_or c.args.job.now.tally_count.now c.args.i (pos 0))
            (pos (get_or c.args.prices.now (c.args.at + get_or c.args.job.now.tally_offer.now c.args.i 0 * c.args.part.width + c.args.q) 0)) c.requires.tally_in.0.count_in (c.requires.tally_in.0.price_in c.args.q c.requires.tally_in.1),
      )),
    )
