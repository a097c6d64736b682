-- `late_finished::totals::take_tally` meets its contract. Assumes nothing.
use mathlib.Core.Path.{◌≡◌, ap, ap₂, ◌∙◌}
use Prim.Native.Nat.{ℕ, ◌+◌}
use native.Mathlib.Nat.{le_trans}
use native.Mathlib.Omega.{arith}
use lib.Dec.{lit≤}
use lib.IntN.{ℤ, pos, ◌+ℤ◌, ◌*ℤ◌}
use lib.ListN.{get_or}
use mir.Syntax.{w32, w64}
use mir.Val.{to_z, of_z}
use Rattle.laws.proofs.Signed.{read64, read32_abs, fits64_as, abs_plus, abs_times_le}
use Rattle.late_finished.proofs.totals.take_tally.Goals as goal

pub raise_at-requires : goal.raise_at-requires
raise_at-requires c =
    let grocer : ℕ =
    get_or c.args.job.now.tally_grocer.now c.args.i 0 in
    let count : ℤ =
    get_or c.args.job.now.tally_count.now c.args.i (pos 0) in
    let price : ℕ =
    get_or c.args.job.now.price.now (c.args.at + get_or c.args.job.now.tally_offer.now c.args.i 0) 0 in
    let count_is : to_z w32 (of_z w32 c.i32_at.result) ≡ count =
    ap (λ (x : ℤ). to_z w32 (of_z w32 x)) c.i32_at.ensures ∙ read32_abs count (le_trans c.requires.tally_lent.count≤ (lit≤ tt)) in
    let price_is : c.u32_at.result ≡ price =
    c.u32_at.ensures ∙ ap (λ (o : ℕ). get_or c.args.job.now.price.now (c.args.at + o) 0) c.index_at.ensures.0 in
    let amount_is : to_z w64 (of_z w64 c.amount-x.result) ≡ count *ℤ pos (price) =
    read64 c.amount-x.result c.amount-x.type_inv ∙ c.amount-x.ensures ∙ ap₂ (λ (z : ℤ) (p : ℕ). z *ℤ pos p) count_is (price_is) in
    let small = abs_times_le count (pos price) {m = 99_999} {n = 9_999_999} c.requires.tally_lent.count≤ c.requires.tally_lent.price≤ in (
      rw c.index_at-then-u16_at-job.ensures.0 c.requires.i_in_bounds.0,
      fits64_as (ap₂ (λ (e : ℕ) (z : ℤ). get_or c.args.sums.now e (pos 0) +ℤ z) c.index_at-then-u16_at-job.ensures.0 amount_is)
          (omega (arith, abs_plus (get_or c.args.sums.now grocer (pos 0)) (count *ℤ pos price), c.requires.i_in_bounds.1, small)),
    )
