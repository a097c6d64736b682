-- `cycle_store::store_cycle` meets its contract. Assumes nothing.
use mathlib.Core.Path.{◌≡◌, sym, ap, ◌∙◌}
use Prim.Native.Nat.{ℕ, ◌+◌, ◌-◌, ◌*◌, ◌≤◌, min}
use native.Mathlib.Omega.{arith}
use lib.ListN.{set}
use Rattle.std.proofs.lemmas.Result.{err_from_is_err_and}
use Rattle.refusals.specs.Numbers.{number_of}
use Rattle.refusals.proofs.Numbers.{number_positive}
use Rattle.laws.specs.Tables.{overwrite}
use Rattle.cycle_history.specs.Store.{cycles, store, given, gap, kept, store_outcome}
use Rattle.cycle_store.specs.Moved.{sum_next, word_moved}
use Rattle.cycle_store.specs.Answer.{answer_of}
use Rattle.cycle_store.proofs.Called.{taken, gap_is, sums_are, held_are, next_are, refused_stored, kept_stored}
use Rattle.cycle_store.proofs.store_cycle.Goals as goal

pub returns-in_err-refusal : goal.returns-in_err-refusal
unfolding answer_of
returns-in_err-refusal c =
    let p = err_from_is_err_and c.from_residual.result c.from_residual.ensures.1 in
    rw (p.1, p.2) (refused_stored c.args.grocers _ _ (number_of c.in_err-refusal.field-0.0) (number_positive c.in_err-refusal.field-0.0) (c.in_err-refusal.ensures))

pub u32_at-requires : goal.u32_at-requires
u32_at-requires c =
    let f = taken c.args.grocers c.args.cycle c.args.next.now c.args.held.now c.args.sums.now c.args.amounts.now (sym c.in_ok-refusal.ensures) in
    omega (arith, f.next_long_lem)

pub gap-k-requires : goal.gap-k-requires
gap-k-requires c =
    let f = taken c.args.grocers c.args.cycle c.args.next.now c.args.held.now c.args.sums.now c.args.amounts.now (sym c.in_ok-refusal.ensures) in
    omega (arith, c.u32_at.ensures, f.on)

pub invariant_of-change : goal.invariant_of-change
invariant_of-change c =
    let f = taken c.args.grocers c.args.cycle c.args.next.now c.args.held.now c.args.sums.now c.args.amounts.now (sym c.in_ok-refusal.ensures) in
    record { rows_in = rw c.from-m.ensures (record { grocers_in = f.few_grocers_lem; rows_in = c.gap-k.ensures.1.1; long = f.held_long_lem; amounts = f.held_in }) }

pub keep_sums-requires : goal.keep_sums-requires
keep_sums-requires c =
    let f = taken c.args.grocers c.args.cycle c.args.next.now c.args.held.now c.args.sums.now c.args.amounts.now (sym c.in_ok-refusal.ensures) in
    rw c.from-m.ensures (record {
      sums_in = record { given_long = f.amounts_long; sums_long_lem = f.sums_long_lem; given_in = f.given_in };
      sums_value = f.sums_in;
    })

pub move_rows-requires : goal.move_rows-requires
move_rows-requires c =
    let f = taken c.args.grocers c.args.cycle c.args.next.now c.args.held.now c.args.sums.now c.args.amounts.now (sym c.in_ok-refusal.ensures) in
    rw c.from-m.ensures (record {
      le_m = ((f.some, f.few_grocers_lem), c.gap-k.ensures.1);
      m_in_bounds = (f.amounts_long, f.held_long_lem);
    })

pub bounds-next-0 : goal.bounds-next-0
bounds-next-0 c =
    let f = taken c.args.grocers c.args.cycle c.args.next.now c.args.held.now c.args.sums.now c.args.amounts.now (sym c.in_ok-refusal.ensures) in
    omega (arith, f.next_long_lem)

pub returns : goal.returns
unfolding answer_of
returns c =
    let s = c.args in
    let m = s.grocers in
    let t = store s.next.now s.held.now s.sums.now in
    let q = given s.cycle s.amounts.now in
    let f = taken c.args.grocers c.args.cycle c.args.next.now c.args.held.now c.args.sums.now c.args.amounts.now (sym c.in_ok-refusal.ensures) in
    let k : c.gap-k.result ≡ gap t q =
    gap_is m s.cycle s.next.now s.held.now s.sums.now s.amounts.now c.gap-k.result
    (c.gap-k.ensures.0 ∙ ap (λ (n : ℕ). min cycles (1 + s.cycle - n)) c.u32_at.ensures) in
    let few : gap t q ≤ 13 = omega (arith, k, c.gap-k.ensures.1.1) in
    let n = ap (λ (x : ℕ). set s.next.now 0 (x + 1)) c.from.ensures ∙ next_are m s.cycle s.next.now s.held.now s.sums.now s.amounts.now f.next_long_lem in
    let h = rw c.from-m.ensures at c.move_rows.ensures ∙ ap (λ (k : ℕ). overwrite (13 * m) (word_moved m (k * m) s.amounts.now s.held.now) s.held.now) k
    ∙ held_are m s.cycle s.next.now s.held.now s.sums.now s.amounts.now few f.some in
    let u = rw c.from-m.ensures at c.keep_sums.ensures ∙ ap (λ (k : ℕ). overwrite m (sum_next m k s.amounts.now s.held.now s.sums.now) s.sums.now) k
    ∙ sums_are m s.cycle s.next.now s.held.now s.sums.now s.amounts.now few in
    (λ i. store_outcome kept (store (n i) (h i) (u i))) ∙ kept_stored m t q c.in_ok-refusal.ensures
