-- `cycle_store::conditions::refusal` meets its contract: the conditions are looked at in their order. Assumes nothing.
use mathlib.Core.Path.{◌≡◌, refl, sym, ap, ◌∙◌}
use mathlib.Core.Bool.{true, false, ◌&&◌}
use mathlib.Core.List.{List, [], ◌∷◌}
use Prim.Native.Nat.{ℕ, ◌+◌, ◌-◌, ◌*◌, ◌≤◌, min}
use native.Mathlib.Omega.{arith}
use lib.Dec.{ltb, leb}
use lib.IntN.{ℤ, nat_abs}
use lib.ListN.{length, get_or}
use borrow.Author.Tests.{lt-ltb, le-ltb, ltb-false, leb-true}
use Rattle.laws.specs.Below.{all}
use Rattle.laws.specs.Limits.{max_grocers}
use Rattle.laws.proofs.Bools.{and_r}
use Rattle.laws.proofs.Checks.{none_of, each_of}
use Rattle.model.specs.Ranges.{around}
use Rattle.cycle_history.specs.Store.{cycles, max_held, max_kept, max_next, store, given, gap, next_of, store_after, store_short, store_in_range}
use Rattle.cycle_store.specs.Moved.{sum_next}
use Rattle.cycle_store.proofs.Called.{under_held, refusal_is, gap_is, late_is}
use Rattle.cycle_store.proofs.conditions.refusal.Goals as goal

-- 20 is not met: the buffers are long enough.
record Long (m : ℕ) (next : List ℕ) (held sums amounts : List ℤ) : Type 0 where
  next_long_lem : 1 ≤ length next
  held_long_lem : cycles * m ≤ length held
  sums_long_lem : m ≤ length sums
  amounts_long : m ≤ length amounts

-- 21 is not met: M and the words are in range.
record Ranged (m : ℕ) (held sums : List ℤ) : Type 0 where
  grocers_in : m ≤ max_grocers
  held_in : around max_held (cycles * m) held ≡ true
  sums_in : around max_kept m sums ≡ true

module _ (m cycle : ℕ) (next : List ℕ) (held sums amounts : List ℤ) where
  long : store_short m (store next held sums) (given cycle amounts) ≡ false → Long m next held sums amounts
  unfolding store_short
  long h =
      let e = none_of (ltb (length next) 1 ∷ ltb (length held) (cycles * m) ∷ ltb (length sums) m ∷ ltb (length amounts) m ∷ []) h in
      record { next_long_lem = ltb-false _ _ e.0; held_long_lem = ltb-false _ _ e.1.0; sums_long_lem = ltb-false _ _ e.1.1.0; amounts_long = ltb-false _ _ e.1.1.1.0 }

  ranged : store_in_range m (store next held sums) ≡ true → Ranged m held sums
  unfolding store_in_range
  ranged h =
      let e = each_of ((leb 1 m && leb m max_grocers) ∷ leb (next_of (store next held sums)) max_next ∷ around max_held (cycles * m) held ∷ around max_kept m sums ∷ []) h in
      record { grocers_in = leb-true m max_grocers (and_r (leb 1 m) _ e.0); held_in = e.1.1.0; sums_in = e.1.1.1.0 }

-- What is known where 20 and 21 are not met.
long_here : (c : goal.Else-store_short) → Long c.args.grocers c.args.store.now.next.now c.args.store.now.held.now c.args.store.now.sums.now c.args.amounts.now
long_here c = long c.args.grocers c.args.cycle _ _ _ _ (sym (c.store_short.ensures c.args.cycle) ∙ c.if-store_short.false)

pub returns-then-store_short : goal.returns-then-store_short
returns-then-store_short c =
    let s = c.args.store.now in
    sym (refusal_is c.args.grocers c.args.cycle s.next.now s.held.now s.sums.now c.args.amounts.now true _ _ _ _ (sym (c.store_short.ensures c.args.cycle) ∙ c.if-store_short.true) refl refl refl refl)

pub store_in_range-requires : goal.store_in_range-requires
store_in_range-requires c =
    let l = long_here c in (l.next_long_lem, (l.held_long_lem, l.sums_long_lem))

pub returns-then-not-store_in_range : goal.returns-then-not-store_in_range
returns-then-not-store_in_range c =
    let s = c.args.store.now in
    sym (refusal_is c.args.grocers c.args.cycle s.next.now s.held.now s.sums.now c.args.amounts.now false false _ _ _ (sym (c.store_short.ensures c.args.cycle) ∙ c.if-store_short.false)
    (sym c.store_in_range.ensures ∙ c.if-not-store_in_range.true) refl refl refl)

pub u32_at-last-requires : goal.u32_at-last-requires
u32_at-last-requires c =
    let s = c.args.store.now in
    let l = long c.args.grocers c.args.cycle s.next.now s.held.now s.sums.now c.args.amounts.now (sym (c.store_short.ensures c.args.cycle) ∙ c.if-store_short.false) in
    omega (arith, l.next_long_lem)

pub returns-then-from-last : goal.returns-then-from-last
returns-then-from-last c =
    let s = c.args.store.now in
    sym (refusal_is c.args.grocers c.args.cycle s.next.now s.held.now s.sums.now c.args.amounts.now false true true _ _
    (sym (c.store_short.ensures c.args.cycle) ∙ c.if-store_short.false) (sym c.store_in_range.ensures ∙ c.if-not-store_in_range.false)
    (lt-ltb c.args.cycle (get_or s.next.now 0 0) (omega (arith, c.u32_at-last.ensures, c.from.ensures, c.if-from-last.true))) refl refl)

pub all_within-requires : goal.all_within-requires
all_within-requires c =
    let s = c.args.store.now in
    let l = long c.args.grocers c.args.cycle s.next.now s.held.now s.sums.now c.args.amounts.now (sym (c.store_short.ensures c.args.cycle) ∙ c.if-store_short.false) in
    rw c.from-m.ensures l.amounts_long

pub returns-then-not-all_within : goal.returns-then-not-all_within
returns-then-not-all_within c =
    let s = c.args.store.now in
    let on : ltb c.args.cycle (get_or s.next.now 0 0) ≡ false = le-ltb c.args.cycle (get_or s.next.now 0 0) (omega (arith, c.u32_at-last.ensures, c.from.ensures, c.if-from-last.false)) in
    let given_is : around max_held c.args.grocers c.args.amounts.now ≡ c.all_within.result = sym (c.all_within.ensures under_held refl refl ∙ ap (λ (n : ℕ). around max_held n c.args.amounts.now) c.from-m.ensures) in
    sym (refusal_is c.args.grocers c.args.cycle s.next.now s.held.now s.sums.now c.args.amounts.now false true false false _
    (sym (c.store_short.ensures c.args.cycle) ∙ c.if-store_short.false) (sym c.store_in_range.ensures ∙ c.if-not-store_in_range.false)
    on (given_is ∙ c.if-not-all_within.true) refl)

pub invariant_of-change : goal.invariant_of-change
invariant_of-change c =
    let s = c.args.store.now in
    let l = long c.args.grocers c.args.cycle s.next.now s.held.now s.sums.now c.args.amounts.now (sym (c.store_short.ensures c.args.cycle) ∙ c.if-store_short.false) in
    let r = ranged c.args.grocers c.args.cycle s.next.now s.held.now s.sums.now c.args.amounts.now (sym c.store_in_range.ensures ∙ c.if-not-store_in_range.false) in
    record { rows_in = rw c.from-m.ensures (record { grocers_in = r.grocers_in; rows_in = c.gap.ensures.1.1; long = l.held_long_lem; amounts = r.held_in }) }

pub sums_fit-requires : goal.sums_fit-requires
sums_fit-requires c =
    let s = c.args.store.now in
    let l = long c.args.grocers c.args.cycle s.next.now s.held.now s.sums.now c.args.amounts.now (sym (c.store_short.ensures c.args.cycle) ∙ c.if-store_short.false) in
    let r = ranged c.args.grocers c.args.cycle s.next.now s.held.now s.sums.now c.args.amounts.now (sym c.store_in_range.ensures ∙ c.if-not-store_in_range.false) in
    let given_is : around max_held c.args.grocers c.args.amounts.now ≡ c.all_within.result = sym (c.all_within.ensures under_held refl refl ∙ ap (λ (n : ℕ). around max_held n c.args.amounts.now) c.from-m.ensures) in
    rw c.from-m.ensures (record {
      sums_in = record { given_long = l.amounts_long; sums_long_lem = l.sums_long_lem; given_in = given_is ∙ c.if-not-all_within.false };
      sums_value = r.sums_in;
    })

pub returns-then-not-sums_fit : goal.returns-then-not-sums_fit
returns-then-not-sums_fit c =
    let s = c.args.store.now in
    let on : ltb c.args.cycle (get_or s.next.now 0 0) ≡ false = le-ltb c.args.cycle (get_or s.next.now 0 0) (omega (arith, c.u32_at-last.ensures, c.from.ensures, c.if-from-last.false)) in
    let given_is : around max_held c.args.grocers c.args.amounts.now ≡ c.all_within.result = sym (c.all_within.ensures under_held refl refl ∙ ap (λ (n : ℕ). around max_held n c.args.amounts.now) c.from-m.ensures) in
    let k : c.gap.result ≡ gap (store s.next.now s.held.now s.sums.now) (given c.args.cycle c.args.amounts.now) =
    gap_is c.args.grocers c.args.cycle s.next.now s.held.now s.sums.now c.args.amounts.now c.gap.result
    (c.gap.ensures.0 ∙ ap (λ (n : ℕ). min cycles (1 + c.args.cycle - n)) c.u32_at-last.ensures) in
    let late : around max_kept c.args.grocers (store_after c.args.grocers (store s.next.now s.held.now s.sums.now) (given c.args.cycle c.args.amounts.now)).sums ≡ c.sums_fit.result =
    late_is c.args.grocers c.args.cycle s.next.now s.held.now s.sums.now c.args.amounts.now (omega (arith, k, c.gap.ensures.1.1))
    ∙ ap (λ (k : ℕ). all c.args.grocers (λ x. leb (nat_abs (sum_next c.args.grocers k c.args.amounts.now s.held.now s.sums.now x)) max_kept)) (sym k)
    ∙ sym (rw c.from-m.ensures at c.sums_fit.ensures) in
    sym (refusal_is c.args.grocers c.args.cycle s.next.now s.held.now s.sums.now c.args.amounts.now false true false true false
    (sym (c.store_short.ensures c.args.cycle) ∙ c.if-store_short.false) (sym c.store_in_range.ensures ∙ c.if-not-store_in_range.false)
    on (given_is ∙ c.if-not-all_within.false) (late ∙ c.if-not-sums_fit.true))

pub returns : goal.returns
returns c =
    let s = c.args.store.now in
    let on : ltb c.args.cycle (get_or s.next.now 0 0) ≡ false = le-ltb c.args.cycle (get_or s.next.now 0 0) (omega (arith, c.u32_at-last.ensures, c.from.ensures, c.if-from-last.false)) in
    let given_is : around max_held c.args.grocers c.args.amounts.now ≡ c.all_within.result = sym (c.all_within.ensures under_held refl refl ∙ ap (λ (n : ℕ). around max_held n c.args.amounts.now) c.from-m.ensures) in
    let k : c.gap.result ≡ gap (store s.next.now s.held.now s.sums.now) (given c.args.cycle c.args.amounts.now) =
    gap_is c.args.grocers c.args.cycle s.next.now s.held.now s.sums.now c.args.amounts.now c.gap.result
    (c.gap.ensures.0 ∙ ap (λ (n : ℕ). min cycles (1 + c.args.cycle - n)) c.u32_at-last.ensures) in
    let late : around max_kept c.args.grocers (store_after c.args.grocers (store s.next.now s.held.now s.sums.now) (given c.args.cycle c.args.amounts.now)).sums ≡ c.sums_fit.result =
    late_is c.args.grocers c.args.cycle s.next.now s.held.now s.sums.now c.args.amounts.now (omega (arith, k, c.gap.ensures.1.1))
    ∙ ap (λ (k : ℕ). all c.args.grocers (λ x. leb (nat_abs (sum_next c.args.grocers k c.args.amounts.now s.held.now s.sums.now x)) max_kept)) (sym k)
    ∙ sym (rw c.from-m.ensures at c.sums_fit.ensures) in
    sym (refusal_is c.args.grocers c.args.cycle s.next.now s.held.now s.sums.now c.args.amounts.now false true false true true
    (sym (c.store_short.ensures c.args.cycle) ∙ c.if-store_short.false) (sym c.store_in_range.ensures ∙ c.if-not-store_in_range.false)
    on (given_is ∙ c.if-not-all_within.false) (late ∙ c.if-not-sums_fit.false))
