-- The sum kept up to date is the one added afresh, over every run of calls from an empty store. Assumes nothing.
use mathlib.Core.Path.{◌≡◌, refl, sym, ap, ◌∙◌, subst}
use mathlib.Core.Bool.{true, ◌&&◌, cond}
use mathlib.Core.List.{List, [], ◌∷◌}
use Prim.Native.Nat.{ℕ, suc, ◌+◌, ◌-◌, ◌*◌, ◌/◌, ◌%◌, ◌<◌, ◌≤◌, min, max}
use native.Mathlib.Omega.{arith}
use native.Mathlib.Nat.{mod-lt, div-lt_iff_lt-mul, div-add-mod}
use lib.Dec.{ltb, leb, eqb}
use lib.IntN.{ℤ, pos, nat_abs, ◌+ℤ◌, ◌-ℤ◌, +ℤ_idr, +ℤ_idl, +ℤ_assoc}
use lib.ListN.{get_or, length}
use borrow.Author.Tests.{lt-ltb, le-ltb, ltb-true, ltb-false, le-leb, leb-true, ne_eqb, eqb-true, not-false}
use Rattle.laws.specs.Below.{sum, only, integers}
use Rattle.laws.specs.Tables.{word, overwrite}
use Rattle.laws.specs.Checks.{first_met}
use Rattle.laws.specs.Limits.{max_grocers}
use Rattle.laws.proofs.Bools.{split, and_true, and_l, and_r, cond_either, cond_same}
use Rattle.laws.proofs.Below.{all_at, all_of_lem}
use Rattle.laws.proofs.Checks.{unmet, each_of}
use Rattle.laws.proofs.Signed.{sum_abs}
use Rattle.laws.proofs.Sums.{sum_cong, sum_none, only_no}
use Rattle.laws.proofs.Tables.{cell_recell, cell_at, word_overwrite, word_in_lem, get_d_overwrite, cell_in, length_tabulate, get_d_tabulate}
use Rattle.model.specs.Ranges.{around}
use Rattle.cycle_history.specs.Store.{cycles, max_held, max_kept, max_next, Store, Given, next_of, held_of, sum_of, gap}
use Rattle.cycle_history.specs.Store.{amount_of, leaving, held_after, sum_after, store_after, store_short, store_in_range, store_refusals, store_refusal, stored}
use Rattle.cycle_history.specs.History.{Empty, blank, fit16, latest, after, history, in_history, afresh, refusal_of, ThirteenCycles}
use Rattle.cycle_history.proofs.Ages.{kept_up, aged}

-- The words of a table within a bound, and back.
pub around_at : (b n : ℕ) (l : List ℤ) (i : ℕ) → around b n l ≡ true → i < n → nat_abs (get_or l i (pos 0)) ≤ b
unfolding around
around_at b n l i h k = leb-true (nat_abs (get_or l i (pos 0))) b (all_at n (λ i. leb (nat_abs (get_or l i (pos 0))) b) i k h)

around_all : (b n : ℕ) (l : List ℤ) → ((i : ℕ) → i < n → nat_abs (get_or l i (pos 0)) ≤ b) → around b n l ≡ true
unfolding around
around_all b n l h = all_of_lem n (λ i. leb (nat_abs (get_or l i (pos 0))) b) (λ i k. le-leb (nat_abs (get_or l i (pos 0))) b (h i k))

-- A store that holds the latest cycles of the history h, and their sums.
pub record Kept (m : ℕ) (s : Store) (h : ℕ → ℕ → ℤ) : Type 0 where
  pub held : (i g : ℕ) → i < cycles → g < m → held_of m s i g ≡ only integers (ltb i (next_of s)) (h (next_of s - suc i) g)
  pub sums : (g : ℕ) → g < m → sum_of m s g ≡ sum integers cycles (λ i. held_of m s i g)
  pub later : (c g : ℕ) → next_of s ≤ c → h c g ≡ pos 0

-- A call that is not refused.
module _ (m : ℕ) (s : Store) (q : Given) (ok : store_refusal m s q ≡ 0) where
  pub record Fine : Type 0 where
    pub on : next_of s ≤ q.cycle
    pub given : around max_held m q.amounts ≡ true
    pub late : around max_kept m (store_after m s q).sums ≡ true

  fine : Fine
  unfolding store_refusal store_refusals
  fine =
      let u = unmet (store_refusals m s q) refl ok in
      record { on = ltb-false q.cycle (next_of s) u.1.1.0; given = not-false (around max_held m q.amounts) u.1.1.1.0; late = not-false (around max_kept m (store_after m s q).sums) u.1.1.1.1.0 }

-- What a call leaves, word by word.
module _ (m : ℕ) (s : Store) (q : Given) where
  next_is : next_of (store_after m s q) ≡ suc q.cycle
  unfolding next_of store_after
  next_is = word_overwrite 1 (λ i. suc q.cycle) s.next 0 0

  held_is : (i g : ℕ) → i < cycles → g < m → held_of m (store_after m s q) i g ≡ held_after m s q i g
  unfolding held_of store_after
  held_is i g l k = cell_recell cycles m (held_after m s q) s.held (pos 0) i g ∙ rw (lt-ltb i cycles l, lt-ltb g m k)

  sum_is : (g : ℕ) → g < m → sum_of m (store_after m s q) g ≡ sum_after m s q g
  unfolding sum_of store_after
  sum_is g k = word_overwrite m (sum_after m s q) s.sums (pos 0) g ∙ rw (lt-ltb g m k)

  module _ (h : ℕ → ℕ → ℤ) (o : Kept m s h) (on : next_of s ≤ q.cycle) where
    -- Some row leaves, and thirteen at most.
    some : 0 < gap s q
    unfolding gap
    some = omega arith

    few : gap s q ≤ cycles
    unfolding gap
    few = omega arith

    sum_held : (g : ℕ) → g < m → sum_after m s q g ≡ sum integers cycles (λ i. held_after m s q i g)
    unfolding sum_after leaving held_after
    sum_held g k =
        ap (λ (x : ℤ). (x -ℤ sum integers (gap s q) (λ i. held_of m s ((cycles - gap s q) + i) g)) +ℤ amount_of m q g) (o.sums g k)
        ∙ kept_up (λ i. held_of m s i g) (amount_of m q g) (gap s q) some few

    -- The history with what the call gave.
    abbrev more : ℕ → ℕ → ℤ
    more c g = h c g +ℤ only integers (eqb q.cycle c) (amount_of m q g)

    held_more : (i g : ℕ) → i < cycles → g < m → held_after m s q i g ≡ only integers (ltb i (suc q.cycle)) (more (suc q.cycle - suc i) g)
    unfolding held_after gap
    held_more i g l k =
        ap (λ (x : ℤ). cond (eqb i 0) (amount_of m q g) (cond (ltb i (min cycles (suc q.cycle - next_of s))) (pos 0) x)) (o.held (i - min cycles (suc q.cycle - next_of s)) g (omega arith) k)
        ∙ aged (λ c. h c g) (amount_of m q g) (next_of s) q.cycle on (λ c l. o.later c g l) i l

    later_more : (c g : ℕ) → suc q.cycle ≤ c → more c g ≡ pos 0
    unfolding integers
    later_more c g l =
        ap (λ (x : ℤ). h c g +ℤ x) (only_no integers (eqb q.cycle c) (amount_of m q g) (ne_eqb q.cycle c (λ z. omega arith)))
        ∙ +ℤ_idr (h c g) ∙ o.later c g (omega arith)

    kept_after : Kept m (store_after m s q) more
    kept_after = record {
      held = λ i g l k. held_is i g l k ∙ rw next_is (held_more i g l k);
      sums = λ g k. sum_is g k ∙ sum_held g k ∙ sum_cong integers cycles (λ i. held_after m s q i g) (λ i. held_of m (store_after m s q) i g) (λ i l. sym (held_is i g l k));
      later = λ c g l. later_more c g (rw next_is at l);
    }

module _ (m : ℕ) where
  all_kept : (s : Store) (qs : List Given) (h : ℕ → ℕ → ℤ) → Kept m s h → Kept m (after m s qs) (λ c g. h c g +ℤ in_history m (history m s qs) c g)
  unfolding after history stored in_history
  all_kept s [] h o = subst (Kept m s) (λ i c g. sym (+ℤ_idr (h c g)) i) o
  all_kept s (q ∷ qs) h o =
      split (eqb (store_refusal m s q) 0)
      (λ e. let u = store_after m s q in
      let more : ℕ → ℕ → ℤ = λ c g. h c g +ℤ only integers (eqb q.cycle c) (amount_of m q g) in
      rw e
      (subst (Kept m (after m u qs)) (λ i c g. +ℤ_assoc (h c g) (only integers (eqb q.cycle c) (amount_of m q g)) (in_history m (history m u qs) c g) i)
      (all_kept u qs more (kept_after m s q h o (fine m s q (eqb-true (store_refusal m s q) 0 e)).on))))
      (λ e. rw e (all_kept s qs h o))

  -- The latest cycle.
  all_latest : (s : Store) (qs : List Given) → next_of (after m s qs) ≡ max (next_of s) (latest (history m s qs))
  unfolding after history stored latest
  all_latest s [] = omega arith
  all_latest s (q ∷ qs) =
      split (eqb (store_refusal m s q) 0)
      (λ e. let on = (fine m s q (eqb-true (store_refusal m s q) 0 e)).on in
      rw e (all_latest (store_after m s q) qs ∙ rw (next_is m s q) (omega (arith, on))))
      (λ e. rw e (all_latest s qs))

-- An empty store holds the empty history.
module _ (m : ℕ) (s : Store) (y : Empty m s) where
  cells : (i g : ℕ) → i < cycles → g < m → held_of m s i g ≡ pos 0
  unfolding held_of
  cells i g l k = cell_at cycles m s.held (pos 0) i g l k ∙ y.held (i * m + g) (cell_in i cycles m g l k)

  kept_empty : Kept m s (λ c g. pos 0)
  unfolding sum_of only integers
  kept_empty = record {
    held = λ i g l k. cells i g l k ∙ sym (cond_same (ltb i (next_of s)) (pos 0));
    sums = λ g k. word_in_lem m s.sums (pos 0) g k ∙ y.sums g k ∙ sym (sum_none integers cycles (λ i. held_of m s i g) (λ i l. cells i g l k));
    later = λ c g l. refl;
  }

  latest_is : (qs : List Given) → next_of (after m s qs) ≡ latest (history m s qs)
  unfolding next_of word
  latest_is qs = all_latest m s qs ∙ omega (arith, y.next)

  kept_is : (qs : List Given) (g : ℕ) → g < m → sum_of m (after m s qs) g ≡ afresh m (history m s qs) g
  unfolding afresh
  kept_is qs g k =
      let o = all_kept m s qs (λ c g. pos 0) kept_empty in
      let n = next_of (after m s qs) in
      let h = in_history m (history m s qs) in
      o.sums g k
      ∙ sum_cong integers cycles (λ i. held_of m (after m s qs) i g) (λ i. only integers (ltb i n) (h (n - suc i) g))
      (λ i l. o.held i g l k ∙ ap (only integers (ltb i n)) (+ℤ_idl (h (n - suc i) g)))
      ∙ ap (λ (x : ℕ). sum integers cycles (λ i. only integers (ltb i x) (h (x - suc i) g))) (latest_is qs)

-- A store in range, by row and grocer.
pub record Inside (m : ℕ) (s : Store) : Type 0 where
  pub some : 1 ≤ m
  pub few : m ≤ max_grocers
  pub next : next_of s ≤ max_next
  pub held : (i g : ℕ) → i < cycles → g < m → nat_abs (held_of m s i g) ≤ max_held
  pub sums : around max_kept m s.sums ≡ true

module _ (m : ℕ) (s : Store) where
  inside : store_in_range m s ≡ true → Inside m s
  unfolding store_in_range held_of
  inside h =
      let r = each_of ((leb 1 m && leb m max_grocers) ∷ leb (next_of s) max_next ∷ around max_held (cycles * m) s.held ∷ around max_kept m s.sums ∷ []) h in
      record {
        some = leb-true 1 m (and_l (leb 1 m) _ r.0);
        few = leb-true m max_grocers (and_r (leb 1 m) _ r.0);
        next = leb-true (next_of s) max_next r.1.0;
        held = λ i g l k. rw (cell_at cycles m s.held (pos 0) i g l k) (around_at max_held (cycles * m) s.held (i * m + g) r.1.1.0 (cell_in i cycles m g l k));
        sums = r.1.1.1.0;
      }

  in_range_lem : Inside m s → store_in_range m s ≡ true
  unfolding store_in_range held_of
  in_range_lem b =
      and_true (and_true (and_true
      (and_true (le-leb 1 m b.some) (le-leb m max_grocers b.few))
      (le-leb (next_of s) max_next b.next))
      (around_all max_held (cycles * m) s.held rows))
      b.sums
    where
      rows : (i : ℕ) → i < cycles * m → nat_abs (get_or s.held i (pos 0)) ≤ max_held
      rows i l =
          let r : i / m < cycles = (div-lt_iff_lt-mul b.some).1 l in
          let c : i % m < m = mod-lt i b.some in
          let e : i / m * m + i % m ≡ i = omega (arith, div-add-mod i m) in
          let z : get_or s.held (i / m * m + i % m) (pos 0) ≡ held_of m s (i / m) (i % m) = sym (cell_at cycles m s.held (pos 0) (i / m) (i % m) r c) in
          rw (sym (ap (λ (x : ℕ). get_or s.held x (pos 0)) e) ∙ z) (b.held (i / m) (i % m) r c)

-- A call on such a store whose amounts are in range.
module _ (m : ℕ) (s : Store) (q : Given) (b : Inside m s) (ok : around max_held m q.amounts ≡ true) where
  given_at : (g : ℕ) → g < m → nat_abs (amount_of m q g) ≤ max_held
  unfolding amount_of
  given_at g k = rw (word_in_lem m q.amounts (pos 0) g k) (around_at max_held m q.amounts g ok k)

  after_at : (i g : ℕ) → i < cycles → g < m → nat_abs (held_after m s q i g) ≤ max_held
  unfolding held_after
  after_at i g l k =
      cond_either (λ (x : ℤ). nat_abs x ≤ max_held) (eqb i 0) (amount_of m q g) _ (given_at g k)
      (cond_either (λ (x : ℤ). nat_abs x ≤ max_held) (ltb i (gap s q)) (pos 0) (held_of m s (i - gap s q) g) (omega arith) (b.held (i - gap s q) g (omega arith) k))

  -- Thirteen amounts in range make a sum in range: of a history the late 21 is not met.
  sums_after : (h : ℕ → ℕ → ℤ) → Kept m s h → next_of s ≤ q.cycle → around max_kept m (store_after m s q).sums ≡ true
  unfolding store_after
  sums_after h o on =
      around_all max_kept m (overwrite m (sum_after m s q) s.sums) (λ g k.
      rw (get_d_overwrite m (sum_after m s q) s.sums g (pos 0) k ∙ sum_held m s q h o on g k) (omega (arith, sum_abs cycles max_held (λ i. held_after m s q i g) (λ i l. after_at i g l k))))

  inside_after : around max_kept m (store_after m s q).sums ≡ true → q.cycle < 65_536 → Inside m (store_after m s q)
  inside_after late l = record {
    some = b.some;
    few = b.few;
    next = rw (next_is m s q) (omega arith);
    held = λ i g k u. rw (held_is m s q i g k u) (after_at i g k u);
    sums = late;
  }

-- No call leaves a store in range out of it, whatever it holds.
pub stays_in : (m : ℕ) (s : Store) (q : Given) → store_in_range m s ≡ true → q.cycle < 65_536 → store_in_range m (stored m s q).store ≡ true
unfolding stored
stays_in m s q h l =
    split (eqb (store_refusal m s q) 0)
    (λ e. let w = fine m s q (eqb-true (store_refusal m s q) 0 e) in
    rw e (in_range_lem m (store_after m s q) (inside_after m s q (inside m s h) w.given w.late l)))
    (λ e. rw e h)

-- So do none of a run.
run_stays : (m : ℕ) (s : Store) (qs : List Given) → store_in_range m s ≡ true → fit16 qs ≡ true → store_in_range m (after m s qs) ≡ true
unfolding after fit16
run_stays m s [] h l = h
run_stays m s (q ∷ qs) h l =
    run_stays m (stored m s q).store qs (stays_in m s q h (ltb-true q.cycle 65_536 (and_l (ltb q.cycle 65_536) (fit16 qs) l))) (and_r (ltb q.cycle 65_536) (fit16 qs) l)

-- A store of a history refuses by 20, 35 and 36 alone.
answer_is : (m : ℕ) (s : Store) (q : Given) (h : ℕ → ℕ → ℤ) → Kept m s h → store_in_range m s ≡ true → store_refusal m s q ≡ refusal_of m s q
unfolding store_refusal store_refusals refusal_of first_met
answer_is m s q h o b =
    rw b
    (split (store_short m s q)
    (λ e. rw e)
    (λ e. rw e (split (ltb q.cycle (next_of s))
    (λ u. rw u)
    (λ u. rw u (split (around max_held m q.amounts)
    (λ v. rw (v, sums_after m s q (inside m s b) v h o (ltb-false q.cycle (next_of s) u)))
    (λ v. rw v))))))

-- The request, of every empty store.
module _ (m : ℕ) (some : 1 ≤ m) (few : m ≤ max_grocers) where
  pub thirteen_cycles : (s : Store) → Empty m s → ThirteenCycles m s
  unfolding next_of sum_of word refusal_of first_met store_short
  thirteen_cycles s y = record {
    kept = kept_is m s y;
    latest_cycle = latest_is m s y;
    in_range = λ qs l. run_stays m s qs begins l;
    answers = λ qs q l k. answer_is m (after m s qs) q _ (all_kept m s qs (λ c g. pos 0) (kept_empty m s y)) (run_stays m s qs begins l);
    first = λ q l k u. answer_is m s q _ (kept_empty m s y) begins ∙ taken q k u;
  }
    where
      begins : store_in_range m s ≡ true
      begins = in_range_lem m s (record {
        some = some;
        few = few;
        next = rw y.next (omega arith);
        held = λ i g l k. rw (cells m s y i g l k) (omega arith);
        sums = around_all max_kept m s.sums (λ g l. rw (y.sums g l) (omega arith));
      })

      taken : (q : Given) → m ≤ length q.amounts → around max_held m q.amounts ≡ true → refusal_of m s q ≡ 0
      taken q k u = rw (
        y.next,
        u,
        le-ltb (length s.next) 1 y.next_long,
        le-ltb (length s.held) (cycles * m) y.held_long,
        le-ltb (length s.sums) m y.sums_long,
        le-ltb (length q.amounts) m k,
        le-ltb q.cycle 0
            (omega arith),
      )

-- The store that a host makes is empty.
pub blank-empty : (m : ℕ) → Empty m (blank m)
blank-empty m = record {
  next = refl;
  held = λ i l. get_d_tabulate (cycles * m) (λ i. pos 0) i (pos 0) l;
  sums = λ g l. get_d_tabulate m (λ g. pos 0) g (pos 0) l;
  next_long = omega arith;
  held_long = omega (arith, length_tabulate (cycles * m) (λ i. pos 0));
  sums_long = omega (arith, length_tabulate m (λ g. pos 0));
}
