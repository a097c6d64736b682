-- Numbers listed in a table: each place of the list has one that passes. Assumes nothing.
use mathlib.Core.Path.{◌≡◌, sym, ap, ◌∙◌}
use mathlib.Core.Bool.{Bool, true, false, ◌&&◌}
use mathlib.Core.List.{List}
use Prim.Native.Nat.{ℕ, ◌+◌, ◌-◌, ◌≤◌, ◌<◌}
use native.Mathlib.Omega.{arith}
use lib.Dec.{eqb, ltb}
use lib.ListN.{length, get_or, set}
use lib.Seq.{get_or-set_same, get_or-set_other}
use mir.Val.{bool_byte}
use borrow.Author.Tests.{eqb-true, eqb-false, ltb-true, ltb-false, lt-ltb, le-ltb}
use Rattle.laws.specs.Below.{count}
use Rattle.laws.specs.Listed.{Listed}
use Rattle.laws.proofs.Below.{count_where, count_lt, count_next, counts_one, counts_none, count_cong}
use Rattle.laws.proofs.Bools.{split, and_true}

-- What place i of a list holds: a number below n that passes, of which so many are smaller.
pub record HeldAt (n : ℕ) (passes : ℕ → Bool) (from i x : ℕ) : Type 0 where
  pub below : x < n
  pub passing : passes x ≡ true
  pub rank : from + count x passes ≡ i

-- Numbers listed by one test are listed by another that says the same of them.
pub listed_as : (n : ℕ) (p q : ℕ → Bool) (from to : ℕ) (table : List ℕ) → ((x : ℕ) → x < n → p x ≡ q x) → Listed n p from to table → Listed n q from to table
listed_as n p q from to table same l = record {
  long = l.long;
  many = l.many ∙ ap (λ (k : ℕ). from + k) (count_cong n p q same);
  each = λ x lx e.
      ap (λ (k : ℕ). get_or table (from + k) 0) (sym (count_cong x p q (λ y ly. same y (omega (arith, lx, ly))))) ∙ l.each x lx (same x lx ∙ e);
}

pub held_at : (n : ℕ) (passes : ℕ → Bool) (from to : ℕ) (table : List ℕ) → Listed n passes from to table → (i : ℕ) → from ≤ i → i < to → HeldAt n passes from i (get_or table i 0)
held_at n passes from to table l i h k =
    let (x, lx, px, e) = count_where n passes (i - from) (omega (arith, h, k, l.many)) in
    let place : from + count x passes ≡ i = omega (arith, e, h) in
    let is : get_or table i 0 ≡ x = ap (λ (p : ℕ). get_or table p 0) (sym place) ∙ l.each x lx px in
    rw is (record { below = lx; passing = px; rank = place })

-- A list is made by writing each number behind those that pass: it stays where it passes.
pub stands_next : (p : ℕ → Bool) (x v : ℕ) (list : List ℕ) → count x p < length list → v ≡ x → ((y : ℕ) → y < x → p y ≡ true → get_or list (count y p) 0 ≡ y) →
    (y : ℕ) → y < x + 1 → p y ≡ true → get_or (set list (count x p) v) (count y p) 0 ≡ y
stands_next p x v list h ev stands y ly e =
    split (eqb y x)
    (λ q. rw (eqb-true y x q, ev) (get_or-set_same list (count x p) x 0 h))
    (λ q. let ne : y ≡ x → ⊥ = eqb-false y x q in
    get_or-set_other list (count x p) (count y p) v 0 (λ f. omega (arith, count_lt x p y (omega arith) e)) ∙ stands y (omega arith) e)

-- One more is counted where the number passes.
pub count_more : (p : ℕ → Bool) (x l : ℕ) (t : Bool) → l ≡ count x p → t ≡ p x → l + bool_byte t ≡ count (x + 1) p
count_more p x l true el e = omega (arith, el, count_next x p, counts_one (sym e))
count_more p x l false el e = omega (arith, el, count_next x p, counts_none (sym e))

-- A number that passes, and stands before place i of the list.
abbrev pub stands_before : (passes : ℕ → Bool) (from i x : ℕ) → Bool
stands_before passes from i x = passes x && ltb (from + count x passes) i

module _ (n : ℕ) (passes : ℕ → Bool) (from to : ℕ) (table : List ℕ) (l : Listed n passes from to table) where
  -- All that pass stand before the end of the list.
  pub stands_all : (x : ℕ) → x < n → stands_before passes from to x ≡ passes x
  stands_all x lx =
      split (passes x)
      (λ e. rw (e, lt-ltb (from + count x passes) to (omega (arith, l.many, count_lt n passes x lx e))))
      (λ e. rw e)

  module _ (i : ℕ) (h : from ≤ i) (k : i < to) where
    -- What place i holds stands before the place behind it,
    pub stands_here : stands_before passes from (i + 1) (get_or table i 0) ≡ true
    stands_here = let a = held_at n passes from to table l i h k in and_true a.passing (lt-ltb _ (i + 1) (omega (arith, a.rank)))

    -- and not before place i.
    pub stands_not : stands_before passes from i (get_or table i 0) ≡ false
    stands_not = let a = held_at n passes from to table l i h k in rw (a.passing, le-ltb (from + count (get_or table i 0) passes) i (omega (arith, a.rank)))

    -- All other numbers stand before the one place where they stand before the other.
    pub stands_else : (x : ℕ) → x < n → (x ≡ get_or table i 0 → ⊥) → stands_before passes from (i + 1) x ≡ stands_before passes from i x
    stands_else x lx ne =
        split (passes x)
        (λ e. rw e (other e (λ q. ne (sym (l.each x lx e) ∙ ap (λ (p : ℕ). get_or table p 0) q))))
        (λ e. rw e)
      where
        other : passes x ≡ true → (from + count x passes ≡ i → ⊥) → ltb (from + count x passes) (i + 1) ≡ ltb (from + count x passes) i
        other e out =
            split (ltb (from + count x passes) i)
            (λ q. let m = ltb-true (from + count x passes) i q in rw q (lt-ltb (from + count x passes) (i + 1) (omega (arith, m))))
            (λ q. let m = ltb-false (from + count x passes) i q in rw q (le-ltb (from + count x passes) (i + 1) (omega (arith, m, out))))
