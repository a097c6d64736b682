-- Spans written word by word, and statements to which a span is added. Assumes nothing.
use mathlib.Core.Path.{◌≡◌, refl, sym, ap, ap₂, ◌∙◌}
use mathlib.Core.Bool.{Bool, true, false, cond}
use mathlib.Core.List.{List}
use Prim.Native.Nat.{ℕ, zero, suc, ◌+◌, ◌*◌, ◌<◌, ◌≤◌}
use native.Mathlib.Omega.{arith}
use lib.Dec.{eqb, ltb, leb}
use lib.IntN.{ℤ, pos, nat_abs, ◌+ℤ◌}
use lib.ListN.{length, get_or, set, length-set}
use lib.Seq.{get_or-set_same, get_or-set_other, ext_get_or}
use borrow.Author.Tests.{eqb-true, eqb-false, ltb-true, ltb-false, lt-ltb, le-ltb, le-leb, lt-leb}
use Rattle.laws.proofs.Bools.{split, and_true, and_false}
use Rattle.laws.proofs.Signed.{abs_plus}
use Rattle.laws.proofs.Tables.{length_tabulate, get_d_tabulate, is_tabulate}
use Rattle.model.specs.Spans.{in_span, span_written}
use Rattle.step_spans.specs.Credit.{credit_span}

pub length_span : (from to : ℕ) (f : ℕ → ℤ) (l : List ℤ) → length (span_written from to f l) ≡ length l
unfolding span_written
length_span from to f l = length_tabulate (length l) (λ i. cond (in_span from to i) (f i) (get_or l i (pos 0)))

pub span_word : (from to : ℕ) (f : ℕ → ℤ) (l : List ℤ) (i : ℕ) → i < length l → get_or (span_written from to f l) i (pos 0) ≡ cond (in_span from to i) (f i) (get_or l i (pos 0))
unfolding span_written
span_word from to f l i k = get_d_tabulate (length l) (λ i. cond (in_span from to i) (f i) (get_or l i (pos 0))) i (pos 0) k

before : (from to i : ℕ) → to ≤ i → in_span from to i ≡ false
unfolding in_span
before from to i h = rw (le-ltb i to h) (and_false (leb from i))

empty : (from i : ℕ) → in_span from from i ≡ false
unfolding in_span
empty from i =
    split (ltb i from)
    (λ e. rw (lt-leb from i (ltb-true i from e)))
    (λ e. rw e (and_false (leb from i)))

-- Nothing is written yet.
pub span_none : (from : ℕ) (f : ℕ → ℤ) (l : List ℤ) → l ≡ span_written from from f l
unfolding span_written
span_none from f l = is_tabulate l (length l) (λ i. cond (in_span from from i) (f i) (get_or l i (pos 0))) (pos 0) refl (λ i k. sym (rw (empty from i)))

-- The span grows by its next place.
span_last : (from i : ℕ) → from ≤ i → in_span from (i + 1) i ≡ true
unfolding in_span
span_last from i l = and_true (le-leb from i l) (lt-ltb i (i + 1) (omega arith))

span_same : (from i k : ℕ) → (k ≡ i → ⊥) → in_span from (i + 1) k ≡ in_span from i k
unfolding in_span
span_same from i k ne =
    split (ltb k i)
    (λ e. rw (e, lt-ltb k (i + 1) (let h : k < i = ltb-true k i e in omega arith)))
    (λ e. rw (e, le-ltb k (i + 1) (let h : i ≤ k = ltb-false k i e in omega arith)))

-- One word more.
pub span_more : (from i : ℕ) (f : ℕ → ℤ) (l l' : List ℤ) (v : ℤ) → l' ≡ span_written from i f l → from ≤ i → i < length l → v ≡ f i → set l' i v ≡ span_written from (i + 1) f l
span_more from i f l l' v e h k q =
    ap₂ (λ (x : List ℤ) (y : ℤ). set x i y) e q
    ∙ ext_get_or (pos 0) (set (span_written from i f l) i (f i)) (span_written from (i + 1) f l)
    (length-set (span_written from i f l) i (f i) ∙ length_span from i f l ∙ sym (length_span from (i + 1) f l))
    (λ m lm.
    let small : m < length l = omega (arith, length-set (span_written from i f l) i (f i), length_span from i f l) in
    split (eqb m i)
    (λ p. rw (eqb-true m i p) (get_or-set_same (span_written from i f l) i (f i) (pos 0) (omega (arith, length_span from i f l))
    ∙ sym (span_word from (i + 1) f l i k ∙ rw (span_last from i h))))
    (λ p. let ne : m ≡ i → ⊥ = eqb-false m i p in
    get_or-set_other (span_written from i f l) i m (f i) (pos 0) ne
    ∙ span_word from i f l m small
    ∙ sym (span_word from (i + 1) f l m small ∙ ap (λ (t : Bool). cond t (f m) (get_or l m (pos 0))) (span_same from i m ne))))

-- The span is whole.
pub span_end : (from i to : ℕ) (f : ℕ → ℤ) (l l' : List ℤ) → l' ≡ span_written from i f l → i ≤ to → to ≤ i → l' ≡ span_written from to f l
span_end from i to f l l' e a b = e ∙ ap (λ (k : ℕ). span_written from k f l) (same i to a b)
  where
    same : (i to : ℕ) → i ≤ to → to ≤ i → i ≡ to
    same i to a b = omega arith

-- A word that is not reached yet.
pub span_next : (from i : ℕ) (f : ℕ → ℤ) (l l' : List ℤ) → l' ≡ span_written from i f l → i < length l → get_or l' i (pos 0) ≡ get_or l i (pos 0)
span_next from i f l l' e k = ap (λ (x : List ℤ). get_or x i (pos 0)) e ∙ span_word from i f l i k ∙ rw (before from i i (omega arith))

-- ---- Statements

pub length_credit : (n from : ℕ) (grocers : List ℕ) (source statement : List ℤ) → length (credit_span n from grocers source statement) ≡ length statement
unfolding credit_span
length_credit zero from grocers source statement = refl
length_credit (suc n) from grocers source statement =
    length-set (credit_span n from grocers source statement) (get_or grocers (from + n) 0) _ ∙ length_credit n from grocers source statement

-- The size of a word of a list, by other names for both.
pub size_as : (l l' : List ℤ) (g g' most : ℕ) → l' ≡ l → g' ≡ g → nat_abs (get_or l g (pos 0)) ≤ most → nat_abs (get_or l' g' (pos 0)) ≤ most
size_as l l' g g' most e k h = rw (e, k) h

-- A statement grows by at most so many amounts.
pub credit_most : (n from most : ℕ) (grocers : List ℕ) (source statement : List ℤ) →
    ((i : ℕ) → i < n → get_or grocers (from + i) 0 < length statement) → ((i : ℕ) → i < n → nat_abs (get_or source (from + i) (pos 0)) ≤ 1_000_000_000_000_000) →
    (g : ℕ) → nat_abs (get_or statement g (pos 0)) ≤ most → nat_abs (get_or (credit_span n from grocers source statement) g (pos 0)) ≤ most + n * 1_000_000_000_000_000
unfolding credit_span
credit_most zero from most grocers source statement inside small g h = omega arith
credit_most (suc n) from most grocers source statement inside small g h =
    let before : nat_abs (get_or (credit_span n from grocers source statement) g (pos 0)) ≤ most + n * 1_000_000_000_000_000 =
    credit_most n from most grocers source statement (λ i l. inside i (omega arith)) (λ i l. small i (omega arith)) g h in
    split (eqb g (get_or grocers (from + n) 0))
    (λ e. let same : get_or grocers (from + n) 0 ≡ g = sym (eqb-true g (get_or grocers (from + n) 0) e) in
    rw (
      same,
      get_or-set_same (credit_span n from grocers source statement) g (get_or (credit_span n from grocers source statement) g (pos 0) +ℤ get_or source (from + n) (pos 0)) (pos 0)
          (omega (arith, length_credit n from grocers source statement, inside n (omega arith), same)),
    )
    (omega (arith, abs_plus (get_or (credit_span n from grocers source statement) g (pos 0)) (get_or source (from + n) (pos 0)), before, small n (omega arith))))
    (λ e. rw (get_or-set_other (credit_span n from grocers source statement) (get_or grocers (from + n) 0) g
    (get_or (credit_span n from grocers source statement) (get_or grocers (from + n) 0) (pos 0) +ℤ get_or source (from + n) (pos 0)) (pos 0) (eqb-false g (get_or grocers (from + n) 0) e))
    (omega (arith, before)))

-- One word more.
pub credit_next : (n from w g : ℕ) (grocers : List ℕ) (source statement : List ℤ) → from + n ≡ w → get_or grocers w 0 ≡ g →
    set (credit_span n from grocers source statement) g (get_or (credit_span n from grocers source statement) g (pos 0) +ℤ get_or source w (pos 0)) ≡ credit_span (n + 1) from grocers source statement
unfolding credit_span
credit_next n from w g grocers source statement e k =
    ap₂ (λ (x y : ℕ). set (credit_span n from grocers source statement) x (get_or (credit_span n from grocers source statement) x (pos 0) +ℤ get_or source y (pos 0)))
    (sym k ∙ ap (λ (y : ℕ). get_or grocers y 0) (sym e)) (sym e)
    ∙ ap (λ (m : ℕ). credit_span m from grocers source statement) (next n)
  where
    next : (n : ℕ) → suc n ≡ n + 1
    next n = omega arith

-- A span and the one behind it, whose totals are as they were.
pub credit_join : (m n from : ℕ) (grocers : List ℕ) (source source' statement : List ℤ) → ((i : ℕ) → i < n → get_or source' (from + m + i) (pos 0) ≡ get_or source (from + m + i) (pos 0)) →
    credit_span n (from + m) grocers source' (credit_span m from grocers source statement) ≡ credit_span (m + n) from grocers source statement
unfolding credit_span
credit_join m zero from grocers source source' statement same = ap (λ (k : ℕ). credit_span k from grocers source statement) (none m)
  where
    none : (m : ℕ) → m ≡ m + 0
    none m = omega arith
credit_join m (suc n) from grocers source source' statement same =
    ap₂ (λ (x : List ℤ) (z : ℤ). set x (get_or grocers (from + m + n) 0) (get_or x (get_or grocers (from + m + n) 0) (pos 0) +ℤ z))
    (credit_join m n from grocers source source' statement (λ i l. same i (omega arith))) (same n (omega arith))
    ∙ ap (λ (k : ℕ). set (credit_span (m + n) from grocers source statement) (get_or grocers k 0) (get_or (credit_span (m + n) from grocers source statement) (get_or grocers k 0) (pos 0) +ℤ get_or source k (pos 0))) (at from m n)
    ∙ ap (λ (k : ℕ). credit_span k from grocers source statement) (next m n)
  where
    at : (from m n : ℕ) → from + m + n ≡ from + (m + n)
    at from m n = omega arith

    next : (m n : ℕ) → suc (m + n) ≡ m + suc n
    next m n = omega arith

-- No place yet.
pub credit_none : (n from : ℕ) (grocers : List ℕ) (source statement : List ℤ) → n ≡ 0 → statement ≡ credit_span n from grocers source statement
unfolding credit_span
credit_none n from grocers source statement e = rw e

-- ---- Places

either : (a b c : ℕ) (x y : ℤ) (i : ℕ) → a ≤ b → b ≤ c → cond (in_span b c i) x (cond (in_span a b i) x y) ≡ cond (in_span a c i) x y
unfolding in_span
either a b c x y i h k =
    split (ltb i b)
    (λ e. let lt = ltb-true i b e in rw (e, lt-leb b i lt, lt-ltb i c (omega arith)))
    (λ e. let le = ltb-false i b e in rw (e, le-leb b i le, le-leb a i (omega arith)))

-- A span and the one behind it.
pub span_join : (a b c : ℕ) (f : ℕ → ℤ) (l : List ℤ) → a ≤ b → b ≤ c → span_written b c f (span_written a b f l) ≡ span_written a c f l
span_join a b c f l h k =
    ext_get_or (pos 0) (span_written b c f (span_written a b f l)) (span_written a c f l) (length_span b c f (span_written a b f l) ∙ length_span a b f l ∙ sym (length_span a c f l)) (λ i q.
    let inside : i < length l = omega (arith, length_span b c f (span_written a b f l), length_span a b f l) in
    span_word b c f (span_written a b f l) i (omega (arith, length_span a b f l)) ∙ rw (span_word a b f l i inside, span_word a c f l i inside) (either a b c (f i) (get_or l i (pos 0)) i h k))

-- A word behind the span.
pub span_past : (from i k : ℕ) (f : ℕ → ℤ) (l l' : List ℤ) → l' ≡ span_written from i f l → i ≤ k → k < length l → get_or l' k (pos 0) ≡ get_or l k (pos 0)
span_past from i k f l l' e h q = ap (λ (x : List ℤ). get_or x k (pos 0)) e ∙ span_word from i f l k q ∙ rw (before from i k h)
