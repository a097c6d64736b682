-- A row of part sums: cleared, and with one line more. Assumes nothing.
use mathlib.Core.Path.{◌≡◌, refl, sym, ap, ◌∙◌}
use mathlib.Core.Bool.{true, false, cond, ◌&&◌}
use mathlib.Core.List.{List}
use Prim.Native.Nat.{ℕ, ◌+◌, ◌-◌, ◌*◌, ◌≤◌, ◌<◌}
use native.Mathlib.Omega.{arith}
use native.Mathlib.Decide.{dec_lt, ℕ_discrete}
use lib.Dec.{eqb, leb}
use lib.ListN.{get_or, set, length, take, drop, replicate}
use borrow.Rule.Slice.PartMut.{put_mid, mid_of}
use Rattle.std.proofs.lemmas.List.{length-take-le, length-drop, length-replicate, get_or_append_left, get_or-append_right, get_or-take, get_or-drop, get_or-replicate}
use lib.Seq.{get_or-set_same, get_or-set_other}
use lib.Ieee.{Float, binary64, add, mul}
use borrow.Author.Tests.{eq-eqb, ne_eqb, lt-ltb, le-ltb, le-leb, lt-leb}
use Rattle.laws.proofs.Bools.{split, and_false}
use Rattle.forecast_rules.specs.Doubles.{zero+}
use Rattle.forecast_doubles.specs.Lines.{LineLists, cleared, line_product, row_sum, Added}
use Rattle.forecast_doubles.proofs.Words.{none_yet, one_more}

-- A word inside the row, and the others.
pub cleared_in : (row m : ℕ) (l : List Float) (p : ℕ) → row ≤ p → p < row + m → cleared row m l p ≡ zero+
unfolding cleared
cleared_in row m l p h k = rw (le-leb row p h, lt-ltb p (row + m) k)

pub cleared_before : (row m : ℕ) (l : List Float) (p : ℕ) → p < row → cleared row m l p ≡ get_or l p zero+
unfolding cleared
cleared_before row m l p h = rw (lt-leb row p h)

pub cleared_behind : (row m : ℕ) (l : List Float) (p : ℕ) → row + m ≤ p → cleared row m l p ≡ get_or l p zero+
unfolding cleared
cleared_behind row m l p h = rw (le-ltb p (row + m) h, and_false (leb row p))

-- A row between two parts of a table, written with +0.0, is cleared.
module _ (row m k : ℕ) (l : List Float) where
  pub mid_long : k ≡ m → row + m ≤ length l → length (mid_of row k l) ≡ m
  mid_long e long = rw e (omega (arith, length-take-le m (drop row l) (omega (arith, length-drop row l, long))))

  pub filled : (r : List Float) → r ≡ replicate m zero+ → k ≡ m → row + m ≤ length l → (p : ℕ) → get_or (put_mid row k l r) p zero+ ≡ cleared row m l p
  filled r e h long p =
      let head : length (take row l) ≡ row = length-take-le row l (omega arith) in
      let many : length r ≡ m = rw e (length-replicate m zero+) in
      elim (dec_lt p row) [
        | yes b ↦ get_or_append_left (take row l) _ zero+ p (omega (arith, head, b)) ∙ get_or-take row l p zero+ b ∙ sym (cleared_before row m l p b)
        | no b ↦ get_or-append_right (take row l) _ row p zero+ head (omega (arith, b)) ∙ elim (dec_lt p (row + m)) [
          | yes u ↦ get_or_append_left r _ zero+ (p - row) (omega (arith, many, b, u)) ∙ rw e (get_or-replicate m (p - row) zero+ zero+ (omega (arith, b, u)))
              ∙ sym (cleared_in row m l p (omega (arith, b)) u)
          | no u ↦ get_or-append_right r _ m (p - row) zero+ many (omega (arith, b, u)) ∙ get_or-drop k (drop row l) (p - row - m) zero+ ∙ get_or-drop row l (k + (p - row - m)) zero+
              ∙ ap (λ (i : ℕ). get_or l i zero+) (omega (arith, b, u, h)) ∙ sym (cleared_behind row m l p (omega (arith, u)))
        ]
      ]

module _ (t : LineLists) (m o a : ℕ) (known part : List Float) where
  -- One line more.
  module _ (i : ℕ) (l l' : List Float) (y : Added t m o a i known part l) (inside : get_or t.grocer i 0 < m) (long : a * m + m ≤ length l)
      (is : l' ≡ cond (eqb (get_or t.box i 0) a) (set l (a * m + get_or t.grocer i 0) (add binary64 (get_or l (a * m + get_or t.grocer i 0) zero+) (line_product t o a known i))) l) where
    abbrev at : ℕ
    at = a * m + get_or t.grocer i 0

    abbrev more : Float
    more = add binary64 (get_or l at zero+) (line_product t o a known i)

    -- Words of other grocers and of other rows stay.
    stays : (p : ℕ) → (p ≡ at → ⊥) → get_or l' p zero+ ≡ get_or l p zero+
    stays p ne =
        ap (λ (x : List Float). get_or x p zero+) is
        ∙ split (eqb (get_or t.box i 0) a) (λ e. rw e (get_or-set_other l at p more zero+ ne)) (λ e. rw e)

    set_is : eqb (get_or t.box i 0) a ≡ true → l' ≡ set l at more
    set_is b = rw b at is

    same_is : eqb (get_or t.box i 0) a ≡ false → l' ≡ l
    same_is b = rw b at is

    next : (g : ℕ) → cond (eqb (get_or t.box i 0) a && eqb (get_or t.grocer i 0) g) (add binary64 (row_sum t o a known i g) (line_product t o a known i)) (row_sum t o a known i g) ≡ row_sum t o a known (i + 1) g
    unfolding row_sum
    next g = one_more i (λ i. eqb (get_or t.box i 0) a && eqb (get_or t.grocer i 0) g) (line_product t o a known)

    row_more : (g : ℕ) → g < m → get_or l' (a * m + g) zero+ ≡ row_sum t o a known (i + 1) g
    row_more g k =
        elim (ℕ_discrete (get_or t.grocer i 0) g) [
          | yes e ↦ here e
          | no e ↦ stays (a * m + g) (λ q. e (omega arith)) ∙ y.row g k ∙ rw (ne_eqb (get_or t.grocer i 0) g e, and_false (eqb (get_or t.box i 0) a)) at (next g)
        ]
      where
        here : get_or t.grocer i 0 ≡ g → get_or l' (a * m + g) zero+ ≡ row_sum t o a known (i + 1) g
        here e =
            let q : a * m + g ≡ at = ap (λ (x : ℕ). a * m + x) (sym e) in
            split (eqb (get_or t.box i 0) a)
            (λ b. ap (λ (x : List Float). get_or x (a * m + g) zero+) (set_is b) ∙ ap (λ (x : ℕ). get_or (set l at more) x zero+) q
            ∙ get_or-set_same l at more zero+ (omega arith)
            ∙ ap (λ (x : Float). add binary64 x (line_product t o a known i)) (ap (λ (x : ℕ). get_or l x zero+) (sym q) ∙ y.row g k)
            ∙ rw (b, eq-eqb (get_or t.grocer i 0) g e) at (next g))
            (λ b. ap (λ (x : List Float). get_or x (a * m + g) zero+) (same_is b) ∙ y.row g k ∙ rw b at (next g))

    pub added_more : Added t m o a (i + 1) known part l'
    added_more = record {
      row = row_more;
      others = λ p k. stays p (λ e. omega arith) ∙ y.others p k;
      behind = λ p k. stays p (λ e. omega arith) ∙ y.behind p k;
    }

-- Lines added to a table whose row was cleared are added to the table there was.
pub added_over : (t : LineLists) (m o a n : ℕ) (known part cl l : List Float) → ((p : ℕ) → get_or cl p zero+ ≡ cleared (a * m) m part p) → Added t m o a n known cl l → Added t m o a n known part l
added_over t m o a n known part cl l h y = record {
  row = y.row;
  others = λ p k. y.others p k ∙ h p ∙ cleared_before (a * m) m part p k;
  behind = λ p k. y.behind p k ∙ h p ∙ cleared_behind (a * m) m part p k;
}

-- A cleared row, told by where it begins and its size.
pub cleared_at : (row at m n : ℕ) (l l' : List Float) → row ≡ at → m ≡ n → ((p : ℕ) → get_or l' p zero+ ≡ cleared row m l p) →
    (p : ℕ) → get_or l' p zero+ ≡ cleared at n l p
cleared_at row at m n l l' e h told p = told p ∙ rw (e, h)

-- A cleared row is one without lines.
pub added_start : (t : LineLists) (m o a : ℕ) (known part cl : List Float) → ((p : ℕ) → get_or cl p zero+ ≡ cleared (a * m) m part p) → Added t m o a 0 known cl cl
unfolding row_sum
added_start t m o a known part cl h = record {
  row = λ g k. h (a * m + g) ∙ cleared_in (a * m) m part (a * m + g) (omega arith) (omega arith) ∙ none_yet _ _;
  others = λ p k. refl;
  behind = λ p k. refl;
}

-- What adding a line leaves, told from the tables that the line was joined from.
pub line_is : (t : LineLists) (m o a i : ℕ) (known l l' : List Float) (row from grocer box : ℕ) (rate value : Float) →
    l' ≡ cond (eqb box a) (set l (row + grocer) (add binary64 (get_or l (row + grocer) zero+) (mul binary64 rate value))) l →
    row ≡ a * m → from ≡ a * o → grocer ≡ get_or t.grocer i 0 → box ≡ get_or t.box i 0 → rate ≡ get_or t.rate i zero+ → value ≡ get_or known (from + get_or t.offer i 0) zero+ →
    l' ≡ cond (eqb (get_or t.box i 0) a) (set l (a * m + get_or t.grocer i 0) (add binary64 (get_or l (a * m + get_or t.grocer i 0) zero+) (line_product t o a known i))) l
unfolding line_product
line_is t m o a i known l l' row from grocer box rate value h r f g b x v =
    h ∙ rw (r, g, b, x, v, f)
