-- Adding a span to statements is what steps 5 and 6 do. Assumes nothing.
use mathlib.Core.Path.{◌≡◌, refl, sym, ap, ◌∙◌}
use mathlib.Core.Bool.{true}
use mathlib.Core.List.{List}
use Prim.Native.Nat.{ℕ, zero, suc, ◌+◌, ◌-◌, ◌*◌, ◌/◌, ◌%◌, ◌<◌, ◌≤◌}
use native.Mathlib.Nat.{mul-le-mul, add-mul, le_trans, mod-lt, div-lt_iff_lt-mul, le-div_iff_mul-le, div-add-mod'}
use native.Mathlib.Omega.{arith}
use lib.Dec.{eqb, ltb, leb}
use lib.IntN.{ℤ, pos, nat_abs, ◌+ℤ◌}
use lib.ListN.{length, length-append, get_or}
use lib.Seq.{get_or-set_same, get_or-set_other}
use borrow.Author.Tests.{eqb-true, eqb-false, eq-eqb, ltb-true, lt-ltb, le-leb, leb-true}
use Rattle.laws.specs.Below.{naturals, sum, any, all}
use Rattle.laws.specs.Tables.{overwrite}
use Rattle.laws.proofs.Bools.{split, clash, and_true, and_l, and_r, same_test}
use Rattle.laws.proofs.Below.{any_at, any_find, all_at, all_of_lem}
use Rattle.laws.proofs.Tables.{is_overwrite, word_in_lem, pos_right, cell_in}
use Rattle.model.specs.Job.{Job}
use Rattle.model.specs.Ranges.{around}
use Rattle.model.specs.Steps.{effect, add_own, receive_totals}
use Rattle.model.specs.LocalLists.{chained, local_grocers}
use Rattle.model.specs.PackedTotals.{spread, totals_start, totals_length}
use Rattle.model.specs.Tables.{JobTables, job_of, with_lists, evening_of, StateTables, view, store}
use Rattle.model.specs.Spans.{group_start, place_grocers, in_span, BySpans, beside, ListSpans}
use Rattle.model.proofs.SideBySide.{length-beside, get_d_beside}
use Rattle.step_spans.specs.Credit.{credit_span, SpanIn}
use Rattle.step_spans.proofs.Laws.{length_credit}

module _ (from : ℕ) (grocers : List ℕ) (source statement : List ℤ) where
  -- A grocer that has no place in the span.
  credit_other : (n g : ℕ) → ((i : ℕ) → i < n → get_or grocers (from + i) 0 ≡ g → ⊥) → get_or (credit_span n from grocers source statement) g (pos 0) ≡ get_or statement g (pos 0)
  unfolding credit_span
  credit_other zero g h = refl
  credit_other (suc n) g h =
      get_or-set_other (credit_span n from grocers source statement) (get_or grocers (from + n) 0) g _ (pos 0) (λ e. h n (omega arith) (sym e))
      ∙ credit_other n g (λ i l. h i (omega arith))

  -- One that has one.
  credit_at : (n : ℕ) → ((i : ℕ) → i < n → get_or grocers (from + i) 0 < length statement) →
      ((i k : ℕ) → i < n → k < n → get_or grocers (from + i) 0 ≡ get_or grocers (from + k) 0 → i ≡ k) →
      (m : ℕ) → m < n → get_or (credit_span n from grocers source statement) (get_or grocers (from + m) 0) (pos 0) ≡ get_or statement (get_or grocers (from + m) 0) (pos 0) +ℤ get_or source (from + m) (pos 0)
  unfolding credit_span
  credit_at zero long once m l = absurd (omega arith)
  credit_at (suc n) long once m l =
      split (eqb m n)
      (λ e.
      rw (eqb-true m n e)
      (get_or-set_same (credit_span n from grocers source statement) (get_or grocers (from + n) 0) _ (pos 0) (omega (arith, length_credit n from grocers source statement, long n (omega arith)))
      ∙ ap (λ (z : ℤ). z +ℤ get_or source (from + n) (pos 0)) (credit_other n (get_or grocers (from + n) 0) (λ i k q. let same : i ≡ n = once i n (omega arith) (omega arith) q in omega arith))))
      (λ e. let ne : m ≡ n → ⊥ = eqb-false m n e in
      get_or-set_other (credit_span n from grocers source statement) (get_or grocers (from + n) 0) (get_or grocers (from + m) 0) _ (pos 0) (λ q. ne (once m n (omega arith) (omega arith) q))
      ∙ credit_at n (λ i k. long i (omega arith)) (λ i k li lk. once i k (omega arith) (omega arith)) m (omega arith))

in_span_lem : (from to i : ℕ) → i < to - from → in_span from to (from + i) ≡ true
unfolding in_span
in_span_lem from to i l = and_true (le-leb from (from + i) (omega arith)) (lt-ltb (from + i) to (omega arith))

and_place : (from to i : ℕ) → in_span from to i ≡ true → (i - from < to - from) × (from + (i - from) ≡ i)
unfolding in_span
and_place from to i h =
    let a = leb-true from i (and_l (leb from i) (ltb i to) h) in
    let b = ltb-true i to (and_r (leb from i) (ltb i to) h) in
    (omega arith, omega arith)

read_word : (j : Job) (t : StateTables) (g : ℕ) → g < j.grocers → (view j t).statement g ≡ get_or t.statement g (pos 0)
unfolding view
read_word j t g l = word_in_lem j.grocers t.statement (pos 0) g l

-- The statements to which a span is added: those of its grocers are raised, and no other.
credit_is : (m from to : ℕ) (grocers : List ℕ) (source statement : List ℤ) (f : ℕ → ℤ) → m ≤ length statement →
    ((i : ℕ) → in_span from to i ≡ true → get_or grocers i 0 < m) →
    ((i k : ℕ) → in_span from to i ≡ true → in_span from to k ≡ true → get_or grocers i 0 ≡ get_or grocers k 0 → i ≡ k) →
    ((i : ℕ) → in_span from to i ≡ true → f (get_or grocers i 0) ≡ get_or statement (get_or grocers i 0) (pos 0) +ℤ get_or source i (pos 0)) →
    ((g : ℕ) → g < m → ((i : ℕ) → in_span from to i ≡ true → get_or grocers i 0 ≡ g → ⊥) → f g ≡ get_or statement g (pos 0)) →
    credit_span (to - from) from grocers source statement ≡ overwrite m f statement
credit_is m from to grocers source statement f long inside once each other =
    is_overwrite m f statement (credit_span (to - from) from grocers source statement) (pos 0) long (length_credit (to - from) from grocers source statement)
    (λ g l. split (any (to - from) (λ i. eqb (get_or grocers (from + i) 0) g))
    (λ e. let (i, li, q) = any_find (to - from) (λ i. eqb (get_or grocers (from + i) 0) g) e in
    let same = eqb-true (get_or grocers (from + i) 0) g q in
    rw (← same) (credit_at from grocers source statement (to - from) (λ i l. omega (arith, inside (from + i) (in_span_lem from to i l)))
    (λ i k li lk p. let z : from + i ≡ from + k = once (from + i) (from + k) (in_span_lem from to i li) (in_span_lem from to k lk) p in omega arith) i li
    ∙ sym (each (from + i) (in_span_lem from to i li))))
    (λ e. credit_other from grocers source statement (to - from) g (λ i li q. clash (any_at (to - from) (λ i. eqb (get_or grocers (from + i) 0) g) i li (eq-eqb (get_or grocers (from + i) 0) g q)) e)
    ∙ sym (other g l (λ i h q. let n = and_place from to i h in
    clash (any_at (to - from) (λ i. eqb (get_or grocers (from + i) 0) g) (i - from) n.0 (eq-eqb (get_or grocers (from + (i - from)) 0) g (ap (λ (k : ℕ). get_or grocers k 0) n.1 ∙ q))) e))))
    (λ g l. credit_other from grocers source statement (to - from) g (λ i li q. let k = inside (from + i) (in_span_lem from to i li) in omega arith))

-- The late 21 of steps 5 and 6: the statements are in range just where those of the span's grocers are.
pub credit_range : (n m from to : ℕ) (grocers : List ℕ) (source statement : List ℤ) → m ≤ length statement →
    ((i : ℕ) → in_span from to i ≡ true → get_or grocers i 0 < m) →
    ((i k : ℕ) → in_span from to i ≡ true → in_span from to k ≡ true → get_or grocers i 0 ≡ get_or grocers k 0 → i ≡ k) →
    ((g : ℕ) → g < m → nat_abs (get_or statement g (pos 0)) ≤ n) →
    around n m (credit_span (to - from) from grocers source statement)
    ≡ all (to - from) (λ i. leb (nat_abs (get_or statement (get_or grocers (from + i) 0) (pos 0) +ℤ get_or source (from + i) (pos 0))) n)
unfolding around
credit_range n m from to grocers source statement long inside once was =
    same_test _ _
    (λ h. all_of_lem (to - from) (λ i. leb (nat_abs (get_or statement (get_or grocers (from + i) 0) (pos 0) +ℤ get_or source (from + i) (pos 0))) n) (λ i l.
    ap (λ (z : ℤ). leb (nat_abs z) n) (sym (at i l))
    ∙ all_at m (λ g. leb (nat_abs (get_or (credit_span (to - from) from grocers source statement) g (pos 0))) n) (get_or grocers (from + i) 0) (inside (from + i) (in_span_lem from to i l)) h))
    (λ h. all_of_lem m (λ g. leb (nat_abs (get_or (credit_span (to - from) from grocers source statement) g (pos 0))) n) (λ g l.
    split (any (to - from) (λ i. eqb (get_or grocers (from + i) 0) g))
    (λ e. let (i, li, q) = any_find (to - from) (λ i. eqb (get_or grocers (from + i) 0) g) e in
    ap (λ (x : ℕ). leb (nat_abs (get_or (credit_span (to - from) from grocers source statement) x (pos 0))) n) (sym (eqb-true (get_or grocers (from + i) 0) g q))
    ∙ ap (λ (z : ℤ). leb (nat_abs z) n) (at i li)
    ∙ all_at (to - from) (λ i. leb (nat_abs (get_or statement (get_or grocers (from + i) 0) (pos 0) +ℤ get_or source (from + i) (pos 0))) n) i li h)
    (λ e. ap (λ (z : ℤ). leb (nat_abs z) n) (credit_other from grocers source statement (to - from) g (λ i li q. clash (any_at (to - from) (λ i. eqb (get_or grocers (from + i) 0) g) i li (eq-eqb (get_or grocers (from + i) 0) g q)) e))
    ∙ le-leb (nat_abs (get_or statement g (pos 0))) n (was g l))))
  where
    at : (i : ℕ) → i < to - from →
        get_or (credit_span (to - from) from grocers source statement) (get_or grocers (from + i) 0) (pos 0) ≡ get_or statement (get_or grocers (from + i) 0) (pos 0) +ℤ get_or source (from + i) (pos 0)
    at i l =
        credit_at from grocers source statement (to - from) (λ i l. omega (arith, inside (from + i) (in_span_lem from to i l)))
        (λ i k li lk p. let z : from + i ≡ from + k = once (from + i) (from + k) (in_span_lem from to i li) (in_span_lem from to k lk) p in omega arith) i l

-- Steps 5 and 6 on the statements, where `grocers` has the grocer of each place of the span.
module _ (j : Job) (t : StateTables) (z : BySpans j t) (grocers : List ℕ) (long : j.grocers ≤ length t.statement) where
  pub added_statement : (a b : ℕ) → a < j.boxes → ((i : ℕ) → in_span (group_start j a 0) (group_start j a 1) i ≡ true → (get_or grocers i 0 ≡ get_or (place_grocers j) i 0) × (get_or grocers i 0 < j.grocers)) →
      credit_span (group_start j a 1 - group_start j a 0) (group_start j a 0) grocers t.working t.statement ≡ (store j (effect j (view j t) add_own a b) t).statement
  unfolding store
  added_statement a b la at =
      credit_is j.grocers (group_start j a 0) (group_start j a 1) grocers t.working t.statement (effect j (view j t) add_own a b).statement long
      (λ i h. (at i h).1)
      (λ i k hi hk q. z.own_once a i k la hi hk (sym (at i hi).0 ∙ q ∙ (at k hk).0))
      (λ i h. ap (effect j (view j t) add_own a b).statement (at i h).0 ∙ z.added_each a b i la h
      ∙ ap (λ (y : ℤ). y +ℤ get_or t.working i (pos 0)) (ap (view j t).statement (sym (at i h).0) ∙ read_word j t (get_or grocers i 0) (at i h).1))
      (λ g l none. z.added_other a b g la l (λ i h q. none i h ((at i h).0 ∙ q)) ∙ read_word j t g l)

  pub received_statement : (a b : ℕ) → a < j.boxes → b < j.boxes →
      ((i : ℕ) → in_span (group_start j b (suc a)) (group_start j b (suc (suc a))) i ≡ true → (get_or grocers i 0 ≡ get_or (place_grocers j) i 0) × (get_or grocers i 0 < j.grocers)) →
      credit_span (group_start j b (suc (suc a)) - group_start j b (suc a)) (group_start j b (suc a)) grocers t.total_transit t.statement ≡ (store j (effect j (view j t) receive_totals a b) t).statement
  unfolding store
  received_statement a b la lb at =
      credit_is j.grocers (group_start j b (suc a)) (group_start j b (suc (suc a))) grocers t.total_transit t.statement (effect j (view j t) receive_totals a b).statement long
      (λ i h. (at i h).1)
      (λ i k hi hk q. z.message_once b a i k lb la hi hk (sym (at i hi).0 ∙ q ∙ (at k hk).0))
      (λ i h. ap (effect j (view j t) receive_totals a b).statement (at i h).0 ∙ z.received_each a b i la lb h
      ∙ ap (λ (y : ℤ). y +ℤ get_or t.total_transit i (pos 0)) (ap (view j t).statement (sym (at i h).0) ∙ read_word j t (get_or grocers i 0) (at i h).1))
      (λ g l none. z.received_other a b g la lb l (λ i h q. none i h ((at i h).0 ∙ q)) ∙ read_word j t g l)

-- ---- Places with a word for each price list

-- The number at word w of a list with n words for each entry.
beside_word : (n : ℕ) (l : List ℕ) (w : ℕ) → w < length l * n → get_or (beside n l) w 0 ≡ get_or l (w / n) 0 * n + w % n
beside_word n l w h =
    let some : 0 < n = pos_right (length l) n w h in
    ap (λ (k : ℕ). get_or (beside n l) k 0) (sym (div-add-mod' w n)) ∙ get_d_beside n l (w / n) (w % n) ((div-lt_iff_lt-mul some).1 h) (mod-lt w some)

-- The place of a word of a span of places lies in it.
place_of : (n from to w : ℕ) → from * n ≤ w → w < to * n → (from ≤ w / n) × (w / n < to)
place_of n from to w l h =
    let some : 0 < n = pos_right to n w h in
    ((le-div_iff_mul-le some).1 l, (div-lt_iff_lt-mul some).1 h)

-- A word of the statements is one of m entries.
number_in_lem : (n m from to : ℕ) (grocers : List ℕ) → to ≤ length grocers → ((i : ℕ) → from ≤ i → i < to → get_or grocers i 0 < m) → (w : ℕ) → from * n ≤ w → w < to * n → get_or (beside n grocers) w 0 < m * n
number_in_lem n m from to grocers long each w l h =
    let at = place_of n from to w l h in
    let some : 0 < n = pos_right to n w h in
    rw (beside_word n grocers w (le_trans h (mul-le-mul long (omega arith)))) (cell_in (get_or grocers (w / n) 0) m n (w % n) (each (w / n) at.0 at.1) (mod-lt w some))

-- What adding a span of at most 255 places requires, of tables in range: m statements of so many words each.
pub span_in : (from to width m : ℕ) (grocers : List ℕ) (source statement : List ℤ) → from ≤ to → to ≤ from + 255 → width ≤ 8 → to ≤ length grocers →
    to * width ≤ length source → m * width ≤ length statement → ((i : ℕ) → from ≤ i → i < to → get_or grocers i 0 < m) →
    ((w : ℕ) → w < to * width → nat_abs (get_or source w (pos 0)) ≤ 1_000_000_000_000_000) → ((w : ℕ) → w < m * width → nat_abs (get_or statement w (pos 0)) ≤ 1_000_000_000_000_000) →
    SpanIn from to width grocers source statement
span_in from to width m grocers source statement order few lists long source_long statement_long_lem each source_in statement_in = record {
  order = order;
  width_in = lists;
  grocers_long = long;
  words_in = record {
    order = mul-le-mul order (omega arith);
    few = let wide : to * width ≤ (from + 255) * width = mul-le-mul few (omega arith) in omega (arith, wide, add-mul from 255 width);
    grocers_long = rw (length-beside width grocers) (mul-le-mul long (omega arith));
    source_long = source_long;
    grocer_in = λ w l h. le_trans (number_in_lem width m from to grocers long each w l h) statement_long_lem;
    source_in = λ w l h. source_in w h;
    statement_in = λ w l h. statement_in (get_or (beside width grocers) w 0) (number_in_lem width m from to grocers long each w l h);
  };
}

length-chained : (n : ℕ) (f : ℕ → List ℕ) → length (chained n f) ≡ sum naturals n (λ c. length (f c))
unfolding sum naturals chained
length-chained zero f = refl
length-chained (suc n) f = length-append (chained n f) (f n) ∙ ap (λ (k : ℕ). k + length (f n)) (length-chained n f)

-- Each place has a grocer.
length-places : (j : Job) → length (place_grocers j) ≡ totals_length j
unfolding place_grocers totals_length totals_start
length-places j = length-chained j.boxes (local_grocers j)

-- Where `grocers` has the grocer of each place of a span, its numbers side by side are those of the evening's places.
pub evening_grocers : (f : JobTables) → ListSpans f → (from to : ℕ) (grocers : List ℕ) → to ≤ length grocers → to ≤ totals_length (job_of f) →
    ((i : ℕ) → in_span from to i ≡ true → (get_or grocers i 0 ≡ get_or (place_grocers (job_of f)) i 0) × (get_or grocers i 0 < f.grocers)) →
    (w : ℕ) → in_span (from * suc f.lists) (to * suc f.lists) w ≡ true →
    (get_or (beside (suc f.lists) grocers) w 0 ≡ get_or (place_grocers (evening_of f)) w 0) × (get_or (beside (suc f.lists) grocers) w 0 < (evening_of f).grocers)
unfolding in_span with_lists spread job_of
evening_grocers f s from to grocers long places each w e =
    let n = suc f.lists in
    let l = leb-true (from * suc f.lists) w (and_l _ _ e) in
    let h = ltb-true w (to * suc f.lists) (and_r (leb (from * suc f.lists) w) _ e) in
    let at = place_of n from to w l h in
    let same = (each (w / n) (and_true (le-leb from (w / n) at.0) (lt-ltb (w / n) to at.1))).0 in (
      beside_word n grocers w (le_trans h (mul-le-mul long (omega arith)))
          ∙ ap (λ (g : ℕ). g * n + w % n) same
          ∙ sym (beside_word n (place_grocers (job_of f)) w (le_trans h (mul-le-mul (rw (length-places (job_of f)) places) (omega arith))))
          ∙ ap (λ (x : List ℕ). get_or x w 0) (sym s.grocers),
      number_in_lem n f.grocers from to grocers long (λ i l h. (each i (and_true (le-leb from i l) (lt-ltb i to h))).1) w l h,
    )
