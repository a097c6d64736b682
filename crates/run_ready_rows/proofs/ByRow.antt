-- Ready steps by rows. Assumes nothing.
use mathlib.Core.Path.{◌≡◌, refl, sym, ap, ◌∙◌}
use mathlib.Core.Bool.{Bool, true, false, ◌&&◌, ◌||◌, not}
use mathlib.Core.List.{List}
use Prim.Native.Nat.{ℕ, zero, suc, ◌+◌, ◌-◌, ◌*◌, ◌/◌, ◌%◌, ◌≤◌, ◌<◌, ◌^◌}
use native.Mathlib.Omega.{arith}
use native.Mathlib.Nat.{suc-mul, add-zero, zero-mul, mul-le-mul_right, div-add-mod', div-lt_iff_lt-mul, mod-lt}
use native.Mathlib.Numerals.{add-one}
use lib.Arith.{digits_lt}
use lib.Dec.{eqb, ltb}
use lib.ListN.{get_or, set, length-set}
use lib.Seq.{get_or-set_same, get_or-set_other}
use lib.Count.{ones}
use borrow.Author.Tests.{eqb-true, eqb-false, lt-ltb}
use Rattle.laws.specs.Below.{naturals, sum, only, count, nth, all}
use Rattle.laws.specs.Masks.{bit, mask_of}
use Rattle.laws.proofs.Bools.{split, eqb_same, and_one, and_false, and_comm}
use Rattle.laws.proofs.Below.{count_start, count_cong, count_le, any_false, all_cong, count_none, count_with}
use Rattle.laws.proofs.Ascending.{nth_is}
use Rattle.laws.proofs.Masks.{mask_cong, mask_none, mask_below, bit_mask, mask_bits, ones_mask}
use Rattle.model.specs.Steps.{kind_of, Steps, send_totals, add_own}
use Rattle.model.specs.Tables.{steps_done}
use Rattle.step_rules.specs.Rules.{permitted_by, word_at, totals_due_by, fits_by, has_got, all_got, ready_by}
use Rattle.step_places.specs.Places.{PlaceIn, here, Found}
use Rattle.run_ready.specs.Walk.{listed_by, WalkIn}
use Rattle.run_ready.specs.declared.ReadyRows.{ReadyRows}
use Rattle.run_ready.specs.Rows.{row_of, IsLong, HasRow, RowIn, IsRows, rows_total, FewRows, Renewed}
use Rattle.run_ready.proofs.InModel.{listed_at}
use Rattle.run_ready.proofs.Rows.{rows_more, has_cong}

-- Numbers below m, and n more.
count_both : (n m : ℕ) (p : ℕ → Bool) → count (m + n) p ≡ count m p + count n (λ b. p (m + b))
unfolding count sum naturals
count_both zero m p = rw (add-zero m) (omega arith)
count_both (suc n) m p = rw (more m n, count_both n m p) (omega arith)
  where
    more : (m n : ℕ) → m + suc n ≡ suc (m + n)
    more m n = omega arith

-- A row of k places more.
row_more : (r k : ℕ) (p : ℕ → Bool) → count (suc r * k) p ≡ count (r * k) p + count k (λ b. p (r * k + b))
row_more r k p = ap (λ (x : ℕ). count x p) (suc-mul r k) ∙ count_both k (r * k) p

-- Rows by kind and first box.
pub row_digits : (k r : ℕ) → row_of k (r / k + 1) (r % k) ≡ r
row_digits k r = ap (λ (x : ℕ). x * k + r % k) (less (r / k)) ∙ div-add-mod' r k
  where
    less : (x : ℕ) → x + 1 - 1 ≡ x
    less x = omega arith

pub kind_few : (k r : ℕ) → 1 ≤ k → r < 6 * k → r / k < 6
kind_few k r some l = (div-lt_iff_lt-mul {k = k} some).1 l

pub row_in : (k r : ℕ) (done : List ℕ) → WalkIn k done → r < 6 * k → RowIn k (r / k + 1) (r % k) done
row_in k r done w l = record {
  kind_from = omega arith;
  kind_to = omega (arith, kind_few k r w.some l);
  boxes_in = w.boxes_in;
  a_in = mod-lt r w.some;
  done_long = w.done_long;
}

pub row_place : (k r b : ℕ) → 1 ≤ k → k ≤ 16 → r < 6 * k → b < k → PlaceIn k (r / k + 1) (r % k) b
row_place k r b some lk l lb = record {
  boxes_in = lk;
  kind_from = omega arith;
  kind_to = omega (arith, kind_few k r some l);
  a_in = mod-lt r some;
  b_in = lb;
}

pub row_here : (k r b : ℕ) → here k (r / k + 1) (r % k) b ≡ r * k + b
row_here k r b = ap (λ (x : ℕ). x * k + b) (row_digits k r)

-- A row is one of 96.
pub row_below : (k kind a : ℕ) → k ≤ 16 → kind ≤ 6 → 1 ≤ kind → a < k → row_of k kind a < 96
row_below k kind a lk to from la = omega (arith, mul-le-mul_right {m = kind - 1} {n = 5} k (omega arith))

-- A row by its places, of the first k boxes.
pub row_listed : (k kind a : ℕ) (receivers : List ℕ) (waits : List (List ℕ)) (done : List ℕ) → k ≤ 16 → 1 ≤ kind → kind ≤ 6 → a < k → (b : ℕ) → b < k →
    permitted_by receivers waits (steps_done k done) (kind_of kind) a b ≡ listed_by k receivers waits done (row_of k kind a * k + b)
row_listed k kind a receivers waits done lk from to la b l =
    listed_at k kind a b receivers waits done (record { boxes_in = lk; kind_from = from; kind_to = to; a_in = la; b_in = l })

-- One row written: its word, and its number.
module _ (k : ℕ) (f : ℕ → Bool) (i word number : ℕ) (rows : ReadyRows) (l : i < 96) (n : IsLong rows) where
  pub written : word ≡ mask_of k f → number ≡ count k f → Renewed k f i rows (record { words = set rows.words i word; counts = set rows.counts i number })
  written ew en = record {
    long = (length-set rows.words i word ∙ n.0, length-set rows.counts i number ∙ n.1);
    here = record {
      word_is = get_or-set_same rows.words i word 0 (omega (arith, n.0)) ∙ ew;
      count_is = get_or-set_same rows.counts i number 0 (omega (arith, n.1)) ∙ en;
    };
    others = λ r g lr ne h. record {
      word_is = get_or-set_other rows.words i r word 0 ne ∙ h.word_is;
      count_is = get_or-set_other rows.counts i r number 0 ne ∙ h.count_is;
    };
  }

-- The same row by other tests that agree, or by another name.
pub renewed_cong : (k : ℕ) (f g : ℕ → Bool) (i j : ℕ) (rows rows' : ReadyRows) → i ≡ j → ((b : ℕ) → b < k → f b ≡ g b) → Renewed k f i rows rows' → Renewed k g j rows rows'
renewed_cong k f g i j rows rows' e h n = record {
  long = n.long;
  here = rw (← e) (has_cong k f g i rows' h n.here);
  others = λ r s l ne. n.others r s l (λ q. ne (q ∙ e));
}

module _ (k : ℕ) (f : ℕ → Bool) (rows : ReadyRows) (h : IsRows k f rows) where
  pub rows_few : k ≤ 16 → FewRows k rows
  rows_few lk = record { boxes_in = lk; few = λ r l. rw (h.right r l).count_is (omega (arith, count_le k (λ b. f (r * k + b)))) }

  -- The counts of rows together are the count of their places.
  pub rows_sum : (n : ℕ) → n ≤ 6 * k → rows_total rows n ≡ count (n * k) f
  unfolding rows_total sum naturals
  rows_sum zero l = sym (ap (λ (x : ℕ). count x f) (zero-mul k) ∙ count_start f)
  rows_sum (suc n) l = rw (rows_sum n (omega arith), (h.right n (omega arith)).count_is) (sym (row_more n k f))

  pub rows_ready : rows_total rows (6 * k) ≡ count (6 * k * k) f
  rows_ready = rows_sum (6 * k) (omega arith)

  -- The bits of the word of a row.
  row_bit : (r : ℕ) → r < 6 * k → (b : ℕ) → b < k → bit b (get_or rows.words r 0) ≡ f (r * k + b)
  row_bit r l b lb = ap (bit b) (h.right r l).word_is ∙ bit_mask k b (λ b. f (r * k + b)) lb

  -- Row r has the place that is meant: more bits than are left to pass,
  pub row_some : (r left : ℕ) → r < 6 * k → left < get_or rows.counts r 0 → left < count k (λ b. bit b (get_or rows.words r 0))
  row_some r left l lt =
      let c : count k (λ b. bit b (get_or rows.words r 0)) ≡ count k (λ b. f (r * k + b)) = count_cong k _ _ (row_bit r l) in
      omega (arith, c, (h.right r l).count_is)

  -- and the bit that has so many before it.
  pub row_found : (r left c b : ℕ) → 1 ≤ k → k ≤ 16 → left + rows_total rows r ≡ c → r < 6 * k → b < k → bit b (get_or rows.words r 0) ≡ true → count b (λ i. bit i (get_or rows.words r 0)) ≡ left →
      Found k (nth (6 * k * k) f c) (r / k + 1) (r % k) b
  row_found r left c b some lk e l lb on m = record {
    place_in = row_place k r b some lk l lb;
    place_is = row_here k r b ∙ sym (nth_is (6 * k * k) f c (r * k + b) (digits_lt {q = r} {m = 6 * k} l lb) (sym (row_bit r l b lb) ∙ on) counted);
  }
    where
      below : count b (λ i. bit i (get_or rows.words r 0)) ≡ count b (λ i. f (r * k + i))
      below = count_cong b _ _ (λ i li. row_bit r l i (omega arith))

      counted : count (r * k + b) f ≡ c
      counted = omega (arith, count_both b (r * k) f, below, rows_sum r (omega arith))

  -- Past the last row there were not so many.
  pub rows_end : (r left c : ℕ) → r ≡ 6 * k → left + rows_total rows r ≡ c → c < count (6 * k * k) f → ⊥
  rows_end r left c e s l = let t : left + rows_total rows (6 * k) ≡ c = rw e at s in omega (arith, rows_ready)

-- The rows of one kind, and the first of the next.
pub kind_rows : (q k : ℕ) → q < 6 → q * k + k ≤ 6 * k
kind_rows q k l = omega (arith, suc-mul q k, mul-le-mul_right {m = suc q} {n = 6} k (omega arith))

pub next_kind : (q k : ℕ) → (q + 1) * k ≡ q * k + k
next_kind q k = ap (λ (x : ℕ). x * k) (add-one q) ∙ suc-mul q k

-- A row is passed.
pub row_passed : (rows : ReadyRows) (r left c : ℕ) → left + rows_total rows r ≡ c → get_or rows.counts r 0 ≤ left → left - get_or rows.counts r 0 + rows_total rows (r + 1) ≡ c
row_passed rows r left c e h = rw (rows_more rows r) (omega arith)

module _ (k : ℕ) (f : ℕ → Bool) where
  -- Rows made one after the other: those below r.
  pub record MadeTo (rows : ReadyRows) (r : ℕ) : Type 0 where
    pub long : IsLong rows
    pub right : (q : ℕ) → q < r → HasRow k (λ b. f (q * k + b)) q rows

  pub made_first : (rows : ReadyRows) → IsLong rows → MadeTo rows 0
  made_first rows e = record { long = e; right = λ q l. absurd (omega arith) }

  -- A row that is made anew has what it is to have, and the others keep theirs.
  pub renewed_at : (i r : ℕ) (rows rows' : ReadyRows) → r < 96 → Renewed k (λ b. f (i * k + b)) i rows rows' → (eqb r i ≡ false → HasRow k (λ b. f (r * k + b)) r rows) →
      HasRow k (λ b. f (r * k + b)) r rows'
  renewed_at i r rows rows' l n h =
      split (eqb r i)
      (λ e. rw (eqb-true r i e) n.here)
      (λ e. n.others r _ l (eqb-false r i e) (h e))

  pub made_next : (r : ℕ) (rows rows' : ReadyRows) → r < 96 → MadeTo rows r → Renewed k (λ b. f (r * k + b)) r rows rows' → MadeTo rows' (r + 1)
  made_next r rows rows' lr w n = record {
    long = n.long;
    right = λ q l. renewed_at r q rows rows' (omega arith) n (λ e. w.right q (let ne : q ≡ r → ⊥ = eqb-false q r e in omega arith));
  }

  pub made_all : (rows : ReadyRows) (r : ℕ) → r ≡ 6 * k → MadeTo rows r → IsRows k f rows
  made_all rows r e w = record { long = w.long; right = λ q l. w.right q (omega arith) }

-- A row that has one place only, where a test holds.
module _ (k a : ℕ) (t : Bool) (f : ℕ → Bool) (la : a < k) (e : (b : ℕ) → f b ≡ (eqb a b && t)) where
  pub only_word : (r : ℕ) → k ≤ 16 → ((g : ℕ → Bool) → 0 ≡ mask_of 16 g → r ≡ mask_of 16 (λ b. g b || (t && eqb a b))) → r ≡ mask_of k f
  only_word r lk h =
      h (λ b. false) (sym (mask_none 16))
      ∙ mask_cong 16 _ (λ b. ltb b k && f b) (λ b l. same b)
      ∙ mask_below k 16 f lk
    where
      same : (b : ℕ) → (t && eqb a b) ≡ (ltb b k && f b)
      same b =
          split (eqb a b)
          (λ q. let i : a ≡ b = eqb-true a b q in rw (e b, ← i, eqb_same a, lt-ltb a k la) (and_one t))
          (λ q. rw (e b, q, and_false t) (sym (and_false (ltb b k))))

  pub only_count : only naturals t 1 ≡ count k f
  only_count =
      omega (
        arith,
        count_cong k f (λ b. false || (t && eqb a b)) (λ b l. e b ∙ and_comm (eqb a b) t),
        count_with k a (λ b. false) t la refl,
        count_none k (λ b. false) (any_false k (λ b. false) (λ b l. refl)),
      )

-- A 16-bit word has at most 16 bits.
pub ones_few : (w : ℕ) → w < 2 ^ 16 → ones w ≤ 16
ones_few w l = omega (arith, ap ones (sym (mask_bits 16 w l)) ∙ ones_mask 16 (λ b. bit b w), count_le 16 (λ b. bit b w))

-- The steps of totals, told from the boxes whose prices box a has.
module _ (waits : List (List ℕ)) (d : Steps) (a b w g : ℕ) (cov : Bool) (ew : w ≡ word_at waits a b) (eg : g ≡ mask_of 16 (has_got d a)) (ec : cov ≡ all 16 (λ o. not (bit o w) || bit o g)) where
  covers_got : cov ≡ all_got waits d a b
  unfolding all_got
  covers_got = ec ∙ all_cong 16 _ _ (λ o l. rw (ew, eg, bit_mask 16 o (has_got d a) l))

  pub sends_open : (receivers : List ℕ) (marked : Bool) → marked ≡ d send_totals a b →
      ((not (eqb a b) && not (eqb w 0)) && (not marked && cov)) ≡ permitted_by receivers waits d send_totals a b
  unfolding permitted_by fits_by totals_due_by ready_by
  sends_open receivers marked em = rw (covers_got, em, ew)

-- The same of its own.
pub own_open : (receivers : List ℕ) (waits : List (List ℕ)) (d : Steps) (a w g : ℕ) (marked cov : Bool) → w ≡ word_at waits a a → g ≡ mask_of 16 (has_got d a) →
    cov ≡ all 16 (λ o. not (bit o w) || bit o g) → marked ≡ d add_own a a → (b : ℕ) → permitted_by receivers waits d add_own a b ≡ (eqb a b && (not marked && cov))
unfolding permitted_by fits_by ready_by
own_open receivers waits d a w g marked cov ew eg ec em b =
    split (eqb a b)
    (λ q. let i : a ≡ b = eqb-true a b q in rw (← i, em, covers_got waits d a a w g cov ew eg ec))
    (λ q. rw q)

-- A place of row r by its number.
pub row_places : (k r : ℕ) (receivers : List ℕ) (waits : List (List ℕ)) (done : List ℕ) → 1 ≤ k → k ≤ 16 → r < 6 * k → (b : ℕ) → b < k →
    permitted_by receivers waits (steps_done k done) (kind_of (r / k + 1)) (r % k) b ≡ listed_by k receivers waits done (r * k + b)
row_places k r receivers waits done some lk l b lb =
    listed_at k (r / k + 1) (r % k) b receivers waits done (row_place k r b some lk l lb) ∙ ap (listed_by k receivers waits done) (row_here k r b)
