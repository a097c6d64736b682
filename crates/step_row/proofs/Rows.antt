-- The words of a box on one list, copied, and what a tally brings to them. Assumes nothing.
use mathlib.Core.Path.{◌≡◌, sym, ap, ap₂, ◌∙◌}
use mathlib.Core.Bool.{Bool, true, false, cond}
use mathlib.Core.List.{List}
use Prim.Native.Nat.{ℕ, ◌+◌, ◌-◌, ◌*◌, ◌<◌, ◌≤◌}
use native.Mathlib.Nat.{le_trans}
use native.Mathlib.Omega.{arith}
use lib.Arith.{digits_div, digits_mod}
use lib.Dec.{eqb, ltb}
use lib.ListN.{length, get_or, set, length-set}
use lib.Seq.{set-get_or}
use lib.IntN.{ℤ, pos, ◌+ℤ◌, +ℤ_idr, +ℤ_assoc}
use borrow.Author.Tests.{lt-ltb, le-ltb, ltb-true, ltb-false, ne_eqb}
use Rattle.laws.specs.Below.{integers, sum, only}
use Rattle.laws.proofs.Bools.{split, cond_same, cond_yes}
use Rattle.laws.proofs.Loops.{add_at, share, eqb_shift}
use Rattle.laws.proofs.Sums.{sum_start, sum_next_lem}
use Rattle.laws.proofs.Tables.{get_d_tabulate, length_tabulate, is_tabulate, cell_in}
use Rattle.step_totals.specs.Row.{placed}
use Rattle.step_totals.proofs.Placed.{placed_word}
use Rattle.step_row.specs.Row.{row_of, raised_at}

-- Nothing brought is nothing added.
pub nothing : (b : Bool) (z : ℤ) → z ≡ pos 0 → only integers b z ≡ pos 0
unfolding only integers
nothing b z e = rw e (cond_same b (pos 0))

-- Where nothing is brought the row stays.
pub raised_none : (l : List ℤ) (g : ℕ) (z : ℤ) → z ≡ pos 0 → l ≡ raised_at l g z
raised_none l g z e = rw e (sym (ap (λ (x : ℤ). set l g x) (+ℤ_idr (get_or l g (pos 0))) ∙ set-get_or l g (pos 0)))

-- The words of a box on list q, in a row.
module _ (start len width q : ℕ) (l : List ℤ) where
  pub length_row : length (row_of start len width q l) ≡ 255
  unfolding row_of
  length_row = length_tabulate 255 (λ g. cond (ltb g len) (get_or l ((start + g) * width + q) (pos 0)) (pos 0))

  row_at : (g : ℕ) → g < 255 → get_or (row_of start len width q l) g (pos 0) ≡ cond (ltb g len) (get_or l ((start + g) * width + q) (pos 0)) (pos 0)
  unfolding row_of
  row_at g k = get_d_tabulate 255 (λ g. cond (ltb g len) (get_or l ((start + g) * width + q) (pos 0)) (pos 0)) g (pos 0) k

  pub row_word : (g : ℕ) → g < len → len ≤ 255 → get_or (row_of start len width q l) g (pos 0) ≡ get_or l ((start + g) * width + q) (pos 0)
  row_word g k few = row_at g (le_trans k few) ∙ cond_yes (ltb g len) _ (pos 0) (lt-ltb g len k)

-- Tallies added to the words of a box.
module _ (start len width q : ℕ) (place : List ℕ) (brought : ℕ → ℕ → ℤ) (l : List ℤ) (in-lists : q < width) (few : len ≤ 255) (long : (start + len) * width ≤ length l) where
  -- What the tallies bring to word g of the row.
  abbrev adds : ℕ → ℕ → ℤ
  adds g = share (λ j. get_or place j 0) (brought q) (start + g)

  inside : (g : ℕ) → g < len → (start + g) * width + q < length l
  inside g k = le_trans (cell_in (start + g) (start + len) width q (omega arith) in-lists) long

  -- A word of the row.
  pub row_placed : (t g : ℕ) → g < len → get_or (row_of start len width q (placed t width place brought l)) g (pos 0) ≡ get_or l ((start + g) * width + q) (pos 0) +ℤ sum integers t (adds g)
  row_placed t g k =
      row_word start len width q (placed t width place brought l) g k few
      ∙ placed_word width place brought l t ((start + g) * width + q) (inside g k)
      ∙ ap₂ (λ (x e : ℕ). get_or l ((start + g) * width + q) (pos 0) +ℤ sum integers t (share (λ j. get_or place j 0) (brought x) e)) (digits_mod (start + g) in-lists) (digits_div (start + g) in-lists)

  -- A row is told by these.
  row_is : (t : ℕ) (r : List ℤ) → length r ≡ 255 → ((g : ℕ) → g < len → get_or r g (pos 0) ≡ get_or l ((start + g) * width + q) (pos 0) +ℤ sum integers t (adds g)) →
      ((g : ℕ) → len ≤ g → g < 255 → get_or r g (pos 0) ≡ pos 0) → r ≡ row_of start len width q (placed t width place brought l)
  unfolding row_of
  row_is t r same each rest = is_tabulate r 255 _ (pos 0) same (λ g k. split (ltb g len)
      (λ e. each g (ltb-true g len e) ∙ sym (row_placed t g (ltb-true g len e)) ∙ row_at start len width q (placed t width place brought l) g k)
      (λ e. rest g (ltb-false g len e) k ∙ sym (rw e)))

  row_rest : (t g : ℕ) → len ≤ g → g < 255 → get_or (row_of start len width q (placed t width place brought l)) g (pos 0) ≡ pos 0
  row_rest t g k m = row_at start len width q (placed t width place brought l) g m ∙ rw (le-ltb g len k)

  -- No tally.
  pub row_none : row_of start len width q l ≡ row_of start len width q (placed 0 width place brought l)
  unfolding integers
  row_none = row_is 0 (row_of start len width q l) (length_row start len width q l)
      (λ g k. row_word start len width q l g k few
      ∙ sym (ap (λ (z : ℤ). get_or l ((start + g) * width + q) (pos 0) +ℤ z) (sum_start integers (adds g)) ∙ +ℤ_idr (get_or l ((start + g) * width + q) (pos 0))))
      (λ g k m. row_at start len width q l g m ∙ rw (le-ltb g len k))

  -- One tally more, with its place in the row,
  row_more : (i : ℕ) → start ≤ get_or place i 0 → get_or place i 0 < start + len →
      raised_at (row_of start len width q (placed i width place brought l)) (get_or place i 0 - start) (brought q i) ≡ row_of start len width q (placed (i + 1) width place brought l)
  unfolding only integers
  row_more i from to =
      let row = row_of start len width q (placed i width place brought l) in
      let at = get_or place i 0 - start in
      let same = length_row start len width q (placed i width place brought l) in
      let added : (g : ℕ) → get_or (raised_at row at (brought q i)) g (pos 0) ≡ get_or row g (pos 0) +ℤ only integers (eqb at g) (brought q i) = λ g. add_at row at g (brought q i) (omega (arith, same)) in
      row_is (i + 1) (raised_at row at (brought q i)) (length-set row at _ ∙ same)
      (λ g k. added g ∙ ap₂ ◌+ℤ◌ (row_placed i g k) (ap (λ (b : Bool). only integers b (brought q i)) (shifted start (get_or place i 0) g from))
      ∙ +ℤ_assoc (get_or l ((start + g) * width + q) (pos 0)) (sum integers i (adds g)) (adds g i)
      ∙ ap (λ (z : ℤ). get_or l ((start + g) * width + q) (pos 0) +ℤ z) (sym (sum_next_lem integers i (adds g))))
      (λ g k m. added g ∙ ap₂ ◌+ℤ◌ (row_rest i g k m) (ap (λ (b : Bool). only integers b (brought q i)) (ne_eqb at g (λ e. omega arith))))
    where
      shifted : (start p g : ℕ) → start ≤ p → eqb (p - start) g ≡ eqb p (start + g)
      shifted start p g h = let same : start + (p - start) ≡ p = omega arith in sym (eqb_shift start (p - start) g) ∙ ap (λ (y : ℕ). eqb y (start + g)) same

  -- and one that brings nothing.
  row_same : (i : ℕ) → brought q i ≡ pos 0 → row_of start len width q (placed i width place brought l) ≡ row_of start len width q (placed (i + 1) width place brought l)
  unfolding integers
  row_same i e =
      row_is (i + 1) (row_of start len width q (placed i width place brought l)) (length_row start len width q (placed i width place brought l))
      (λ g k. row_placed i g k ∙ ap (λ (z : ℤ). get_or l ((start + g) * width + q) (pos 0) +ℤ z) (sym (sum_next_lem integers i (adds g)
      ∙ ap (λ (z : ℤ). sum integers i (adds g) +ℤ z) (nothing (eqb (get_or place i 0) (start + g)) (brought q i) e) ∙ +ℤ_idr (sum integers i (adds g)))))
      (row_rest i)

  -- One tally more, which is taken and has its place in the row, or brings nothing.
  pub row_next : (i : ℕ) (taken : Bool) → (taken ≡ true → (start ≤ get_or place i 0) × (get_or place i 0 < start + len)) → (taken ≡ false → brought q i ≡ pos 0) →
      raised_at (row_of start len width q (placed i width place brought l)) (get_or place i 0 - start) (brought q i) ≡ row_of start len width q (placed (i + 1) width place brought l)
  row_next i taken on off =
      split taken
      (λ e. row_more i (on e).0 (on e).1)
      (λ e. sym (raised_none (row_of start len width q (placed i width place brought l)) (get_or place i 0 - start) (brought q i) (off e)) ∙ row_same i (off e))
