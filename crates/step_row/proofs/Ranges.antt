-- The late 21 of steps 2 and 3: the packed table after multiplying is in range just where the box's own words are, list by list. Assumes nothing.
use mathlib.Core.Path.{◌≡◌, sym, ap, ◌∙◌}
use mathlib.Core.Bool.{Bool, true, false}
use mathlib.Core.List.{List}
use Prim.Native.Nat.{ℕ, ◌+◌, ◌-◌, ◌*◌, ◌/◌, ◌%◌, ◌<◌, ◌≤◌}
use native.Mathlib.Nat.{le_trans, mod-lt, div-add-mod'}
use native.Mathlib.Omega.{arith}
use lib.Dec.{eqb, ltb, leb}
use lib.ListN.{length, get_or}
use lib.IntN.{ℤ, pos, nat_abs, ◌+ℤ◌, +ℤ_idr}
use borrow.Author.Tests.{ne_eqb, leb-true, leb-false, ltb-true, ltb-false}
use Rattle.laws.specs.Below.{integers, only, all}
use Rattle.laws.specs.Limits.{max_amount}
use Rattle.laws.proofs.Bools.{split, same_test}
use Rattle.laws.proofs.Below.{all_at, all_of_lem}
use Rattle.laws.proofs.Sums.{sum_none}
use Rattle.laws.proofs.Tables.{cell_in}
use Rattle.model.specs.Ranges.{around}
use Rattle.step_totals.specs.Row.{placed}
use Rattle.step_totals.proofs.Placed.{shares, placed_word}
use Rattle.step_row.specs.Row.{row_of, rows_fit}
use Rattle.step_row.proofs.Rows.{nothing, row_word}

module _ (start len width t total : ℕ) (place : List ℕ) (brought : ℕ → ℕ → ℤ) (taken : ℕ → Bool) (working : List ℤ)
    (some : 1 ≤ width) (few : len ≤ 255) (inside : start + len ≤ total) (long : total * width ≤ length working)
    (off : (i q : ℕ) → i < t → taken i ≡ false → brought q i ≡ pos 0)
    (on : (i : ℕ) → i < t → taken i ≡ true → (start ≤ get_or place i 0) × (get_or place i 0 < start + len)) where
  abbrev after : List ℤ
  after = placed t width place brought working

  -- A word is in range,
  abbrev fits : List ℤ → ℕ → Bool
  fits l p = leb (nat_abs (get_or l p (pos 0))) max_amount

  -- and so is a place outside the box.
  other_word : (p : ℕ) → p < total * width → (start ≤ p / width → p / width < start + len → ⊥) → get_or after p (pos 0) ≡ get_or working p (pos 0)
  unfolding integers only
  other_word p l away =
      placed_word width place brought working t p (le_trans l long)
      ∙ ap (λ (z : ℤ). get_or working p (pos 0) +ℤ z)
      (sum_none integers t (shares width place brought working p) (λ i m. split (taken i)
      (λ e. ap (λ (b : Bool). only integers b (brought (p % width) i)) (ne_eqb (get_or place i 0) (p / width) (λ z. away (omega (arith, (on i m e).0)) (omega (arith, (on i m e).1)))))
      (λ e. nothing (eqb (get_or place i 0) (p / width)) (brought (p % width) i) (off i (p % width) m e))))
      ∙ +ℤ_idr (get_or working p (pos 0))

  kept : (p : ℕ) → p < total * width → (start ≤ p / width → p / width < start + len → ⊥) → all (total * width) (fits working) ≡ true → fits after p ≡ true
  kept p l away was = ap (λ (z : ℤ). leb (nat_abs z) max_amount) (other_word p l away) ∙ all_at (total * width) (fits working) p l was

  -- A word of the box is one of a list's row.
  boxed : (p : ℕ) → start ≤ p / width → p / width < start + len → rows_fit start len width after ≡ true → fits after p ≡ true
  unfolding around
  boxed p from to h =
      let g = p / width - start in
      let q = p % width in
      let same : start + (p / width - start) ≡ p / width = omega arith in
      ap (fits after) (sym (ap (λ (e : ℕ). e * width + p % width) same ∙ div-add-mod' p width))
      ∙ ap (λ (z : ℤ). leb (nat_abs z) max_amount) (sym (row_word start len width q after g (omega arith) few))
      ∙ all_at len (fits (row_of start len width q after)) g (omega arith) (all_at width (λ q. around max_amount len (row_of start len width q after)) q (mod-lt p some) h)

  pub row_range : around max_amount (total * width) working ≡ true → around max_amount (total * width) after ≡ rows_fit start len width after
  unfolding around
  row_range was =
      same_test (all (total * width) (fits after)) (all width (λ q. all len (fits (row_of start len width q after))))
      (λ h. all_of_lem width (λ q. all len (fits (row_of start len width q after))) (λ q k. all_of_lem len (fits (row_of start len width q after)) (λ g m.
      ap (λ (z : ℤ). leb (nat_abs z) max_amount) (row_word start len width q after g m few)
      ∙ all_at (total * width) (fits after) ((start + g) * width + q) (cell_in (start + g) total width q (omega arith) k) h)))
      (λ h. all_of_lem (total * width) (fits after) (λ p l.
      split (leb start (p / width))
      (λ a. let la = leb-true start (p / width) a in
      split (ltb (p / width) (start + len))
      (λ b. boxed p la (ltb-true (p / width) (start + len) b) h)
      (λ b. let lb = ltb-false (p / width) (start + len) b in kept p l (λ q r. omega arith) was))
      (λ a. let la = leb-false start (p / width) a in kept p l (λ q r. omega arith) was)))
