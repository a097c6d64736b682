-- The late 21 of kinds 4 to 6, kind by kind and place by place. Assumes nothing.
use mathlib.Core.Path.{◌≡◌, sym, ap, ◌∙◌}
use mathlib.Core.Bool.{true, false}
use mathlib.Core.List.{List}
use Prim.Native.Nat.{ℕ, ◌+◌, ◌-◌, ◌*◌, ◌≤◌}
use native.Mathlib.Omega.{arith}
use native.Mathlib.Nat.{add-mul}
use lib.Dec.{leb, ltb}
use lib.ListN.{get_or}
use lib.IntN.{ℤ, pos, nat_abs, ◌+ℤ◌}
use borrow.Author.Tests.{ltb-true, ltb-false}
use Rattle.laws.specs.Below.{all}
use Rattle.laws.proofs.Bools.{split}
use Rattle.laws.proofs.Below.{all_at, all_of_lem, all_find, all_fails}
use Rattle.laws.specs.Limits.{max_amount, max_sent}
use Rattle.step_packed.specs.Fits.{word_fits, span_fits, total_fits}

module _ (from to width : ℕ) (grocers : List ℕ) (working transit statement : List ℤ) (sent : List ℕ) (kind : ℕ) where
  pub fits_4 : kind ≡ 4 → leb (get_or sent 0 0 + (to - from) * width) max_sent ≡ total_fits from to width grocers working transit statement sent kind
  unfolding total_fits
  fits_4 q = rw q

  pub fits_5 : kind ≡ 5 → span_fits from to width grocers working statement ≡ total_fits from to width grocers working transit statement sent kind
  unfolding total_fits
  fits_5 q = rw q

  pub fits_6 : kind ≡ 6 → span_fits from to width grocers transit statement ≡ total_fits from to width grocers working transit statement sent kind
  unfolding total_fits
  fits_6 q = rw q

-- The words of a span that a difference of places has.
pub words_of_lem : (from to width : ℕ) → from ≤ to → (to - from) * width ≡ to * width - from * width
words_of_lem from to width l =
    let whole : from + (to - from) ≡ to = omega arith in
    omega (arith, add-mul from (to - from) width, ap (λ (k : ℕ). k * width) whole)

-- The words from w on, in a span that begins before.
module _ (from : ℕ) (numbers : List ℕ) (source statement : List ℤ) (w n : ℕ) (l : from ≤ w) where
  fits_at : (q : ℕ) → word_fits w numbers source statement q ≡ word_fits from numbers source statement (w - from + q)
  fits_at q = ap (λ (k : ℕ). leb (nat_abs (get_or statement (get_or numbers k 0) (pos 0) +ℤ get_or source k (pos 0))) max_amount) (here from w q l)
    where
      here : (from w q : ℕ) → from ≤ w → w + q ≡ from + (w - from + q)
      here from w q l = omega arith

  -- All that passed and these,
  pub fits_more : (to : ℕ) → w + n ≡ to → all (w - from) (word_fits from numbers source statement) ≡ true → all n (word_fits w numbers source statement) ≡ true → all (to - from) (word_fits from numbers source statement) ≡ true
  fits_more to end h k =
      all_of_lem (to - from) (word_fits from numbers source statement) (λ i m. split (ltb i (w - from))
      (λ e. all_at (w - from) (word_fits from numbers source statement) i (ltb-true i (w - from) e) h)
      (λ e. let le = ltb-false i (w - from) e in
      let q : w - from + (i - (w - from)) ≡ i = omega arith in
      ap (word_fits from numbers source statement) (sym q) ∙ sym (fits_at (i - (w - from))) ∙ all_at n (word_fits w numbers source statement) (i - (w - from)) (omega arith) k))

  -- and one of these that does not pass.
  pub fits_fails : (to : ℕ) → w + n ≤ to → all n (word_fits w numbers source statement) ≡ false → all (to - from) (word_fits from numbers source statement) ≡ false
  fits_fails to inside h =
      let (q, m, e) = all_find n (word_fits w numbers source statement) h in
      all_fails (to - from) (word_fits from numbers source statement) (w - from + q) (omega arith) (sym (fits_at q) ∙ e)
