-- Tallies added at the places of their totals, on each price list. Assumes nothing.
use mathlib.Core.Path.{◌≡◌, ap, sym, ◌∙◌}
use mathlib.Core.List.{List}
use Prim.Native.Nat.{ℕ, ◌+◌, ◌*◌, ◌/◌, ◌%◌, ◌<◌, ◌≤◌}
use native.Mathlib.Omega.{arith}
use lib.Dec.{eqb}
use lib.ListN.{length, get_or}
use lib.IntN.{ℤ, pos, nat_abs, ◌+ℤ◌, +ℤ_assoc}
use Rattle.laws.specs.Below.{integers, sum}
use Rattle.laws.specs.Limits.{max_amount}
use Rattle.laws.proofs.Loops.{share}
use Rattle.laws.proofs.Signed.{abs_plus, abs_times_le, only_abs, sum_abs}
use Rattle.laws.proofs.Sums.{sum_next_lem}
use Rattle.laws.proofs.Tables.{is_tabulate, get_d_tabulate, length_tabulate}
use Rattle.step_totals.specs.Row.{TallyIn, is_taken, product_at, brings, placed, raised}
use Rattle.step_totals.proofs.Rows.{raised_word}

module _ (t a width : ℕ) (owner place holder offer : List ℕ) (counts : List ℤ) (prices : List ℕ) (from at : ℕ)
    (few : t ≤ 1_000) (each : (i : ℕ) → i < t → TallyIn width place offer counts prices at i) where
  brought_abs : (q i : ℕ) → q < width → i < t → nat_abs (brings owner holder offer counts prices a from at width q i) ≤ 999_989_900_001
  brought_abs q i m l =
      only_abs (is_taken owner holder offer a from i) (product_at offer counts prices at width q i) 999_989_900_001
      (abs_times_le (get_or counts i (pos 0)) (pos (get_or prices (at + get_or offer i 0 * width + q) 0)) (each i l).count_in ((each i l).price_in q m))

  -- A word of list q to which tallies are added is small enough for one more.
  pub placed_still : (x y : ℤ) (i q e : ℕ) → i < t → q < width → nat_abs x ≤ max_amount → y ≡ x +ℤ sum integers i (share (λ j. get_or place j 0) (brings owner holder offer counts prices a from at width q) e) →
      nat_abs y ≤ 2_000_000_000_000_000
  placed_still x y i q e l m was is =
      omega (
        arith,
        few,
        l,
        was,
        ap nat_abs is,
        abs_plus x (sum integers i (share (λ j. get_or place j 0) (brings owner holder offer counts prices a from at width q) e)),
        sum_abs i 999_989_900_001 (share (λ j. get_or place j 0) (brings owner holder offer counts prices a from at width q) e) (λ j k. only_abs (eqb (get_or place j 0) e) _ 999_989_900_001 (brought_abs q j m (omega (arith, k, l)))),
      )

module _ (width : ℕ) (place : List ℕ) (brought : ℕ → ℕ → ℤ) (l : List ℤ) where
  -- What tallies bring to word p: each at its place, on the word's list.
  abbrev pub shares : ℕ → ℕ → ℤ
  shares p = share (λ j. get_or place j 0) (brought (p % width)) (p / width)

  pub length-placed : (t : ℕ) → length (placed t width place brought l) ≡ length l
  unfolding placed
  length-placed t = length_tabulate (length l) (λ p. get_or l p (pos 0) +ℤ sum integers t (shares p))

  pub placed_word : (t p : ℕ) → p < length l → get_or (placed t width place brought l) p (pos 0) ≡ get_or l p (pos 0) +ℤ sum integers t (shares p)
  unfolding placed
  placed_word t p h = get_d_tabulate (length l) (λ p. get_or l p (pos 0) +ℤ sum integers t (shares p)) p (pos 0) h

  -- A word with one tally more.
  pub placed_more : (l' : List ℤ) (i p : ℕ) → length l' ≡ length l → p < length l → get_or l' p (pos 0) ≡ get_or l p (pos 0) +ℤ sum integers i (shares p) →
      get_or (raised width l' (get_or place i 0) (λ q. brought q i)) p (pos 0) ≡ get_or l p (pos 0) +ℤ sum integers (i + 1) (shares p)
  unfolding integers
  placed_more l' i p same h is =
      raised_word width l' (get_or place i 0) (λ q. brought q i) p (rw same h)
      ∙ ap (λ (z : ℤ). z +ℤ shares p i) is
      ∙ +ℤ_assoc (get_or l p (pos 0)) (sum integers i (shares p)) (shares p i)
      ∙ ap (λ (z : ℤ). get_or l p (pos 0) +ℤ z) (sym (sum_next_lem integers i (shares p)))

  -- A table to which each tally was added at its place.
  pub placed_is : (t : ℕ) (l' : List ℤ) → length l' ≡ length l → ((p : ℕ) → p < length l → get_or l' p (pos 0) ≡ get_or l p (pos 0) +ℤ sum integers t (shares p)) → l' ≡ placed t width place brought l
  unfolding placed
  placed_is t l' same each = is_tabulate l' (length l) (λ p. get_or l p (pos 0) +ℤ sum integers t (shares p)) (pos 0) same each
