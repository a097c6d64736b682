-- From lines that 34 takes, every sum of the definition is within ±10^15: the late 21 is never met from a fresh state. Assumes nothing.
use mathlib.Core.Path.{◌≡◌, refl, sym}
use mathlib.Core.Bool.{Bool, true, false, ◌&&◌, ◌||◌}
use Prim.Native.Nat.{ℕ, zero, suc, ◌+◌, ◌*◌, ◌≤◌, ◌<◌}
use native.Mathlib.Nat.{le_trans, le_of_eq, le_refl, mul-one}
use native.Mathlib.Omega.{arith}
use lib.Dec.{lit≤, T, ltb, eqb, ltb→lt, eqb→eq}
use lib.Ieee.{Float, nan, inf, fin, binary64, up, down, mul, le, lt, eq, neg, of_bits}
use lib.Ieee.Fits.{down_pos}
use borrow.Author.Tests.{eq-eqb, lt-ltb, ne_eqb, ltb-true, ltb-false}
use Rattle.laws.specs.Below.{naturals, only}
use Rattle.laws.proofs.Sums.{sum_max, sum_swap, sum_le, sum_cong, sum_pick, sum_none}
use Rattle.laws.proofs.Bools.{split, and_l, and_r, and_true, or_l, and_one, clash}
use Rattle.forecast_rules.specs.Doubles.{max_value, max_sum, is_value, is_sum}
use Rattle.model.specs.Job.{held_by, shares}
use Rattle.forecast_rules.specs.Lines.{forecast_sum, Forecast, value_in, offer_value, of_part, part_at, part_sum}
use Rattle.forecast_rules.proofs.Bounds.{Within}
use Rattle.forecast_rules.proofs.Sizes.{mul_within, within_more, up_within}
use Rattle.laws.specs.Below as Below

or_le : (a b : ℕ) (t : Bool) → (ltb a b || (eqb a b && t)) ≡ true → a ≤ b
or_le a b t = go (ltb a b) (eqb a b) (ltb→lt a b) (eqb→eq a b)
  where
    go : (x y : Bool) → (T x → a < b) → (T y → a ≡ b) → (x || (y && t)) ≡ true → a ≤ b
    go true y p q h = let l : a < b = p tt in omega arith
    go false true p q h = let l : a ≡ b = q tt in omega arith
    go false false p q h = absurd (mathlib.Core.Bool.false≢true h)

or_ge : (a b : ℕ) (t : Bool) → (ltb b a || (eqb a b && t)) ≡ true → b ≤ a
or_ge a b t = go (ltb b a) (eqb a b) (ltb→lt b a) (eqb→eq a b)
  where
    go : (x y : Bool) → (T x → b < a) → (T y → a ≡ b) → (x || (y && t)) ≡ true → b ≤ a
    go true y p q h = let l : b < a = p tt in omega arith
    go false true p q h = let l : a ≡ b = q tt in omega arith
    go false false p q h = absurd (mathlib.Core.Bool.false≢true h)

pub value_within : (x : Float) → is_value x ≡ true → Within x 1_000_000
unfolding is_value le lt eq of_bits neg
value_within nan h = absurd (mathlib.Core.Bool.false≢true h)
value_within (inf true) h = absurd (mathlib.Core.Bool.false≢true h)
value_within (inf false) h = absurd (mathlib.Core.Bool.false≢true h)
value_within (fin false m e) h = le_trans (le_of_eq (sym (mul-one (m * up e)))) (or_le (m * up e * 1) (1_000_000 * down e) (true || eqb (m * up e * 1) 0) (and_r (le (neg max_value) (fin false m e)) (le (fin false m e) max_value) h))
value_within (fin true m e) h = le_trans (le_of_eq (sym (mul-one (m * up e)))) (or_ge (1_000_000 * down e) (m * up e * 1) (true || eqb (1_000_000 * down e) 0) (and_l (le (neg max_value) (fin true m e)) (le (fin true m e) max_value) h))

le_or : (a b : ℕ) → a ≤ b → (ltb a b || (eqb a b && true)) ≡ true
le_or a b h =
    split (ltb a b)
    (λ e. rw e)
    (λ e. rw (e, eq-eqb a b (let l : b ≤ a = ltb-false a b e in omega arith)))

ge_or : (a b : ℕ) → b ≤ a → (ltb b a || (eqb a b && true)) ≡ true
ge_or a b h =
    split (ltb b a)
    (λ e. rw e)
    (λ e. rw (e, eq-eqb a b (let l : a ≤ b = ltb-false b a e in omega arith)))

pub sum_in : (x : Float) → Within x 1_000_000_000_000_000 → is_sum x ≡ true
unfolding is_sum le lt eq of_bits neg
sum_in nan h = absurd h
sum_in (inf s) h = absurd h
sum_in (fin false m e) h = and_true {a = le (neg max_sum) (fin false m e)} {b = le (fin false m e) max_sum} (or_l (ltb 0 (1_000_000_000_000_000 * down e + m * up e * 1)) _ (lt-ltb 0 (1_000_000_000_000_000 * down e + m * up e * 1) (large
    (down e) (m * up e * 1) (down_pos e)))) (le_or (m * up e * 1) (1_000_000_000_000_000 * down e) (le_trans (le_of_eq (mul-one (m * up e))) h))
  where
    large : (a b : ℕ) → 0 < a → 0 < 1_000_000_000_000_000 * a + b
    large a b h = omega arith
sum_in (fin true m e) h = and_true {a = le (neg max_sum) (fin true m e)} {b = le (fin true m e) max_sum} (ge_or (1_000_000_000_000_000 * down e) (m * up e * 1) (le_trans (le_of_eq (mul-one (m * up e))) h)) (or_l (ltb 0
    (m * up e * 1 + 1_000_000_000_000_000 * down e)) _ (lt-ltb 0 (m * up e * 1 + 1_000_000_000_000_000 * down e) (large (down e) (m * up e * 1) (down_pos e))))
  where
    large : (a b : ℕ) → 0 < a → 0 < b + 1_000_000_000_000_000 * a
    large a b h = omega arith

-- What 34 takes, and at most 1,000 lines.
pub record Good (f : Forecast) : Type 0 where
  pub few : f.job.tallies ≤ 1000
  pub rates : (i : ℕ) → i < f.job.tallies → is_value (f.rate i) ≡ true
  pub values : (i : ℕ) → i < f.job.tallies → is_value (f.value i) ≡ true

module _ (f : Forecast) (y : Good f) where
  value_in_lem : (n o : ℕ) → n ≤ f.job.tallies → is_value (value_in f n o) ≡ true
  unfolding value_in
  value_in_lem zero o l = unfold is_value le lt eq of_bits neg in refl
  value_in_lem (suc n) o l =
      split (eqb (f.job.tally_offer n) o)
      (λ e. rw e (y.values n (omega arith)))
      (λ e. rw e (value_in_lem n o (omega arith)))

  -- The values that a state holds have the range of 34.
  pub offer_in : (o : ℕ) → is_value (offer_value f o) ≡ true
  unfolding offer_value
  offer_in o = value_in_lem f.job.tallies o (le_refl f.job.tallies)

  -- How large a part sum can be: 10^12 for each of its lines.
  abbrev size : ℕ → ℕ → ℕ
  size b g = Below.sum naturals f.job.tallies (λ i. only naturals (of_part f b g i) 1_000_000_000_000)

  only≤ : (t : Bool) (x : ℕ) → only naturals t x ≤ x
  unfolding only naturals
  only≤ true x = le_refl x
  only≤ false x = omega arith

  size≤ : (b g : ℕ) → size b g ≤ 1_000_000_000_000_000
  size≤ b g =
      let h : size b g ≤ f.job.tallies * 1_000_000_000_000 = sum_max f.job.tallies 1_000_000_000_000 (λ i. only naturals (of_part f b g i) 1_000_000_000_000) (λ i l. only≤ (of_part f b g i) 1_000_000_000_000) in
      let k : f.job.tallies ≤ 1000 = y.few in
      omega arith

  -- What a box adds up at any values in range, in whatever state: step 3 leaves no range.
  any_size : (know : ℕ → Float) → ((o : ℕ) → is_value (know o) ≡ true) → (b g : ℕ) → Within (part_at f know b g) (size b g)
  unfolding part_at
  any_size know h b g =
      up_within f.job.tallies (of_part f b g) (λ i. mul binary64 (f.rate i) (know (f.job.tally_offer i))) (λ i. 1_000_000_000_000)
      (λ i l _. mul_within binary64 (f.rate i) (know (f.job.tally_offer i)) 1_000_000 1_000_000 (value_within (f.rate i) (y.rates i l))
      (value_within (know (f.job.tally_offer i)) (h (f.job.tally_offer i))) (lit≤ tt))
      (le_trans (size≤ b g) (lit≤ tt))

  pub any_in : (know : ℕ → Float) → ((o : ℕ) → is_value (know o) ≡ true) → (b g : ℕ) → is_sum (part_at f know b g) ≡ true
  any_in know h b g = sum_in (part_at f know b g) (within_more (part_at f know b g) (size b g) 1_000_000_000_000_000 (any_size know h b g) (size≤ b g))

  part_size : (b g : ℕ) → Within (part_sum f b g) (size b g)
  unfolding part_sum
  part_size b g = any_size (offer_value f) offer_in b g

  pub part_in : (b g : ℕ) → is_sum (part_sum f b g) ≡ true
  unfolding part_sum
  part_in b g = any_in (offer_value f) offer_in b g

  -- All parts of a grocer together: a line counts in one box.
  one_line : (g i : ℕ) → Below.sum naturals f.job.boxes (λ b. only naturals (of_part f b g i) 1_000_000_000_000) ≤ 1_000_000_000_000
  unfolding of_part held_by naturals only
  one_line g i =
      le_trans (le_of_eq (sum_cong naturals f.job.boxes
      (λ b. only naturals (eqb (f.job.tally_box i) b && ltb b f.job.boxes && eqb (f.job.tally_grocer i) g) 1_000_000_000_000)
      (λ b. only naturals (eqb (f.job.tally_box i) b && eqb (f.job.tally_grocer i) g) 1_000_000_000_000)
      (λ b l. rw (lt-ltb b f.job.boxes l, and_one (eqb (f.job.tally_box i) b)))))
      (split (ltb (f.job.tally_box i) f.job.boxes)
      (λ e. le_trans (le_of_eq (sum_pick naturals f.job.boxes (f.job.tally_box i) (eqb (f.job.tally_grocer i) g) 1_000_000_000_000 (ltb-true (f.job.tally_box i) f.job.boxes e))) (only≤ (eqb
      (f.job.tally_grocer i) g) 1_000_000_000_000))
      (λ e. le_trans (le_of_eq (sum_none naturals f.job.boxes (λ b. only naturals (eqb (f.job.tally_box i) b && eqb (f.job.tally_grocer i) g) 1_000_000_000_000) (nothing e))) zero≤))
    where
      zero≤ : naturals.none ≤ 1_000_000_000_000
      zero≤ = lit≤ tt

      nothing : ltb (f.job.tally_box i) f.job.boxes ≡ false → (b : ℕ) → b < f.job.boxes → only naturals (eqb (f.job.tally_box i) b && eqb (f.job.tally_grocer i) g) 1_000_000_000_000 ≡ naturals.none
      nothing e b l = rw (ne_eqb (f.job.tally_box i) b (λ q. clash (lt-ltb (f.job.tally_box i) f.job.boxes (rw q l)) e))

  all_size : ℕ → ℕ
  all_size g = Below.sum naturals f.job.boxes (λ b. only naturals (shares f.job g b) (size b g))

  all≤ : (g : ℕ) → all_size g ≤ 1_000_000_000_000_000
  unfolding all_size
  all≤ g =
      let h : all_size g ≤ Below.sum naturals f.job.boxes (λ b. size b g) = sum_le f.job.boxes (λ b. only naturals (shares f.job g b) (size b g)) (λ b. size b g) (λ b l. only≤ (shares f.job g b) (size b g)) in
      let k : Below.sum naturals f.job.boxes (λ b. size b g) ≡ Below.sum naturals f.job.tallies (λ i. Below.sum naturals f.job.boxes (λ b. only naturals (of_part f b g i) 1_000_000_000_000)) =
      sum_swap naturals f.job.boxes f.job.tallies (λ b i. only naturals (of_part f b g i) 1_000_000_000_000) in
      let m : Below.sum naturals f.job.tallies (λ i. Below.sum naturals f.job.boxes (λ b. only naturals (of_part f b g i) 1_000_000_000_000)) ≤ f.job.tallies * 1_000_000_000_000 =
      sum_max f.job.tallies 1_000_000_000_000 (λ i. Below.sum naturals f.job.boxes (λ b. only naturals (of_part f b g i) 1_000_000_000_000)) (λ i l. one_line g i) in
      let n : f.job.tallies ≤ 1000 = y.few in
      omega arith

  -- The forecast of every grocer is in range.
  pub forecast_in : (g : ℕ) → is_sum (forecast_sum f g) ≡ true
  unfolding forecast_sum all_size
  forecast_in g =
      sum_in (forecast_sum f g) (within_more (forecast_sum f g) (all_size g) 1_000_000_000_000_000
      (up_within f.job.boxes (shares f.job g) (λ b. part_sum f b g) (λ b. size b g) (λ b l _. part_size b g) (le_trans (all≤ g) (lit≤ tt))) (all≤ g))
