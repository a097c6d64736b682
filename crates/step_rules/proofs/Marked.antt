-- The marks after a step are the old list with one word set. Assumes nothing.
use mathlib.Core.Path.{◌≡◌, sym, ap, ◌∙◌}
use mathlib.Core.Bool.{true, false, cond, ◌&&◌}
use mathlib.Core.List.{List}
use Prim.Native.Nat.{ℕ, suc, ◌+◌, ◌-◌, ◌*◌, ◌/◌, ◌%◌, ◌<◌, ◌≤◌}
use native.Mathlib.Nat.{mul-le-mul, div-add-mod', mod-lt, div-lt_iff_lt-mul}
use native.Mathlib.Omega.{arith}
use lib.ListN.{length, get_or, set, length-set}
use lib.Seq.{get_or-set_same, get_or-set_other}
use lib.Arith.{digits_div, digits_mod}
use lib.Dec.{eqb, leb}
use borrow.Author.Tests.{lt-ltb, eqb-true, eqb-false, leb-true}
use Rattle.laws.specs.Below.{naturals, only}
use Rattle.laws.specs.Tables.{recell}
use Rattle.laws.proofs.Masks.{one_bit}
use Rattle.laws.proofs.Bools.{split, and_l, and_r, no_true, eqb_same}
use Rattle.laws.proofs.Below.{all_at}
use Rattle.laws.proofs.Tables.{cell_in, is_recell}
use Rattle.model.specs.Steps.{Kind, kind_number, kind_of, mark, step_place, step_at}
use Rattle.model.specs.Ranges.{up_to}
use Rattle.model.specs.Tables.{steps_done, marks_of}
use Rattle.step_places.specs.Marks.{marked}
use Rattle.model.proofs.Step.{marks_bits}
use Rattle.model.proofs.Tables.{kind_place, kind_six, place_in}
use Rattle.model.proofs.Machine.{number_place}

-- The place of a step is below 6 × K × K, and that is small.
pub row_in : (k kind a : ℕ) → kind - 1 < 6 → a < k → (kind - 1) * k + a < 6 * k
row_in k kind a lq la = cell_in (kind - 1) 6 k a lq la

pub marks_few : (k : ℕ) → k ≤ 16 → 6 * k * k ≤ 1536
marks_few k l = mul-le-mul {n₂ = 96} {m₂ = 16} (omega arith) l

-- A step is done where its word is 1.
pub done_word : (k : ℕ) (q : Kind) (a b : ℕ) (done : List ℕ) → a < k → b < k → steps_done k done q a b ≡ eqb (get_or done (step_place k (kind_number q) a b) 0) 1
unfolding steps_done
done_word k q a b done la lb = rw (lt-ltb a k la, lt-ltb b k lb)

module _ (k : ℕ) (q : Kind) (a b : ℕ) (done : List ℕ) (la : a < k) (lb : b < k)
    (long : 6 * k * k ≤ length done) (bits : up_to 1 (6 * k * k) done ≡ true) where
  abbrev place : ℕ
  place = step_place k (kind_number q) a b

  place< : place < 6 * k * k
  place< = place_in k (kind_number q) a b (kind_six q) la lb

  -- At the step's own place.
  mark-here : (r c : ℕ) → c < k → r * k + c ≡ place → mark (steps_done k done) q a b (kind_of (suc (r / k))) (r % k) c ≡ true
  unfolding mark
  mark-here r c lc e =
      let row : r ≡ (kind_number q - 1) * k + a = sym (digits_div r lc) ∙ ap (λ (i : ℕ). i / k) e ∙ digits_div ((kind_number q - 1) * k + a) lb in
      let col : c ≡ b = sym (digits_mod r lc) ∙ ap (λ (i : ℕ). i % k) e ∙ digits_mod ((kind_number q - 1) * k + a) lb in
      rw (row, col, digits_div (kind_number q - 1) la, digits_mod (kind_number q - 1) la, kind_place q) (simp eqb_same)

  -- At any other place the word is the old one.
  mark_there : (r c : ℕ) → r < 6 * k → c < k → (r * k + c ≡ place → ⊥) →
      cond (mark (steps_done k done) q a b (kind_of (suc (r / k))) (r % k) c) 1 0 ≡ get_or done (r * k + c) 0
  unfolding mark steps_done up_to only naturals
  mark_there r c lr lc ne =
      rw (new, back, div-add-mod' r k, lt-ltb (r % k) k (mod-lt r some), lt-ltb c k lc)
      (one_bit (get_or done (r * k + c) 0)
      (omega (arith, leb-true (get_or done (r * k + c) 0) 1 (all_at (6 * k * k) (λ i. leb (get_or done i 0) 1) (r * k + c) (cell_in r (6 * k) k c lr lc) bits))))
    where
      some : 0 < k
      some = omega arith

      six : r / k < 6
      six = (div-lt_iff_lt-mul some).1 lr

      its : kind_number (kind_of (suc (r / k))) ≡ suc (r / k)
      its = number_place (r / k) six

      back : kind_number (kind_of (suc (r / k))) - 1 ≡ r / k
      back = omega (arith, its)

      new : (eqb (kind_number (kind_of (suc (r / k)))) (kind_number q) && (eqb (r % k) a && eqb c b)) ≡ false
      new = no_true _ (λ p.
          let n : kind_number (kind_of (suc (r / k))) ≡ kind_number q = eqb-true _ (kind_number q) (and_l (eqb (kind_number (kind_of (suc (r / k)))) (kind_number q)) _ p) in
          let m : r % k ≡ a = eqb-true (r % k) a (and_l (eqb (r % k) a) _ (and_r (eqb (kind_number (kind_of (suc (r / k)))) (kind_number q)) _ p)) in
          let o : c ≡ b = eqb-true c b (and_r (eqb (r % k) a) _ (and_r (eqb (kind_number (kind_of (suc (r / k)))) (kind_number q)) _ p)) in
          let w : kind_number q - 1 ≡ r / k = omega (arith, its) in
          ne (rw (w, ← m, ← o) (ap (λ (i : ℕ). i * k + c) (sym (div-add-mod' r k)))))

  -- The word of row r, column c.
  one_mark : (r c : ℕ) → r < 6 * k → c < k → get_or (set done place 1) (r * k + c) 0 ≡ cond (mark (steps_done k done) q a b (kind_of (suc (r / k))) (r % k) c) 1 0
  one_mark r c lr lc =
      split (eqb (r * k + c) place)
      (λ e. let p : r * k + c ≡ place = eqb-true (r * k + c) place e in
      rw (mark-here r c lc p) (ap (λ (i : ℕ). get_or (set done place 1) i 0) p ∙ get_or-set_same done place 1 0 (omega (arith, place<))))
      (λ e. let p : r * k + c ≡ place → ⊥ = eqb-false (r * k + c) place e in
      get_or-set_other done place (r * k + c) 1 0 p ∙ sym (mark_there r c lr lc p))

  -- The marks with one step more are the list with one word set.
  pub marks_set : marked k q a b done ≡ set done (step_place k (kind_number q) a b) 1
  unfolding marked marks_of step_at recell
  marks_set =
      sym (is_recell (6 * k) k (λ r c. cond (mark (steps_done k done) q a b (kind_of (suc (r / k))) (r % k) c) 1 0)
      done (set done place 1) 0 long (length-set done place 1) one_mark
      (λ i h. get_or-set_other done place i 1 0 (λ p. omega (arith, place<))))

-- Marks with one step more are 0 or 1.
pub marked_bits : (k : ℕ) (q : Kind) (a b : ℕ) (done : List ℕ) → up_to 1 (6 * k * k) (marked k q a b done) ≡ true
unfolding marked
marked_bits k q a b done = marks_bits k (mark (steps_done k done) q a b) done
