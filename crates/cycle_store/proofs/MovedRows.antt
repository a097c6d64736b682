-- Rows moved on, word by word from the last one. Assumes nothing.
use mathlib.Core.Path.{◌≡◌, refl, ap, ◌∙◌}
use mathlib.Core.List.{List}
use Prim.Native.Nat.{ℕ, zero, suc, ◌+◌, ◌-◌, ◌*◌, ◌≤◌, ◌<◌}
use native.Mathlib.Omega.{arith}
use native.Mathlib.Decide.{dec_lt, ℕ_discrete}
use lib.IntN.{ℤ, pos, negsuc, neg_ℤ, nat_abs, ◌+ℤ◌, ◌-ℤ◌}
use lib.ListN.{get_or, set, length, length-set}
use lib.Seq.{get_or-set_same, get_or-set_other}
use borrow.Author.Tests.{lt-ltb}
use Rattle.laws.specs.Tables.{overwrite}
use Rattle.laws.proofs.Signed.{abs_plus, sum_abs}
use Rattle.laws.proofs.Tables.{is_overwrite, cell_in}
use Rattle.cycle_history.specs.Store.{cycles, max_held}
use Rattle.cycle_store.specs.Moved.{SumsIn, rows_leaving, sum_next, word_moved}
use Rattle.cycle_history.proofs.Kept.{around_at}

-- The words from p on are moved, up to n; the others are as they were.
pub record From (n : ℕ) (f : ℕ → ℤ) (l : List ℤ) (p : ℕ) (l' : List ℤ) : Type 0 where
  pub long : length l' ≡ length l
  pub moved : (q : ℕ) → p ≤ q → q < n → get_or l' q (pos 0) ≡ f q
  pub before : (q : ℕ) → q < p → get_or l' q (pos 0) ≡ get_or l q (pos 0)
  pub behind : (q : ℕ) → n ≤ q → get_or l' q (pos 0) ≡ get_or l q (pos 0)

pub from_end : (n : ℕ) (f : ℕ → ℤ) (l : List ℤ) → From n f l n l
from_end n f l = record { long = refl; moved = λ q h k. absurd (omega arith); before = λ q h. refl; behind = λ q h. refl }

-- One word more.
pub from_more : (n : ℕ) (f : ℕ → ℤ) (l : List ℤ) (p : ℕ) (l' : List ℤ) (x : ℤ) → From n f l (suc p) l' → suc p ≤ n → n ≤ length l → x ≡ f p → From n f l p (set l' p x)
from_more n f l p l' x y h k e = record {
  long = length-set l' p x ∙ y.long;
  moved = λ q a b. elim (ℕ_discrete q p) [
    | yes z ↦ rw z (get_or-set_same l' p x (pos 0) (omega (arith, y.long)) ∙ e)
    | no z ↦ get_or-set_other l' p q x (pos 0) z ∙ y.moved q (omega (arith, z)) b
  ];
  before = λ q a. get_or-set_other l' p q x (pos 0) (λ z. omega arith) ∙ y.before q (omega arith);
  behind = λ q a. get_or-set_other l' p q x (pos 0) (λ z. omega arith) ∙ y.behind q a;
}

pub from_start : (n : ℕ) (f : ℕ → ℤ) (l l' : List ℤ) → From n f l 0 l' → n ≤ length l → l' ≡ overwrite n f l
from_start n f l l' y h = is_overwrite n f l l' (pos 0) h y.long (λ i k. y.moved i (omega arith) k) y.behind

-- A word that is moved is read where nothing is moved yet.
pub word_read : (m back : ℕ) (amounts l l' : List ℤ) (p : ℕ) → 1 ≤ back → ((q : ℕ) → q < p → get_or l' q (pos 0) ≡ get_or l q (pos 0)) → word_moved m back amounts l' p ≡ word_moved m back amounts l p
unfolding word_moved
word_read m back amounts l l' p some h =
    elim (dec_lt p m) [
      | yes u ↦ rw (lt-ltb p m u)
      | no u ↦ elim (dec_lt p back) [
        | yes v ↦ rw (lt-ltb p back v)
        | no v ↦ rw (h (p - back) (omega (arith, v)))
      ]
    ]

-- A number and its negative are of one size.
abs_neg : (z : ℤ) → nat_abs (neg_ℤ z) ≡ nat_abs z
abs_neg (pos zero) = refl
abs_neg (pos (suc n)) = refl
abs_neg (negsuc n) = refl

pub abs_less : (a b : ℤ) → nat_abs (a -ℤ b) ≤ nat_abs a + nat_abs b
abs_less a b = omega (arith, abs_plus a (neg_ℤ b), abs_neg b)

-- What leaves is in range.
pub leaving_small : (m k g : ℕ) (held : List ℤ) → SumsIn m k held → g < m → nat_abs (rows_leaving m k held g) ≤ 13 * max_held
unfolding rows_leaving
leaving_small m k g held y lg =
    omega (
      arith,
      y.rows_in,
      sum_abs k max_held (λ i. get_or held (((cycles - k) + i) * m + g) (pos 0))
          (λ i li. around_at max_held (13 * m) held (((cycles - k) + i) * m + g) y.amounts (cell_in ((cycles - k) + i) 13 m g (omega (arith, y.rows_in)) lg)),
    )

-- A grocer's sum afterwards goes by its own word alone.
pub next_same : (m k g : ℕ) (given held sums sums' : List ℤ) → get_or sums' g (pos 0) ≡ get_or sums g (pos 0) → sum_next m k given held sums' g ≡ sum_next m k given held sums g
unfolding sum_next
next_same m k g given held sums sums' e = ap (λ (x : ℤ). (x -ℤ rows_leaving m k held g) +ℤ get_or given g (pos 0)) e
