-- Own values written one line after the other. Assumes nothing.
use mathlib.Core.Path.{◌≡◌, refl, sym, ap, ◌∙◌}
use mathlib.Core.Bool.{Bool, true, false, cond}
use mathlib.Core.List.{List}
use Prim.Native.Nat.{ℕ, ◌+◌, ◌*◌, ◌≤◌, ◌<◌}
use native.Mathlib.Decide.{ℕ_discrete}
use native.Mathlib.Nat.{le_antisymm}
use native.Mathlib.Numerals.{add-one}
use native.Mathlib.Omega.{arith}
use lib.Dec.{eqb}
use lib.ListN.{get_or, length, set}
use lib.Seq.{get_or-set_same, get_or-set_other}
use lib.Ieee.{Float}
use borrow.Author.Tests.{eq-eqb, ne_eqb}
use Rattle.laws.specs.Tables.{overwrite, recell}
use Rattle.laws.proofs.Tables.{cell_in, get_d_overwrite, is_recell, over-over}
use Rattle.forecast_rules.specs.Doubles.{zero+}
use Rattle.forecast_doubles.proofs.MovedRows.{apart}
use Rattle.forecast_moves.specs.Fresh.{last_value, own_values}

-- Own values by the first i lines, and all else of k rows of n words +0.0.
pub record OwnTo (k n i : ℕ) (owner offer : List ℕ) (value known known' : List Float) : Type 0 where
  pub rows : (b o : ℕ) → b < k → o < n → get_or known' (b * n + o) zero+ ≡ cond (eqb (get_or owner o 0) b) (last_value offer value i o) zero+
  pub past : (p : ℕ) → k * n ≤ p → get_or known' p zero+ ≡ get_or known p zero+

pub own_none : (k n : ℕ) (owner offer : List ℕ) (value known known' : List Float) → known' ≡ overwrite (k * n) (λ i. zero+) known → OwnTo k n 0 owner offer value known' known'
unfolding last_value
own_none k n owner offer value known known' e = record {
  rows = λ b o lb lo.
      ap (λ (l : List Float). get_or l (b * n + o) zero+) e ∙ get_d_overwrite (k * n) (λ i. zero+) known (b * n + o) zero+ (cell_in b k n o lb lo) ∙ sym (cond_zero (eqb (get_or owner o 0) b));
  past = λ p h. refl;
}
  where
    cond_zero : (t : Bool) → cond t zero+ zero+ ≡ zero+
    cond_zero true = refl
    cond_zero false = refl

-- One line more: its value stands in the row of its offer's owner.
module _ (k n i : ℕ) (owner offer : List ℕ) (value known known' : List Float) (y : OwnTo k n i owner offer value known known') (lo : get_or offer i 0 < n) (lw : get_or owner (get_or offer i 0) 0 < k)
    (long : k * n ≤ length known') where
  -- The offer of the line, its owner, and the place of the word.
  abbrev of : ℕ
  of = get_or offer i 0

  abbrev box : ℕ
  box = get_or owner of 0

  abbrev at : ℕ
  at = box * n + of

  abbrev new : List Float
  new = set known' at (get_or value i zero+)

  in_table : at < length known'
  in_table = omega (arith, cell_in box k n of lw lo)

  more : (o : ℕ) → last_value offer value (i + 1) o ≡ cond (eqb of o) (get_or value i zero+) (last_value offer value i o)
  unfolding last_value
  more o = rw (add-one i)

  -- A word elsewhere stays, where the line is not of its offer or the offer not its box's.
  stays : (b o : ℕ) → b < k → o < n → (b * n + o ≡ at → ⊥) → get_or new (b * n + o) zero+ ≡ cond (eqb (get_or owner o 0) b) (last_value offer value i o) zero+
  stays b o lb l ne = get_or-set_other known' at (b * n + o) _ zero+ (λ e. ne e) ∙ y.rows b o lb l

  word : (b o : ℕ) → b < k → o < n → get_or new (b * n + o) zero+ ≡ cond (eqb (get_or owner o 0) b) (last_value offer value (i + 1) o) zero+
  word b o lb l =
      elim (ℕ_discrete o of) [
        | yes e ↦ elim (ℕ_discrete b box) [
          | yes h ↦ rw (h, e, more of, eq-eqb box box refl, eq-eqb of of refl) (get_or-set_same known' at (get_or value i zero+) zero+ in_table)
          | no h ↦ stays b o lb l (λ q. apart n box b o of l lo h q) ∙ rw (e, ne_eqb box b (λ q. h (sym q)))
        ]
        | no e ↦ stays b o lb l (λ q. elim (ℕ_discrete b box) [ yes h ↦ e (omega (arith, q, ap (λ (x : ℕ). x * n) h)) | no h ↦ apart n box b o of l lo h q ])
            ∙ rw (more o, ne_eqb of o (λ q. e (sym q)))
      ]

  pub own_more : OwnTo k n (i + 1) owner offer value known new
  own_more = record {
    rows = word;
    past = λ p h. get_or-set_other known' at p _ zero+ (λ e. omega (arith, e, cell_in box k n of lw lo)) ∙ y.past p h;
  }

  -- The same, by a place and a value that are told to be these.
  pub own_told : (p : ℕ) (x : Float) → p ≡ at → x ≡ get_or value i zero+ → OwnTo k n (i + 1) owner offer value known (set known' p x)
  own_told p x ep ex = rw (ep, ex) own_more

-- All lines are done, on a table that was cleared.
pub own_all : (k n i l : ℕ) (owner offer : List ℕ) (value known known' known'' : List Float) → i ≤ l → l ≤ i → OwnTo k n i owner offer value known' known'' →
    known' ≡ overwrite (k * n) (λ i. zero+) known → k * n ≤ length known' → length known'' ≡ length known' → known'' ≡ own_values k n l owner offer value known
unfolding own_values recell
own_all k n i l owner offer value known known' known'' h h' y e long same =
    let q : i ≡ l = le_antisymm h h' in
    is_recell k n (λ b o. cond (eqb (get_or owner o 0) b) (last_value offer value l o) zero+) known' known'' zero+ long same (λ b o lb lo. y.rows b o lb lo ∙ rw q) y.past
    ∙ rw e (over-over (k * n) _ _ known)

-- The place of an offer, by numbers that are told to be these.
pub place-told : (owner : List ℕ) (p x o m n : ℕ) → p ≡ get_or owner x 0 * m + x → x ≡ o → m ≡ n → p ≡ get_or owner o 0 * n + o
place-told owner p x o m n h ex em = h ∙ rw (ex, em)
