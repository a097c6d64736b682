-- Tests: what follows from a test and its parts. Assumes nothing.
use mathlib.Core.Path.{◌≡◌, refl, sym, ◌∙◌}
use mathlib.Core.Bool.{Bool, true, false, cond, ◌&&◌, ◌||◌, not, false≢true}
use Prim.Native.Nat.{ℕ, ◌<◌}
use native.Mathlib.Decide.{dec_lt}
use native.Mathlib.Omega.{arith}
use lib.Dec.{eqb, ltb, leb}
use borrow.Author.Tests.{eq-eqb, lt-ltb, le-ltb, le-leb, lt-leb}

-- A test goes one way or the other, and each way has its equation.
pub split {ℓ} : {P : Type ℓ} (t : Bool) → (t ≡ true → P) → (t ≡ false → P) → P
split true f g = f refl
split false f g = g refl

-- What is not true is false.
pub no_true : (t : Bool) → (t ≡ true → ⊥) → t ≡ false
no_true true h = absurd (h refl)
no_true false h = refl

-- True and false at once.
pub clash : {t : Bool} → t ≡ true → t ≡ false → ⊥
clash p q = false≢true (sym q ∙ p)

-- Two tests that follow from each other.
pub same_test : (a b : Bool) → (a ≡ true → b ≡ true) → (b ≡ true → a ≡ true) → a ≡ b
same_test true b f g = sym (f refl)
same_test false true f g = absurd (clash (g refl) refl)
same_test false false f g = refl

pub eqb_same : (a : ℕ) → eqb a a ≡ true
eqb_same a = eq-eqb a a refl

pub and_true : {a b : Bool} → a ≡ true → b ≡ true → (a && b) ≡ true
and_true p q = rw (p, q)

pub and_l : (a b : Bool) → (a && b) ≡ true → a ≡ true
and_l true b h = refl
and_l false b h = h

pub and_r : (a b : Bool) → (a && b) ≡ true → b ≡ true
and_r true b h = h
and_r false true h = refl
and_r false false h = h

pub and_false : (a : Bool) → (a && false) ≡ false
and_false true = refl
and_false false = refl

pub and_one : (a : Bool) → (a && true) ≡ a
and_one true = refl
and_one false = refl

pub and_assoc : (a b c : Bool) → (a && b && c) ≡ (a && (b && c))
and_assoc true b c = refl
and_assoc false b c = refl

pub and_swap : (a b c : Bool) → (a && (b && c)) ≡ (b && (a && c))
and_swap true true c = refl
and_swap true false c = refl
and_swap false true c = refl
and_swap false false c = refl

pub not_both : (t : Bool) → (t && not t) ≡ false
not_both true = refl
not_both false = refl

pub or_true : (a : Bool) → (a || true) ≡ true
or_true true = refl
or_true false = refl

pub or_false : (a : Bool) → (a || false) ≡ a
or_false true = refl
or_false false = refl

-- One of two tests holds.
pub or_l : (a b : Bool) → a ≡ true → (a || b) ≡ true
or_l a b e = rw e

pub or_r : (a b : Bool) → b ≡ true → (a || b) ≡ true
or_r a b e = rw e (or_true a)

-- A second test that follows from its own premise keeps a disjunction.
pub or_more : (t u u' : Bool) → (u ≡ true → u' ≡ true) → (t || u) ≡ true → (t || u') ≡ true
or_more true u u' f h = refl
or_more false u u' f h = f h

pub or_turn : (x y z : Bool) → (y || (x || z)) ≡ (x || y || z)
or_turn true true z = refl
or_turn true false z = refl
or_turn false true z = refl
or_turn false false z = refl

pub cond_same : {A : Type 0} (t : Bool) (x : A) → cond t x x ≡ x
cond_same true x = refl
cond_same false x = refl

pub cond_yes : {A : Type 0} (t : Bool) (x y : A) → t ≡ true → cond t x y ≡ x
cond_yes t x y e = rw e

pub cond_no : {A : Type 0} (t : Bool) (x y : A) → t ≡ false → cond t x y ≡ y
cond_no t x y e = rw e

-- What holds of both holds of the one chosen.
pub cond_either : {A : Type 0} (P : A → Type 0) (t : Bool) (x y : A) → P x → P y → P (cond t x y)
cond_either P true x y p q = p
cond_either P false x y p q = q

-- A choice by a test of two numbers, without a branch.
pub cond_or : (k n : ℕ) (a b : Bool) → ((ltb k n && a) || (leb n k && b)) ≡ cond (ltb k n) a b
cond_or k n a b = go (dec_lt k n)
  where
    go : Dec (k < n) → ((ltb k n && a) || (leb n k && b)) ≡ cond (ltb k n) a b
    go (yes l) = rw (lt-ltb k n l, lt-leb n k l) (or_false a)
    go (no m) = rw (le-ltb k n (omega arith), le-leb n k (omega arith))

pub and_comm : (a b : Bool) → (a && b) ≡ (b && a)
and_comm true true = refl
and_comm true false = refl
and_comm false true = refl
and_comm false false = refl

-- Neither of two tests holds.
pub or_off : (a b : Bool) → (a || b) ≡ false → (a ≡ false) × (b ≡ false)
or_off true b h = (h, absurd (clash refl h))
or_off false b h = (refl, h)
