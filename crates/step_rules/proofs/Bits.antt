-- Words with one bit for each box: what a box has got. Assumes nothing.
use mathlib.Core.Path.{◌≡◌, sym, ap, ◌∙◌}
use mathlib.Core.Bool.{Bool, true, false, ◌&&◌, ◌||◌}
use mathlib.Core.List.{List}
use Prim.Native.Nat.{ℕ, ◌+◌, ◌*◌, ◌%◌, ◌^◌, ◌≤◌, ◌<◌}
use native.Mathlib.Nat.{zero-mul}
use native.Mathlib.Omega.{arith}
use lib.Bits.{bit_or, or_zero_r}
use lib.Dec.{eqb, ltb}
use mir.Val.{bool_byte}
use borrow.Author.Tests.{ltb-true, ltb-false, lt-ltb, le-ltb, ne_eqb, eqb-true, eqb-false}
use Rattle.laws.specs.Masks.{mask_of}
use Rattle.laws.proofs.Bools.{split, and_false, and_one, or_false, eqb_same}
use Rattle.laws.proofs.Masks.{mask_cong, mask_none, mask_or, shl_one}
use Rattle.model.specs.Tables.{steps_done}
use Rattle.step_rules.specs.Rules.{has_got}

-- A bit is set where a test holds: w | (test as u16) << b.
pub with_bit : (w b : ℕ) (t : Bool) (f : ℕ → Bool) → b < 16 → w ≡ mask_of 16 f → bit_or w ((bool_byte t * 2 ^ b) % 2 ^ 16) ≡ mask_of 16 (λ o. f o || (t && eqb b o))
with_bit w b true f l e = rw e (ap (bit_or (mask_of 16 f)) (shl_one b l) ∙ mask_or 16 b f l)
with_bit w b false f l e = rw (e, zero-mul (2 ^ b)) (or_zero_r (mask_of 16 f) ∙ mask_cong 16 f (λ o. f o || false) (λ o m. sym (or_false (f o))))

-- The boxes before o of which it holds.
abbrev pub before : ℕ → (ℕ → Bool) → ℕ → Bool
before o f x = ltb x o && f x

pub before_none : (f : ℕ → Bool) → 0 ≡ mask_of 16 (before 0 f)
before_none f = sym (mask_cong 16 (before 0 f) (λ x. false) (λ x l. rw (le-ltb x 0 (omega arith))) ∙ mask_none 16)

-- One box more.
before_next : (o x : ℕ) (f : ℕ → Bool) → (before o f x || (f o && eqb o x)) ≡ before (o + 1) f x
before_next o x f =
    split (eqb o x)
    (λ e. let same : o ≡ x = eqb-true o x e in rw (same, eqb_same x, le-ltb x x (omega arith), lt-ltb x (x + 1) (omega arith)) (and_one (f x)))
    (λ e. split (ltb x o)
    (λ q. rw (e, q, lt-ltb x (o + 1) (let l : x < o = ltb-true x o q in omega arith), and_false (f o)) (or_false (f x)))
    (λ q. rw (e, q, le-ltb x (o + 1) (let l : o ≤ x = ltb-false x o q in let n : o ≡ x → ⊥ = eqb-false o x e in omega arith)) (and_false (f o))))

pub before_more : (w o r : ℕ) (t : Bool) (f : ℕ → Bool) → w ≡ mask_of 16 (before o f) → t ≡ f o →
    ((g : ℕ → Bool) → w ≡ mask_of 16 g → r ≡ mask_of 16 (λ x. g x || (t && eqb o x))) → r ≡ mask_of 16 (before (o + 1) f)
before_more w o r t f e h step =
    step (before o f) e ∙ mask_cong 16 _ (before (o + 1) f) (λ x l. rw h (before_next o x f))

-- No box from k on has sent prices.
pub got_all : (k a : ℕ) (done : List ℕ) → a < k → mask_of 16 (before k (has_got (steps_done k done) a)) ≡ mask_of 16 (has_got (steps_done k done) a)
unfolding has_got steps_done
got_all k a done la =
    mask_cong 16 (before k (has_got (steps_done k done) a)) (has_got (steps_done k done) a)
    (λ x l. split (ltb x k)
    (λ e. rw e)
    (λ e. let m : k ≤ x = ltb-false x k e in rw (e, ne_eqb x a (λ q. absurd (omega arith))) (sym (and_false (ltb a k)))))
