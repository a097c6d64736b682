-- Two names are one offer where their issuers are equal and their codes agree after leading zeros are dropped, and only there. Assumes nothing.
use mathlib.Core.Path.{◌≡◌, refl, sym, ◌∙◌, ap}
use mathlib.Core.Logic.{◌↔◌}
use mathlib.Core.Bool.{true, cond, ◌&&◌}
use mathlib.Core.List.{List, [], ◌∷◌, ◌++◌}
use Prim.Native.Nat.{ℕ, zero, suc, ◌+◌, ◌-◌, ◌*◌, ◌^◌, ◌≤◌, ◌<◌, ◌/◌, ◌%◌}
use native.Mathlib.Omega.{arith}
use native.Mathlib.Nat.{pow-suc, pow-le-pow_right, lt_of_lt_of_le}
use native.Mathlib.Numerals.{add-one}
use lib.Dec.{leb, eqb, lit<}
use borrow.Author.Tests.{lt-ltb, le-ltb, leb-true, eqb-true, eq-eqb}
use Rattle.laws.specs.Below.{all}
use Rattle.laws.specs.Tables.{tabulate}
use Rattle.laws.proofs.Bools.{split, and_l, and_r, and_true, same_test}
use Rattle.laws.proofs.Below.{all_at, all_cong}
use Rattle.laws.proofs.Tables.{tabulate_snoc}
use Rattle.format.specs.Codes.{Code, Name, is_place, is_code, value, code_number, written, drop_zeros, same_offer, name_number}

-- The first n bytes are ASCII digits.
abbrev pub Digits : (ℕ → ℕ) → ℕ → Type 0
Digits g n = (k : ℕ) → k < n → (48 ≤ g k) × (g k ≤ 57)

-- What a field that holds a code is.
pub record IsCode (c : Code) : Type 0 where
  pub some : 1 ≤ c.size
  pub few : c.size ≤ 10
  pub digits : Digits c.digit c.size
  pub rest : (k : ℕ) → c.size ≤ k → k < 10 → c.digit k ≡ 0

-- A field that passes the test is one.
pub code_is : (c : Code) → is_code c ≡ true → IsCode c
unfolding is_code is_place
code_is c h = record { some = leb-true 1 n (and_l (leb 1 n) (leb n 10) few'); few = few; digits = digits; rest = rest }
  where
    n : ℕ
    n = c.size

    few' : (leb 1 n && leb n 10) ≡ true
    few' = and_l (leb 1 n && leb n 10) (all 10 (is_place c)) h

    few : n ≤ 10
    few = leb-true n 10 (and_r (leb 1 n) (leb n 10) few')

    place : (k : ℕ) → k < 10 → is_place c k ≡ true
    place k l = all_at 10 (is_place c) k l (and_r (leb 1 n && leb n 10) (all 10 (is_place c)) h)

    digits : Digits c.digit n
    digits k l =
        let p = rw (lt-ltb k n l) at (place k (omega (arith, few))) in
        (leb-true 48 (c.digit k) (and_l (leb 48 (c.digit k)) (leb (c.digit k) 57) p), leb-true (c.digit k) 57 (and_r (leb 48 (c.digit k)) (leb (c.digit k) 57) p))

    rest : (k : ℕ) → n ≤ k → k < 10 → c.digit k ≡ 0
    rest k l m = eqb-true (c.digit k) 0 (rw (le-ltb k n l) at (place k m))

-- Fields with the same size and bytes are codes alike, and have one number.
pub code_cong : (c d : Code) → c.size ≡ d.size → ((k : ℕ) → k < 10 → c.digit k ≡ d.digit k) → is_code c ≡ is_code d
unfolding is_code is_place
code_cong c d e h = rw (all_cong 10 (is_place c) (is_place d) (λ k l. rw (e, h k l)), e)

-- The number goes by the digits.
pub value_cong : (n : ℕ) (g h : ℕ → ℕ) → ((k : ℕ) → k < n → g k ≡ h k) → value n g ≡ value n h
unfolding value
value_cong zero g h e = refl
value_cong (suc n) g h e =
    let r = value_cong n g h (λ k l. e k (omega arith)) in
    rw (r, e n (omega arith))

-- One digit more, as code counts.
pub value_next : (n : ℕ) (g : ℕ → ℕ) → value (n + 1) g ≡ value n g * 10 + (g n - 48)
unfolding value
value_next n g = rw add-one

value-below : (g : ℕ → ℕ) (n : ℕ) → Digits g n → value n g < 10 ^ n
unfolding value
value-below g zero v = omega arith
value-below g (suc n) v =
    let r = value-below g n (λ k h. v k (omega arith)) in
    omega (arith, v n (omega arith), pow-suc 10 n)

-- n digits, at most k, write a number below 10 to the power k.
pub value_bound : (g : ℕ → ℕ) (n k : ℕ) → Digits g n → n ≤ k → value n g < 10 ^ k
value_bound g n k v h = lt_of_lt_of_le (value-below g n v) (pow-le-pow_right (lit< tt) h)

-- ---- digits without the zeros that stand first, nothing being left of zeros only

strip : List ℕ → List ℕ
strip [] = []
strip (d ∷ ds) = cond (eqb d 48) (strip ds) (d ∷ ds)

or_zero : List ℕ → List ℕ
or_zero [] = 48 ∷ []
or_zero (d ∷ ds) = d ∷ ds

drop_is : (d : ℕ) (ds : List ℕ) → drop_zeros (d ∷ ds) ≡ or_zero (strip (d ∷ ds))
unfolding drop_zeros strip or_zero
drop_is d [] = split (eqb d 48) (λ e. rw (eqb-true d 48 e)) (λ e. rw e)
drop_is d (x ∷ ds) = split (eqb d 48) (λ e. rw e (drop_is x ds)) (λ e. rw e)

-- One more digit after digits with no zeros first.
abbrev add : List ℕ → ℕ → List ℕ
add [] d = cond (eqb d 48) [] (d ∷ [])
add (c ∷ cs) d = (c ∷ cs) ++ (d ∷ [])

strip_snoc : (l : List ℕ) (d : ℕ) → strip (l ++ (d ∷ [])) ≡ add (strip l) d
unfolding strip
strip_snoc [] d = refl
strip_snoc (c ∷ cs) d = split (eqb c 48) (λ e. rw e (strip_snoc cs d)) (λ e. rw e)

last : {g : ℕ → ℕ} {n : ℕ} → Digits g (suc n) → (48 ≤ g n) × (g n ≤ 57)
last {g} {n} v = v n (omega arith)

init : {g : ℕ → ℕ} {n : ℕ} → Digits g (suc n) → Digits g n
init {g} {n} v k h = v k (omega arith)

strip_next : (g : ℕ → ℕ) (n : ℕ) → strip (tabulate (suc n) g) ≡ add (strip (tabulate n g)) (g n)
strip_next g n = ap strip (tabulate_snoc n g) ∙ strip_snoc (tabulate n g) (g n)

-- One number: one list of digits without leading zeros.
same_strip : (g h : ℕ → ℕ) (n m : ℕ) → Digits g n → Digits h m → value n g ≡ value m h → strip (tabulate n g) ≡ strip (tabulate m h)
unfolding value
same_strip g h zero zero v w e = unfold tabulate in refl
same_strip g h zero (suc m) v w e =
    let r = same_strip g h zero m v (init w) (omega arith) in
    let z : h m ≡ 48 = omega (arith, last w) in
    rw (strip_next h m, ← r, z) (unfold tabulate strip in refl)
same_strip g h (suc n) zero v w e =
    let r = same_strip g h n zero (init v) w (omega arith) in
    let z : g n ≡ 48 = omega (arith, last v) in
    rw (strip_next g n, r, z) (unfold tabulate strip in refl)
same_strip g h (suc n) (suc m) v w e =
    let r = same_strip g h n m (init v) (init w) (omega (arith, last v, last w)) in
    let z : g n ≡ h m = omega (arith, last v, last w) in
    rw (strip_next g n, strip_next h m, r, z)

-- The number that a list of digits writes after the number a.
count : ℕ → List ℕ → ℕ
count a [] = a
count a (d ∷ ds) = count (a * 10 + (d - 48)) ds

count_snoc : (a : ℕ) (l : List ℕ) (d : ℕ) → count a (l ++ (d ∷ [])) ≡ count a l * 10 + (d - 48)
unfolding count
count_snoc a [] d = refl
count_snoc a (c ∷ cs) d = count_snoc (a * 10 + (c - 48)) cs d

count-written : (g : ℕ → ℕ) (n : ℕ) → count 0 (tabulate n g) ≡ value n g
unfolding count value tabulate
count-written g zero = refl
count-written g (suc n) = ap (count 0) (tabulate_snoc n g) ∙ count_snoc 0 (tabulate n g) (g n) ∙ rw (count-written g n)

count_strip : (l : List ℕ) → count 0 (strip l) ≡ count 0 l
unfolding count strip
count_strip [] = refl
count_strip (d ∷ ds) =
    split (eqb d 48)
    (λ e. rw e (count_strip ds ∙ ap (λ (n : ℕ). count n ds) (omega (arith, eqb-true d 48 e))))
    (λ e. rw e)

count_zero : (l : List ℕ) → count 0 (or_zero l) ≡ count 0 l
unfolding count or_zero
count_zero [] = refl
count_zero (d ∷ ds) = refl

-- Digits of a code, without leading zeros.
drop-written : (g : ℕ → ℕ) (n : ℕ) → 1 ≤ n → drop_zeros (tabulate n g) ≡ or_zero (strip (tabulate n g))
unfolding tabulate
drop-written g zero l = absurd (omega arith)
drop-written g (suc n) l = drop_is (g 0) (tabulate n (λ i. g (suc i)))

count-drop : (g : ℕ → ℕ) (n : ℕ) → 1 ≤ n → count 0 (drop_zeros (tabulate n g)) ≡ value n g
count-drop g n l = ap (count 0) (drop-written g n l) ∙ count_zero _ ∙ count_strip _ ∙ count-written g n

-- Two codes write one number exactly when they agree once leading zeros are dropped.
same_number : (c d : Code) → is_code c ≡ true → is_code d ≡ true → (code_number c ≡ code_number d) ↔ (drop_zeros (written c) ≡ drop_zeros (written d))
unfolding code_number written
same_number c d hc hd =
    let p = code_is c hc in
    let q = code_is d hd in (
      λ e. drop-written _ _ p.some ∙ ap or_zero (same_strip _ _ _ _ p.digits q.digits e) ∙ sym (drop-written _ _ q.some),
      λ e. sym (count-drop _ _ p.some) ∙ ap (count 0) e ∙ count-drop _ _ q.some,
    )

-- What two names that are one offer have in common: the issuer, and the number.
pub same_parts : (a b : Name) → same_offer a b ≡ true → (a.issuer ≡ b.issuer) × (code_number a.code ≡ code_number b.code)
unfolding same_offer
same_parts a b e =
    let i = eqb a.issuer b.issuer in
    let n = eqb (code_number a.code) (code_number b.code) in
    (eqb-true _ _ (and_l i n e), eqb-true _ _ (and_r i n e))

-- And the other way round.
pub parts_same : (a b : Name) → a.issuer ≡ b.issuer → code_number a.code ≡ code_number b.code → same_offer a b ≡ true
unfolding same_offer
parts_same a b p q = and_true (eq-eqb _ _ p) (eq-eqb _ _ q)

-- Two names are one offer exactly when their issuers are equal and their codes agree once leading zeros are dropped.
pub same_offer_lem : (a b : Name) → is_code a.code ≡ true → is_code b.code ≡ true →
    (same_offer a b ≡ true) ↔ ((a.issuer ≡ b.issuer) × (drop_zeros (written a.code) ≡ drop_zeros (written b.code)))
same_offer_lem a b ha hb =
    let n = same_number a.code b.code ha hb in (
      λ e. ((same_parts a b e).0, n.0 (same_parts a b e).1),
      λ e. parts_same a b e.0 (n.1 e.1),
    )

-- Whichever of the two is asked first.
pub same_turn : (a b : Name) → same_offer a b ≡ same_offer b a
same_turn a b = same_test (same_offer a b) (same_offer b a) (turn a b) (turn b a)
  where
    turn : (a b : Name) → same_offer a b ≡ true → same_offer b a ≡ true
    turn a b h = let (i, n) = same_parts a b h in parts_same b a (sym i) (sym n)

-- Two names that are one offer with a third are one offer.
pub same_trans : (a b c : Name) → same_offer a c ≡ true → same_offer b c ≡ true → same_offer a b ≡ true
same_trans a b c p q =
    let x = same_parts a c p in
    let y = same_parts b c q in
    parts_same a b (x.0 ∙ sym y.0) (x.1 ∙ sym y.1)

-- A code's number has at most ten digits.
pub number_below : (c : Code) → is_code c ≡ true → code_number c < 10_000_000_000
unfolding code_number
number_below c h = let i = code_is c h in value_bound c.digit c.size 10 i.digits i.few

-- An issuer and a code's number, told from the number of the name.
told_apart : (i k x y : ℕ) → x < 10_000_000_000 → y < 10_000_000_000 → i * 17_179_869_184 + (x % 512 * 33_554_432 + x / 512) ≡ k * 17_179_869_184 + (y % 512 * 33_554_432 + y / 512)
    → (i ≡ k) × (x ≡ y)
told_apart i k x y l h e =
    let same : i ≡ k = omega arith in
    let low : x % 512 ≡ y % 512 = omega arith in
    let high : x / 512 ≡ y / 512 = omega arith in
    (same, omega arith)

-- Two names are one offer exactly where their numbers are equal.
pub same_name : (a b : Name) → is_code a.code ≡ true → is_code b.code ≡ true → same_offer a b ≡ eqb (name_number a) (name_number b)
unfolding name_number
same_name a b ha hb =
    let n = number_below a.code ha in
    let k = number_below b.code hb in
    same_test (same_offer a b) (eqb (name_number a) (name_number b))
    (λ e. let p = same_parts a b e in eq-eqb (name_number a) (name_number b) (omega (arith, p.0, p.1)))
    (λ e. let p = told_apart a.issuer b.issuer (code_number a.code) (code_number b.code) n k (eqb-true (name_number a) (name_number b) e) in parts_same a b p.0 p.1)

-- Codes of one size and one field name the same offers.
pub number_cong : (c d : Code) → is_code d ≡ true → c.size ≡ d.size → ((k : ℕ) → k < 10 → c.digit k ≡ d.digit k) → code_number c ≡ code_number d
unfolding code_number
number_cong c d v e h =
    let i = code_is d v in
    rw e (value_cong d.size c.digit d.digit (λ k l. h k (omega (arith, i.few))))
