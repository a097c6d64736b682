-- Laws of the index: shared numbers are neighbours, and a number is found by its top digit and by halving. Assumes nothing.
use mathlib.Core.Path.{◌≡◌, sym, ap, ◌∙◌, subst}
use mathlib.Core.List.{List}
use mathlib.Core.Bool.{Bool, true, false, cond}
use Prim.Native.Nat.{ℕ, suc, ◌+◌, ◌-◌, ◌*◌, ◌/◌, ◌^◌, ◌<◌, ◌≤◌}
use native.Mathlib.Nat.{mod-lt, div-add-mod', mul-le-mul_right}
use native.Mathlib.Omega.{arith}
use lib.ListN.{get_or}
use lib.Pow.{pow_pos}
use lib.Dec.{eqb, ltb, leb}
use borrow.Author.Tests.{eqb-true, eqb-false, eq-eqb, ltb-true, ltb-false, leb-true, leb-false}
use Rattle.laws.specs.Below.{any}
use Rattle.laws.proofs.Bools.{split, clash, eqb_same, no_true}
use Rattle.laws.proofs.Below.{any_at, any_find, find_none, find_only, count_some, count_two}
use Rattle.index_lookup.specs.Lookup.{times, key_at, Ascending, IsIndex, shares_number, place_of, Tops, Widest, Bracket}

module _ {keys places numbers : List ℕ} {n : ℕ} (x : IsIndex keys places numbers n) where
  key_at_lem : (i : ℕ) → i < n → get_or keys i 0 ≡ get_or numbers (get_or places i 0) 0
  unfolding key_at
  key_at_lem i l = x.key_is i l

  -- Where a place stands.
  stands : (p : ℕ) → p < n → (i : ℕ) × (i < n) × (get_or places i 0 ≡ p)
  unfolding times
  stands p l =
      let (i, q, e) = any_find n (λ i. eqb (get_or places i 0) p) (count_some n (λ i. eqb (get_or places i 0) p) (omega (arith, x.once p l))) in
      (i, q, eqb-true (get_or places i 0) p e)

  -- It stands there alone.
  alone : (i k : ℕ) → i < n → k < n → get_or places i 0 ≡ get_or places k 0 → i ≡ k
  unfolding times
  alone i k l q e =
      count_two n (λ j. eqb (get_or places j 0) (get_or places k 0)) i k l q (eq-eqb _ _ e) (eqb_same (get_or places k 0)) (x.once (get_or places k 0) (x.place_in k q))

  -- The number of a place is among the keys.
  key_of : (p : ℕ) → p < n → (i : ℕ) × (i < n) × (get_or places i 0 ≡ p) × (get_or keys i 0 ≡ get_or numbers p 0)
  key_of p l = let (i, q, e) = stands p l in (i, q, e, key_at_lem i q ∙ ap (λ (j : ℕ). get_or numbers j 0) e)

  -- Two places with one number.
  both : (i k : ℕ) → k < i → i < n → get_or numbers k 0 ≡ get_or numbers i 0 → shares_number numbers n ≡ true
  unfolding shares_number
  both i k l q e = any_at n (λ i. any i (λ k. eqb (get_or numbers k 0) (get_or numbers i 0))) i q (any_at i (λ k. eqb (get_or numbers k 0) (get_or numbers i 0)) k l (eq-eqb _ _ e))

  apart : (p q : ℕ) → p < n → q < n → (p ≡ q → ⊥) → get_or numbers p 0 ≡ get_or numbers q 0 → shares_number numbers n ≡ true
  apart p q l h ne e = split (ltb p q)
      (λ f. both q p (ltb-true p q f) h e)
      (λ f. let f' : q ≤ p = ltb-false p q f in both p q (omega arith) l (sym e))

  -- Two keys that are equal are of offers that share a number.
  pub keys_shared : (i k : ℕ) → i < k → k < n → get_or keys i 0 ≡ get_or keys k 0 → shares_number numbers n ≡ true
  keys_shared i k l h e =
      apart (get_or places i 0) (get_or places k 0) (x.place_in i (omega arith)) (x.place_in k h)
      (λ q. let z : i ≡ k = alone i k (omega arith) h q in omega arith)
      (sym (key_at_lem i (omega arith)) ∙ e ∙ key_at_lem k h)

  -- Where neighbours differ all keys differ, and no two offers share a number.
  climb : ((i : ℕ) → i + 1 < n → get_or keys i 0 ≡ get_or keys (i + 1) 0 → ⊥) → (i k : ℕ) → i < k → k < n → get_or keys i 0 < get_or keys k 0
  climb d i k l h =
      let a = x.ascending.ascend i (i + 1) (omega arith) (omega arith) in
      let b = x.ascending.ascend (i + 1) k (omega arith) h in
      let ne = d i (omega arith) in
      split (eqb (get_or keys i 0) (get_or keys (i + 1) 0))
      (λ e. absurd (ne (eqb-true _ _ e)))
      (λ e. let ne' = eqb-false (get_or keys i 0) (get_or keys (i + 1) 0) e in omega arith)

  pub none_shared : ((i : ℕ) → i + 1 < n → get_or keys i 0 ≡ get_or keys (i + 1) 0 → ⊥) → shares_number numbers n ≡ false
  unfolding shares_number
  none_shared d = no_true _ (λ s.
      let (i, li, f) = any_find n (λ i. any i (λ k. eqb (get_or numbers k 0) (get_or numbers i 0))) s in
      let (k, lk, g) = any_find i (λ k. eqb (get_or numbers k 0) (get_or numbers i 0)) f in
      let (a, la, pa, ka) = key_of i li in
      let (b, lb, pb, kb) = key_of k (omega arith) in
      let same : get_or keys b 0 ≡ get_or keys a 0 = kb ∙ eqb-true (get_or numbers k 0) (get_or numbers i 0) g ∙ sym ka in
      split (ltb a b)
      (λ q. let z = climb d a b (ltb-true a b q) lb in omega arith)
      (λ q. let q' : b ≤ a = ltb-false a b q in
      split (eqb a b)
      (λ r. let w : get_or places a 0 ≡ get_or places b 0 = ap (λ (j : ℕ). get_or places j 0) (eqb-true a b r) in omega arith)
      (λ r. let ne : a ≡ b → ⊥ = eqb-false a b r in let z = climb d b a (omega arith) la in omega arith)))

  -- ---- The look-up.

  module _ (number : ℕ) (distinct : shares_number numbers n ≡ false) where
    -- A key that is the number stands beside its place.
    pub found : (i : ℕ) → i < n → get_or keys i 0 ≡ number → place_of numbers n number ≡ get_or places i 0
    unfolding place_of
    found i l e =
        let same : get_or numbers (get_or places i 0) 0 ≡ number = sym (key_at_lem i l) ∙ e in
        find_only n (λ k. eqb (get_or numbers k 0) number) (get_or places i 0) (x.place_in i l) (eq-eqb _ _ same)
        (λ k q f. split (eqb k (get_or places i 0))
        (λ r. eqb-true k (get_or places i 0) r)
        (λ r. absurd (clash (apart k (get_or places i 0) q (x.place_in i l) (eqb-false k (get_or places i 0) r) (eqb-true _ _ f ∙ sym same)) distinct)))

    -- Where no key is the number, no offer has it.
    pub missing : ((i : ℕ) → i < n → get_or keys i 0 ≡ number → ⊥) → place_of numbers n number ≡ n
    unfolding place_of
    missing d = find_none n (λ k. eqb (get_or numbers k 0) number) (no_true _ (λ s.
        let (k, l, f) = any_find n (λ k. eqb (get_or numbers k 0) number) s in
        let (i, q, _, e) = key_of k l in
        d i q (e ∙ eqb-true (get_or numbers k 0) number f)))

-- ---- The halving.

-- A number whose top digit is larger is larger.
top_less : (a b shift : ℕ) → a / 2 ^ shift < b / 2 ^ shift → a < b
top_less a b shift l =
    let u = 2 ^ shift in
    omega (arith, div-add-mod' a u, div-add-mod' b u, mod-lt a (pow_pos shift), mul-le-mul_right {m = suc (a / u)} {n = b / u} u l)

-- No top digit begins behind the next.
pub starts_rise : {keys starts : List ℕ} {shift n : ℕ} → Tops keys starts shift n → (t : ℕ) → t < 511 → get_or starts t 0 ≤ get_or starts (t + 1) 0
starts_rise {keys} {starts} {shift} {n} x t l = split (ltb (get_or starts (t + 1) 0) (get_or starts t 0))
    (λ q. let h : get_or starts (t + 1) 0 < get_or starts t 0 = ltb-true _ _ q in
    let m : get_or starts (t + 1) 0 < n = omega (arith, x.start_in t (omega arith)) in
    absurd (omega (arith, x.lesser t (get_or starts (t + 1) 0) (omega arith) h, x.others (t + 1) (get_or starts (t + 1) 0) (omega arith) (omega arith) m)))
    (λ q. ltb-false _ _ q)

module _ {keys starts : List ℕ} {shift n : ℕ} (x : Tops keys starts shift n) (number : ℕ) where
  -- No key has a top digit that is too large.
  pub top_out : 511 ≤ number / 2 ^ shift → (i : ℕ) → i < n → get_or keys i 0 ≡ number → ⊥
  top_out h i l e = omega (arith, x.topped.top_in i l, ap (λ (k : ℕ). k / 2 ^ shift) e)

  -- Where the number's top digit and the next one begin.
  module _ {from to : ℕ} (l : number / 2 ^ shift < 511) (f : from ≡ get_or starts (number / 2 ^ shift) 0) (g : to ≡ get_or starts (number / 2 ^ shift + 1) 0) where
    -- A key of a lesser top digit is not the number,
    top_before : (i : ℕ) → i < from → get_or keys i 0 ≡ number → ⊥
    top_before i h q = omega (arith, x.lesser (number / 2 ^ shift) i (omega arith) (omega arith), ap (λ (k : ℕ). k / 2 ^ shift) q)

    -- and one of a larger top digit is larger.
    top_behind : (i : ℕ) → to ≤ i → i < n → number < get_or keys i 0
    top_behind i h q = top_less number (get_or keys i 0) shift (omega (arith, x.others (number / 2 ^ shift + 1) i (omega arith) (omega arith) q))

    -- The next one does not begin before.
    pub top_rises : from ≤ to
    top_rises = omega (arith, starts_rise x (number / 2 ^ shift) l)

    -- Where there is no key of the top digit, none is the number.
    pub top_none : from ≡ to → (i : ℕ) → i < n → get_or keys i 0 ≡ number → ⊥
    top_none same i h q = split (ltb i from)
        (λ r. top_before i (ltb-true i from r) q)
        (λ r. let b : from ≤ i = ltb-false i from r in omega (arith, top_behind i (omega arith) h))

    -- The places of the top digit.
    pub bracket_start : Bracket keys n number from (to - from)
    bracket_start = record {
      inside = omega (arith, top_rises, x.start_in (number / 2 ^ shift + 1) (omega arith));
      behind = λ a i h q. top_behind i (omega (arith, top_rises)) q;
      before = λ a i h q. absurd (top_before i h q);
    }

    -- They are no more than are told, and there are some.
    pub bracket_most : {widest : ℕ} → Widest starts widest → (from ≡ to → ⊥) → (0 < to - from) × (to - from ≤ widest) × (from + (to - from) ≤ n)
    bracket_most w d = (
      omega (arith, top_rises, d),
      omega (arith, w.within (number / 2 ^ shift) l),
      bracket_start.inside,
    )

    -- What is left of them when they are halved, one place, is in the index.
    pub bracket_in : {at : ℕ} → ((n : ℕ) → Bracket keys n number from (to - from) → Bracket keys n number at 1) → at < n
    bracket_in h = omega (arith, (h n bracket_start).inside)

-- The code's flag, r, is 0 where the key is not larger.
module _ (r : ℕ) (t : Bool) (e : r ≡ cond t 0 1) where
  pub flag_le : r ≤ 1
  flag_le = rw e (split t (λ f. rw f (omega arith)) (λ f. rw f (omega arith)))

  -- A word below 2^16 stays, or is shifted out by 16 bits.
  pub shifted : (at half : ℕ) → half < 65536 → at + half / 2 ^ (r * 16) ≡ cond t (at + half) at
  shifted at half l = rw e (split t (λ f. rw f (omega arith)) (λ f. rw f (omega arith)))

  pub shifted_le : (at half : ℕ) → half < 65536 → at + half / 2 ^ (r * 16) ≤ at + half
  shifted_le at half l = rw (shifted at half l) (split t (λ f. rw f (omega arith)) (λ f. rw f (omega arith)))

-- The farther half is kept, or the nearer.
half_kept : (keys : List ℕ) (n number at len half : ℕ) → Bracket keys n number at len → half + half ≤ len → 0 < len
    → Bracket keys n number (cond (leb (get_or keys (at + half) 0) number) (at + half) at) (len - half)
half_kept keys n number at len half b l p = split (leb (get_or keys (at + half) 0) number)
    (λ e. rw e (record {
      inside = omega (arith, b.inside);
      behind = λ a i h q. b.behind a i (omega arith) q;
      before = λ a i h q. let y = a.ascend i (at + half) (omega arith) (omega (arith, b.inside)) in let z = leb-true (get_or keys (at + half) 0) number e in omega arith;
    }))
    (λ e. let z : number < get_or keys (at + half) 0 = leb-false _ _ e in rw e (record {
      inside = omega (arith, b.inside);
      behind = λ a i h q. let y = a.ascend (at + half) i (omega arith) q in omega arith;
      before = b.before;
    }))

-- The same, as code has it.
pub bracket_half : {keys : List ℕ} {n number at len : ℕ} (r : ℕ) → Bracket keys n number at len → 0 < len
    → r ≡ cond (leb (get_or keys (at + len / 2) 0) number) (at + len / 2) at → (0 < len - len / 2) × Bracket keys n number r (len - len / 2)
bracket_half {keys} {n} {number} {at} {len} r b l e =
    (omega arith, subst (λ (x : ℕ). Bracket keys n number x (len - len / 2)) (sym e) (half_kept keys n number at len (len / 2) b (omega arith) (omega arith)))

-- The farther half ends where the whole does, and the nearer before.
pub half_in : (keys : List ℕ) (number at len size : ℕ) {r : ℕ} → r ≡ cond (leb (get_or keys (at + len / 2) 0) number) (at + len / 2) at → at + len ≤ size
    → r + (len - len / 2) ≤ size
half_in keys number at len size e h = split (leb (get_or keys (at + len / 2) 0) number) (λ f. omega (arith, rw f at e)) (λ f. omega (arith, rw f at e))

-- One place is left.
pub bracket_end : {keys : List ℕ} {n number at len : ℕ} → Bracket keys n number at len → 0 < len → len ≤ 1 → Bracket keys n number at 1
bracket_end {keys} {n} {number} {at} {len} b p l = subst (λ (m : ℕ). Bracket keys n number at m) (one len p l) b
  where
    one : (m : ℕ) → 0 < m → m ≤ 1 → m ≡ 1
    one m p l = omega arith

-- One place is left, and its key is not the number: no key is.
pub bracket_miss : (keys : List ℕ) (n number at : ℕ) → Bracket keys n number at 1 → Ascending keys n → (get_or keys at 0 ≡ number → ⊥)
    → (i : ℕ) → i < n → get_or keys i 0 ≡ number → ⊥
bracket_miss keys n number at b a ne i l e = split (ltb at i)
    (λ q. let q' : at < i = ltb-true at i q in let z = b.behind a i (omega arith) l in omega arith)
    (λ q. let q' : i ≤ at = ltb-false at i q in
    split (eqb i at)
    (λ r. ne (ap (λ (j : ℕ). get_or keys j 0) (sym (eqb-true i at r)) ∙ e))
    (λ r. let d : i ≡ at → ⊥ = eqb-false i at r in
    ne (b.before a i (omega arith) e)))
