-- Two files of which one has at most two bytes of a block set anew, and in both of which the block's stored sums agree, are equal:
-- a change of one or two bytes of a block whose sums agree is always seen. Assumes nothing.
use mathlib.Core.Path.{◌≡◌, sym, ◌∙◌, ap, subst}
use mathlib.Core.List.{List}
use Prim.Native.Nat.{ℕ, ◌+◌, ◌-◌, ◌*◌, ◌%◌, ◌≤◌, ◌<◌}
use native.Mathlib.Omega.{arith}
use native.Mathlib.Nat.{mul-add, add-mul}
use native.Mathlib.Decide.{dec_lt, ℕ_discrete}
use lib.ListN.{get_or, set, length, length-set}
use lib.Seq.{get_or-set_same, get_or-set_other, set-set, set-get_or, set_comm}
use Rattle.laws.specs.Below.{naturals, sum}
use Rattle.laws.proofs.Sums.{sum_cong, sum_change}
use Rattle.format.specs.Bytes.{from, after, word16}
use Rattle.format.specs.Blocks.{first_sum, second_sum}
use Rattle.format.proofs.Prime.{no_change}

abbrev byte_at : List ℕ → ℕ → ℕ
byte_at f p = get_or f p 0

abbrev word : List ℕ → ℕ → ℕ → ℕ
word f at p = word16 (after (from f at) p)

-- A byte as the first and as the second sum count it.
abbrev plain : ℕ → ℕ → ℕ
plain p b = b

abbrev weighed : ℕ → ℕ → ℕ
weighed p b = (508 - p) * b

-- The sum over the block at `at`, before it is taken modulo 65,521.
abbrev total : (ℕ → ℕ → ℕ) → List ℕ → ℕ → ℕ
total term f at = sum naturals 508 (λ p. term p (get_or f (at + p) 0))

-- Both sums of the block at `at` are as stored.
pub record Agrees (f : List ℕ) (at : ℕ) : Type 0 where
  pub first : first_sum (from f at) ≡ word16 (after (from f at) 508)
  pub second : second_sum (from f at) ≡ word16 (after (from f at) 510)

-- A byte that is set past the first 508 is not in their sum.
total_out : (term : ℕ → ℕ → ℕ) (f : List ℕ) (at i x : ℕ) → 508 ≤ i → total term (set f (at + i) x) at ≡ total term f at
total_out term f at i x h = sum_cong naturals 508 _ _ (λ p l. ap (term p) (get_or-set_other f (at + i) (at + p) x 0 (omega arith)))

-- A byte that is set among them changes their sum by what it counts.
total_set : (term : ℕ → ℕ → ℕ) (f : List ℕ) (at i x : ℕ) → at + i < length f → i < 508 → total term (set f (at + i) x) at + term i (byte_at f (at + i)) ≡ total term f at + term i x
total_set term f at i x l h =
    sum_change 508 i (λ p. term p (get_or f (at + p) 0)) (λ p. term p (get_or (set f (at + i) x) (at + p) 0)) h (λ k m d. ap (term k) (get_or-set_other f (at + i) (at + k) x 0 (omega (arith, d))))
    ∙ ap (λ (b : ℕ). total term f at + term i b) (get_or-set_same f (at + i) x 0 l)

abbrev Bytes : List ℕ → Type 0
Bytes f = (k : ℕ) → byte_at f k < 256

bytes_set : (f : List ℕ) (p x : ℕ) → p < length f → x < 256 → Bytes f → Bytes (set f p x)
bytes_set f p x l h b k =
    elim (ℕ_discrete k p) [ yes e ↦ rw (e, get_or-set_same f p x 0 l) h | no d ↦ rw (get_or-set_other f p k x 0 d) (b k) ]

-- A word that the set byte is no part of
word_other : (f : List ℕ) (at p q x : ℕ) → (at + (q + 0) ≡ p → ⊥) → (at + (q + 1) ≡ p → ⊥) → word (set f p x) at q ≡ word f at q
word_other f at p q x a b = rw (get_or-set_other f p (at + (q + 0)) x 0 a, get_or-set_other f p (at + (q + 1)) x 0 b)

-- Equal words have equal bytes
stored : (f g : List ℕ) (at : ℕ) → Bytes f → Bytes g → word f at 508 ≡ word g at 508 → word f at 510 ≡ word g at 510 → (k : ℕ) → 508 ≤ k → k < 512 → byte_at f (at + k) ≡ byte_at g (at + k)
stored f g at bf bg p q k lo hi =
    elim (ℕ_discrete k 508) [
      | yes e ↦ rw e (omega (arith, bf (at + 508), bg (at + 508)))
      | no d₀ ↦ elim (ℕ_discrete k 509) [
        | yes e ↦ subst (λ (n : ℕ). byte_at f n ≡ byte_at g n) (omega arith) (second 508 p)
        | no d₁ ↦ elim (ℕ_discrete k 510) [
          | yes e ↦ rw e (omega (arith, bf (at + 510), bg (at + 510)))
          | no d₂ ↦ subst (λ (n : ℕ). byte_at f n ≡ byte_at g n) (omega (arith, d₀, d₁, d₂)) (second 510 q)
        ]
      ]
    ]
  where
    second : (s : ℕ) → word f at s ≡ word g at s → byte_at f (at + (s + 1)) ≡ byte_at g (at + (s + 1))
    second s e = omega (arith, bf (at + (s + 0)), bg (at + (s + 0)))

module _ (f : List ℕ) (at : ℕ) (l : at + 512 ≤ length f) (bytes : Bytes f) (good : Agrees f at) where
  -- Two places of the block, the first below the second
  ordered : (i j x y : ℕ) → i < j → j < 512 → x < 256 → y < 256 → Agrees (set (set f (at + i) x) (at + j) y) at → (x ≡ byte_at f (at + i)) × (y ≡ byte_at f (at + j))
  unfolding first_sum second_sum
  ordered i j x y ij hj hx hy g = elim (dec_lt j 508) [
    | yes h ↦ data_data h
    | no h ↦ elim (dec_lt i 508)
        [ yes k ↦ elim (dec_lt j 510) [ yes m ↦ data_first k (omega (arith, h)) m | no m ↦ data_second k (omega (arith, m)) ] | no k ↦ stored-stored (omega (arith, k)) ]
  ]
    where
      F : List ℕ
      F = set f (at + i) x

      G : List ℕ
      G = set F (at + j) y

      l_f : at + j < length F
      l_f = simp length-set (omega arith)

      b_g : Bytes G
      b_g = bytes_set F (at + j) y l_f hy (bytes_set f (at + i) x (omega arith) hx bytes)

      Gi : byte_at G (at + i) ≡ x
      Gi = get_or-set_other F (at + j) (at + i) y 0 (omega arith) ∙ get_or-set_same f (at + i) x 0 (omega arith)

      Gj : byte_at G (at + j) ≡ y
      Gj = get_or-set_same F (at + j) y 0 l_f

      Fj : byte_at F (at + j) ≡ byte_at f (at + j)
      Fj = get_or-set_other f (at + i) (at + j) x 0 (omega arith)

      -- A word that neither place is in
      kept : (q : ℕ) → (at + (q + 0) ≡ at + i → ⊥) → (at + (q + 1) ≡ at + i → ⊥) → (at + (q + 0) ≡ at + j → ⊥) → (at + (q + 1) ≡ at + j → ⊥) → word G at q ≡ word f at q
      kept q a b c d = word_other F at (at + j) q y c d ∙ word_other f at (at + i) q x a b

      data_data : j < 508 → (x ≡ byte_at f (at + i)) × (y ≡ byte_at f (at + j))
      data_data h =
          let a = byte_at f (at + i) in
          let c = byte_at f (at + j) in
          let k₁ = kept 508 (omega arith) (omega arith) (omega arith) (omega arith) in
          let k₂ = kept 510 (omega arith) (omega arith) (omega arith) (omega arith) in
          let s₁ = total_set plain F at j y l_f h in
          let s₂ = total_set plain f at i x (omega arith) (omega arith) in
          let sum : x + y ≡ a + c = omega (arith, good.first, g.first, Fj, bytes (at + i), bytes (at + j)) in
          let w₁ = rw Fj at (total_set weighed F at j y l_f h) in
          let w₂ = total_set weighed f at i x (omega arith) (omega arith) in
          let v : 508 - i ≡ (508 - j) + (j - i) = omega arith in
          let m₁ = ap (λ (n : ℕ). n * a) v ∙ add-mul (508 - j) (j - i) a in
          let m₂ = ap (λ (n : ℕ). n * x) v ∙ add-mul (508 - j) (j - i) x in
          let m₃ = sym (mul-add (508 - j) x y) ∙ ap (λ (n : ℕ). (508 - j) * n) sum ∙ mul-add (508 - j) a c in
          let e : a ≡ x =
          no_change (j - i) a x (total weighed G at) (total weighed f at) (omega arith) (omega arith) (omega (arith, bytes (at + i))) (omega arith) (omega arith) (omega (arith, good.second, g.second)) in
          (sym e, omega arith)

      data_first : i < 508 → 508 ≤ j → j < 510 → (x ≡ byte_at f (at + i)) × (y ≡ byte_at f (at + j))
      data_first k h m =
          let a = byte_at f (at + i) in
          let k₂ = kept 510 (omega arith) (omega arith) (omega arith) (omega arith) in
          let o₁ = total_out plain F at j y h in
          let o₂ = total_out weighed F at j y h in
          let s = total_set plain f at i x (omega arith) k in
          let w = total_set weighed f at i x (omega arith) k in
          let e : a ≡ x =
          no_change (508 - i) a x (total weighed G at) (total weighed f at) (omega arith) (omega arith) (omega (arith, bytes (at + i))) (omega arith) (omega arith) (omega (arith, good.second, g.second)) in
          let t : total plain G at ≡ total plain f at = omega arith in
          let k₁ : word G at 508 ≡ word f at 508 = sym g.first ∙ ap (λ (n : ℕ). n % 65521) t ∙ good.first in
          (sym e, sym Gj ∙ stored G f at b_g bytes k₁ k₂ j h hj)

      data_second : i < 508 → 510 ≤ j → (x ≡ byte_at f (at + i)) × (y ≡ byte_at f (at + j))
      data_second k h =
          let a = byte_at f (at + i) in
          let k₁ = kept 508 (omega arith) (omega arith) (omega arith) (omega arith) in
          let o₁ = total_out plain F at j y (omega arith) in
          let o₂ = total_out weighed F at j y (omega arith) in
          let s = total_set plain f at i x (omega arith) k in
          let e : a ≡ x = omega (arith, good.first, g.first, bytes (at + i)) in
          let w = rw e at (total_set weighed f at i x (omega arith) k) in
          let t : total weighed G at ≡ total weighed f at = omega arith in
          let k₂ : word G at 510 ≡ word f at 510 = sym g.second ∙ ap (λ (n : ℕ). n % 65521) t ∙ good.second in
          (sym e, sym Gj ∙ stored G f at b_g bytes k₁ k₂ j (omega arith) hj)

      stored-stored : 508 ≤ i → (x ≡ byte_at f (at + i)) × (y ≡ byte_at f (at + j))
      stored-stored k =
          let t₁ = total_out plain F at j y (omega arith) ∙ total_out plain f at i x k in
          let t₂ = total_out weighed F at j y (omega arith) ∙ total_out weighed f at i x k in
          let k₁ : word G at 508 ≡ word f at 508 = sym g.first ∙ ap (λ (n : ℕ). n % 65521) t₁ ∙ good.first in
          let k₂ : word G at 510 ≡ word f at 510 = sym g.second ∙ ap (λ (n : ℕ). n % 65521) t₂ ∙ good.second in
          let same = stored G f at b_g bytes k₁ k₂ in
          (sym Gi ∙ same i k (omega arith), sym Gj ∙ same j (omega arith) hj)

  -- Two places, the first below the second.
  pub apart : (i j x y : ℕ) → i < j → j < 512 → x < 256 → y < 256 → Agrees (set (set f (at + i) x) (at + j) y) at → set (set f (at + i) x) (at + j) y ≡ f
  apart i j x y ij hj hx hy g =
      let r = ordered i j x y ij hj hx hy g in
      rw (r.0, r.1, set-get_or f (at + i) 0, set-get_or f (at + j) 0)

  single : (i j x : ℕ) → i < j → j < 512 → x < 256 → Agrees (set f (at + i) x) at → set f (at + i) x ≡ f
  single i j x ij hj hx g =
      let e = set-get_or (set f (at + i) x) (at + j) 0 in
      let b = bytes_set f (at + i) x (omega arith) hx bytes (at + j) in
      sym e ∙ apart i j x _ ij hj hx b (rw e g)

  single_up : (i j x : ℕ) → i < j → j < 512 → x < 256 → Agrees (set f (at + j) x) at → set f (at + j) x ≡ f
  single_up i j x ij hj hx g =
      let e = set-get_or f (at + i) 0 in
      ap (λ (h : List ℕ). set h (at + j) x) (sym e) ∙ apart i j (byte_at f (at + i)) x ij hj (bytes (at + i)) hx (rw e g)

  -- Any two places of the block, which may be one place
  pub seen : (i j x y : ℕ) → i < 512 → j < 512 → x < 256 → y < 256 → Agrees (set (set f (at + i) x) (at + j) y) at → set (set f (at + i) x) (at + j) y ≡ f
  seen i j x y hi hj hx hy g =
      elim (dec_lt i j) [
        | yes l₁ ↦ apart i j x y l₁ hj hx hy g
        | no n₁ ↦ elim (dec_lt j i) [
          | yes l₂ ↦ let e = set_comm f (at + i) (at + j) x y (omega arith) in e ∙ apart j i y x l₂ hi hy hx (rw e at g)
          | no n₂ ↦ same (omega (arith, n₁, n₂))
        ]
      ]
    where
      same : i ≡ j → set (set f (at + i) x) (at + j) y ≡ f
      same q =
          let e : set (set f (at + i) x) (at + j) y ≡ set f (at + j) y = rw (q, set-set) in
          let h = rw e at g in
          e ∙ elim (dec_lt j 511) [ yes l ↦ single j 511 y l (omega arith) hy h | no n ↦ single_up 0 j y (omega (arith, n)) hj hy h ]
