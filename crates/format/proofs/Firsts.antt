-- Laws of the first refusal of several. Assumes nothing.
use mathlib.Core.Path.{◌≡◌, refl, sym, ◌∙◌, ap}
use mathlib.Core.List.{List, [], ◌∷◌, ◌++◌}
use Prim.Native.Nat.{ℕ, zero, suc, ◌+◌, ◌<◌}
use native.Mathlib.Omega.{arith}
use native.Mathlib.Numerals.{add-one}
use native.Mathlib.Decide.{ℕ_discrete}
use lib.ListN.{get_or}
use Rattle.format.specs.First.{first_of, first_below}

-- No refusal: none of the several is one.
pub each : (l : List ℕ) → first_of l ≡ 0 → (k : ℕ) → get_or l k 0 ≡ 0
unfolding first_of
each [] e k = refl
each (zero ∷ cs) e zero = refl
each (zero ∷ cs) e (suc k) = each cs e k
each (suc c ∷ cs) e k = absurd (omega arith)

-- A check that refuses is the answer.
pub hit : (x : ℕ) (l : List ℕ) → (x ≡ 0 → ⊥) → first_of (x ∷ l) ≡ x
unfolding first_of
hit zero l n = absurd (n refl)
hit (suc x) l n = refl

-- A check that does not is passed over.
pub next : (l : List ℕ) → first_of (0 ∷ l) ≡ first_of l
unfolding first_of
next l = refl

-- The last check is the answer.
pub alone : (x : ℕ) → first_of (x ∷ []) ≡ x
unfolding first_of
alone zero = refl
alone (suc x) = refl

two_next : (a b : ℕ) → a ≡ 0 → first_of (a ∷ b ∷ []) ≡ b
two_next a b e = rw (e, next) (alone b)

two_hit : (a b r : ℕ) → a ≡ r → (r ≡ 0 → ⊥) → first_of (a ∷ b ∷ []) ≡ r
two_hit a b r e n = rw e (hit r (b ∷ []) n)

-- No refusal so far, and none here.
pub below_more : (h : ℕ → ℕ) (i : ℕ) → first_below i h ≡ 0 → h i ≡ 0 → first_below (i + 1) h ≡ 0
unfolding first_below
below_more h i e f = rw add-one (two_next _ _ e ∙ f)

-- No refusal so far, and one here.
pub below_hit : (h : ℕ → ℕ) (i n r : ℕ) → i < n → first_below i h ≡ 0 → h i ≡ r → (r ≡ 0 → ⊥) → first_below n h ≡ r
unfolding first_below
below_hit h i zero r l e f n = absurd (omega arith)
below_hit h i (suc m) r l e f n =
    elim (ℕ_discrete i m) [
      | yes q ↦ two_next (first_below m h) (h m) (ap (λ (k : ℕ). first_below k h) (sym q) ∙ e) ∙ ap h (sym q) ∙ f
      | no d ↦ two_hit (first_below m h) (h m) r (below_hit h i m r (omega (arith, d)) e f n) n
    ]

-- No refusal among those below n: each is none.
pub below_at : (h : ℕ → ℕ) (n : ℕ) → first_below n h ≡ 0 → (k : ℕ) → k < n → h k ≡ 0
unfolding first_below
below_at h zero e k l = absurd (omega arith)
below_at h (suc n) e k l =
    elim (ℕ_discrete k n) [
      | yes q ↦ ap h q ∙ each (first_below n h ∷ h n ∷ []) e 1
      | no d ↦ below_at h n (each (first_below n h ∷ h n ∷ []) e 0) k (omega (arith, d))
    ]

-- And the other way round.
pub below_none : (h : ℕ → ℕ) (n : ℕ) → ((k : ℕ) → k < n → h k ≡ 0) → first_below n h ≡ 0
unfolding first_below
below_none h zero f = refl
below_none h (suc n) f = two_next _ _ (below_none h n (λ k l. f k (omega arith))) ∙ f n (omega arith)

-- The first refusal of two lists, one after the other.
pub first_split : (l r : List ℕ) → first_of (l ++ r) ≡ first_of (first_of l ∷ r)
unfolding first_of
first_split [] r = refl
first_split (zero ∷ l) r = first_split l r
first_split (suc n ∷ l) r = refl
