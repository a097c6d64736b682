-- Steps of any kinds, each with two boxes: sets of them, how many a set has, what can come about, and states told from the steps done.
-- The settlement's six kinds are an instance (Machine, Reach, Finish, Counting). Assumes nothing.
use mathlib.Core.Path.{◌≡◌, refl, sym, ap, ◌∙◌}
use mathlib.Core.Bool.{Bool, true, false, ◌&&◌, ◌||◌, false≢true}
use Prim.Native.Nat.{ℕ, suc, ◌+◌, ◌-◌, ◌<◌, ◌≤◌}
use native.Mathlib.Omega.{arith}
use lib.Dec.{eqb}
use borrow.Author.Tests.{eqb-true, ne_eqb}
use Rattle.laws.specs.Below.{naturals, sum, only, count}
use Rattle.laws.proofs.Bools.{split, and_l, and_r, or_true, eqb_same, no_true, clash}
use Rattle.laws.proofs.Sums.{sum_none, sum_one, table_one, sum_le, sum_tight}

-- A set of steps over the kinds K.
abbrev pub Marks : Type 0 → Type 0
Marks K = K → ℕ → ℕ → Bool

-- Kinds and their numbers, 1 to `many`.
pub record Kinds (K : Type 0) : Type 0 where
  pub many : ℕ
  pub number : K → ℕ
  pub kind_of : ℕ → K
  pub back : (k : K) → kind_of (number k) ≡ k
  pub place : (n : ℕ) → n < many → number (kind_of (suc n)) ≡ suc n
  pub from : (k : K) → 1 ≤ number k
  pub to : (k : K) → number k ≤ many

-- Not both boxes are the same.
pub sent_other : (a b i k : ℕ) → (i ≡ a → k ≡ b → ⊥) → (eqb i a && eqb k b) ≡ false
sent_other a b i k h =
    split (eqb i a)
    (λ e. split (eqb k b) (λ f. absurd (h (eqb-true i a e) (eqb-true k b f))) (λ f. rw (e, f)))
    (λ e. rw e)

bit_le : (t u : Bool) → (t ≡ true → u ≡ true) → only naturals t 1 ≤ only naturals u 1
unfolding only naturals
bit_le true u f = rw (f refl) (omega arith)
bit_le false u f = omega arith

bit_back : (t u : Bool) → only naturals t 1 ≤ only naturals u 1 → t ≡ true → u ≡ true
unfolding only naturals
bit_back t true h e = refl
bit_back t false h e = absurd (let z : 1 ≤ 0 = rw e at h in omega arith)

module _ {K : Type 0} (w : Kinds K) where
  -- The set d with one step more.
  abbrev pub marked : Marks K → K → ℕ → ℕ → Marks K
  marked d k a b = λ k' a' b'. eqb (w.number k') (w.number k) && (eqb a' a && eqb b' b) || d k' a' b'

  -- A kind is told by its number.
  pub number_one : (k k' : K) → w.number k ≡ w.number k' → k ≡ k'
  number_one k k' e = sym (w.back k) ∙ ap w.kind_of e ∙ w.back k'

  -- Kinds by place, from 0.
  pub kind_in : (k : K) → w.number k - 1 < w.many
  kind_in k = omega (arith, w.from k, w.to k)

  pub kind_place : (k : K) → w.kind_of (suc (w.number k - 1)) ≡ k
  kind_place k = let number : suc (w.number k - 1) ≡ w.number k = omega (arith, w.from k) in ap w.kind_of number ∙ w.back k

  module _ (d : Marks K) (k : K) (a b : ℕ) where
    -- A step of the larger set is the new one, or was there.
    pub mark_cases : (Q : K → ℕ → ℕ → Type 0) (k' : K) (a' b' : ℕ) → Q k a b → (d k' a' b' ≡ true → Q k' a' b') → marked d k a b k' a' b' ≡ true → Q k' a' b'
    mark_cases Q k' a' b' new old =
        split (eqb (w.number k') (w.number k) && (eqb a' a && eqb b' b))
        (λ e h. rw (
          number_one k' k (eqb-true (w.number k') (w.number k) (and_l (eqb (w.number k') (w.number k)) _ e)),
          eqb-true a' a (and_l (eqb a' a) _ (and_r (eqb (w.number k') (w.number k)) _ e)),
          eqb-true b' b (and_r (eqb a' a) _ (and_r (eqb (w.number k') (w.number k)) _ e)),
        ) new)
        (λ e h. old (rw e at h))

    pub mark_more : (k' : K) (a' b' : ℕ) → d k' a' b' ≡ true → marked d k a b k' a' b' ≡ true
    mark_more k' a' b' h = rw h (or_true (eqb (w.number k') (w.number k) && (eqb a' a && eqb b' b)))

    pub mark_it : marked d k a b k a b ≡ true
    mark_it = simp eqb_same

  -- How many steps a set has, among so many boxes: of one kind, and of all together.
  module _ (boxes : ℕ) where
    unfoldable pub size_of : Marks K → K → ℕ
    size_of d k = sum naturals boxes (λ a. count boxes (λ b. d k a b))

    unfoldable pub size : Marks K → ℕ
    size d = sum naturals w.many (λ n. size_of d (w.kind_of (suc n)))

    pub none_of : (k : K) → size_of (λ k a b. false) k ≡ 0
    unfolding size_of count only naturals
    none_of k = sum_none naturals boxes (λ a. sum naturals boxes (λ b. 0)) (λ a l. sum_none naturals boxes (λ b. 0) (λ b m. refl))

    pub size_none : size (λ k a b. false) ≡ 0
    unfolding size naturals
    size_none = sum_none naturals w.many (λ n. size_of (λ k a b. false) (w.kind_of (suc n))) (λ n l. none_of (w.kind_of (suc n)))

    -- One step more is one more of its kind, and none of the others.
    module _ (d : Marks K) (k : K) (a b : ℕ) where
      pub grows : d k a b ≡ false → a < boxes → b < boxes → size_of (marked d k a b) k ≡ size_of d k + 1
      unfolding size_of count only naturals
      grows h la lb =
          table_one naturals boxes boxes a b (λ x y. only naturals (d k x y) 1) (λ x y. only naturals (marked d k a b k x y) 1) 1 la lb
          (simp (eqb_same, h))
          (λ x y ne. simp (eqb_same, sent_other a b x y ne))

      pub stays : (k' : K) → (w.number k' ≡ w.number k → ⊥) → size_of (marked d k a b) k' ≡ size_of d k'
      unfolding size_of
      stays k' ne = rw (ne_eqb (w.number k') (w.number k) ne)

      pub size_mark : d k a b ≡ false → a < boxes → b < boxes → size (marked d k a b) ≡ size d + 1
      unfolding size naturals
      size_mark h la lb =
          sum_one naturals w.many (w.number k - 1) (λ n. size_of d (w.kind_of (suc n))) (λ n. size_of (marked d k a b) (w.kind_of (suc n))) 1 (kind_in k)
          (rw (kind_place k) (grows h la lb))
          (λ n l ne. stays (w.kind_of (suc n)) (λ e. ne (let p = w.place n l in omega arith)))

    -- A part of a set.
    module _ (d e : Marks K) (sub : (k : K) (a b : ℕ) → d k a b ≡ true → e k a b ≡ true) where
      row_le : (k : K) (a : ℕ) → sum naturals boxes (λ b. only naturals (d k a b) 1) ≤ sum naturals boxes (λ b. only naturals (e k a b) 1)
      row_le k a = sum_le boxes (λ b. only naturals (d k a b) 1) (λ b. only naturals (e k a b) 1) (λ b m. bit_le (d k a b) (e k a b) (sub k a b))

      table_le : (k : K) → size_of d k ≤ size_of e k
      unfolding size_of count
      table_le k = sum_le boxes (λ a. sum naturals boxes (λ b. only naturals (d k a b) 1)) (λ a. sum naturals boxes (λ b. only naturals (e k a b) 1)) (λ a l. row_le k a)

      pub size_le : size d ≤ size e
      unfolding size
      size_le = sum_le w.many (λ n. size_of d (w.kind_of (suc n))) (λ n. size_of e (w.kind_of (suc n))) (λ n l. table_le (w.kind_of (suc n)))

      -- With as many steps it is the whole set.
      kind_tight : size e ≤ size d → (k : K) → size_of e k ≤ size_of d k
      unfolding size
      kind_tight h k =
          rw (kind_place k) at (sum_tight w.many (λ n. size_of d (w.kind_of (suc n))) (λ n. size_of e (w.kind_of (suc n))) (λ n l. table_le (w.kind_of (suc n))) h (w.number k - 1) (kind_in k))

      table_tight : (k : K) → size_of e k ≤ size_of d k → (a b : ℕ) → a < boxes → b < boxes → e k a b ≡ true → d k a b ≡ true
      unfolding size_of count
      table_tight k h a b la lb =
          bit_back (e k a b) (d k a b)
          (sum_tight boxes (λ b. only naturals (d k a b) 1) (λ b. only naturals (e k a b) 1) (λ b m. bit_le (d k a b) (e k a b) (sub k a b))
          (sum_tight boxes (λ a. sum naturals boxes (λ b. only naturals (d k a b) 1)) (λ a. sum naturals boxes (λ b. only naturals (e k a b) 1)) (λ a l. row_le k a) h a la)
          b lb)

      pub size_tight : size e ≤ size d → (k : K) (a b : ℕ) → a < boxes → b < boxes → e k a b ≡ true → d k a b ≡ true
      size_tight h k a b la lb = table_tight k (kind_tight h k) a b la lb

-- What a machine of steps has: its steps, and when each is ready. More done makes no step unready.
pub record Rules {K : Type 0} (w : Kinds K) : Type 0 where
  pub has : Marks K
  pub ready : Marks K → Marks K
  pub more : (d e : Marks K) → ((k : K) (a b : ℕ) → d k a b ≡ true → e k a b ≡ true) → (k : K) (a b : ℕ) → ready d k a b ≡ true → ready e k a b ≡ true

-- A set that can come about: steps of the machine, each ready by others of the set.
pub record Closed {K : Type 0} {w : Kinds K} (m : Rules w) (d : Marks K) : Type 0 where
  pub steps : (k : K) (a b : ℕ) → d k a b ≡ true → m.has k a b ≡ true
  pub in_order : (k : K) (a b : ℕ) → d k a b ≡ true → m.ready d k a b ≡ true

module _ {K : Type 0} {w : Kinds K} (m : Rules w) where
  pub closed_none : Closed m (λ k a b. false)
  closed_none = record { steps = λ k a b h. absurd (false≢true h); in_order = λ k a b h. absurd (false≢true h) }

  pub closed_mark : (d : Marks K) (k : K) (a b : ℕ) → Closed m d → m.has k a b ≡ true → m.ready d k a b ≡ true → Closed m (marked w d k a b)
  closed_mark d k a b c has ready = record {
    steps = λ k' a' b'. mark_cases w d k a b (λ k a b. m.has k a b ≡ true) k' a' b' has (c.steps k' a' b');
    in_order = λ k' a' b' h. m.more d (marked w d k a b) (mark_more w d k a b) k' a' b'
        (mark_cases w d k a b (λ k a b. m.ready d k a b ≡ true) k' a' b' ready (c.in_order k' a' b') h);
  }

  -- A finished set is the machine's steps.
  pub all_steps : (d : Marks K) → Closed m d → ((k : K) (a b : ℕ) → m.has k a b ≡ true → d k a b ≡ true) → d ≡ m.has
  all_steps d c f = λ i k a b. same k a b i
    where
      same : (k : K) (a b : ℕ) → d k a b ≡ m.has k a b
      same k a b =
          split (m.has k a b)
          (λ e. f k a b e ∙ sym e)
          (λ e. no_true (d k a b) (λ q. clash (c.steps k a b q) e) ∙ sym e)

-- A machine on states: a ready step takes the state of d to the state of d and that step.
pub record Form {K : Type 0} {w : Kinds K} (m : Rules w) (S : Type 0) : Type 0 where
  pub done : S → Marks K
  pub effect : S → K → ℕ → ℕ → S
  pub effect_done : (s : S) (k : K) (a b : ℕ) → done (effect s k a b) ≡ marked w (done s) k a b
  pub state_of : Marks K → S
  pub step_form : (d : Marks K) → Closed m d → (k : K) (a b : ℕ) → m.has k a b ≡ true → d k a b ≡ false → m.ready d k a b ≡ true →
      effect (state_of d) k a b ≡ state_of (marked w d k a b)

-- A state that a list of steps can leave keeps being one.
module _ {K : Type 0} {w : Kinds K} {m : Rules w} {S : Type 0} (z : Form m S) where
  pub form_effect : (s : S) → s ≡ z.state_of (z.done s) → Closed m (z.done s) → (k : K) (a b : ℕ) → m.has k a b ≡ true → z.done s k a b ≡ false → m.ready (z.done s) k a b ≡ true →
      z.effect s k a b ≡ z.state_of (z.done (z.effect s k a b))
  form_effect s e c k a b has new ready =
      ap (λ (t : S). z.effect t k a b) e ∙ z.step_form (z.done s) c k a b has new ready ∙ ap z.state_of (sym (z.effect_done s k a b))
