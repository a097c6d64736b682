-- The laws of the recount rule. Assumes nothing.
use mathlib.Core.Path.{◌≡◌, refl, sym, ap, ap₂, ◌∙◌}
use mathlib.Core.Bool.{Bool, true, false, ◌&&◌, ◌||◌, not}
use Prim.Native.Nat.{ℕ, zero, suc, ◌<◌, ◌≤◌}
use native.Mathlib.Omega.{arith}
use lib.Dec.{eqb, ltb}
use borrow.Author.Tests.{eqb-true, eqb-false, eq-eqb, ltb-true, ltb-false, le-ltb, lt-ltb}
use Rattle.laws.specs.Below.{any, count}
use Rattle.laws.proofs.Bools.{split, clash, same_test, and_true, and_l, and_r, or_true}
use Rattle.laws.proofs.Below.{any_at, any_none, any_find, any_false, count_one, order_back, order_same}
use Rattle.recount.specs.Recount.{Counted, loose, same_bag, superseded, stands, counted_twice, Reordered, RecountLaws}

-- What is not so is false.
pub not_on : (b : Bool) → not b ≡ true → b ≡ false
not_on true h = sym h
not_on false h = refl

-- Of two tests that do not both hold one holds: the other does not.
and_rest : (a b : Bool) → a ≡ true → (a && b) ≡ false → b ≡ false
and_rest true b p q = q
and_rest false b p q = absurd (clash p refl)

-- What the test of one bag says.
pub record SameBag (c : Counted) (t u : ℕ) : Type 0 where
  pub grocer : c.grocer t ≡ c.grocer u
  pub offer : c.offer t ≡ c.offer u
  pub bag : c.bag t ≡ c.bag u

module _ (c : Counted) where
  pub same_is : (t u : ℕ) → same_bag c t u ≡ true → SameBag c t u
  unfolding same_bag
  same_is t u h =
      let both = and_l (eqb (c.grocer t) (c.grocer u) && eqb (c.offer t) (c.offer u)) (eqb (c.bag t) (c.bag u)) h in
      record {
        grocer = eqb-true (c.grocer t) (c.grocer u) (and_l (eqb (c.grocer t) (c.grocer u)) (eqb (c.offer t) (c.offer u)) both);
        offer = eqb-true (c.offer t) (c.offer u) (and_r (eqb (c.grocer t) (c.grocer u)) (eqb (c.offer t) (c.offer u)) both);
        bag = eqb-true (c.bag t) (c.bag u) (and_r (eqb (c.grocer t) (c.grocer u) && eqb (c.offer t) (c.offer u)) (eqb (c.bag t) (c.bag u)) h);
      }

  pub is_same : (t u : ℕ) → SameBag c t u → same_bag c t u ≡ true
  unfolding same_bag
  is_same t u s =
      and_true (and_true (eq-eqb (c.grocer t) (c.grocer u) s.grocer) (eq-eqb (c.offer t) (c.offer u) s.offer))
      (eq-eqb (c.bag t) (c.bag u) s.bag)

  pub same_back : (t u : ℕ) → SameBag c t u → SameBag c u t
  same_back t u s = record { grocer = sym s.grocer; offer = sym s.offer; bag = sym s.bag }

  same_on : (t u v : ℕ) → SameBag c t u → SameBag c u v → SameBag c t v
  same_on t u v s r = record { grocer = s.grocer ∙ r.grocer; offer = s.offer ∙ r.offer; bag = s.bag ∙ r.bag }

  pub loose_same : (t u : ℕ) → SameBag c t u → loose c t ≡ loose c u
  unfolding loose
  loose_same t u s = ap (λ (x : ℕ). eqb x 0) s.bag

  -- One bag and revision in two tallies: 9 is met.
  pub twice_at : (t u : ℕ) → t < c.size → u < c.size → (t ≡ u → ⊥) → loose c t ≡ false → SameBag c t u → c.revision t ≡ c.revision u → counted_twice c ≡ true
  unfolding counted_twice
  twice_at t u lt lu ne off s e =
      split (ltb u t)
      (λ q. pair t u lt (ltb-true u t q) off s e)
      (λ q. pair u t lu (let g : t ≤ u = ltb-false u t q in omega arith) (sym (loose_same t u s) ∙ off) (same_back t u s) (sym e))
    where
      pair : (t u : ℕ) → t < c.size → u < t → loose c t ≡ false → SameBag c t u → c.revision t ≡ c.revision u → counted_twice c ≡ true
      pair t u lt lu off s e =
          any_at c.size (λ t. any t (λ u. not (loose c t) && (same_bag c t u && eqb (c.revision t) (c.revision u)))) t lt
          (any_at t (λ u. not (loose c t) && (same_bag c t u && eqb (c.revision t) (c.revision u))) u lu
          (rw (off, is_same t u s) (eq-eqb (c.revision t) (c.revision u) e)))

  -- And the other way round.
  pub twice-find : counted_twice c ≡ true →
      (t : ℕ) × (u : ℕ) × (t < c.size) × (u < t) × (loose c t ≡ false) × SameBag c t u × (c.revision t ≡ c.revision u)
  unfolding counted_twice
  twice-find h =
      let (t, lt, k) = any_find c.size (λ t. any t (λ u. not (loose c t) && (same_bag c t u && eqb (c.revision t) (c.revision u)))) h in
      let (u, lu, e) = any_find t (λ u. not (loose c t) && (same_bag c t u && eqb (c.revision t) (c.revision u))) k in
      let both = and_r (not (loose c t)) (same_bag c t u && eqb (c.revision t) (c.revision u)) e in (
        t,
        u,
        lt,
        lu,
        not_on (loose c t) (and_l (not (loose c t)) (same_bag c t u && eqb (c.revision t) (c.revision u)) e),
        same_is t u (and_l (same_bag c t u) (eqb (c.revision t) (c.revision u)) both),
        eqb-true (c.revision t) (c.revision u) (and_r (same_bag c t u) (eqb (c.revision t) (c.revision u)) both),
      )

  -- Of the first n tallies of the bag of t, one that no other exceeds.
  highest : (t n : ℕ) → any n (same_bag c t) ≡ true →
      (k : ℕ) × (k < n) × (same_bag c t k ≡ true) × ((u : ℕ) → u < n → same_bag c t u ≡ true → c.revision u ≤ c.revision k)
  unfolding any
  highest t zero h = absurd (clash h refl)
  highest t (suc n) h =
      split (any n (same_bag c t))
      (λ e. let (k, l, s, most) = highest t n e in
      split (same_bag c t n && ltb (c.revision k) (c.revision n))
      (λ q. let above = ltb-true (c.revision k) (c.revision n) (and_r (same_bag c t n) (ltb (c.revision k) (c.revision n)) q) in (
        n,
        omega arith,
        and_l (same_bag c t n) (ltb (c.revision k) (c.revision n)) q,
        λ u m f.
            split (eqb u n)
            (λ i. rw (eqb-true u n i) (omega arith))
            (λ i. let ne : u ≡ n → ⊥ = eqb-false u n i in omega (arith, most u (omega arith) f)),
      ))
      (λ q. (
        k,
        omega arith,
        s,
        λ u m f.
            split (eqb u n)
            (λ i. let same : u ≡ n = eqb-true u n i in rw same (ltb-false (c.revision k) (c.revision n) (and_rest (same_bag c t n) _ (rw same at f) q)))
            (λ i. let ne : u ≡ n → ⊥ = eqb-false u n i in most u (omega arith) f),
      )))
      (λ e. (
        n,
        omega arith,
        rw e at h,
        λ u m f.
            split (eqb u n)
            (λ i. rw (eqb-true u n i) (omega arith))
            (λ i. let ne : u ≡ n → ⊥ = eqb-false u n i in absurd (clash f (any_none n (same_bag c t) u (omega arith) e))),
      ))

  -- A tally of a bag that stands has no higher one above it.
  pub stands_most : (i k : ℕ) → k < c.size → loose c i ≡ false → SameBag c i k → stands c i ≡ true → c.revision k ≤ c.revision i
  unfolding stands superseded
  stands_most i k l off s h =
      ltb-false (c.revision i) (c.revision k)
      (and_rest (same_bag c i k) _ (is_same i k s)
      (any_none c.size (λ u. same_bag c i u && ltb (c.revision i) (c.revision u)) k l (not_on (any c.size (λ u. same_bag c i u && ltb (c.revision i) (c.revision u))) (rw off at h))))

  -- One that no other exceeds stands.
  pub most_stands : (k : ℕ) → ((u : ℕ) → u < c.size → SameBag c k u → c.revision u ≤ c.revision k) → stands c k ≡ true
  unfolding stands superseded
  most_stands k most =
      rw (any_false c.size (λ u. same_bag c k u && ltb (c.revision k) (c.revision u))
      (λ u l. split (same_bag c k u)
      (λ e. rw e (le-ltb (c.revision k) (c.revision u) (most u l (same_is k u e))))
      (λ e. rw e)))
      (or_true (loose c k))

  one_stands : counted_twice c ≡ false → (t : ℕ) → t < c.size → loose c t ≡ false → count c.size (λ u. same_bag c t u && stands c u) ≡ 1
  one_stands once t l off =
      let (k, lk, s, most) = highest t c.size (any_at c.size (same_bag c t) t l (is_same t t (record { grocer = refl; offer = refl; bag = refl }))) in
      let of-k = same_is t k s in
      count_one c.size (λ u. same_bag c t u && stands c u) k lk
      (and_true s (most_stands k (λ u m r. most u m (is_same t u (same_on t k u of-k r)))))
      (λ i m h.
      let of-i = same_is t i (and_l (same_bag c t i) (stands c i) h) in
      let off-i = sym (loose_same t i of-i) ∙ off in
      let i-k = same_on i t k (same_back t i of-i) of-k in
      let above = stands_most i k lk off-i i-k (and_r (same_bag c t i) (stands c i) h) in
      let below = most i m (is_same t i of-i) in
      split (eqb i k)
      (λ q. eqb-true i k q)
      (λ q. absurd (clash (twice_at i k m lk (eqb-false i k q) off-i i-k (omega arith)) once)))

-- The tallies of b in another order are those of a.
back : (a b : Counted) (p q : ℕ → ℕ) → Reordered a b p q → Reordered b a q p
back a b p q r = record {
  size = sym r.size;
  places = rw r.size (order_back r.places);
  grocer = λ u l. sym (r.grocer (q u) (there u l) ∙ ap a.grocer (r.places.there u l));
  offer = λ u v l m. sym (r.offer (q u) (q v) (there u l) (there v m) ∙ ap₂ (λ (x y : ℕ). eqb (a.offer x) (a.offer y)) (r.places.there u l) (r.places.there v m));
  bag = λ u l. sym (r.bag (q u) (there u l) ∙ ap a.bag (r.places.there u l));
  revision = λ u l. sym (r.revision (q u) (there u l) ∙ ap a.revision (r.places.there u l));
}
  where
    there : (u : ℕ) → u < a.size → q u < b.size
    there u l = rw r.size (r.places.back u l)

module _ (a b : Counted) (p q : ℕ → ℕ) (r : Reordered a b p q) where
  -- A number of b is one of a,
  in_a : (t : ℕ) → t < b.size → t < a.size
  in_a t l = rw r.size at l

  -- and so is the one that it was.
  was_in : (t : ℕ) → t < b.size → p t < a.size
  was_in t l = r.places.inside t (in_a t l)

  -- Two of one bag were of one bag,
  same_moves : (t u : ℕ) → t < b.size → u < b.size → SameBag b t u → SameBag a (p t) (p u)
  same_moves t u lt lu s = record {
    grocer = sym (r.grocer t lt) ∙ s.grocer ∙ r.grocer u lu;
    offer = eqb-true (a.offer (p t)) (a.offer (p u)) (sym (r.offer t u lt lu) ∙ eq-eqb (b.offer t) (b.offer u) s.offer);
    bag = sym (r.bag t lt) ∙ s.bag ∙ r.bag u lu;
  }

  -- loose ones were loose,
  loose_moves : (t : ℕ) → t < b.size → loose b t ≡ loose a (p t)
  unfolding loose
  loose_moves t l = ap (λ (x : ℕ). eqb x 0) (r.bag t l)

  -- superseded ones were superseded,
  above_moves : (t : ℕ) → t < b.size → superseded b t ≡ true → superseded a (p t) ≡ true
  unfolding superseded
  above_moves t l h =
      let (u, m, e) = any_find b.size (λ u. same_bag b t u && ltb (b.revision t) (b.revision u)) h in
      let s = same_is b t u (and_l (same_bag b t u) (ltb (b.revision t) (b.revision u)) e) in
      let up = ltb-true (b.revision t) (b.revision u) (and_r (same_bag b t u) (ltb (b.revision t) (b.revision u)) e) in
      any_at a.size (λ u. same_bag a (p t) u && ltb (a.revision (p t)) (a.revision u)) (p u) (was_in u m)
      (and_true (is_same a (p t) (p u) (same_moves t u l m s))
      (lt-ltb (a.revision (p t)) (a.revision (p u)) (omega (arith, up, r.revision t l, r.revision u m))))

  -- and what was there twice was so before.
  twice_moves : counted_twice b ≡ true → counted_twice a ≡ true
  twice_moves h =
      let (t, u, lt, lu, off, s, e) = twice-find b h in
      let lu' : u < b.size = omega arith in
      twice_at a (p t) (p u) (was_in t lt) (was_in u lu')
      (λ same. let w : t ≡ u = sym (r.places.here t (in_a t lt)) ∙ ap q same ∙ r.places.here u (in_a u lu') in omega arith)
      (sym (loose_moves t lt) ∙ off) (same_moves t u lt lu' s)
      (sym (r.revision t lt) ∙ e ∙ r.revision u lu')

-- So, both ways: the same are superseded, the same stand, and 9 is met alike.
module _ (a b : Counted) (p q : ℕ → ℕ) (r : Reordered a b p q) where
  above_is : (t : ℕ) → t < b.size → superseded b t ≡ superseded a (p t)
  above_is t l =
      same_test (superseded b t) (superseded a (p t)) (above_moves a b p q r t l)
      (λ h. ap (superseded b) (sym (r.places.here t (in_a a b p q r t l))) ∙ above_moves b a q p (back a b p q r) (p t) (was_in a b p q r t l) h)

  stands_is : (t : ℕ) → t < b.size → stands b t ≡ stands a (p t)
  unfolding stands
  stands_is t l = ap₂ (λ (x y : Bool). x || not y) (loose_moves a b p q r t l) (above_is t l)

  twice_is : counted_twice b ≡ counted_twice a
  twice_is = same_test (counted_twice b) (counted_twice a) (twice_moves a b p q r) (twice_moves b a q p (back a b p q r))

-- Counts with the same words come in one order.
pub same_order : (a b : Counted) → a.size ≡ b.size → ((t : ℕ) → t < b.size → a.grocer t ≡ b.grocer t) → ((t : ℕ) → t < b.size → a.offer t ≡ b.offer t) →
    ((t : ℕ) → t < b.size → a.bag t ≡ b.bag t) → ((t : ℕ) → t < b.size → a.revision t ≡ b.revision t) → Reordered b a (λ t. t) (λ t. t)
same_order a b e grocer offer bag revision = record {
  size = e;
  places = order_same b.size;
  grocer = λ t l. grocer t (rw e at l);
  offer = λ t u l m. ap₂ (λ (x y : ℕ). eqb x y) (offer t (rw e at l)) (offer u (rw e at m));
  bag = λ t l. bag t (rw e at l);
  revision = λ t l. revision t (rw e at l);
}

-- Loose coupons all stand.
pub loose_stands_lem : (c : Counted) (t : ℕ) → loose c t ≡ true → stands c t ≡ true
unfolding stands
loose_stands_lem c t h = rw h

pub recount_laws : RecountLaws
recount_laws =
    record {
      order = stands_is;
      order_twice = twice_is;
      one = one_stands;
      highest = λ c t u l off s h. stands_most c t u l off (same_is c t u s) h;
      loose_stands = loose_stands_lem;
    }
