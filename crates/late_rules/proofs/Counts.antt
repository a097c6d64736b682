-- Which counts of a bag stand once a tally is added at the end, or one is removed. Assumes nothing.
use mathlib.Core.Path.{◌≡◌, sym, ap, ap₂, ◌∙◌}
use mathlib.Core.Bool.{Bool, true, false, cond, ◌&&◌, ◌||◌, not}
use Prim.Native.Nat.{ℕ, zero, suc, ◌+◌, ◌-◌, ◌<◌, ◌≤◌}
use native.Mathlib.Omega.{arith}
use lib.Dec.{eqb, ltb}
use borrow.Author.Tests.{eqb-true, eqb-false, ne_eqb, ltb-true, ltb-false, lt-ltb, le-ltb}
use Rattle.laws.specs.Below.{Adds, sum, any}
use Rattle.laws.proofs.Below.{any_cong, any_at, any_find, any_next}
use Rattle.laws.proofs.Bools.{split, clash, no_true, same_test, and_l, or_false}
use Rattle.laws.proofs.Sums.{sum_cong}
use Rattle.recount.specs.Recount.{Counted, loose, same_bag, superseded, stands, counted_twice}
use Rattle.late_rules.specs.Edit.{place_before}
use Rattle.recount.proofs.Recount.{same_is, is_same, same_back, loose_same, stands_most, most_stands, twice_at, twice-find}
use Rattle.format.proofs.Accept.{below}

-- ---- one more at the end

-- The counts of c, and one more behind them.
pub record Longer (c c' : Counted) : Type 0 where
  pub size : c'.size ≡ c.size + 1
  pub grocer : (t : ℕ) → t < c.size → c'.grocer t ≡ c.grocer t
  pub offer : (t : ℕ) → t < c.size → c'.offer t ≡ c.offer t
  pub bag : (t : ℕ) → t < c.size → c'.bag t ≡ c.bag t
  pub revision : (t : ℕ) → t < c.size → c'.revision t ≡ c.revision t

module _ (c c' : Counted) (r : Longer c c') where
  longer_bag : (t u : ℕ) → t < c.size → u < c.size → same_bag c' t u ≡ same_bag c t u
  unfolding same_bag
  longer_bag t u lt lu = rw (r.grocer t lt, r.grocer u lu, r.offer t lt, r.offer u lu, r.bag t lt, r.bag u lu)

  -- A tally of another bag than the one behind stands as before.
  pub longer_stands : (t : ℕ) → t < c.size → same_bag c' t c.size ≡ false → stands c' t ≡ stands c t
  unfolding stands superseded loose
  longer_stands t l off =
      ap₂ (λ (x y : Bool). x || not y) (ap (λ (x : ℕ). eqb x 0) (r.bag t l))
      (ap (λ (n : ℕ). any n (λ u. same_bag c' t u && ltb (c'.revision t) (c'.revision u))) r.size
      ∙ any_next c.size (λ u. same_bag c' t u && ltb (c'.revision t) (c'.revision u))
      ∙ ap (λ (x : Bool). any c.size (λ u. same_bag c' t u && ltb (c'.revision t) (c'.revision u)) || (x && ltb (c'.revision t) (c'.revision c.size))) off
      ∙ or_false (any c.size (λ u. same_bag c' t u && ltb (c'.revision t) (c'.revision u)))
      ∙ any_cong c.size _ _ (λ u m. rw (longer_bag t u l m, r.revision t l, r.revision u m)))

-- Tallies of two grocers are of two bags.
pub other_grocer : (c : Counted) (t u : ℕ) → (c.grocer t ≡ c.grocer u → ⊥) → same_bag c t u ≡ false
unfolding same_bag
other_grocer c t u ne = rw (ne_eqb (c.grocer t) (c.grocer u) ne)

-- ---- one removed

module _ (p : ℕ) where
  pub before_low : (t : ℕ) → t < p → place_before p t ≡ t
  unfolding place_before
  before_low t l = rw (lt-ltb t p l)

  pub before_high : (t : ℕ) → p ≤ t → place_before p t ≡ suc t
  unfolding place_before
  before_high t l = rw (le-ltb t p l)

  pub before_in : (n t : ℕ) → t < n - 1 → place_before p t < n
  before_in n t l = split (ltb t p) (λ e. rw (before_low t (ltb-true t p e)) (omega arith)) (λ e. rw (before_high t (ltb-false t p e)) (omega arith))

  pub before_other : (t : ℕ) → place_before p t ≡ p → ⊥
  before_other t e =
      split (ltb t p)
      (λ q. let l = ltb-true t p q in let d = before_low t l in omega arith)
      (λ q. let l = ltb-false t p q in let d = before_high t l in omega arith)

  pub before_apart : (t u : ℕ) → place_before p t ≡ place_before p u → t ≡ u
  before_apart t u e =
      split (ltb t p)
      (λ q. let a = before_low t (ltb-true t p q) in let lt = ltb-true t p q in
      split (ltb u p)
      (λ k. let b = before_low u (ltb-true u p k) in omega arith)
      (λ k. let b = before_high u (ltb-false u p k) in let lu = ltb-false u p k in omega arith))
      (λ q. let a = before_high t (ltb-false t p q) in let lt = ltb-false t p q in
      split (ltb u p)
      (λ k. let b = before_low u (ltb-true u p k) in let lu = ltb-true u p k in omega arith)
      (λ k. let b = before_high u (ltb-false u p k) in omega arith))

  -- Where an entry other than p stands once p is removed.
  unfoldable pub place_after : ℕ → ℕ
  place_after u = cond (ltb u p) u (u - 1)

  pub after_before : (u : ℕ) → (u ≡ p → ⊥) → place_before p (place_after u) ≡ u
  unfolding place_after
  after_before u ne =
      split (ltb u p)
      (λ q. rw q (before_low u (ltb-true u p q)))
      (λ q. let l = ltb-false u p q in rw q (before_high (u - 1) (omega arith) ∙ whole u (omega arith)))
    where
      whole : (u : ℕ) → 1 ≤ u → suc (u - 1) ≡ u
      whole u l = omega arith

  pub after_in : (n u : ℕ) → u < n → p < n → (u ≡ p → ⊥) → place_after u < n - 1
  unfolding place_after
  after_in n u l m ne =
      split (ltb u p)
      (λ q. let k = ltb-true u p q in rw q (omega arith))
      (λ q. let k = ltb-false u p q in rw q (omega arith))

  -- A sum without the term of p.
  module _ {A : Type 0} (w : Adds A) where
    pub sum-without : (n : ℕ) (f : ℕ → A) → p ≤ n → w.plus (sum w n (λ t. f (place_before p t))) (f p) ≡ sum w (suc n) f
    unfolding sum
    sum-without zero f l = let e : p ≡ 0 = omega arith in rw e
    sum-without (suc n) f l =
        split (eqb p (suc n))
        (λ q. let e : p ≡ suc n = eqb-true p (suc n) q in
        ap₂ w.plus (sum_cong w (suc n) (λ t. f (place_before p t)) f (λ t m. ap f (before_low t (omega arith)))) (ap f e))
        (λ q. let ne : p ≡ suc n → ⊥ = eqb-false p (suc n) q in
        ap (λ (x : A). w.plus (w.plus (sum w n (λ t. f (place_before p t))) x) (f p)) (ap f (before_high n (omega arith)))
        ∙ w.assoc (sum w n (λ t. f (place_before p t))) (f (suc n)) (f p)
        ∙ ap (w.plus (sum w n (λ t. f (place_before p t)))) (w.comm (f (suc n)) (f p))
        ∙ sym (w.assoc (sum w n (λ t. f (place_before p t))) (f p) (f (suc n)))
        ∙ ap (λ (x : A). w.plus x (f (suc n))) (sum-without n f (omega arith)))

-- The counts of c without the one at place p.
pub record Without (p : ℕ) (c c' : Counted) : Type 0 where
  pub inside : p < c.size
  pub size : c'.size ≡ c.size - 1
  pub grocer : (t : ℕ) → t < c'.size → c'.grocer t ≡ c.grocer (place_before p t)
  pub offer : (t : ℕ) → t < c'.size → c'.offer t ≡ c.offer (place_before p t)
  pub bag : (t : ℕ) → t < c'.size → c'.bag t ≡ c.bag (place_before p t)
  pub revision : (t : ℕ) → t < c'.size → c'.revision t ≡ c.revision (place_before p t)

module _ (p : ℕ) (c c' : Counted) (r : Without p c c') where
  without_bag : (t u : ℕ) → t < c'.size → u < c'.size → same_bag c' t u ≡ same_bag c (place_before p t) (place_before p u)
  unfolding same_bag
  without_bag t u lt lu = rw (r.grocer t lt, r.grocer u lu, r.offer t lt, r.offer u lu, r.bag t lt, r.bag u lu)

  without_loose : (t : ℕ) → t < c'.size → loose c' t ≡ loose c (place_before p t)
  unfolding loose
  without_loose t l = ap (λ (x : ℕ). eqb x 0) (r.bag t l)

  pub inside_before : (t : ℕ) → t < c'.size → place_before p t < c.size
  inside_before t l = before_in p c.size t (rw r.size at l)

  inside_after : (u : ℕ) → u < c.size → (u ≡ p → ⊥) → place_after p u < c'.size
  inside_after u l ne = rw r.size (after_in p c.size u l r.inside ne)

  -- A tally of another bag stands as before.
  pub without_stands : (t : ℕ) → t < c'.size → same_bag c (place_before p t) p ≡ false → stands c' t ≡ stands c (place_before p t)
  unfolding stands superseded
  without_stands t l off =
      ap₂ (λ (x y : Bool). x || not y) (without_loose t l) (same_test _ _ up down)
    where
      up : any c'.size (λ u. same_bag c' t u && ltb (c'.revision t) (c'.revision u)) ≡ true →
          any c.size (λ u. same_bag c (place_before p t) u && ltb (c.revision (place_before p t)) (c.revision u)) ≡ true
      up h =
          let (u, m, e) = any_find c'.size (λ u. same_bag c' t u && ltb (c'.revision t) (c'.revision u)) h in
          any_at c.size (λ u. same_bag c (place_before p t) u && ltb (c.revision (place_before p t)) (c.revision u)) (place_before p u) (inside_before u m)
          (rw (← (without_bag t u l m), ← (r.revision t l), ← (r.revision u m)) e)

      other : (u : ℕ) → (same_bag c (place_before p t) u && ltb (c.revision (place_before p t)) (c.revision u)) ≡ true → u ≡ p → ⊥
      other u e q = clash (rw q at (and_l (same_bag c (place_before p t) u) _ e)) off

      down : any c.size (λ u. same_bag c (place_before p t) u && ltb (c.revision (place_before p t)) (c.revision u)) ≡ true →
          any c'.size (λ u. same_bag c' t u && ltb (c'.revision t) (c'.revision u)) ≡ true
      down h =
          let (u, m, e) = any_find c.size (λ u. same_bag c (place_before p t) u && ltb (c.revision (place_before p t)) (c.revision u)) h in
          let v = place_after p u in
          let lv = inside_after u m (other u e) in
          let back = after_before p u (other u e) in
          any_at c'.size (λ u. same_bag c' t u && ltb (c'.revision t) (c'.revision u)) v lv
          (rw (without_bag t v l lv, r.revision t l, r.revision v lv, back) e)

  -- No bag is counted twice as one revision where it was not before.
  pub without_once : counted_twice c ≡ false → counted_twice c' ≡ false
  without_once h = no_true (counted_twice c') (λ q.
      let (t, u, lt, lu, off, s, e) = twice-find c' q in
      let lu' : u < c'.size = omega arith in
      clash (twice_at c (place_before p t) (place_before p u) (inside_before t lt) (inside_before u lu')
      (λ same. let w : t ≡ u = before_apart p t u same in omega arith)
      (sym (without_loose t lt) ∙ off)
      (same_is c (place_before p t) (place_before p u) (sym (without_bag t u lt lu') ∙ is_same c' t u s))
      (sym (r.revision t lt) ∙ e ∙ r.revision u lu')) h)

  -- The highest of the others of the bag of a standing tally did not stand, and stands once that one is removed.
  pub brought_back : counted_twice c ≡ false → (t : ℕ) → t < c'.size → loose c p ≡ false → stands c p ≡ true → same_bag c (place_before p t) p ≡ true →
      ((u : ℕ) → u < c'.size → same_bag c (place_before p t) (place_before p u) ≡ true → c.revision (place_before p u) ≤ c.revision (place_before p t)) →
      (stands c (place_before p t) ≡ false) × (stands c' t ≡ true)
  brought_back once t l off st same most =
      let s = same_is c (place_before p t) p same in (
        no_true (stands c (place_before p t)) (λ q.
            let off-t = loose_same c (place_before p t) p s ∙ off in
            let above = stands_most c (place_before p t) p r.inside off-t s q in
            let below = stands_most c p (place_before p t) (inside_before t l) off (same_back c (place_before p t) p s) st in
            clash (twice_at c (place_before p t) p (inside_before t l) r.inside (before_other p t) off-t s (omega arith)) once),
        most_stands c' t (λ u m k.
            rw (r.revision t l, r.revision u m) (most u m (sym (without_bag t u l m) ∙ is_same c' t u k))),
      )
