-- One record more: the number of the refusal, and what is kept. Assumes nothing.
use mathlib.Core.Path.{◌≡◌, ap, ◌∙◌}
use mathlib.Core.List.{List, [], ◌∷◌}
use mathlib.Core.Bool.{true, false}
use Prim.Native.Nat.{ℕ, ◌+◌, ◌<◌, ◌≤◌}
use native.Mathlib.Omega.{arith}
use lib.Dec.{eqb, ltb, leb}
use lib.ListN.{get_or, length}
use lib.IntN.{ℤ, pos, nat_abs, ◌+ℤ◌, ◌*ℤ◌, +ℤ_idl}
use mir.Syntax.{w64}
use mir.Val.{of_z, to_z}
use borrow.Author.Tests.{leb-true, ltb-true, eq-eqb}
use Rattle.laws.specs.Limits.{max_boxes, max_price, max_count, max_amount}
use Rattle.laws.specs.Below.{only, integers}
use Rattle.laws.proofs.Checks.{each_of}
use Rattle.laws.proofs.Sums.{sum_next_lem}
use Rattle.laws.proofs.Signed.{read64_abs, sum_abs, only_abs}
use Rattle.model.specs.Reconcile.{TallyRecord, record_in_range}
use Rattle.desk_records.specs.Rows.{share, with_number, Takes, unmarked}
use Rattle.model.proofs.Step.{up_at}
use Rattle.desk_records.proofs.Amounts.{product_abs}

-- What a record in range has.
module _ (m n : ℕ) (r : TallyRecord) (h : record_in_range m n r ≡ true) where
  tests : (ltb r.place n ≡ true) × (leb (nat_abs r.count) max_count ≡ true)
  unfolding record_in_range
  tests =
      let e = each_of (ltb r.grocer m ∷ ltb r.tally_box max_boxes ∷ ltb r.place n ∷ leb (nat_abs r.count) max_count ∷ []) h in
      (e.1.1.0, e.1.1.1.0)

  pub place_in : r.place < n
  place_in = ltb-true r.place n tests.0

  pub count_in : nat_abs r.count ≤ max_count
  count_in = leb-true (nat_abs r.count) max_count tests.1

  -- Its place has a price in range.
  pub priced : (prices : List ℕ) (i : ℕ) → Takes n prices i → (r.place < length prices) × (get_or prices r.place 0 ≤ max_price) × (nat_abs r.count ≤ max_count)
  priced prices i t = (omega (arith, place_in, t.long), up_at max_price n prices r.place t.priced place_in, count_in)

-- The size of what it adds.
pub share_abs : (prices : List ℕ) (w : ℕ) (r : TallyRecord) → get_or prices r.place 0 ≤ max_price → nat_abs r.count ≤ max_count → nat_abs (share prices w r) ≤ 999_989_900_001
share_abs prices w r hp hc =
    only_abs (eqb r.grocer w) (r.count *ℤ pos (get_or prices r.place 0)) 999_989_900_001 (product_abs r.count (get_or prices r.place 0) hc hp)

-- What it adds, as the machine makes it.
pub share_is : (prices : List ℕ) (w : ℕ) (r : TallyRecord) (x c : ℤ) → c ≡ r.count → r.grocer ≡ w → nat_abs r.count ≤ max_count →
    get_or prices r.place 0 ≤ max_price → x ≡ pos 0 +ℤ (c *ℤ pos (get_or prices r.place 0)) → to_z w64 (of_z w64 x) ≡ share prices w r
unfolding only integers
share_is prices w r x c ec eg hc hp e =
    let z : x ≡ r.count *ℤ pos (get_or prices r.place 0) =
    e ∙ +ℤ_idl (c *ℤ pos (get_or prices r.place 0)) ∙ ap (λ (k : ℤ). k *ℤ pos (get_or prices r.place 0)) ec in
    rw (z, eq-eqb r.grocer w eg)
    (read64_abs (r.count *ℤ pos (get_or prices r.place 0)) (omega (arith, product_abs r.count (get_or prices r.place 0) hc hp)))

-- A share fits, and is stored as it is.
pub share_read : (prices : List ℕ) (w : ℕ) (r : TallyRecord) (x : ℤ) → x ≡ share prices w r → get_or prices r.place 0 ≤ max_price → nat_abs r.count ≤ max_count →
    to_z w64 (of_z w64 x) ≡ share prices w r
share_read prices w r x e hp hc =
    ap (λ (z : ℤ). to_z w64 (of_z w64 z)) e
    ∙ read64_abs (share prices w r) (omega (arith, share_abs prices w r hp hc))

-- ---- the sum of shares that are not marked
-- A share more.
pub unmarked_next : (t : ℕ) (marks : List ℕ) (shares : List ℤ) → unmarked (t + 1) marks shares ≡ unmarked t marks shares +ℤ only integers (eqb (get_or marks t 0) 0) (get_or shares t (pos 0))
unfolding unmarked integers
unmarked_next t marks shares = sum_next_lem integers t (λ t. only integers (eqb (get_or marks t 0) 0) (get_or shares t (pos 0)))

-- It is an amount.
pub unmarked_abs : (t : ℕ) (marks : List ℕ) (shares : List ℤ) → t ≤ 1000 → ((k : ℕ) → k < t → nat_abs (get_or shares k (pos 0)) ≤ 999_989_900_001) → nat_abs (unmarked t marks shares) ≤ max_amount
unfolding unmarked
unmarked_abs t marks shares few small =
    omega (
      arith,
      sum_abs t 999_989_900_001 (λ t. only integers (eqb (get_or marks t 0) 0) (get_or shares t (pos 0)))
          (λ k l. only_abs (eqb (get_or marks k 0) 0) (get_or shares k (pos 0)) 999_989_900_001 (small k l)),
    )

-- The number by the tests that led there.
module _ (m n k : ℕ) (r : TallyRecord) where
  module _ (none : k ≤ 0) where
    nothing : eqb k 0 ≡ true
    nothing = eq-eqb k 0 (omega arith)

    pub number_out : record_in_range m n r ≡ false → 21 ≡ with_number m n k r
    unfolding with_number
    number_out h = rw (nothing, h)

    pub number_in_lem : record_in_range m n r ≡ true → 0 ≡ with_number m n k r
    unfolding with_number
    number_in_lem h = rw (nothing, h)
