-- Which of several counts of one bag stands: "The recount table" (02 §3). The same for a file, for lent tables and for the desk's list.
use Rattle.std.specs.Prelude.{◌≡◌, Bool, true, false, ◌&&◌, ◌||◌, not, List, ℕ, ◌≤◌, ◌<◌, eqb, ltb}
use Rattle.laws.specs.Below.{any, count, Order}
use Rattle.laws.specs.Tables.{word}

-- What the rule looks at: how many tallies there are, and of each its grocer, its offer (the place), its bag and its revision; no box.
pub record Counted : Type 0 where
  pub size : ℕ
  pub grocer : ℕ → ℕ
  pub offer : ℕ → ℕ
  pub bag : ℕ → ℕ
  pub revision : ℕ → ℕ

-- What the rule looks at in tables of n tallies. Words past the n that are needed are not read.
abbrev pub columns : (n : ℕ) (grocer offer bag revision : List ℕ) → Counted
columns n grocer offer bag revision =
    record { size = n; grocer = word n grocer 0; offer = word n offer 0; bag = word n bag 0; revision = word n revision 0 }

module _ (c : Counted) where
  -- "Bag 0 is loose coupons".
  unfoldable pub loose : ℕ → Bool
  loose t = eqb (c.bag t) 0

  -- Tallies t and u are "of the same grocer, offer and bag, whichever box counted them".
  unfoldable pub same_bag : ℕ → ℕ → Bool
  same_bag t u = eqb (c.grocer t) (c.grocer u) && eqb (c.offer t) (c.offer u) && eqb (c.bag t) (c.bag u)

  -- Another count of the bag of tally t has a higher revision.
  unfoldable pub superseded : ℕ → Bool
  superseded t = any c.size (λ u. same_bag t u && ltb (c.revision t) (c.revision u))

  -- "only the highest revision stands"; of loose coupons "those tallies all stand".
  unfoldable pub stands : ℕ → Bool
  stands t = loose t || not (superseded t)

  -- 9: "one bag and revision twice for a grocer and offer, bag not 0". Superseded tallies are looked at too.
  unfoldable pub counted_twice : Bool
  counted_twice = any c.size (λ t. any t (λ u. not (loose t) && (same_bag t u && eqb (c.revision t) (c.revision u))))

-- The tallies of a in another order are those of b: tally t of b is tally p t of a, and tally u of a is tally q u of b.
-- Their offers may have other places in b: two tallies of b are of one offer exactly where those of a are.
pub record Reordered (a b : Counted) (p q : ℕ → ℕ) : Type 0 where
  pub size : b.size ≡ a.size
  pub places : Order a.size p q
  pub grocer : (t : ℕ) → t < b.size → b.grocer t ≡ a.grocer (p t)
  pub offer : (t u : ℕ) → t < b.size → u < b.size → eqb (b.offer t) (b.offer u) ≡ eqb (a.offer (p t)) (a.offer (p u))
  pub bag : (t : ℕ) → t < b.size → b.bag t ≡ a.bag (p t)
  pub revision : (t : ℕ) → t < b.size → b.revision t ≡ a.revision (p t)

-- What the rule comes to.
pub record RecountLaws : Type 0 where
  -- "the order in which records come does not alter which stand",
  pub order : (a b : Counted) (p q : ℕ → ℕ) → Reordered a b p q → (t : ℕ) → t < b.size → stands b t ≡ stands a (p t)
  -- nor whether 9 is met.
  pub order_twice : (a b : Counted) (p q : ℕ → ℕ) → Reordered a b p q → counted_twice b ≡ counted_twice a
  -- Where 9 is not met, exactly one count of each bag stands.
  pub one : (c : Counted) → counted_twice c ≡ false → (t : ℕ) → t < c.size → loose c t ≡ false →
      count c.size (λ u. same_bag c t u && stands c u) ≡ 1
  -- "only the highest revision stands": no count of its bag has a higher one.
  pub highest : (c : Counted) (t u : ℕ) → u < c.size → loose c t ≡ false → same_bag c t u ≡ true → stands c t ≡ true → c.revision u ≤ c.revision t
  -- Loose coupons all stand.
  pub loose_stands : (c : Counted) (t : ℕ) → loose c t ≡ true → stands c t ≡ true
