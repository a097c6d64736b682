-- What a grocer is owed does not go by the order of records. Assumes nothing.
use mathlib.Core.Path.{◌≡◌, refl, ap, ◌∙◌}
use mathlib.Core.Bool.{◌&&◌}
use Prim.Native.Nat.{ℕ, zero, suc, ◌<◌}
use lib.Dec.{eqb}
use lib.IntN.{ℤ, pos, ◌*ℤ◌}
use Rattle.laws.specs.Below.{sum, only, integers}
use Rattle.laws.proofs.Sums.{sum_cong, sum_moved}
use Rattle.recount.specs.Recount.{stands}
use Rattle.format.specs.Job.{Head, FileJob, price_on, place_of, counted_tallies}
use Rattle.format.specs.Rearranged.{in_order, Rearranged, Named}
use Rattle.printing.specs.Accepted.{owed_by_file}
use Rattle.format.proofs.Tables.{price_same}
use Rattle.format.proofs.Same.{places_same, stands_same}
use Rattle.format.proofs.Rearranged.{named_other, place_in, place_moved, stands_moved}

-- What tally t adds to what grocer g is owed on price list q.
abbrev pub owed_at : FileJob → (g q t : ℕ) → ℤ
owed_at j g q t =
    only integers (stands (counted_tallies j) t && eqb (j.tally t).grocer g) ((j.tally t).count *ℤ pos (price_on j.offer j.list_price q (place_of j t)))

-- Prices on a list, with the offers in another order.
price_moved : (j : FileJob) (p r : ℕ → ℕ) (q i : ℕ) → price_on (in_order p r j).offer (in_order p r j).list_price q i ≡ price_on j.offer j.list_price q (r i)
unfolding price_on
price_moved j p r zero i = refl
price_moved j p r (suc q) i = refl

module _ (j j' : FileJob) (p q r s : ℕ → ℕ) (x : Rearranged j j' p q r s) (n : Named j) where
  -- The job that j' has the words of.
  abbrev other : FileJob
  other = in_order p r j

  -- Each of its tallies names an offer below N.
  other_in : (t : ℕ) → t < j.head.tallies → place_of other t < j.head.offers
  other_in = place_in j p q r s x.tallies x.offers n.apart n.named

  -- On each list a tally of j' adds what it adds in that job,
  words_add : (g l t : ℕ) → l < suc j.head.lists → t < j.head.tallies → owed_at j' g l t ≡ owed_at other g l t
  words_add g l t m h =
      let codes = (named_other j j' p q r s x n).codes in
      rw (
        stands_same j' other x.words codes t h,
        (x.words.tally t h).grocer,
        (x.words.tally t h).count,
        places_same j' other x.words codes t h,
        price_same j' other x.words l (place_of other t) m (other_in t h),
      )

  -- and there what it added in j.
  moved_adds : (g l t : ℕ) → t < j.head.tallies → owed_at other g l t ≡ owed_at j g l (p t)
  moved_adds g l t h =
      rw (
        price_moved j p r l (place_of other t),
        stands_moved j p q r s x.tallies x.offers n.apart n.named t h,
        place_moved j p q r s x.tallies x.offers n.apart n.named t h,
      )

  -- So all of them come to the same.
  pub order_owed : (g l : ℕ) → l < suc j.head.lists → owed_by_file j' g l ≡ owed_by_file j g l
  unfolding owed_by_file
  order_owed g l m =
      ap (λ (h : Head). sum integers h.tallies (owed_at j' g l)) x.words.head
      ∙ sum_cong integers j.head.tallies (owed_at j' g l) (λ t. owed_at j g l (p t)) (λ t h. words_add g l t m h ∙ moved_adds g l t h)
      ∙ sum_moved integers j.head.tallies p q x.tallies (owed_at j g l)
