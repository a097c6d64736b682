-- The desk's amount as a sum over the places of its list; handed a job's own tallies it is the plain sum. Assumes nothing.
use mathlib.Core.Path.{◌≡◌, refl, sym, ap, ap₂, ◌∙◌}
use mathlib.Core.Bool.{Bool, true, false, cond, ◌&&◌}
use mathlib.Core.List.{List, [], ◌∷◌, ◌++◌, map}
use Prim.Native.Nat.{ℕ, zero, suc, ◌<◌}
use native.Mathlib.Omega.{arith}
use lib.ListN.{get_or, length, get_or-eq_default}
use lib.Dec.{eqb, ltb}
use lib.IntN.{ℤ, pos, ◌+ℤ◌, ◌*ℤ◌, +ℤ_assoc, +ℤ_idl, +ℤ_idr}
use borrow.Author.Tests.{ltb-true, ltb-false}
use Rattle.laws.specs.Below.{sum, only, integers, ascending}
use Rattle.laws.specs.Tables.{word}
use Rattle.laws.proofs.Bools.{split}
use Rattle.laws.proofs.Sums.{sum_cong}
use Rattle.laws.proofs.Tables.{word_in_lem, word_past}
use Rattle.recount.specs.Recount.{stands}
use Rattle.model.specs.Job.{plain_sum}
use Rattle.model.specs.Tables.{JobTables, counted_of, job_of}
use Rattle.model.specs.Ranges.{job_in_range}
use Rattle.model.specs.Reconcile.{TallyRecord, record_in, counted_records, standing_records, serial_amount}
use Rattle.model.proofs.Standing.{standing_count}

module _ (ps : List ℕ) (g : ℕ) (f : ℕ → TallyRecord) where
  serial_both : (l m : List ℕ) → serial_amount ps g (map f (l ++ m)) ≡ serial_amount ps g (map f l) +ℤ serial_amount ps g (map f m)
  unfolding serial_amount
  serial_both [] m = sym (+ℤ_idl (serial_amount ps g (map f m)))
  serial_both (x ∷ l) m =
      ap (λ (z : ℤ). only integers (eqb (f x).grocer g) ((f x).count *ℤ pos (get_or ps (f x).place 0)) +ℤ z) (serial_both l m)
      ∙ sym (+ℤ_assoc (only integers (eqb (f x).grocer g) ((f x).count *ℤ pos (get_or ps (f x).place 0))) (serial_amount ps g (map f l)) (serial_amount ps g (map f m)))

  serial_one : (s : Bool) (n : ℕ) → serial_amount ps g (map f (cond s (n ∷ []) [])) ≡ only integers (s && eqb (f n).grocer g) ((f n).count *ℤ pos (get_or ps (f n).place 0))
  unfolding serial_amount only integers
  serial_one true n = +ℤ_idr (only integers (eqb (f n).grocer g) ((f n).count *ℤ pos (get_or ps (f n).place 0)))
  serial_one false n = refl

  -- The amount of the records at the places that pass s.
  pub serial_picked : (n : ℕ) (s : ℕ → Bool) →
      serial_amount ps g (map f (ascending n s)) ≡ sum integers n (λ t. only integers (s t && eqb (f t).grocer g) ((f t).count *ℤ pos (get_or ps (f t).place 0)))
  unfolding serial_amount ascending sum integers
  serial_picked zero s = refl
  serial_picked (suc n) s = serial_both (ascending n s) (cond (s n) (n ∷ []) []) ∙ ap₂ ◌+ℤ◌ (serial_picked n s) (serial_one (s n) n)

-- The desk's amount, place by place.
pub serial_standing : (ps : List ℕ) (g : ℕ) (rs : List TallyRecord) → serial_amount ps g (standing_records rs)
    ≡ sum integers (length rs) (λ t. only integers (stands (counted_records rs) t && eqb (record_in rs t).grocer g) ((record_in rs t).count *ℤ pos (get_or ps (record_in rs t).place 0)))
unfolding standing_records
serial_standing ps g rs = serial_picked ps g (record_in rs) (length rs) (stands (counted_records rs))

-- A list of records that are the tallies of a job, as its tables are lent.
pub record OwnRecords (f : JobTables) (rs : List TallyRecord) : Type 0 where
  pub size : length rs ≡ f.tallies
  pub grocer : (t : ℕ) → t < f.tallies → (record_in rs t).grocer ≡ get_or f.tally_grocer t 0
  pub place : (t : ℕ) → t < f.tallies → (record_in rs t).place ≡ get_or f.tally_offer t 0
  pub counted : (t : ℕ) → t < f.tallies → (record_in rs t).count ≡ get_or f.tally_count t (pos 0)
  pub bag : (t : ℕ) → t < f.tallies → (record_in rs t).bag ≡ get_or f.tally_bag t 0
  pub revision : (t : ℕ) → t < f.tallies → (record_in rs t).revision ≡ get_or f.tally_revision t 0

module _ (f : JobTables) (rs : List TallyRecord) (o : OwnRecords f rs) where
  -- Past the list all words are 0.
  word_is : (x : TallyRecord → ℕ) (l : List ℕ) → x (record { grocer = 0; tally_box = 0; place = 0; count = pos 0; bag = 0; revision = 0 }) ≡ 0 →
      ((t : ℕ) → t < f.tallies → x (record_in rs t) ≡ get_or l t 0) → (t : ℕ) → x (record_in rs t) ≡ word f.tallies l 0 t
  unfolding record_in
  word_is x l none h t =
      split (ltb t f.tallies)
      (λ e. h t (ltb-true t f.tallies e) ∙ sym (word_in_lem f.tallies l 0 t (ltb-true t f.tallies e)))
      (λ e. let past = ltb-false t f.tallies e in
      ap x (get_or-eq_default rs _ (omega (arith, o.size))) ∙ none ∙ sym (word_past f.tallies l 0 t past))

  -- The rule looks at the same in both.
  pub own_counted : counted_records rs ≡ counted_of f
  unfolding counted_records counted_of
  own_counted = λ i. record {
    size = o.size i;
    grocer = λ t. word_is (λ r. r.grocer) f.tally_grocer refl o.grocer t i;
    offer = λ t. word_is (λ r. r.place) f.tally_offer refl o.place t i;
    bag = λ t. word_is (λ r. r.bag) f.tally_bag refl o.bag t i;
    revision = λ t. word_is (λ r. r.revision) f.tally_revision refl o.revision t i;
  }

  -- The desk's amount is the plain sum.
  pub own_sum : job_in_range f ≡ true → (g : ℕ) → serial_amount f.price g (standing_records rs) ≡ plain_sum (job_of f) g
  own_sum ok g =
      serial_standing f.price g rs
      ∙ ap (λ (n : ℕ). sum integers n (λ t. only integers (stands (counted_records rs) t && eqb (record_in rs t).grocer g)
      ((record_in rs t).count *ℤ pos (get_or f.price (record_in rs t).place 0)))) o.size
      ∙ sum_cong integers f.tallies (λ t. only integers (stands (counted_records rs) t && eqb (record_in rs t).grocer g)
      ((record_in rs t).count *ℤ pos (get_or f.price (record_in rs t).place 0))) _
      (λ t l. rw (own_counted, o.grocer t l, o.counted t l, o.place t l))
      ∙ sym ((standing_count f ok).sums g)
