-- The job in edited copies is the edited job, as a run sees it. Assumes nothing.
use Rattle.late_checks.specs.declared.Tables.{Tables}
use Rattle.late_checks.specs.declared.judge.Wanted.{Wanted}
use mathlib.Core.Path.{◌≡◌, refl, ap, ◌∙◌}
use mathlib.Core.Bool.{Bool, true, false, cond}
use mathlib.Core.List.{List, [], ◌∷◌}
use Prim.Native.Nat.{ℕ, suc, ◌/◌, ◌%◌, ◌<◌, ◌≤◌}
use native.Mathlib.Omega.{arith}
use lib.Dec.{ltb, leb}
use lib.IntN.{ℤ, pos, nat_abs}
use lib.ListN.{get_or, length}
use borrow.Author.Tests.{ltb-true, le-ltb}
use Rattle.laws.specs.Checks.{first_met}
use Rattle.laws.specs.Tables.{word, cell}
use Rattle.laws.proofs.Below.{all_cong}
use Rattle.laws.proofs.Bools.{split}
use Rattle.laws.proofs.Checks.{any_each}
use Rattle.recount.specs.Recount.{stands, counted_twice}
use Rattle.model.specs.Local.{job_refusals}
use Rattle.model.specs.PackedTotals.{spread}
use Rattle.model.specs.Ranges.{under, around, sizes_in_range, job_words_in_range, job_in_range}
use Rattle.model.specs.Tables.{JobTables, bag_tables, nobody, counted_of, job_of, with_lists, evening_of, job_lengths, job_short, bags_short}
use Rattle.model.proofs.Lent.{job_long}

word_alike : {A : Type 0} (t : ℕ) (a b : List A) (z : A) → ((i : ℕ) → i < t → get_or a i z ≡ get_or b i z) → (i : ℕ) → word t a z i ≡ word t b z i
unfolding word
word_alike t a b z e i = split (ltb i t) (λ q. rw q (e i (ltb-true i t q))) (λ q. rw q)

under_alike : (m t : ℕ) (a b : List ℕ) → ((i : ℕ) → i < t → get_or a i 0 ≡ get_or b i 0) → under m t a ≡ under m t b
unfolding under
under_alike m t a b e = all_cong t _ _ (λ i q. ap (λ (x : ℕ). ltb x m) (e i q))

around-alike : (m t : ℕ) (a b : List ℤ) → ((i : ℕ) → i < t → get_or a i (pos 0) ≡ get_or b i (pos 0)) → around m t a ≡ around m t b
unfolding around
around-alike m t a b e = all_cong t _ _ (λ i q. ap (λ (x : ℤ). leb (nat_abs x) m) (e i q))

-- The tables f with other columns of the tallies.
abbrev pub with_columns : JobTables → (g b o : List ℕ) (c : List ℤ) (s v : List ℕ) → JobTables
with_columns f g b o c s v = bag_tables f.boxes f.grocers f.offers f.tallies f.lists f.price f.offer_owner f.grocer_owner g b o c s v

-- Columns that hold those of f as far as they count.
pub record Agree (f : JobTables) (g b o : List ℕ) (c : List ℤ) (s v : List ℕ) : Type 0 where
  pub grocer : (i : ℕ) → i < f.tallies → get_or g i 0 ≡ get_or f.tally_grocer i 0
  pub box : (i : ℕ) → i < f.tallies → get_or b i 0 ≡ get_or f.tally_box i 0
  pub offer : (i : ℕ) → i < f.tallies → get_or o i 0 ≡ get_or f.tally_offer i 0
  pub count : (i : ℕ) → i < f.tallies → get_or c i (pos 0) ≡ get_or f.tally_count i (pos 0)
  pub bag : (i : ℕ) → i < f.tallies → get_or s i 0 ≡ get_or f.tally_bag i 0
  pub revision : (i : ℕ) → i < f.tallies → get_or v i 0 ≡ get_or f.tally_revision i 0

module _ (f : JobTables) (g b o : List ℕ) (c : List ℤ) (s v : List ℕ) (e : Agree f g b o c s v) where
  counted_alike : counted_of (with_columns f g b o c s v) ≡ counted_of f
  unfolding counted_of
  counted_alike = λ i. record {
    size = f.tallies;
    grocer = λ t. word_alike f.tallies g f.tally_grocer 0 e.grocer t i;
    offer = λ t. word_alike f.tallies o f.tally_offer 0 e.offer t i;
    bag = λ t. word_alike f.tallies s f.tally_bag 0 e.bag t i;
    revision = λ t. word_alike f.tallies v f.tally_revision 0 e.revision t i;
  }

  job_alike : job_of (with_columns f g b o c s v) ≡ job_of f
  unfolding job_of
  job_alike = λ i. record {
    boxes = f.boxes;
    grocers = f.grocers;
    offers = f.offers;
    tallies = f.tallies;
    price = word f.offers f.price 0;
    offer_owner = word f.offers f.offer_owner 0;
    grocer_owner = word f.grocers f.grocer_owner 0;
    tally_grocer = λ t. word_alike f.tallies g f.tally_grocer 0 e.grocer t i;
    tally_box = λ t. cond (stands (counted_alike i) t) (word_alike f.tallies b f.tally_box 0 e.box t i) nobody;
    tally_offer = λ t. word_alike f.tallies o f.tally_offer 0 e.offer t i;
    tally_count = λ t. word_alike f.tallies c f.tally_count (pos 0) e.count t i;
  }

  lists_alike : (q : ℕ) → with_lists q (with_columns f g b o c s v) ≡ with_lists q f
  unfolding with_lists
  lists_alike q = λ i. spread (suc q) (λ o. cell (suc q) f.offers f.price 0 (o % suc q) (o / suc q)) (job_alike i)

  pub evening_alike : evening_of (with_columns f g b o c s v) ≡ evening_of f
  evening_alike = lists_alike f.lists

  pub range_alike : job_in_range (with_columns f g b o c s v) ≡ job_in_range f
  unfolding job_in_range sizes_in_range job_words_in_range
  range_alike =
      rw (
        under_alike f.grocers f.tallies g f.tally_grocer e.grocer,
        under_alike f.boxes f.tallies b f.tally_box e.box,
        under_alike f.offers f.tallies o f.tally_offer e.offer,
        around-alike 99_999 f.tallies c f.tally_count e.count,
      )

  -- Of the conditions of a job 9 alone can be met where 20 and 21 are not.
  pub nine_alone : (r : ℕ) → r ≡ first_met (job_refusals (with_columns f g b o c s v)) → job_short (with_columns f g b o c s v) (job_lengths (with_columns f g b o c s v)) ≡ false →
      bags_short (with_columns f g b o c s v) (job_lengths (with_columns f g b o c s v)) ≡ false → job_in_range f ≡ true → r ≡ cond (counted_twice (counted_of f)) 9 0
  unfolding job_refusals first_met
  nine_alone r told whole bags range = told ∙ rw (whole, bags, range_alike ∙ range, counted_alike)

-- By the number: 9 is met or not.
pub met_nine : (b : Bool) (r : ℕ) → r ≡ cond b 9 0 → (r ≡ 0 → ⊥) → b ≡ true
met_nine true r e n = refl
met_nine false r e n = absurd (n e)

pub met_none : (b : Bool) (r : ℕ) → r ≡ cond b 9 0 → r ≡ 0 → b ≡ false
met_none true r e n = absurd (omega arith)
met_none false r e n = refl

-- The present tables f with t tallies in other columns: long enough where the columns are.
module _ (f : JobTables) (t : ℕ) (g b o : List ℕ) (c : List ℤ) (s v : List ℕ) where
  abbrev columned : JobTables
  columned = bag_tables f.boxes f.grocers f.offers t f.lists f.price f.offer_owner f.grocer_owner g b o c s v

  pub whole_with : job_short f (job_lengths f) ≡ false → t ≤ length g → t ≤ length b → t ≤ length o → t ≤ length c → job_short columned (job_lengths columned) ≡ false
  unfolding job_short job_lengths
  whole_with h eg eb eo ec =
      let l = job_long f (job_lengths f) h in
      any_each (_ ∷ _ ∷ _ ∷ _ ∷ _ ∷ _ ∷ _ ∷ []) (
        le-ltb _ _ l.price,
        (le-ltb _ _ l.offer_owner, (le-ltb _ _ l.grocer_owner, (le-ltb _ _ eg, (le-ltb _ _ eb, (le-ltb _ _ eo, (le-ltb _ _ ec, tt)))))),
      )

  pub bags_with : t ≤ length s → t ≤ length v → bags_short columned (job_lengths columned) ≡ false
  unfolding bags_short job_lengths
  bags_with es ev = rw (le-ltb (length s) t es, le-ltb (length v) t ev)

-- The present job, as its tables are lent.
abbrev pub present_of : Wanted → Tables → JobTables
present_of w t =
    bag_tables w.sizes.boxes w.sizes.grocers w.sizes.offers w.shape.present w.sizes.lists t.price.now t.offer_owner.now t.grocer_owner.now t.tally_grocer.now
    t.tally_box.now t.tally_offer.now t.tally_count.now t.tally_bag.now t.tally_revision.now
