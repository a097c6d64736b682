-- Tables that hold what one file says hold one job, whatever stands past their needed lengths. Assumes nothing.
use mathlib.Core.Path.{◌≡◌, ap, ap₂, ◌∙◌, sym}
use mathlib.Core.List.{List}
use mathlib.Core.Bool.{cond, ◌&&◌}
use Prim.Native.Nat.{ℕ, zero, suc, ◌+◌, ◌*◌, ◌/◌, ◌%◌, ◌<◌}
use native.Mathlib.Omega.{arith}
use lib.Dec.{ltb}
use lib.ListN.{get_or}
use lib.IntN.{pos}
use borrow.Author.Tests.{ltb-true, ltb-false}
use Rattle.laws.specs.Tables.{word, cell}
use Rattle.laws.proofs.Bools.{split, and_l, and_r}
use Rattle.laws.proofs.Tables.{word_in_lem, word_past, cell_at}
use Rattle.recount.specs.Recount.{stands}
use Rattle.model.specs.PackedTotals.{spread}
use Rattle.model.specs.Tables.{counted_of, job_of, with_lists, evening_of, JobTables, nobody}
use Rattle.format.specs.Job.{Head, FileJob, price_on, place_of}
use Rattle.format.specs.Same.{SameWords}
use Rattle.printing.specs.Accepted.{Holds}

-- Tables that hold what one job says hold what another says that has the same words and places.
pub holds_same : (j k : FileJob) → SameWords j k → ((t : ℕ) → t < k.head.tallies → place_of j t ≡ place_of k t) → (f : JobTables) → Holds j f → Holds k f
holds_same j k s place f h = record {
  boxes = h.boxes ∙ ap (λ (x : Head). x.boxes) s.head;
  grocers = h.grocers ∙ ap (λ (x : Head). x.grocers) s.head;
  offers = h.offers ∙ ap (λ (x : Head). x.offers) s.head;
  tallies = h.tallies ∙ ap (λ (x : Head). x.tallies) s.head;
  lists = h.lists ∙ ap (λ (x : Head). x.lists) s.head;
  price = λ o l. h.price o (rw s.head l) ∙ (s.offer o l).price;
  list_price = λ q o m l.
      ap (λ (x : Head). get_or f.price (suc q * x.offers + o) 0) (sym s.head) ∙ h.list_price q o (rw s.head m) (rw s.head l) ∙ s.list_price q o m l;
  offer_owner = λ o l. h.offer_owner o (rw s.head l) ∙ (s.offer o l).owner;
  grocer_owner = λ g l. h.grocer_owner g (rw s.head l) ∙ s.grocer_owner g l;
  tally_grocer = λ t l. h.tally_grocer t (rw s.head l) ∙ (s.tally t l).grocer;
  tally_box = λ t l. h.tally_box t (rw s.head l) ∙ (s.tally t l).box;
  tally_count = λ t l. h.tally_count t (rw s.head l) ∙ (s.tally t l).count;
  tally_bag = λ t l. h.tally_bag t (rw s.head l) ∙ (s.tally t l).bag;
  tally_revision = λ t l. h.tally_revision t (rw s.head l) ∙ (s.tally t l).revision;
  tally_offer = λ t l. h.tally_offer t (rw s.head l) ∙ place t l;
}

-- The price of an offer on each list, as tables that hold a job have it: list after list.
module _ (j : FileJob) (f : JobTables) (h : Holds j f) where
  pub price_held : (q o : ℕ) → q < suc j.head.lists → o < j.head.offers → get_or f.price (q * f.offers + o) 0 ≡ price_on j.offer j.list_price q o
  unfolding price_on job_of
  price_held zero o m l =
      ap (λ (k : ℕ). get_or f.price k 0) (omega arith) ∙ sym (word_in_lem f.offers f.price 0 o (omega (arith, h.offers))) ∙ h.price o l
  price_held (suc q) o m l = ap (λ (n : ℕ). get_or f.price (suc q * n + o) 0) h.offers ∙ h.list_price q o (omega arith) l

  cell_held : (q o : ℕ) → q < suc j.head.lists → o < j.head.offers → cell (suc f.lists) f.offers f.price 0 q o ≡ price_on j.offer j.list_price q o
  cell_held q o m l = cell_at (suc f.lists) f.offers f.price 0 q o (omega (arith, h.lists)) (omega (arith, h.offers)) ∙ price_held q o m l

-- Two tables with the same words as far as they are needed.
word_same : {A : Type 0} (n n' : ℕ) (l l' : List A) (z : A) → n ≡ n' → ((i : ℕ) → i < n → word n l z i ≡ word n' l' z i) → (i : ℕ) → word n l z i ≡ word n' l' z i
word_same n n' l l' z e h i =
    split (ltb i n)
    (λ q. h i (ltb-true i n q))
    (λ q. let b = ltb-false i n q in word_past n l z i b ∙ sym (word_past n' l' z i (omega (arith, b, e))))

module _ (j : FileJob) (f f' : JobTables) (h : Holds j f) (h' : Holds j f') where
  -- The five numbers,
  lists_same : f.lists ≡ f'.lists
  lists_same = h.lists ∙ sym h'.lists

  offers_same : f.offers ≡ f'.offers
  offers_same = h.offers ∙ sym h'.offers

  grocers_same : f.grocers ≡ f'.grocers
  grocers_same = h.grocers ∙ sym h'.grocers

  tallies_same : f.tallies ≡ f'.tallies
  tallies_same = h.tallies ∙ sym h'.tallies

  offer_in : (o : ℕ) → o < f.offers → o < j.head.offers
  offer_in o l = omega (arith, l, h.offers)

  grocer_in : (g : ℕ) → g < f.grocers → g < j.head.grocers
  grocer_in g l = omega (arith, l, h.grocers)

  tally_in : (t : ℕ) → t < f.tallies → t < j.head.tallies
  tally_in t l = omega (arith, l, h.tallies)

  tally_in' : (t : ℕ) → t < f.tallies → t < f'.tallies
  tally_in' t l = omega (arith, l, tallies_same)

  -- the words that `Holds` names as the job has them,
  price_same : (o : ℕ) → (job_of f).price o ≡ (job_of f').price o
  unfolding job_of
  price_same =
      word_same f.offers f'.offers f.price f'.price 0 offers_same (λ o l. h.price o (offer_in o l) ∙ sym (h'.price o (offer_in o l)))

  owner_same : (o : ℕ) → (job_of f).offer_owner o ≡ (job_of f').offer_owner o
  unfolding job_of
  owner_same =
      word_same f.offers f'.offers f.offer_owner f'.offer_owner 0 offers_same (λ o l. h.offer_owner o (offer_in o l) ∙ sym (h'.offer_owner o (offer_in o l)))

  grocer_owner_same : (g : ℕ) → (job_of f).grocer_owner g ≡ (job_of f').grocer_owner g
  unfolding job_of
  grocer_owner_same =
      word_same f.grocers f'.grocers f.grocer_owner f'.grocer_owner 0 grocers_same
      (λ g l. h.grocer_owner g (grocer_in g l) ∙ sym (h'.grocer_owner g (grocer_in g l)))

  grocer_same : (t : ℕ) → (job_of f).tally_grocer t ≡ (job_of f').tally_grocer t
  unfolding job_of
  grocer_same =
      word_same f.tallies f'.tallies f.tally_grocer f'.tally_grocer 0 tallies_same
      (λ t l. h.tally_grocer t (tally_in t l) ∙ sym (h'.tally_grocer t (tally_in t l)))

  place_same : (t : ℕ) → (job_of f).tally_offer t ≡ (job_of f').tally_offer t
  unfolding job_of
  place_same =
      word_same f.tallies f'.tallies f.tally_offer f'.tally_offer 0 tallies_same (λ t l. h.tally_offer t (tally_in t l) ∙ sym (h'.tally_offer t (tally_in t l)))

  count_same : (t : ℕ) → (job_of f).tally_count t ≡ (job_of f').tally_count t
  unfolding job_of
  count_same =
      word_same f.tallies f'.tallies f.tally_count f'.tally_count (pos 0) tallies_same
      (λ t l. h.tally_count t (tally_in t l) ∙ sym (h'.tally_count t (tally_in t l)))

  -- those that it names as lent: a tally's box, bag and revision,
  lent_same : (w : JobTables → List ℕ) (v : ℕ → ℕ) → ((t : ℕ) → t < j.head.tallies → get_or (w f) t 0 ≡ v t) →
      ((t : ℕ) → t < j.head.tallies → get_or (w f') t 0 ≡ v t) → (t : ℕ) → word f.tallies (w f) 0 t ≡ word f'.tallies (w f') 0 t
  lent_same w v p p' =
      word_same f.tallies f'.tallies (w f) (w f') 0 tallies_same
      (λ t l. word_in_lem f.tallies (w f) 0 t l ∙ p t (tally_in t l) ∙ sym (p' t (tally_in t l)) ∙ sym (word_in_lem f'.tallies (w f') 0 t (tally_in' t l)))

  box_same : (t : ℕ) → word f.tallies f.tally_box 0 t ≡ word f'.tallies f'.tally_box 0 t
  box_same = lent_same (λ g. g.tally_box) (λ t. (j.tally t).box) h.tally_box h'.tally_box

  bag_same : (t : ℕ) → word f.tallies f.tally_bag 0 t ≡ word f'.tallies f'.tally_bag 0 t
  bag_same = lent_same (λ g. g.tally_bag) (λ t. (j.tally t).bag) h.tally_bag h'.tally_bag

  revision_same : (t : ℕ) → word f.tallies f.tally_revision 0 t ≡ word f'.tallies f'.tally_revision 0 t
  revision_same = lent_same (λ g. g.tally_revision) (λ t. (j.tally t).revision) h.tally_revision h'.tally_revision

  -- so what the recount rule looks at,
  counted_same : counted_of f ≡ counted_of f'
  unfolding counted_of job_of
  counted_same = λ i. record {
    size = tallies_same i;
    grocer = λ t. grocer_same t i;
    offer = λ t. place_same t i;
    bag = λ t. bag_same t i;
    revision = λ t. revision_same t i;
  }

  -- the whole job with the first price list,
  pub one_job_lem : job_of f ≡ job_of f'
  unfolding job_of
  one_job_lem = λ i. record {
    boxes = (h.boxes ∙ sym h'.boxes) i;
    grocers = grocers_same i;
    offers = offers_same i;
    tallies = tallies_same i;
    price = λ o. price_same o i;
    offer_owner = λ o. owner_same o i;
    grocer_owner = λ g. grocer_owner_same g i;
    tally_grocer = λ t. grocer_same t i;
    tally_box = λ t. cond (stands (counted_same i) t) (box_same t i) nobody;
    tally_offer = λ t. place_same t i;
    tally_count = λ t. count_same t i;
  }

  -- the prices of every list,
  list_at : (q o : ℕ) → q < suc j.head.lists → o < j.head.offers →
      cell (suc f.lists) f.offers f.price 0 q o ≡ cell (suc f'.lists) f'.offers f'.price 0 q o
  list_at q o m l = cell_held j f h q o m l ∙ sym (cell_held j f' h' q o m l)

  list_same : (q o : ℕ) → cell (suc f.lists) f.offers f.price 0 q o ≡ cell (suc f'.lists) f'.offers f'.price 0 q o
  unfolding cell
  list_same q o =
      split (ltb q (suc f.lists) && ltb o f.offers)
      (λ e. list_at q o (omega (arith, ltb-true q _ (and_l _ _ e), h.lists)) (omega (arith, ltb-true o _ (and_r (ltb q (suc f.lists)) _ e), h.offers)))
      (λ e. rw (e, sym (ap₂ (λ (a b : ℕ). ltb q (suc a) && ltb o b) lists_same offers_same) ∙ e))

  -- and the evening's job.
  pub same_evening : evening_of f ≡ evening_of f'
  unfolding with_lists
  same_evening =
      λ i. spread (suc (lists_same i)) (λ o. list_same (o % suc (lists_same i)) (o / suc (lists_same i)) i) (one_job_lem i)
