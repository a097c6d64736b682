-- Lists, starts, groups and places by owners and words are those of the job. Assumes nothing.
use mathlib.Core.Path.{◌≡◌, sym, ap, ap₂, ◌∙◌}
use mathlib.Core.Bool.{Bool, true, cond, ◌&&◌, ◌||◌}
use mathlib.Core.List.{List, []}
use Prim.Native.Nat.{ℕ, suc, ◌+◌, ◌-◌, ◌<◌, ◌≤◌}
use native.Mathlib.Omega.{arith}
use lib.Dec.{eqb, ltb, leb}
use lib.ListN.{length, get_or, replicate, length-replicate}
use borrow.Author.Tests.{leb-true, ltb-true}
use Rattle.laws.specs.Below.{naturals, sum, find}
use Rattle.laws.specs.Masks.{bit}
use Rattle.laws.specs.Tables.{tabulate, overwrite}
use Rattle.laws.proofs.Bools.{split, and_l, and_r}
use Rattle.laws.proofs.Below.{count_cong, find_cong}
use Rattle.laws.proofs.Masks.{bit_mask}
use Rattle.laws.proofs.Sums.{sum_cong}
use Rattle.laws.proofs.Tables.{get_d_tabulate, get_d_overwrite, length_overwrite, overwrite_cong, tabulate_cong, word_in_lem}
use Rattle.model.specs.Job.{shares, sharer_word, held_by, total_word}
use Rattle.model.specs.LocalLists.{local_grocers, local_grocer}
use Rattle.model.specs.PackedTotals.{totals_start, totals_length, total_place}
use Rattle.model.specs.Spans.{group_start, place_grocers, tally_place, in_span}
use Rattle.model.specs.Tables.{JobTables, job_of}
use Rattle.book_sort.specs.Sort.{at, begin, in_front}
use Rattle.book_keys.specs.Keys.{class_of, number_in, PlacesIn}
use Rattle.book_places.specs.Lists.{local_list, held_of}
use Rattle.book_places.specs.Spots.{class_by, list_by, total_by, count_by, start_by, spot_by, group_by, place_by, put_at, CountIn, BoxIn}
use Rattle.model.proofs.Range.{InRange}
use Rattle.model.proofs.Spans.{local_count, tally_at}
use Rattle.book_sort.proofs.Extra.{chained_at, find_le}
use Rattle.book_places.proofs.Modelled.{list_cong, list_le, list_in, shares_held, held_word}
use Rattle.book_places.proofs.Groups.{groups_are}

-- ---- Words in front of a table

pub at_front : (l rest : List ℕ) (i : ℕ) → i < length l → at (in_front l rest) i ≡ at l i
unfolding in_front
at_front l rest i h = get_d_overwrite (length l) (at l) rest i 0 h

length_front : (l rest : List ℕ) → length l ≤ length rest → length (in_front l rest) ≡ length rest
unfolding in_front
length_front l rest h = length_overwrite (length l) (at l) rest h

pub list_below : (k m : ℕ) (owners words : List ℕ) (b i : ℕ) → i < length (list_by k m owners words b) → at (list_by k m owners words b) i < m
unfolding list_by
list_below k m owners words b i h = list_in k m (at owners) (λ x. bit b (at words x)) b i h

-- The list in front of a table is put as it is itself.
pub put_front : (l list rest old : List ℕ) (start : ℕ) → list ≡ in_front l rest → put_at list (length l) start old ≡ put_at l (length l) start old
unfolding put_at in_span
put_front l list rest old start e =
    tabulate_cong (length old) _ _ (λ i _. within i)
  where
    within : (i : ℕ) → cond (leb start i && ltb i (start + length l)) (at list (i - start)) (at old i) ≡ cond (leb start i && ltb i (start + length l)) (at l (i - start)) (at old i)
    within i =
        split (leb start i && ltb i (start + length l))
        (λ q. let a = leb-true start i (and_l (leb start i) (ltb i (start + length l)) q) in
        let z = ltb-true i (start + length l) (and_r (leb start i) (ltb i (start + length l)) q) in
        ap (λ (v : ℕ). cond (leb start i && ltb i (start + length l)) v (at old i)) (ap (λ (s : List ℕ). at s (i - start)) e ∙ at_front l rest (i - start) (omega arith)))
        (λ q. rw q)

-- The local number in the list in front of a table is that in the list itself.
number_front : (l list rest : List ℕ) (n x : ℕ) → list ≡ in_front l rest → n ≡ length l → number_in list n x ≡ number_in l (length l) x
unfolding number_in
number_front l list rest n x e en =
    ap (λ (m : ℕ). find m (λ i. eqb (at list i) x)) en
    ∙ find_cong (length l) (λ i. eqb (at list i) x) (λ i. eqb (at l i) x) (λ i h. ap (λ (v : ℕ). eqb v x) (ap (λ (s : List ℕ). at s i) e ∙ at_front l rest i h))

-- The places by the local numbers of the list that was put in front of a table.
pub spot_is : (k m : ℕ) (owners words : List ℕ) (b n : ℕ) (boxes items list rest numbers old : List ℕ) (l start : ℕ) → ((t : ℕ) → t < n → at items t < 500) →
    list ≡ in_front (list_by k m owners words b) rest → l ≡ length (list_by k m owners words b) → numbers ≡ tabulate 500 (number_in list l) → start ≡ start_by m owners words b →
    overwrite n (place_by boxes items numbers b start) old ≡ overwrite n (spot_by k m owners words b boxes items) old
unfolding place_by spot_by
spot_is k m owners words b n boxes items list rest numbers old l start small e el en es =
    overwrite_cong n _ _ old (λ i h.
    ap₂ (λ (x y : ℕ). cond (eqb (at boxes i) b) (x + y) 0) es
    (ap (λ (s : List ℕ). at s (at items i)) en ∙ get_d_tabulate 500 (number_in list l) (at items i) 0 (small i h) ∙ number_front (list_by k m owners words b) list rest l (at items i) e el))

-- What the local numbers are at most.
pub number_le : (list : List ℕ) (l : ℕ) (numbers : List ℕ) → l ≤ 500 → numbers ≡ tabulate 500 (number_in list l) → (x : ℕ) → x < 500 → at numbers x ≤ 500
unfolding number_in
number_le list l numbers h e x lx =
    omega (arith, ap (λ (s : List ℕ). at s x) e ∙ get_d_tabulate 500 (number_in list l) x 0 lx, find_le l (λ i. eqb (at list i) x))

-- A list of at most 255 grocers, in front of a table of 255 words.
pub list_few : (k m : ℕ) (owners words : List ℕ) (b : ℕ) → length (list_by k m owners words b) ≤ m
unfolding list_by
list_few k m owners words b = list_le k m (at owners) (λ x. bit b (at words x)) b

pub list_ready : (k m : ℕ) (owners words : List ℕ) (b : ℕ) (list : List ℕ) (l : ℕ) → m ≤ 255 → list ≡ in_front (list_by k m owners words b) (replicate 255 0) → l ≡ length (list_by k m owners words b) → PlacesIn list l
list_ready k m owners words b list l few e el = record {
  l_in = omega (arith, list_few k m owners words b);
  list_long = omega (
    arith,
    list_few k m owners words b,
    ap length e ∙ length_front (list_by k m owners words b) (replicate 255 0) (omega (arith, list_few k m owners words b, length-replicate {A = ℕ} 255 0)),
    length-replicate {A = ℕ} 255 0,
  );
  place_in = λ i h. omega (arith, ap (λ (s : List ℕ). at s i) e ∙ at_front (list_by k m owners words b) (replicate 255 0) i (omega arith), list_below k m owners words b i (omega arith));
}

-- What is asked for a box is asked for the start of it.
pub count_in : (k m b : ℕ) (owners words : List ℕ) → BoxIn k m b owners words → CountIn m owners words × (b ≤ 16)
count_in k m b owners words h = (
  record { m_in = omega (arith, h.m_in); owners_long = h.owners_in.owners_long; words_long = h.words_long; owner_in = λ g l. omega (arith, h.owners_in.owner_in g l, h.owners_in.k_in) },
  omega (arith, h.box_in, h.owners_in.k_in),
)

-- ---- Of a job

module _ (f : JobTables) (bare : f.tally_bag ≡ []) (r : InRange (job_of f)) (few : f.grocers ≤ 255) (words : List ℕ) (ew : words ≡ tabulate 255 (sharer_word (job_of f))) where
  boxes_in : f.boxes ≤ 16
  unfolding job_of
  boxes_in = r.boxes≤

  -- A bit of a word tells whether the box holds a tally of the grocer.
  word_shares : (b g : ℕ) → b < f.boxes → g < f.grocers → bit b (at words g) ≡ shares (job_of f) g b
  unfolding sharer_word
  word_shares b g lb lg =
      ap (λ (l : List ℕ). bit b (at l g)) ew
      ∙ ap (bit b) (get_d_tabulate 255 (sharer_word (job_of f)) g 0 (omega arith))
      ∙ bit_mask 16 b (shares (job_of f) g) (omega (arith, boxes_in))

  owner_is : (g : ℕ) → g < f.grocers → at f.grocer_owner g ≡ (job_of f).grocer_owner g
  unfolding job_of
  owner_is g l = sym (word_in_lem f.grocers f.grocer_owner 0 g l)

  -- The local list is that of the model.
  pub list_model : (b : ℕ) → b < f.boxes → list_by f.boxes f.grocers f.grocer_owner words b ≡ local_grocers (job_of f) b
  unfolding list_by local_list local_grocers total_word job_of
  list_model b lb =
      list_cong f.boxes f.grocers b (at f.grocer_owner) (job_of f).grocer_owner (λ x. bit b (at words x)) (λ g. shares (job_of f) g b) owner_is (λ g l. word_shares b g lb l)

  count_model : (b : ℕ) → b < f.boxes → count_by f.grocers f.grocer_owner words b ≡ length (local_grocers (job_of f) b)
  unfolding count_by total_by job_of
  count_model b lb =
      count_cong f.grocers (total_by f.grocer_owner words b) (λ g. eqb ((job_of f).grocer_owner g) b || shares (job_of f) g b)
      (λ g l. ap₂ (λ (o : ℕ) (u : Bool). eqb o b || u) (owner_is g l) (word_shares b g lb l))
      ∙ sym (local_count (job_of f) r b)

  -- The start of a box; of box K the packed length.
  pub start_model : (b : ℕ) → b ≤ f.boxes → start_by f.grocers f.grocer_owner words b ≡ totals_start (job_of f) b
  unfolding start_by totals_start
  start_model b lb = sum_cong naturals b (count_by f.grocers f.grocer_owner words) (λ c. length (local_grocers (job_of f) c)) (λ c l. count_model c (omega arith))

  pub length_model : start_by f.grocers f.grocer_owner words f.boxes ≡ totals_length (job_of f)
  unfolding totals_length job_of
  length_model = start_model f.boxes (omega arith)

  class_is : (b x : ℕ) → b < f.boxes → x < f.grocers →
      class_by f.boxes b f.grocer_owner words x ≡ class_of f.boxes b (at f.grocer_owner x) (held_of f.tally_grocer f.tally_box f.tallies b x)
  unfolding class_by
  class_is b x lb l = ap (class_of f.boxes b (at f.grocer_owner x)) (word_shares b x lb l ∙ shares_held f bare b lb x)

  -- Where a group begins.
  pub group_model : (b c : ℕ) → b < f.boxes → c ≤ f.boxes → group_by f.boxes f.grocers f.grocer_owner words b (suc c) ≡ group_start (job_of f) b (suc c)
  unfolding group_by
  group_model b c lb lc =
      ap (λ (n : ℕ). n + begin (class_by f.boxes b f.grocer_owner words) f.grocers (suc c)) (start_model b (omega arith))
      ∙ groups_are f bare b lb (class_by f.boxes b f.grocer_owner words) (λ x l. class_is b x lb l) c lc

  pub own_model : (b : ℕ) → b < f.boxes → group_by f.boxes f.grocers f.grocer_owner words b 0 ≡ group_start (job_of f) b 0
  unfolding group_by group_start begin sum naturals
  own_model b lb = ap (λ (n : ℕ). n + 0) (start_model b (omega arith)) ∙ nothing (totals_start (job_of f) b)
    where
      nothing : (n : ℕ) → n + 0 ≡ n
      nothing n = omega arith

  grocer_is : (i : ℕ) → i < f.tallies → (job_of f).tally_grocer i ≡ at f.tally_grocer i
  unfolding job_of
  grocer_is i li = word_in_lem f.tallies f.tally_grocer 0 i li

  -- The place of a tally that box b holds.
  pub spot_model : (b i : ℕ) → b < f.boxes → i < f.tallies → held_by (job_of f) i b ≡ true →
      spot_by f.boxes f.grocers f.grocer_owner words b f.tally_box f.tally_grocer i ≡ tally_place (job_of f) i
  unfolding spot_by number_in total_place local_grocer
  spot_model b i lb li e =
      let list = list_by f.boxes f.grocers f.grocer_owner words b in
      ap (λ (t : Bool). cond t (start_by f.grocers f.grocer_owner words b + number_in list (length list) (at f.tally_grocer i)) 0)
      (sym (held_word f bare b lb i li) ∙ e)
      ∙ ap₂ (λ (n : ℕ) (l : List ℕ). n + number_in l (length l) (at f.tally_grocer i)) (start_model b (omega arith)) (list_model b lb)
      ∙ ap (λ (g : ℕ). total_place (job_of f) b g) (sym (grocer_is i li))
      ∙ sym (tally_at (job_of f) r i b e)

  -- The grocer of each place of a box.
  pub grocer_model : (b i : ℕ) → b < f.boxes → i < length (local_grocers (job_of f) b) → get_or (place_grocers (job_of f)) (totals_start (job_of f) b + i) 0 ≡ get_or (local_grocers (job_of f) b) i 0
  unfolding place_grocers totals_start job_of
  grocer_model b i lb li = chained_at f.boxes (local_grocers (job_of f)) b i lb li
