-- The spans of packed totals, and what steps do to them. Assumes nothing.
use mathlib.Core.Path.{◌≡◌, refl, sym, ap, ap₂, ◌∙◌}
use mathlib.Core.Bool.{Bool, true, false, cond, ◌&&◌, ◌||◌, not}
use mathlib.Core.List.{List, ◌++◌}
use Prim.Native.Nat.{ℕ, zero, suc, ◌+◌, ◌<◌, ◌≤◌}
use native.Mathlib.Omega.{arith}
use lib.Count.{ones}
use lib.Dec.{eqb, ltb, leb}
use lib.IntN.{ℤ, pos, ◌+ℤ◌, +ℤ_idr}
use lib.ListN.{get_or, length, length-append, get_or-append}
use lib.Seq.{get_or-append-add}
use borrow.Author.Tests.{eqb-true, eqb-false, eq-eqb, ne_eqb, ltb-true, ltb-false, lt-ltb, le-ltb, le-leb, lt-leb}
use Rattle.laws.specs.Below.{naturals, integers, sum, only, any, count, ascending}
use Rattle.laws.specs.Masks.{without}
use Rattle.laws.specs.Tables.{overwrite}
use Rattle.laws.proofs.Bools.{split, same_test, and_true, and_l, and_r, and_false, and_one, eqb_same}
use Rattle.laws.proofs.Below.{count_lt, count_at, any_at, any_find}
use Rattle.laws.proofs.Ascending.{length-ascending, ascending_at}
use Rattle.laws.proofs.Sums.{sum_cong, sum_none, sum_within, sum_plus, sum_swap, sum_front, sum_pick, sum_ones, sum_le}
use Rattle.laws.proofs.Tables.{is_tabulate, get_d_overwrite, get_d_past, length_overwrite, overwrite_cong}
use Rattle.model.specs.Job.{Job, held_by, shares, sharer_word, price_word, total_word, amount}
use Rattle.model.specs.Steps.{products, received, effect, multiply_own, receive_prices, send_totals, add_own, receive_totals}
use Rattle.model.specs.LocalLists.{chained, local_grocers, local_grocer}
use Rattle.model.specs.PackedTotals.{has_total, totals_start, totals_length, total_place, total_rows, pack_totals, unpack_totals}
use Rattle.model.specs.Tables.{StateTables, view, store, state_lengths, totals_short}
use Rattle.model.specs.Spans.{group_start, place_grocers, tally_place, added_at, in_span, span_written, BySpans}
use Rattle.model.proofs.Range.{InRange, held_box}
use Rattle.model.proofs.LocalLists.{owned_or_shared, local_is, local_at, number_at}
use Rattle.model.proofs.PackedTotals.{spot, spot_has, spot_place, total_inside, pack_over, row_word, within}
use Rattle.model.proofs.Tables.{shared_has, own_has}
use Rattle.model.proofs.Words.{total_words_lem, sharer_ones}
use Rattle.model.proofs.LocalTotals.{word_has}
use Rattle.model.proofs.Lent.{totals_long}

-- ---- Lists one behind the other

length-chained : (n : ℕ) (f : ℕ → List ℕ) → length (chained n f) ≡ sum naturals n (λ c. length (f c))
unfolding chained sum naturals
length-chained zero f = refl
length-chained (suc n) f = length-append (chained n f) (f n) ∙ ap (λ (k : ℕ). k + length (f n)) (length-chained n f)

chain_at : (n : ℕ) (f : ℕ → List ℕ) (b r : ℕ) → b < n → r < length (f b) → get_or (chained n f) (sum naturals b (λ c. length (f c)) + r) 0 ≡ get_or (f b) r 0
unfolding chained sum naturals
chain_at zero f b r l h = absurd (omega arith)
chain_at (suc n) f b r l h =
    split (eqb b n)
    (λ e.
    rw (eqb-true b n e)
    (ap (λ (k : ℕ). get_or (chained n f ++ f n) (k + r) 0) (sym (length-chained n f)) ∙ get_or-append-add (chained n f) (f n) r 0))
    (λ e.
    let ne : b ≡ n → ⊥ = eqb-false b n e in
    get_or-append (chained n f) (f n) 0 (sum naturals b (λ c. length (f c)) + r) (omega (arith, length-chained n f, sum_within b n (λ c. length (f c)) (omega arith)))
    ∙ chain_at n f b r (omega arith) h)

sum_up : (c d : ℕ) (f : ℕ → ℕ) → c ≤ d → sum naturals c f ≤ sum naturals d f
sum_up c d f l =
    split (eqb c d)
    (λ e. rw (eqb-true c d e) (omega arith))
    (λ e. let ne : c ≡ d → ⊥ = eqb-false c d e in omega (arith, sum_within c d f (omega arith)))

-- ---- Groups of a box

module _ (j : Job) (a : ℕ) where
  abbrev own_of : ℕ → Bool
  own_of g = eqb (j.grocer_owner g) a

  -- One group behind the other.
  pub group_next : (b : ℕ) → group_start j a (suc b) + count j.grocers (total_word j a b) ≡ group_start j a (suc (suc b))
  unfolding group_start sum naturals
  group_next b = omega arith

  pub own_next : group_start j a 0 + count j.grocers own_of ≡ group_start j a 1
  unfolding group_start sum naturals
  own_next = omega arith

  group_up : (c d : ℕ) → c ≤ d → group_start j a (suc c) ≤ group_start j a (suc d)
  unfolding group_start
  group_up c d l = omega (arith, sum_up c d (λ d. count j.grocers (total_word j a d)) l)

  -- The groups are the totals of the box.
  others_long : length (chained j.boxes (λ c. ascending j.grocers (total_word j a c))) ≡ sum naturals j.boxes (λ d. count j.grocers (total_word j a d))
  others_long =
      length-chained j.boxes (λ c. ascending j.grocers (total_word j a c))
      ∙ sum_cong naturals j.boxes (λ c. length (ascending j.grocers (total_word j a c))) (λ d. count j.grocers (total_word j a d)) (λ c l. length-ascending j.grocers (total_word j a c))

  local_long : length (local_grocers j a) ≡ count j.grocers own_of + sum naturals j.boxes (λ d. count j.grocers (total_word j a d))
  unfolding local_grocers
  local_long =
      length-append (ascending j.grocers own_of) (chained j.boxes (λ c. ascending j.grocers (total_word j a c)))
      ∙ ap₂ ◌+◌ (length-ascending j.grocers own_of) others_long

  group_end : group_start j a (suc j.boxes) ≡ totals_start j (suc a)
  unfolding group_start totals_start sum naturals
  group_end = omega (arith, local_long)

  -- The place of an own grocer's total,
  own_place : (g : ℕ) → g < j.grocers → own_of g ≡ true → total_place j a g ≡ group_start j a 0 + count g own_of
  unfolding total_place group_start local_grocers
  own_place g l e =
      let k : count g own_of < length (ascending j.grocers own_of) = omega (arith, length-ascending j.grocers own_of, count_lt j.grocers own_of g l e) in
      let stands : get_or (local_grocers j a) (count g own_of) 0 ≡ g =
      get_or-append (ascending j.grocers own_of) (chained j.boxes (λ c. ascending j.grocers (total_word j a c))) 0 (count g own_of) k
      ∙ ascending_at j.grocers own_of g l e in
      ap (λ (n : ℕ). totals_start j a + n)
      (ap (local_grocer j a) (sym stands) ∙ (number_at j a (count g own_of) (omega (arith, local_long, length-ascending j.grocers own_of))).1)

  -- and of another box's.
  other_place : (b g : ℕ) → b < j.boxes → g < j.grocers → total_word j a b g ≡ true → total_place j a g ≡ group_start j a (suc b) + count g (total_word j a b)
  unfolding total_place group_start local_grocers
  other_place b g lb l e =
      let word = total_word j a in
      let before : sum naturals b (λ c. length (ascending j.grocers (total_word j a c))) ≡ sum naturals b (λ d. count j.grocers (total_word j a d)) =
      sum_cong naturals b (λ c. length (ascending j.grocers (total_word j a c))) (λ d. count j.grocers (total_word j a d)) (λ c l. length-ascending j.grocers (total_word j a c)) in
      let r : count g (total_word j a b) < count j.grocers (total_word j a b) = count_lt j.grocers (total_word j a b) g l e in
      let own : length (ascending j.grocers own_of) ≡ count j.grocers own_of = length-ascending j.grocers own_of in
      let at : ℕ = length (ascending j.grocers own_of) + (sum naturals b (λ c. length (ascending j.grocers (total_word j a c))) + count g (total_word j a b)) in
      let stands : get_or (local_grocers j a) (length (ascending j.grocers own_of) + (sum naturals b (λ c. length (ascending j.grocers (total_word j a c))) + count g (total_word j a b))) 0 ≡ g =
      get_or-append-add (ascending j.grocers own_of) (chained j.boxes (λ c. ascending j.grocers (total_word j a c))) (sum naturals b (λ c. length (ascending j.grocers (total_word j a c))) + count g (total_word j a b)) 0
      ∙ chain_at j.boxes (λ c. ascending j.grocers (total_word j a c)) b (count g (total_word j a b)) lb (omega (arith, length-ascending j.grocers (total_word j a b)))
      ∙ ascending_at j.grocers (total_word j a b) g l e in
      let number : local_grocer j a g ≡ length (ascending j.grocers own_of) + (sum naturals b (λ c. length (ascending j.grocers (total_word j a c))) + count g (total_word j a b)) =
      ap (local_grocer j a) (sym stands)
      ∙ (number_at j a (length (ascending j.grocers own_of) + (sum naturals b (λ c. length (ascending j.grocers (total_word j a c))) + count g (total_word j a b)))
      (omega (arith, local_long, sum_within b j.boxes (λ d. count j.grocers (total_word j a d)) lb))).1 in
      omega arith

-- ---- The span of a place

module _ (j : Job) (r : InRange j) where
  -- A grocer of another box of which box a has a total stands in its message to the owner.
  other_word : (a g : ℕ) → has_total j a g ≡ true → eqb (j.grocer_owner g) a ≡ false → total_word j a (j.grocer_owner g) g ≡ true
  unfolding total_word has_total owned_or_shared
  other_word a g h e =
      let o = and_r (ltb g j.grocers) _ (sym (local_is j a g) ∙ and_r (ltb a j.boxes) _ h) in
      let s : (ltb (j.grocer_owner g) j.boxes && shares j g a) ≡ true = rw e at o in
      and_true (eqb_same (j.grocer_owner g)) (and_true (ap not e) (and_r (ltb (j.grocer_owner g) j.boxes) _ s))

  -- Box a's own grocers are its first span.
  own_span : (a g : ℕ) → has_total j a g ≡ true → eqb (j.grocer_owner g) a ≡ in_span (group_start j a 0) (group_start j a 1) (total_place j a g)
  unfolding in_span
  own_span a g h =
      let lg : g < j.grocers = ltb-true g j.grocers (and_r (ltb a j.boxes) _ (total_inside j a g h)) in
      split (eqb (j.grocer_owner g) a)
      (λ e.
      let p = own_place j a g lg e in
      let c = count_lt j.grocers (λ g. eqb (j.grocer_owner g) a) g lg e in
      e ∙ sym (and_true (le-leb (group_start j a 0) (total_place j a g) (omega arith)) (lt-ltb (total_place j a g) (group_start j a 1) (omega (arith, own_next j a)))))
      (λ e.
      let w = other_word a g h e in
      let p = other_place j a (j.grocer_owner g) g (r.grocerOwner< g lg) lg w in
      e ∙ sym (ap (λ (t : Bool). leb (group_start j a 0) (total_place j a g) && t) (le-ltb (total_place j a g) (group_start j a 1) (omega (arith, group_up j a 0 (j.grocer_owner g) (omega arith))))
      ∙ and_false (leb (group_start j a 0) (total_place j a g))))

  -- Places in, before and behind a span.
  inside_span : (a b p : ℕ) → group_start j a (suc b) ≤ p → p < group_start j a (suc (suc b)) → in_span (group_start j a (suc b)) (group_start j a (suc (suc b))) p ≡ true
  unfolding in_span
  inside_span a b p h k = and_true (le-leb (group_start j a (suc b)) p h) (lt-ltb p (group_start j a (suc (suc b))) k)

  before_span : (b p a : ℕ) → p < group_start j a (suc b) → in_span (group_start j a (suc b)) (group_start j a (suc (suc b))) p ≡ false
  unfolding in_span
  before_span b p a h = rw (lt-leb (group_start j a (suc b)) p h)

  after_span : (b p a : ℕ) → group_start j a (suc (suc b)) ≤ p → in_span (group_start j a (suc b)) (group_start j a (suc (suc b))) p ≡ false
  unfolding in_span
  after_span b p a h = rw (le-ltb p (group_start j a (suc (suc b))) h) (and_false (leb (group_start j a (suc b)) p))

  no_word : (a b g : ℕ) → eqb (j.grocer_owner g) a ≡ true → total_word j a b g ≡ false
  unfolding total_word
  no_word a b g e = rw e (and_false (eqb (j.grocer_owner g) b))

  other_owner : (a b g : ℕ) → eqb (j.grocer_owner g) b ≡ false → total_word j a b g ≡ false
  unfolding total_word
  other_owner a b g e = rw e

  -- Those of box b are the span of its message to b.
  other_span : (a b g : ℕ) → b < j.boxes → has_total j a g ≡ true → total_word j a b g ≡ in_span (group_start j a (suc b)) (group_start j a (suc (suc b))) (total_place j a g)
  other_span a b g lb h =
      let lg : g < j.grocers = ltb-true g j.grocers (and_r (ltb a j.boxes) _ (total_inside j a g h)) in
      split (eqb (j.grocer_owner g) a)
      (λ e. no_word a b g e ∙ sym (before_span b (total_place j a g) a (
      let p = own_place j a g lg e in
      let c = count_lt j.grocers (λ g. eqb (j.grocer_owner g) a) g lg e in
      omega (arith, own_next j a, group_up j a 0 b (omega arith)))))
      (λ e.
      let w = other_word a g h e in
      let lo = r.grocerOwner< g lg in
      let p = other_place j a (j.grocer_owner g) g lo lg w in
      let c = count_lt j.grocers (total_word j a (j.grocer_owner g)) g lg w in
      let n = group_next j a (j.grocer_owner g) in
      let from : group_start j a (suc (j.grocer_owner g)) ≤ total_place j a g = omega arith in
      let to : total_place j a g < group_start j a (suc (suc (j.grocer_owner g))) = omega arith in
      split (eqb (j.grocer_owner g) b)
      (λ q. let same = eqb-true (j.grocer_owner g) b q in
      rw same at w ∙ sym (inside_span a b (total_place j a g) (rw same at from) (rw same at to)))
      (λ q. let ne : j.grocer_owner g ≡ b → ⊥ = eqb-false (j.grocer_owner g) b q in
      other_owner a b g q
      ∙ sym (split (ltb (j.grocer_owner g) b)
      (λ u. let k : j.grocer_owner g < b = ltb-true (j.grocer_owner g) b u in before_span b (total_place j a g) a (omega (arith, to, group_up j a (suc (j.grocer_owner g)) b (omega arith))))
      (λ u. let k : b ≤ j.grocer_owner g = ltb-false (j.grocer_owner g) b u in after_span b (total_place j a g) a (omega (arith, from, group_up j a (suc b) (j.grocer_owner g) (omega arith)))))))

  -- Totals of another box are in no span of box a.
  start_up : (c d : ℕ) → c ≤ d → totals_start j c ≤ totals_start j d
  unfolding totals_start
  start_up c d l = sum_up c d (λ c. length (local_grocers j c)) l

  place_box : (c g : ℕ) → has_total j c g ≡ true → (totals_start j c ≤ total_place j c g) × (total_place j c g < totals_start j (suc c))
  unfolding total_place has_total
  place_box c g h = let (l, e) = local_at j c g (and_r (ltb c j.boxes) _ h) in (omega arith, within j c (suc c) (local_grocer j c g) (omega arith) l)

  away : (a c g from to : ℕ) → has_total j c g ≡ true → eqb c a ≡ false → totals_start j a ≤ from → to ≤ totals_start j (suc a) → in_span from to (total_place j c g) ≡ false
  unfolding in_span
  away a c g from to h e lf lt =
      let ne : c ≡ a → ⊥ = eqb-false c a e in
      let (p, q) = place_box c g h in
      split (ltb c a)
      (λ u. let k : c < a = ltb-true c a u in rw (lt-leb from (total_place j c g) (omega (arith, start_up (suc c) a (omega arith)))))
      (λ u. let k : a ≤ c = ltb-false c a u in
      rw (le-ltb (total_place j c g) to (omega (arith, start_up (suc a) c (omega arith)))) (and_false (leb from (total_place j c g))))

  pub group_from : (a b : ℕ) → totals_start j a ≤ group_start j a (suc b)
  unfolding group_start
  group_from a b = omega arith

  pub group_to : (a b : ℕ) → b < j.boxes → group_start j a (suc (suc b)) ≤ totals_start j (suc a)
  group_to a b l = omega (arith, group_up j a (suc b) j.boxes (omega arith), group_end j a)

  pub own_to : (a : ℕ) → group_start j a 1 ≤ totals_start j (suc a)
  own_to a = omega (arith, group_up j a 0 j.boxes (omega arith), group_end j a)

  pub own_from : (a : ℕ) → totals_start j a ≤ group_start j a 0
  unfolding group_start
  own_from a = omega arith

  -- The places of a message, and of a box's own grocers.
  message_span : (a b c g : ℕ) → b < j.boxes → has_total j c g ≡ true →
      (eqb c a && total_word j a b g) ≡ in_span (group_start j a (suc b)) (group_start j a (suc (suc b))) (total_place j c g)
  message_span a b c g lb h =
      split (eqb c a)
      (λ e. let same = eqb-true c a e in rw (e, same) (other_span a b g lb (rw same at h)))
      (λ e. rw e (sym (away a c g (group_start j a (suc b)) (group_start j a (suc (suc b))) h e (group_from a b) (group_to a b lb))))

  box_span : (a c g : ℕ) → has_total j c g ≡ true → (eqb c a && eqb (j.grocer_owner g) a) ≡ in_span (group_start j a 0) (group_start j a 1) (total_place j c g)
  box_span a c g h =
      split (eqb c a)
      (λ e. let same = eqb-true c a e in rw (e, same) (own_span a g (rw same at h)))
      (λ e. rw e (sym (away a c g (group_start j a 0) (group_start j a 1) h e (own_from a) (own_to a))))

  -- Spans are within the table.
  pub span_within : (a b : ℕ) → a < j.boxes → b < j.boxes → group_start j a (suc (suc b)) ≤ totals_length j
  unfolding totals_length
  span_within a b la lb = omega (arith, group_to a b lb, start_up (suc a) j.boxes (omega arith))

  pub own_within : (a : ℕ) → a < j.boxes → group_start j a 1 ≤ totals_length j
  unfolding totals_length
  own_within a la = omega (arith, own_to a, start_up (suc a) j.boxes (omega arith))

-- ---- A packed table of which one span is written

span_past : (from to i : ℕ) → to ≤ i → in_span from to i ≡ false
unfolding in_span
span_past from to i l = rw (le-ltb i to l) (and_false (leb from i))

module _ (j : Job) (l : List ℤ) (long : totals_length j ≤ length l) where
  -- What is packed, told by the places.
  pub pack_places : (w : ℕ → ℕ → ℤ) (f : ℕ → ℤ) → ((c g : ℕ) → has_total j c g ≡ true → w c g ≡ f (total_place j c g)) → pack_totals j w l ≡ overwrite (totals_length j) f l
  unfolding totals_length
  pack_places w f h =
      pack_over j w l
      ∙ overwrite_cong (totals_length j) (λ i. get_or (total_rows j j.boxes w) i (pos 0)) f l (λ i k.
      let s = spot j j.boxes i k in
      let g = get_or (local_grocers j s.spot_box) s.number 0 in
      ap (λ (m : ℕ). get_or (total_rows j j.boxes w) m (pos 0)) s.place
      ∙ row_word j w j.boxes s.spot_box s.number s.box_in s.number_in_lem
      ∙ h s.spot_box (get_or (local_grocers j s.spot_box) s.number 0) (spot_has j s.spot_box s.number s.box_in s.number_in_lem)
      ∙ ap f (spot_place j s.spot_box s.number s.number_in_lem ∙ sym s.place))

  pack_span : (w : ℕ → ℕ → ℤ) (from to : ℕ) (f : ℕ → ℤ) → to ≤ totals_length j →
      ((c g : ℕ) → has_total j c g ≡ true → w c g ≡ cond (in_span from to (total_place j c g)) (f (total_place j c g)) (get_or l (total_place j c g) (pos 0))) →
      pack_totals j w l ≡ span_written from to f l
  unfolding span_written
  pack_span w from to f lt h =
      pack_places w (λ i. cond (in_span from to i) (f i) (get_or l i (pos 0))) h
      ∙ is_tabulate (overwrite (totals_length j) (λ i. cond (in_span from to i) (f i) (get_or l i (pos 0))) l) (length l) (λ i. cond (in_span from to i) (f i) (get_or l i (pos 0))) (pos 0)
      (length_overwrite (totals_length j) (λ i. cond (in_span from to i) (f i) (get_or l i (pos 0))) l long)
      (λ i k. split (ltb i (totals_length j))
      (λ e. get_d_overwrite (totals_length j) (λ i. cond (in_span from to i) (f i) (get_or l i (pos 0))) l i (pos 0) (ltb-true i (totals_length j) e))
      (λ e. let out : totals_length j ≤ i = ltb-false i (totals_length j) e in
      get_d_past (totals_length j) (λ i. cond (in_span from to i) (f i) (get_or l i (pos 0))) l i (pos 0) out ∙ sym (rw (past i out))))
    where
      past : (i : ℕ) → totals_length j ≤ i → in_span from to i ≡ false
      past i out = span_past from to i (omega arith)

-- ---- Places of tallies

module _ (j : Job) (r : InRange j) where
  -- Two totals of one box stand at one place just where they are of one grocer,
  place_same : (a g h : ℕ) → has_total j a g ≡ true → has_total j a h ≡ true → eqb (total_place j a g) (total_place j a h) ≡ eqb g h
  unfolding total_place has_total
  place_same a g h p q =
      same_test (eqb (total_place j a g) (total_place j a h)) (eqb g h)
      (λ e.
      let same : total_place j a g ≡ total_place j a h = eqb-true (total_place j a g) (total_place j a h) e in
      let number : local_grocer j a g ≡ local_grocer j a h = omega arith in
      eq-eqb g h (sym (local_at j a g (and_r (ltb a j.boxes) _ p)).1 ∙ ap (λ (k : ℕ). get_or (local_grocers j a) k 0) number ∙ (local_at j a h (and_r (ltb a j.boxes) _ q)).1))
      (λ e. let same = eqb-true g h e in eq-eqb (total_place j a g) (total_place j a h) (ap (total_place j a) same))

  -- and totals of two boxes at two.
  place_apart : (a c g h : ℕ) → has_total j a g ≡ true → has_total j c h ≡ true → eqb c a ≡ false → eqb (total_place j a g) (total_place j c h) ≡ false
  place_apart a c g h p q e =
      let ne : c ≡ a → ⊥ = eqb-false c a e in
      let (x, y) = place_box j r a g p in
      let (u, v) = place_box j r c h q in
      ne_eqb (total_place j a g) (total_place j c h) (λ z.
      split (ltb c a)
      (λ k. let m : c < a = ltb-true c a k in omega (arith, start_up j r (suc c) a (omega arith)))
      (λ k. let m : a ≤ c = ltb-false c a k in omega (arith, start_up j r (suc a) c (omega arith))))

  pub tally_has : (t a : ℕ) → t < j.tallies → held_by j t a ≡ true → has_total j a (j.tally_grocer t) ≡ true
  unfolding shares
  tally_has t a l e = shared_has j r a (j.tally_grocer t) (any_at j.tallies (λ s. held_by j s a && eqb (j.tally_grocer s) (j.tally_grocer t)) t l (and_true e (eqb_same (j.tally_grocer t))))

  pub tally_at : (t a : ℕ) → held_by j t a ≡ true → tally_place j t ≡ total_place j a (j.tally_grocer t)
  unfolding tally_place
  tally_at t a e = ap (λ (b : ℕ). total_place j b (j.tally_grocer t)) (held_box j t a e)

  module _ (know : ℕ → ℕ) (p : ℕ → Bool) where
    products_at : (a g : ℕ) → has_total j a g ≡ true → products j know p a g ≡ added_at j know p a (total_place j a g)
    unfolding products added_at
    products_at a g h =
        sum_cong integers j.tallies
        (λ t. only integers (held_by j t a && eqb (j.tally_grocer t) g && p (j.tally_offer t)) (amount j (know (j.tally_offer t)) t))
        (λ t. only integers (held_by j t a && eqb (tally_place j t) (total_place j a g) && p (j.tally_offer t)) (amount j (know (j.tally_offer t)) t))
        (λ t l. split (held_by j t a)
        (λ e. rw (tally_at t a e, place_same a (j.tally_grocer t) g (tally_has t a l e) h))
        (λ e. rw e))

    none_away : (a c g : ℕ) → has_total j c g ≡ true → eqb c a ≡ false → added_at j know p a (total_place j c g) ≡ pos 0
    unfolding added_at only integers
    none_away a c g h e =
        sum_none integers j.tallies (λ t. only integers (held_by j t a && eqb (tally_place j t) (total_place j c g) && p (j.tally_offer t)) (amount j (know (j.tally_offer t)) t))
        (λ t l. split (held_by j t a)
        (λ q. simp (q, tally_at t a q, place_apart a c (j.tally_grocer t) g (tally_has t a l q) h e))
        (λ q. rw q))

  -- The grocer of a place.
  place_grocer : (c g : ℕ) → has_total j c g ≡ true → get_or (place_grocers j) (total_place j c g) 0 ≡ g
  unfolding place_grocers total_place totals_start has_total
  place_grocer c g h =
      let (l, e) = local_at j c g (and_r (ltb c j.boxes) _ h) in
      chain_at j.boxes (local_grocers j) c (local_grocer j c g) (ltb-true c j.boxes (and_l (ltb c j.boxes) _ h)) l ∙ e

  -- A place of the table, with the box and the grocer of it.
  place_of : (i : ℕ) → i < totals_length j → (c : ℕ) × (has_total j c (get_or (place_grocers j) i 0) ≡ true) × (total_place j c (get_or (place_grocers j) i 0) ≡ i)
  unfolding totals_length
  place_of i l =
      let s = spot j j.boxes i l in
      let h = spot_has j s.spot_box s.number s.box_in s.number_in_lem in
      let p : total_place j s.spot_box (get_or (local_grocers j s.spot_box) s.number 0) ≡ i = spot_place j s.spot_box s.number s.number_in_lem ∙ sym s.place in
      let g : get_or (place_grocers j) i 0 ≡ get_or (local_grocers j s.spot_box) s.number 0 = ap (λ (k : ℕ). get_or (place_grocers j) k 0) (sym p) ∙ place_grocer s.spot_box (get_or (local_grocers j s.spot_box) s.number 0) h in
      (s.spot_box, rw g h, rw g p)

-- ---- What steps do to the packed tables

module _ (j : Job) (r : InRange j) (t : StateTables) (x : totals_short j (state_lengths t) ≡ false) where
  working_long_lem : totals_length j ≤ length t.working
  unfolding state_lengths
  working_long_lem = (totals_long j (state_lengths t) x).working

  transit_long_lem : totals_length j ≤ length t.total_transit
  unfolding state_lengths
  transit_long_lem = (totals_long j (state_lengths t) x).total_transit

  -- A total that the box has, where it stands.
  read_at : (l : List ℤ) (c g : ℕ) → has_total j c g ≡ true → unpack_totals j l c g ≡ get_or l (total_place j c g) (pos 0)
  unfolding unpack_totals
  read_at l c g h = rw h

  clear_message : (l : List ℤ) → totals_length j ≤ length l → (a b : ℕ) → a < j.boxes → b < j.boxes →
      pack_totals j (λ c g. cond (eqb c a && total_word j a b g) (pos 0) (unpack_totals j l c g)) l
      ≡ span_written (group_start j a (suc b)) (group_start j a (suc (suc b))) (λ i. pos 0) l
  clear_message l k a b la lb =
      pack_span j l k (λ c g. cond (eqb c a && total_word j a b g) (pos 0) (unpack_totals j l c g)) (group_start j a (suc b)) (group_start j a (suc (suc b))) (λ i. pos 0) (span_within j r a b la lb)
      (λ c g h. rw (message_span j r a b c g lb h, read_at l c g h))

  grown : (know : ℕ → ℕ) (p : ℕ → Bool) (a : ℕ) →
      pack_totals j (λ c g. cond (eqb c a) (unpack_totals j t.working a g +ℤ products j know p a g) (unpack_totals j t.working c g)) t.working
      ≡ overwrite (totals_length j) (λ i. get_or t.working i (pos 0) +ℤ added_at j know p a i) t.working
  grown know p a =
      pack_places j t.working working_long_lem
      (λ c g. cond (eqb c a) (unpack_totals j t.working a g +ℤ products j know p a g) (unpack_totals j t.working c g))
      (λ i. get_or t.working i (pos 0) +ℤ added_at j know p a i)
      (λ c g h. split (eqb c a)
      (λ e. let same = eqb-true c a e in
      let q : has_total j a g ≡ true = rw same at h in
      rw (e, same, read_at t.working a g q, products_at j r know p a g q))
      (λ e. rw (e, read_at t.working c g h, none_away j r know p a c g h e) (sym (+ℤ_idr (get_or t.working (total_place j c g) (pos 0))))))

  multiplied_is : (a b : ℕ) → a < j.boxes → (store j (effect j (view j t) multiply_own a b) t).working
      ≡ overwrite (totals_length j) (λ i. get_or t.working i (pos 0) +ℤ added_at j ((view j t).known a) (λ o. eqb (j.offer_owner o) a) a i) t.working
  unfolding store effect view
  multiplied_is a b la = grown ((view j t).known a) (λ o. eqb (j.offer_owner o) a) a

  received_is : (a b : ℕ) → a < j.boxes → (store j (effect j (view j t) receive_prices a b) t).working
      ≡ overwrite (totals_length j) (λ i. get_or t.working i (pos 0) +ℤ added_at j (received j (view j t) a b a) (price_word j b a) a i) t.working
  unfolding store effect view
  received_is a b la = grown (received j (view j t) a b a) (price_word j b a) a

  sent_working_lem : (a b : ℕ) → a < j.boxes → b < j.boxes → (store j (effect j (view j t) send_totals a b) t).working
      ≡ span_written (group_start j a (suc b)) (group_start j a (suc (suc b))) (λ i. pos 0) t.working
  unfolding store effect view
  sent_working_lem a b la lb = clear_message t.working working_long_lem a b la lb

  received_transit_lem : (a b : ℕ) → a < j.boxes → b < j.boxes → (store j (effect j (view j t) receive_totals a b) t).total_transit
      ≡ span_written (group_start j b (suc a)) (group_start j b (suc (suc a))) (λ i. pos 0) t.total_transit
  unfolding store effect view
  received_transit_lem a b la lb = clear_message t.total_transit transit_long_lem b a lb la

  sent_transit_lem : (a b : ℕ) → a < j.boxes → b < j.boxes → (store j (effect j (view j t) send_totals a b) t).total_transit
      ≡ span_written (group_start j a (suc b)) (group_start j a (suc (suc b))) (λ i. get_or t.working i (pos 0)) t.total_transit
  unfolding store effect view
  sent_transit_lem a b la lb =
      pack_span j t.total_transit transit_long_lem (λ c g. cond (eqb c a && total_word j a b g) (unpack_totals j t.working a g) (unpack_totals j t.total_transit c g))
      (group_start j a (suc b)) (group_start j a (suc (suc b))) (λ i. get_or t.working i (pos 0)) (span_within j r a b la lb)
      (λ c g h. rw (sym (message_span j r a b c g lb h), read_at t.total_transit c g h) (split (eqb c a)
      (λ e. let same = eqb-true c a e in rw (e, same, read_at t.working a g (rw same at h)))
      (λ e. rw e)))

  added_working_lem : (a b : ℕ) → a < j.boxes → (store j (effect j (view j t) add_own a b) t).working
      ≡ span_written (group_start j a 0) (group_start j a 1) (λ i. pos 0) t.working
  unfolding store effect view
  added_working_lem a b la =
      pack_span j t.working working_long_lem (λ c g. cond (eqb c a && eqb (j.grocer_owner g) a) (pos 0) (unpack_totals j t.working c g))
      (group_start j a 0) (group_start j a 1) (λ i. pos 0) (own_within j r a la)
      (λ c g h. rw (box_span j r a c g h, read_at t.working c g h))

  -- Statements.
  added_each_lem : (a b i : ℕ) → a < j.boxes → in_span (group_start j a 0) (group_start j a 1) i ≡ true →
      (effect j (view j t) add_own a b).statement (get_or (place_grocers j) i 0) ≡ (view j t).statement (get_or (place_grocers j) i 0) +ℤ get_or t.working i (pos 0)
  unfolding effect view in_span
  added_each_lem a b i la e =
      let lt : i < group_start j a 1 = ltb-true i (group_start j a 1) (and_r (leb (group_start j a 0) i) _ e) in
      let (c, h, p) = place_of j r i (omega (arith, own_within j r a la)) in
      let g = get_or (place_grocers j) i 0 in
      let own : (eqb c a && eqb (j.grocer_owner (get_or (place_grocers j) i 0)) a) ≡ true = box_span j r a c (get_or (place_grocers j) i 0) h ∙ rw p e in
      let same : c ≡ a = eqb-true c a (and_l (eqb c a) _ own) in
      let read : unpack_totals j t.working a (get_or (place_grocers j) i 0) ≡ get_or t.working i (pos 0) =
      ap (λ (b : ℕ). unpack_totals j t.working b (get_or (place_grocers j) i 0)) (sym same) ∙ read_at t.working c (get_or (place_grocers j) i 0) h ∙ ap (λ (k : ℕ). get_or t.working k (pos 0)) p in
      rw (and_r (eqb c a) _ own, read)

  received_each_lem : (a b i : ℕ) → a < j.boxes → b < j.boxes → in_span (group_start j b (suc a)) (group_start j b (suc (suc a))) i ≡ true →
      (effect j (view j t) receive_totals a b).statement (get_or (place_grocers j) i 0) ≡ (view j t).statement (get_or (place_grocers j) i 0) +ℤ get_or t.total_transit i (pos 0)
  unfolding effect view in_span
  received_each_lem a b i la lb e =
      let lt : i < group_start j b (suc (suc a)) = ltb-true i (group_start j b (suc (suc a))) (and_r (leb (group_start j b (suc a)) i) _ e) in
      let (c, h, p) = place_of j r i (omega (arith, span_within j r b a lb la)) in
      let word : (eqb c b && total_word j b a (get_or (place_grocers j) i 0)) ≡ true = message_span j r b a c (get_or (place_grocers j) i 0) la h ∙ rw p e in
      let same : c ≡ b = eqb-true c b (and_l (eqb c b) _ word) in
      let read : unpack_totals j t.total_transit b (get_or (place_grocers j) i 0) ≡ get_or t.total_transit i (pos 0) =
      ap (λ (b : ℕ). unpack_totals j t.total_transit b (get_or (place_grocers j) i 0)) (sym same) ∙ read_at t.total_transit c (get_or (place_grocers j) i 0) h ∙ ap (λ (k : ℕ). get_or t.total_transit k (pos 0)) p in
      rw (and_r (eqb c b) _ word, read)

  added_other_lem : (a b g : ℕ) → a < j.boxes → g < j.grocers → ((i : ℕ) → in_span (group_start j a 0) (group_start j a 1) i ≡ true → get_or (place_grocers j) i 0 ≡ g → ⊥) →
      (effect j (view j t) add_own a b).statement g ≡ (view j t).statement g
  unfolding effect view
  added_other_lem a b g la lg none =
      split (eqb (j.grocer_owner g) a)
      (λ e. let h = own_has j r a g la lg (eqb-true (j.grocer_owner g) a e) in absurd (none (total_place j a g) (sym (own_span j r a g h) ∙ e) (place_grocer j r a g h)))
      (λ e. rw e)

  received_other_lem : (a b g : ℕ) → a < j.boxes → b < j.boxes → g < j.grocers →
      ((i : ℕ) → in_span (group_start j b (suc a)) (group_start j b (suc (suc a))) i ≡ true → get_or (place_grocers j) i 0 ≡ g → ⊥) →
      (effect j (view j t) receive_totals a b).statement g ≡ (view j t).statement g
  unfolding effect view
  received_other_lem a b g la lb lg none =
      split (total_word j b a g)
      (λ e. let h = word_has j r b a g e in absurd (none (total_place j b g) (sym (other_span j r b a g la h) ∙ e) (place_grocer j r b g h)))
      (λ e. rw e)

-- ---- The packed length

module _ (j : Job) (r : InRange j) where
  only_one : only naturals true 1 ≡ 1
  unfolding only
  only_one = refl

  only_none : only naturals false 1 ≡ naturals.none
  unfolding only
  only_none = refl

  none_is : naturals.none ≡ 0
  unfolding naturals
  none_is = refl

  -- Where some number passes, one is counted at least.
  some_counted : (n : ℕ) (p : ℕ → Bool) → any n p ≡ true → 1 ≤ sum naturals n (λ i. only naturals (p i) 1)
  unfolding count
  some_counted n p e = let (i, l, h) = any_find n p e in omega (arith, count_at n p i l h)

  both_sums : (f g : ℕ → ℕ) → sum naturals j.boxes (λ b. f b + g b) ≡ sum naturals j.boxes f + sum naturals j.boxes g
  unfolding naturals
  both_sums f g = sum_plus naturals j.boxes f g

  -- Every grocer has one owner.
  owned_all : sum naturals j.boxes (λ b. count j.grocers (λ g. eqb (j.grocer_owner g) b)) ≡ j.grocers
  unfolding count
  owned_all =
      sum_swap naturals j.boxes j.grocers (λ b g. only naturals (eqb (j.grocer_owner g) b) 1)
      ∙ sum_cong naturals j.grocers (λ g. sum naturals j.boxes (λ b. only naturals (eqb (j.grocer_owner g) b) 1)) (λ g. 1)
      (λ g l. sum_cong naturals j.boxes (λ b. only naturals (eqb (j.grocer_owner g) b) 1) (λ b. only naturals (eqb (j.grocer_owner g) b && true) 1)
      (λ b k. ap (λ (t : Bool). only naturals t 1) (sym (and_one (eqb (j.grocer_owner g) b))))
      ∙ sum_pick naturals j.boxes (j.grocer_owner g) true 1 (r.grocerOwner< g l)
      ∙ only_one)
      ∙ sum_ones j.grocers

  length_is : totals_length j ≡ j.grocers + sum naturals j.grocers (λ g. ones (without (j.grocer_owner g) (sharer_word j g)))
  unfolding totals_length totals_start
  length_is =
      sum_cong naturals j.boxes (λ b. length (local_grocers j b)) (λ b. count j.grocers (λ g. eqb (j.grocer_owner g) b) + sum naturals j.boxes (λ d. count j.grocers (total_word j b d)))
      (λ b l. local_long j b)
      ∙ both_sums (λ b. count j.grocers (λ g. eqb (j.grocer_owner g) b)) (λ b. sum naturals j.boxes (λ d. count j.grocers (total_word j b d)))
      ∙ ap₂ ◌+◌ owned_all (total_words_lem j r ∙ sym (sum_cong naturals j.grocers (λ g. ones (without (j.grocer_owner g) (sharer_word j g)))
      (λ g. count j.boxes (λ b. not (eqb (j.grocer_owner g) b) && shares j g b)) (sharer_ones j r)))

  -- A part total has a tally.
  part_tally : (g b : ℕ) → only naturals (not (eqb (j.grocer_owner g) b) && shares j g b) 1 ≤ sum naturals j.tallies (λ t. only naturals (held_by j t b && eqb (j.tally_grocer t) g) 1)
  unfolding shares only naturals
  part_tally g b =
      split (not (eqb (j.grocer_owner g) b) && shares j g b)
      (λ e. rw e (some_counted j.tallies (λ t. held_by j t b && eqb (j.tally_grocer t) g) (and_r (not (eqb (j.grocer_owner g) b)) _ e)))
      (λ e. rw e (omega arith))

  parts_of : (g : ℕ) → count j.boxes (λ b. not (eqb (j.grocer_owner g) b) && shares j g b)
      ≤ sum naturals j.boxes (λ b. sum naturals j.tallies (λ t. only naturals (held_by j t b && eqb (j.tally_grocer t) g) 1))
  unfolding count
  parts_of g = sum_le j.boxes (λ b. only naturals (not (eqb (j.grocer_owner g) b) && shares j g b) 1) (λ b. sum naturals j.tallies (λ t. only naturals (held_by j t b && eqb (j.tally_grocer t) g) 1)) (λ b l. part_tally g b)

  -- A tally is of one box and one grocer.
  one_box_lem : (t g : ℕ) → sum naturals j.boxes (λ b. only naturals (held_by j t b && eqb (j.tally_grocer t) g) 1) ≤ only naturals (eqb (j.tally_grocer t) g && true) 1
  unfolding held_by
  one_box_lem t g =
      let same = sum_cong naturals j.boxes (λ b. only naturals (held_by j t b && eqb (j.tally_grocer t) g) 1) (λ b. only naturals (eqb (j.tally_box t) b && (eqb (j.tally_grocer t) g && true)) 1)
      (λ b l. ap (λ (u : Bool). only naturals u 1) (rw (lt-ltb b j.boxes l, and_one (eqb (j.tally_box t) b), and_one (eqb (j.tally_grocer t) g)))) in
      split (ltb (j.tally_box t) j.boxes)
      (λ e. omega (arith, same, sum_pick naturals j.boxes (j.tally_box t) (eqb (j.tally_grocer t) g && true) 1 (ltb-true (j.tally_box t) j.boxes e)))
      (λ e. let past : j.boxes ≤ j.tally_box t = ltb-false (j.tally_box t) j.boxes e in
      omega (
        arith,
        same,
        sum_none naturals j.boxes (λ b. only naturals (eqb (j.tally_box t) b && (eqb (j.tally_grocer t) g && true)) 1)
            (λ b l. ap (λ (u : Bool). only naturals (u && (eqb (j.tally_grocer t) g && true)) 1) (ne_eqb (j.tally_box t) b (λ z. omega arith)) ∙ only_none),
        none_is,
      ))

  one_tally : (t : ℕ) → t < j.tallies → sum naturals j.grocers (λ g. sum naturals j.boxes (λ b. only naturals (held_by j t b && eqb (j.tally_grocer t) g) 1)) ≤ 1
  one_tally t l =
      let inner : (g : ℕ) → sum naturals j.boxes (λ b. only naturals (held_by j t b && eqb (j.tally_grocer t) g) 1) ≤ only naturals (eqb (j.tally_grocer t) g && true) 1 = one_box_lem t in
      let whole = sum_le j.grocers (λ g. sum naturals j.boxes (λ b. only naturals (held_by j t b && eqb (j.tally_grocer t) g) 1)) (λ g. only naturals (eqb (j.tally_grocer t) g && true) 1) (λ g k. inner g) in
      omega (arith, sum_pick naturals j.grocers (j.tally_grocer t) true 1 (r.grocer< t l), only_one)

  -- So there are at most M + T words.
  pub length_most : totals_length j ≤ j.grocers + j.tallies
  length_most =
      let parts = sum_cong naturals j.grocers (λ g. ones (without (j.grocer_owner g) (sharer_word j g))) (λ g. count j.boxes (λ b. not (eqb (j.grocer_owner g) b) && shares j g b)) (sharer_ones j r) in
      let each = sum_le j.grocers (λ g. count j.boxes (λ b. not (eqb (j.grocer_owner g) b) && shares j g b))
      (λ g. sum naturals j.boxes (λ b. sum naturals j.tallies (λ t. only naturals (held_by j t b && eqb (j.tally_grocer t) g) 1)))
      (λ g l. parts_of g) in
      let turned = sum_front naturals j.grocers j.boxes j.tallies (λ g b t. only naturals (held_by j t b && eqb (j.tally_grocer t) g) 1) in
      let few = sum_le j.tallies (λ t. sum naturals j.grocers (λ g. sum naturals j.boxes (λ b. only naturals (held_by j t b && eqb (j.tally_grocer t) g) 1))) (λ t. 1) one_tally in
      omega (arith, length_is, parts, each, turned, few, sum_ones j.tallies)

-- How many totals a box has.
module _ (j : Job) (r : InRange j) (b : ℕ) where
  other_sum : (g : ℕ) → g < j.grocers → sum naturals j.boxes (λ d. only naturals (total_word j b d g) 1) ≡ only naturals (not (eqb (j.grocer_owner g) b) && shares j g b) 1
  unfolding total_word
  other_sum g l = sum_pick naturals j.boxes (j.grocer_owner g) (not (eqb (j.grocer_owner g) b) && shares j g b) 1 (r.grocerOwner< g l)

  both : (n : ℕ) (f g : ℕ → ℕ) → sum naturals n (λ i. f i + g i) ≡ sum naturals n f + sum naturals n g
  unfolding naturals
  both n f g = sum_plus naturals n f g

  one_or : (u v : Bool) → only naturals u 1 + only naturals (not u && v) 1 ≡ only naturals (u || v) 1
  unfolding only naturals
  one_or true v = refl
  one_or false true = refl
  one_or false false = refl

  pub local_count : length (local_grocers j b) ≡ count j.grocers (λ g. eqb (j.grocer_owner g) b || shares j g b)
  unfolding count
  local_count =
      local_long j b
      ∙ ap (λ (n : ℕ). count j.grocers (λ g. eqb (j.grocer_owner g) b) + n)
      (sum_swap naturals j.boxes j.grocers (λ d g. only naturals (total_word j b d g) 1)
      ∙ sum_cong naturals j.grocers (λ g. sum naturals j.boxes (λ d. only naturals (total_word j b d g) 1)) (λ g. only naturals (not (eqb (j.grocer_owner g) b) && shares j g b) 1) other_sum)
      ∙ sym (both j.grocers (λ g. only naturals (eqb (j.grocer_owner g) b) 1) (λ g. only naturals (not (eqb (j.grocer_owner g) b) && shares j g b) 1))
      ∙ sum_cong naturals j.grocers (λ g. only naturals (eqb (j.grocer_owner g) b) 1 + only naturals (not (eqb (j.grocer_owner g) b) && shares j g b) 1)
      (λ g. only naturals (eqb (j.grocer_owner g) b || shares j g b) 1) (λ g l. one_or (eqb (j.grocer_owner g) b) (shares j g b))

-- One place for each grocer of a span.
module _ (j : Job) (r : InRange j) where
  own_spot : (a i : ℕ) → a < j.boxes → in_span (group_start j a 0) (group_start j a 1) i ≡ true → total_place j a (get_or (place_grocers j) i 0) ≡ i
  unfolding in_span
  own_spot a i la e =
      let lt : i < group_start j a 1 = ltb-true i (group_start j a 1) (and_r (leb (group_start j a 0) i) _ e) in
      let (c, h, p) = place_of j r i (omega (arith, own_within j r a la)) in
      let own : (eqb c a && eqb (j.grocer_owner (get_or (place_grocers j) i 0)) a) ≡ true = box_span j r a c (get_or (place_grocers j) i 0) h ∙ rw p e in
      ap (λ (b : ℕ). total_place j b (get_or (place_grocers j) i 0)) (sym (eqb-true c a (and_l (eqb c a) _ own))) ∙ p

  message_spot : (a b i : ℕ) → a < j.boxes → b < j.boxes → in_span (group_start j a (suc b)) (group_start j a (suc (suc b))) i ≡ true → total_place j a (get_or (place_grocers j) i 0) ≡ i
  unfolding in_span
  message_spot a b i la lb e =
      let lt : i < group_start j a (suc (suc b)) = ltb-true i (group_start j a (suc (suc b))) (and_r (leb (group_start j a (suc b)) i) _ e) in
      let (c, h, p) = place_of j r i (omega (arith, span_within j r a b la lb)) in
      let word : (eqb c a && total_word j a b (get_or (place_grocers j) i 0)) ≡ true = message_span j r a b c (get_or (place_grocers j) i 0) lb h ∙ rw p e in
      ap (λ (b : ℕ). total_place j b (get_or (place_grocers j) i 0)) (sym (eqb-true c a (and_l (eqb c a) _ word))) ∙ p

  own_once_lem : (a i k : ℕ) → a < j.boxes → in_span (group_start j a 0) (group_start j a 1) i ≡ true → in_span (group_start j a 0) (group_start j a 1) k ≡ true →
      get_or (place_grocers j) i 0 ≡ get_or (place_grocers j) k 0 → i ≡ k
  own_once_lem a i k la e f q = sym (own_spot a i la e) ∙ ap (total_place j a) q ∙ own_spot a k la f

  message_once_lem : (a b i k : ℕ) → a < j.boxes → b < j.boxes → in_span (group_start j a (suc b)) (group_start j a (suc (suc b))) i ≡ true →
      in_span (group_start j a (suc b)) (group_start j a (suc (suc b))) k ≡ true → get_or (place_grocers j) i 0 ≡ get_or (place_grocers j) k 0 → i ≡ k
  message_once_lem a b i k la lb e f q = sym (message_spot a b i la lb e) ∙ ap (total_place j a) q ∙ message_spot a b k la lb f

-- What steps do to the packed tables, by spans.
pub by_spans : (j : Job) → InRange j → (t : StateTables) → totals_short j (state_lengths t) ≡ false → BySpans j t
by_spans j r t x = record {
  packed_length = length_is j r;
  most = length_most j r;
  box_length = local_count j r;
  message_length = group_next j;
  multiplied = multiplied_is j r t x;
  received_prices = received_is j r t x;
  sent_working = sent_working_lem j r t x;
  sent_transit = sent_transit_lem j r t x;
  added_working = added_working_lem j r t x;
  received_transit = received_transit_lem j r t x;
  added_each = added_each_lem j r t x;
  received_each = received_each_lem j r t x;
  own_once = own_once_lem j r;
  message_once = message_once_lem j r;
  added_other = added_other_lem j r t x;
  received_other = received_other_lem j r t x;
}
