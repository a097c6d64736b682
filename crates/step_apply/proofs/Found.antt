-- The places and the span that `book_places` finds are those that a step asks for. Assumes nothing.
use mathlib.Core.Path.{◌≡◌, refl, sym, ap, ap₂, ◌∙◌, subst}
use mathlib.Core.Bool.{Bool, true, false, cond, ◌||◌}
use mathlib.Core.List.{List, []}
use Prim.Native.Nat.{ℕ, zero, suc, ◌+◌, ◌-◌, ◌*◌, ◌<◌, ◌≤◌}
use native.Mathlib.Omega.{arith}
use native.Mathlib.Numerals.{add-one}
use lib.Dec.{eqb, ltb, leb}
use lib.ListN.{length, get_or}
use borrow.Author.Tests.{eqb-true, lt-ltb, ltb-true, ltb-false, le-leb, leb-true}
use Rattle.laws.specs.Tables.{tabulate, overwrite}
use Rattle.laws.proofs.Bools.{split, and_true, and_l, and_r, cond_either, eqb_same}
use Rattle.laws.proofs.Tables.{get_d_tabulate, length_tabulate, get_d_overwrite, length_overwrite, word_in_lem}
use Rattle.model.specs.Job.{sharer_word, held_by}
use Rattle.model.specs.LocalLists.{local_grocers, local_grocer}
use Rattle.model.specs.PackedTotals.{totals_start, totals_length, total_place, has_total}
use Rattle.model.specs.Spans.{group_start, place_grocers, tally_place, in_span}
use Rattle.model.specs.Tables.{JobTables, job_of}
use Rattle.book_places.specs.Spots.{list_by, start_by, group_by, spot_by, put_at}
use Rattle.book_places.specs.Boxes.{AllPlaces}
use Rattle.step_apply.specs.Apply.{Spots, SpanOf, span_box, span_group}
use Rattle.model.proofs.LocalLists.{local_at}
use Rattle.model.proofs.PackedTotals.{place_within}
use Rattle.model.proofs.Tables.{own_has}
use Rattle.book_sort.proofs.Extra.{sum_suc, sum_mono}
use Rattle.model.proofs.Range.{InRange}
use Rattle.model.proofs.Spans.{tally_has, tally_at, group_from, group_to, own_from, own_to}
use Rattle.book_places.proofs.Joined.{list_model, start_model, group_model, own_model, spot_model, grocer_model, list_few, list_below}
use Rattle.book_places.proofs.Modelled.{held_word}

-- The box and the group of a span are there, of boxes that are.
pub spans_in : (f : JobTables) (kind a b : ℕ) → a < f.boxes → b < f.boxes → (span_box kind a b < f.boxes) × (span_group kind a b ≤ f.boxes)
unfolding span_box span_group
spans_in f kind a b la lb = (
  cond_either (λ (x : ℕ). x < f.boxes) (eqb kind 1 || eqb kind 6) b a lb la,
  cond_either (λ (x : ℕ). x ≤ f.boxes) (eqb kind 1 || eqb kind 6) (suc a) (cond (eqb kind 2 || eqb kind 5) 0 (suc b)) la
      (cond_either (λ (x : ℕ). x ≤ f.boxes) (eqb kind 2 || eqb kind 5) 0 (suc b) (omega arith) lb),
)

module _ (f : JobTables) (bare : f.tally_bag ≡ []) (r : InRange (job_of f)) (few : f.grocers ≤ 255) (words : List ℕ) (ew : words ≡ tabulate 255 (sharer_word (job_of f))) where
  abbrev spot : ℕ → ℕ → ℕ
  spot a = spot_by f.boxes f.grocers f.grocer_owner words a f.tally_box f.tally_grocer

  -- A held tally's place is within the packed tables, and there is a place 0 where there is a tally.
  held_within : (a i : ℕ) → a < f.boxes → i < f.tallies → held_by (job_of f) i a ≡ true → spot a i < totals_length (job_of f)
  unfolding job_of
  held_within a i la li e =
      let s = spot_model f bare r few words ew a i la li e in
      let p = tally_at (job_of f) r i a e in
      let w = place_within (job_of f) a ((job_of f).tally_grocer i) (tally_has (job_of f) r i a li e) in
      omega (arith, s, p, w)

  some_place : (i : ℕ) → i < f.tallies → 0 < totals_length (job_of f)
  unfolding job_of
  some_place i l =
      let g = (job_of f).tally_grocer i in
      let lg = r.grocer< i l in
      omega (arith, place_within (job_of f) ((job_of f).grocer_owner g) g (own_has (job_of f) r ((job_of f).grocer_owner g) g (r.grocerOwner< g lg) lg refl))

  -- A tally that is not held has place 0.
  away_spot : (a i : ℕ) → a < f.boxes → i < f.tallies → held_by (job_of f) i a ≡ false → spot a i ≡ 0
  unfolding spot_by
  away_spot a i la li e = rw (sym (held_word f bare a la i li) ∙ e)

  -- The places of box a's tallies, as `box_places` leaves them.
  pub spots_found : (a : ℕ) (old places : List ℕ) → a < f.boxes → f.tallies ≤ length old → places ≡ overwrite f.tallies (spot a) old → Spots f a places
  spots_found a old places la long e = record {
    long = omega (arith, ap length e ∙ length_overwrite f.tallies (spot a) old long);
    within = λ i l. omega (arith, at i l, split (held_by (job_of f) i a) (λ h. held_within a i la l h) (λ h. small i l h));
    each = λ i l h. at i l ∙ spot_model f bare r few words ew a i la l h;
  }
    where
      at : (i : ℕ) → i < f.tallies → get_or places i 0 ≡ spot a i
      at i l = ap (λ (s : List ℕ). get_or s i 0) e ∙ get_d_overwrite f.tallies (spot a) old i 0 l

      small : (i : ℕ) → i < f.tallies → held_by (job_of f) i a ≡ false → spot a i < totals_length (job_of f)
      small i l h = omega (arith, away_spot a i la l h, some_place i l)

  -- ---- The span of a step

  -- A group is within its box.
  group_inside : (b c : ℕ) → b < f.boxes → c ≤ f.boxes → (totals_start (job_of f) b ≤ group_start (job_of f) b c) × (group_start (job_of f) b (suc c) ≤ totals_start (job_of f) (suc b))
  unfolding job_of
  group_inside b zero lb lc = (own_from (job_of f) r b, own_to (job_of f) r b)
  group_inside b (suc c) lb lc = (group_from (job_of f) r b c, group_to (job_of f) r b c (omega arith))

  group_is : (b c : ℕ) → b < f.boxes → c ≤ suc f.boxes → group_by f.boxes f.grocers f.grocer_owner words b c ≡ group_start (job_of f) b c
  group_is b zero lb lc = own_model f bare r few words ew b lb
  group_is b (suc c) lb lc = group_model f bare r few words ew b c lb (omega arith)

  -- A place of a box that a list was put into.
  put_word : (list old : List ℕ) (start i : ℕ) → start ≤ i → i < start + length list → start + length list ≤ length old → get_or (put_at list (length list) start old) i 0 ≡ get_or list (i - start) 0
  unfolding put_at in_span
  put_word list old start i a b long =
      get_d_tabulate (length old) _ i 0 (omega arith) ∙ ap (λ (t : Bool). cond t (get_or list (i - start) 0) (get_or old i 0)) (and_true (le-leb start i a) (lt-ltb i (start + length list) b))

  start_next : (b : ℕ) → totals_start (job_of f) (suc b) ≡ totals_start (job_of f) b + length (local_grocers (job_of f) b)
  unfolding totals_start
  start_next b = sum_suc b (λ c. length (local_grocers (job_of f) c))

  -- Boxes are within the packed tables.
  box_within : (b : ℕ) → b < f.boxes → totals_start (job_of f) (suc b) ≤ totals_length (job_of f)
  unfolding totals_length totals_start job_of
  box_within b lb = sum_mono (suc b) f.boxes (λ c. length (local_grocers (job_of f) c)) lb

  -- The span of all totals of box a, as `box_places` answers it.
  pub box_found : (a from to : ℕ) → a < f.boxes → from ≡ start_by f.grocers f.grocer_owner words a →
      to ≡ start_by f.grocers f.grocer_owner words a + length (list_by f.boxes f.grocers f.grocer_owner words a) →
      (from ≡ totals_start (job_of f) a) × (to ≡ totals_start (job_of f) (suc a)) × (to ≤ totals_length (job_of f)) × (to ≤ from + 255)
  box_found a from to la ef et =
      let start = start_model f bare r few words ew a (omega arith) in
      let list = ap length (list_model f bare r few words ew a la) in
      let to_is : to ≡ totals_start (job_of f) (suc a) = omega (arith, start, list, start_next a) in
      (ef ∙ start, to_is, omega (arith, box_within a la), omega (arith, list_few f.boxes f.grocers f.grocer_owner words a))

  -- The places of its tallies are within it.
  held_inside : (a i : ℕ) → a < f.boxes → i < f.tallies → held_by (job_of f) i a ≡ true →
      (totals_start (job_of f) a ≤ tally_place (job_of f) i) × (tally_place (job_of f) i < totals_start (job_of f) (suc a))
  unfolding job_of total_place has_total
  held_inside a i la li e =
      let g = (job_of f).tally_grocer i in
      let at = tally_at (job_of f) r i a e in
      let number = (local_at (job_of f) a ((job_of f).tally_grocer i) (and_r (ltb a (job_of f).boxes) _ (tally_has (job_of f) r i a li e))).0 in
      (omega (arith, at), omega (arith, at, number, start_next a))

  -- A place within a box has its grocer there, where the box's list was put at its start.
  grocer_put : (b i : ℕ) (old : List ℕ) → b < f.boxes → totals_length (job_of f) ≤ length old → totals_start (job_of f) b ≤ i → i < totals_start (job_of f) (suc b) → totals_start (job_of f) (suc b) ≤ totals_length (job_of f) →
      (get_or (put_at (local_grocers (job_of f) b) (length (local_grocers (job_of f) b)) (totals_start (job_of f) b) old) i 0 ≡ get_or (place_grocers (job_of f)) i 0)
      × (get_or (put_at (local_grocers (job_of f) b) (length (local_grocers (job_of f) b)) (totals_start (job_of f) b) old) i 0 < f.grocers)
  grocer_put b i old lb long from to most =
      let j = job_of f in
      let list = local_grocers (job_of f) b in
      let start = totals_start (job_of f) b in
      let next = start_next b in
      let small : i - totals_start (job_of f) b < length (local_grocers (job_of f) b) = omega (arith, next) in
      let here : get_or (put_at (local_grocers (job_of f) b) (length (local_grocers (job_of f) b)) (totals_start (job_of f) b) old) i 0 ≡ get_or (local_grocers (job_of f) b) (i - totals_start (job_of f) b) 0 =
      put_word (local_grocers (job_of f) b) old (totals_start (job_of f) b) i from (omega (arith, next)) (omega (arith, next)) in
      let same : totals_start (job_of f) b + (i - totals_start (job_of f) b) ≡ i = omega arith in
      let below : get_or (local_grocers (job_of f) b) (i - totals_start (job_of f) b) 0 < f.grocers =
      subst (λ (l : List ℕ). i - totals_start (job_of f) b < length l → get_or l (i - totals_start (job_of f) b) 0 < f.grocers) (list_model f bare r few words ew b lb)
      (list_below f.boxes f.grocers f.grocer_owner words b (i - totals_start (job_of f) b)) small in
      (here ∙ sym (grocer_model f bare r few words ew b (i - totals_start (job_of f) b) lb small) ∙ ap (λ (x : ℕ). get_or (place_grocers (job_of f)) x 0) same, omega (arith, here, below))

  length_put : (list old : List ℕ) (l start : ℕ) → length (put_at list l start old) ≡ length old
  unfolding put_at
  length_put list old l start = length_tabulate (length old) _

  -- The span of a step of kind 4, 5 or 6, and its grocers.
  pub span_found : (kind a b from to : ℕ) (old grocers : List ℕ) → a < f.boxes → b < f.boxes → totals_length (job_of f) ≤ length old →
      from ≡ group_by f.boxes f.grocers f.grocer_owner words (span_box kind a b) (span_group kind a b) →
      to ≡ group_by f.boxes f.grocers f.grocer_owner words (span_box kind a b) (span_group kind a b + 1) →
      grocers ≡ put_at (list_by f.boxes f.grocers f.grocer_owner words (span_box kind a b)) (length (list_by f.boxes f.grocers f.grocer_owner words (span_box kind a b)))
      (start_by f.grocers f.grocer_owner words (span_box kind a b)) old →
      SpanOf (job_of f) kind a b from to grocers
  unfolding job_of in_span
  span_found kind a b from to old grocers la lb long ef et eg =
      let c = span_box kind a b in
      let d = span_group kind a b in
      let inside = group_inside (span_box kind a b) (span_group kind a b) box_in group_in in
      let within = box_within (span_box kind a b) box_in in
      let from_is : from ≡ group_start (job_of f) (span_box kind a b) (span_group kind a b) = ef ∙ group_is (span_box kind a b) (span_group kind a b) box_in (omega (arith, group_in)) in
      let to_is : to ≡ group_start (job_of f) (span_box kind a b) (suc (span_group kind a b)) =
      et ∙ ap (group_by f.boxes f.grocers f.grocer_owner words (span_box kind a b)) (add-one (span_group kind a b)) ∙ group_is (span_box kind a b) (suc (span_group kind a b)) box_in (omega (arith, group_in)) in
      let put : grocers ≡ put_at (local_grocers (job_of f) (span_box kind a b)) (length (local_grocers (job_of f) (span_box kind a b))) (totals_start (job_of f) (span_box kind a b)) old =
      eg ∙ ap₂ (λ (l : List ℕ) (s : ℕ). put_at l (length l) s old) (list_model f bare r few words ew (span_box kind a b) box_in) (start_model f bare r few words ew (span_box kind a b) (omega (arith, box_in))) in
      record {
        from_is = from_is;
        to_is = to_is;
        long = omega (arith, to_is, inside.1, within, ap length put ∙ length_put (local_grocers (job_of f) (span_box kind a b)) old (length (local_grocers (job_of f) (span_box kind a b))) (totals_start (job_of f) (span_box kind a b)));
        each = λ i h. let lo = leb-true from i (and_l (leb from i) (ltb i to) h) in
            let hi = ltb-true i to (and_r (leb from i) (ltb i to) h) in
            subst (λ (l : List ℕ). (get_or l i 0 ≡ get_or (place_grocers (job_of f)) i 0) × (get_or l i 0 < f.grocers)) (sym put)
            (grocer_put (span_box kind a b) i old box_in long (omega (arith, from_is, inside.0)) (omega (arith, to_is, inside.1)) within);
      }
    where
      box_in : span_box kind a b < f.boxes
      box_in = (spans_in f kind a b la lb).0

      group_in : span_group kind a b ≤ f.boxes
      group_in = (spans_in f kind a b la lb).1

  -- ---- What the steps of a run look up

  module _ (heads grocers places : List ℕ) (told : AllPlaces f.boxes f.grocers f.tallies f.grocer_owner words f.tally_box f.tally_grocer heads grocers places) where
    -- The place of a tally of a box,
    place-told : (i : ℕ) → i < f.tallies → get_or f.tally_box i 0 < f.boxes → get_or places i 0 ≡ tally_place (job_of f) i
    unfolding job_of has_total total_place
    place-told i li lb =
        let b = get_or f.tally_box i 0 in
        let held = held_word f bare (get_or f.tally_box i 0) lb i li ∙ eqb_same (get_or f.tally_box i 0) in
        let at = local_at (job_of f) (get_or f.tally_box i 0) ((job_of f).tally_grocer i) (and_r (ltb (get_or f.tally_box i 0) (job_of f).boxes) _ (tally_has (job_of f) r i (get_or f.tally_box i 0) li held)) in
        let list = list_model f bare r few words ew (get_or f.tally_box i 0) lb in
        told.places_are i (local_grocer (job_of f) (get_or f.tally_box i 0) ((job_of f).tally_grocer i)) li lb (omega (arith, at.0, ap length list))
        (ap (λ (s : List ℕ). get_or s (local_grocer (job_of f) (get_or f.tally_box i 0) ((job_of f).tally_grocer i)) 0) list ∙ at.1 ∙ word_in_lem f.tallies f.tally_grocer 0 i li)
        ∙ ap (λ (n : ℕ). n + local_grocer (job_of f) (get_or f.tally_box i 0) ((job_of f).tally_grocer i)) (start_model f bare r few words ew (get_or f.tally_box i 0) (omega arith))
        ∙ sym (tally_at (job_of f) r i (get_or f.tally_box i 0) held)

    -- and of every box's tallies.
    pub spots_told : f.tallies ≤ length places → (a : ℕ) → a < f.boxes → Spots f a places
    spots_told long a la = record {
      long = long;
      within = λ i l. split (ltb (get_or f.tally_box i 0) f.boxes)
          (λ q. let lb = ltb-true (get_or f.tally_box i 0) f.boxes q in
          let held = held_word f bare (get_or f.tally_box i 0) lb i l ∙ eqb_same (get_or f.tally_box i 0) in
          omega (arith, place-told i l lb, (held_inside (get_or f.tally_box i 0) i lb l held).1, box_within (get_or f.tally_box i 0) lb))
          (λ q. omega (arith, told.others_none i l (ltb-false (get_or f.tally_box i 0) f.boxes q), some_place i l));
      each = λ i l h. place-told i l (rw (sym (eqb-true (get_or f.tally_box i 0) a (sym (held_word f bare a la i l) ∙ h))) at la);
    }

    -- A place within a box has its grocer there.
    grocer_told : (b i : ℕ) → b < f.boxes → totals_start (job_of f) b ≤ i → i < totals_start (job_of f) (suc b) → (get_or grocers i 0 ≡ get_or (place_grocers (job_of f)) i 0) × (get_or grocers i 0 < f.grocers)
    grocer_told b i lb from to =
        let start = start_model f bare r few words ew b (omega arith) in
        let list = list_model f bare r few words ew b lb in
        let small : i - totals_start (job_of f) b < length (list_by f.boxes f.grocers f.grocer_owner words b) = omega (arith, start_next b, ap length list) in
        let same : start_by f.grocers f.grocer_owner words b + (i - totals_start (job_of f) b) ≡ i = omega (arith, start) in
        let here : get_or grocers i 0 ≡ get_or (list_by f.boxes f.grocers f.grocer_owner words b) (i - totals_start (job_of f) b) 0 =
        ap (λ (x : ℕ). get_or grocers x 0) (sym same) ∙ told.grocers_are b (i - totals_start (job_of f) b) lb small in
        let below = list_below f.boxes f.grocers f.grocer_owner words b (i - totals_start (job_of f) b) small in
        let back : totals_start (job_of f) b + (i - totals_start (job_of f) b) ≡ i = omega arith in (
          here ∙ ap (λ (l : List ℕ). get_or l (i - totals_start (job_of f) b) 0) list
              ∙ sym (grocer_model f bare r few words ew b (i - totals_start (job_of f) b) lb (omega (arith, start_next b)))
              ∙ ap (λ (x : ℕ). get_or (place_grocers (job_of f)) x 0) back,
          omega (arith, here, below),
        )

    -- The span of a step of kind 4, 5 or 6, from the starts of the groups.
    pub span_told : (kind a b : ℕ) → a < f.boxes → b < f.boxes → totals_length (job_of f) ≤ length grocers →
        SpanOf (job_of f) kind a b (get_or heads (span_box kind a b * 18 + span_group kind a b) 0) (get_or heads (span_box kind a b * 18 + span_group kind a b + 1) 0) grocers
    unfolding job_of in_span
    span_told kind a b la lb long =
        let box_in = (spans_in f kind a b la lb).0 in
        let group_in = (spans_in f kind a b la lb).1 in
        let inside = group_inside (span_box kind a b) (span_group kind a b) box_in group_in in
        let within = box_within (span_box kind a b) box_in in
        let from_is : get_or heads (span_box kind a b * 18 + span_group kind a b) 0 ≡ group_start (job_of f) (span_box kind a b) (span_group kind a b) =
        told.heads_are (span_box kind a b) (span_group kind a b) box_in (omega arith) ∙ group_is (span_box kind a b) (span_group kind a b) box_in (omega arith) in
        let to_is : get_or heads (span_box kind a b * 18 + span_group kind a b + 1) 0 ≡ group_start (job_of f) (span_box kind a b) (suc (span_group kind a b)) =
        ap (λ (x : ℕ). get_or heads x 0) (next (span_box kind a b * 18) (span_group kind a b))
        ∙ told.heads_are (span_box kind a b) (suc (span_group kind a b)) box_in (omega arith) ∙ group_is (span_box kind a b) (suc (span_group kind a b)) box_in (omega arith) in
        record {
          from_is = from_is;
          to_is = to_is;
          long = omega (arith, to_is, inside.1, within);
          each = λ i h. let lo = leb-true (get_or heads (span_box kind a b * 18 + span_group kind a b) 0) i (and_l (leb (get_or heads (span_box kind a b * 18 + span_group kind a b) 0) i) _ h) in
              let hi = ltb-true i (get_or heads (span_box kind a b * 18 + span_group kind a b + 1) 0) (and_r (leb (get_or heads (span_box kind a b * 18 + span_group kind a b) 0) i) _ h) in
              grocer_told (span_box kind a b) i box_in (omega (arith, from_is, inside.0)) (omega (arith, to_is, inside.1));
        }
      where
        next : (x d : ℕ) → x + d + 1 ≡ x + suc d
        next x d = omega arith
