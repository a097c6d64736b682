-- Packed totals: what is packed is unpacked again at the local grocers, and what is unpacked is packed again. Assumes nothing.
use mathlib.Core.Path.{◌≡◌, refl, sym, ap, ◌∙◌, subst}
use mathlib.Core.List.{List, [], ◌∷◌, ◌++◌, map}
use mathlib.Core.Bool.{true, false, cond, ◌&&◌}
use Prim.Native.Nat.{ℕ, zero, suc, ◌+◌, ◌-◌, ◌*◌, ◌/◌, ◌%◌, ◌<◌, ◌≤◌}
use native.Mathlib.Omega.{arith}
use lib.ListN.{get_or, length, drop, take, length-append, length-map, get_or-append, get_or-eq_default}
use lib.Seq.{get_or-append-add, drop_at, get_or-take}
use lib.Dec.{eqb, ltb, leb}
use lib.IntN.{ℤ, pos, nat_abs}
use borrow.Author.Tests.{eqb-true, eqb-false, ltb-true, ltb-false, lt-ltb, le-leb, leb-true}
use Rattle.laws.specs.Below.{naturals, sum}
use Rattle.laws.specs.Tables.{overwrite, recell}
use Rattle.laws.proofs.Bools.{split, same_test, and_true, and_l, and_r}
use Rattle.laws.proofs.Below.{all_at, all_of_lem}
use Rattle.laws.proofs.Sums.{sum_within}
use Rattle.laws.proofs.Tables.{is_tabulate, get_d_recell, get_d_overwrite, cell_in, overwrite_cong, overwrite_same, long_overwrite, overwrite_take}
use Rattle.model.specs.Job.{Job}
use Rattle.model.specs.LocalLists.{local_grocers, local_grocer}
use Rattle.model.specs.PackedTotals.{has_total, totals_start, totals_length, total_place, total_rows, pack_totals, unpack_totals}
use Rattle.model.specs.Ranges.{around}
use Rattle.model.proofs.LocalLists.{owned_or_shared, local_is, local_at, number_at}

get_d_mapped : (w : ℕ → ℤ) (l : List ℕ) (i : ℕ) → i < length l → get_or (map w l) i (pos 0) ≡ w (get_or l i 0)
get_d_mapped w [] i h = absurd (omega arith)
get_d_mapped w (x ∷ xs) zero h = refl
get_d_mapped w (x ∷ xs) (suc i) h = get_d_mapped w xs i (omega arith)

-- A place of the packed table is one of a box and of one of its local grocers.
pub record Spot (j : Job) (n i : ℕ) : Type 0 where
  pub spot_box : ℕ
  pub number : ℕ
  pub box_in : spot_box < n
  pub number_in_lem : number < length (local_grocers j spot_box)
  pub place : i ≡ totals_start j spot_box + number

module _ (j : Job) where
  -- Every place before box n has its box and local grocer.
  pub spot : (n i : ℕ) → i < totals_start j n → Spot j n i
  unfolding totals_start sum naturals
  spot zero i l = absurd (omega arith)
  spot (suc n) i l =
      split (ltb i (totals_start j n))
      (λ q. let s = spot n i (ltb-true i (totals_start j n) q) in
      record { spot_box = s.spot_box; number = s.number; box_in = omega (arith, s.box_in); number_in_lem = s.number_in_lem; place = s.place })
      (λ q. let k : totals_start j n ≤ i = ltb-false i (totals_start j n) q in
      record { spot_box = n; number = i - totals_start j n; box_in = omega arith; number_in_lem = omega arith; place = omega arith })

  -- A place of box b is within the table.
  pub within : (b n i : ℕ) → b < n → i < length (local_grocers j b) → totals_start j b + i < totals_start j n
  unfolding totals_start
  within b n i l h = omega (arith, sum_within b n (λ c. length (local_grocers j c)) l)

  pub place_within : (b g : ℕ) → has_total j b g ≡ true → total_place j b g < totals_length j
  unfolding has_total total_place totals_length
  place_within b g h =
      within b j.boxes (local_grocer j b g) (ltb-true b j.boxes (and_l (ltb b j.boxes) _ h)) (local_at j b g (and_r (ltb b j.boxes) _ h)).0

  -- A total is of a box and a grocer of the job.
  pub total_inside : (b g : ℕ) → has_total j b g ≡ true → (ltb b j.boxes && ltb g j.grocers) ≡ true
  unfolding has_total owned_or_shared
  total_inside b g h =
      and_true (and_l (ltb b j.boxes) _ h) (and_l (ltb g j.grocers) _ (sym (local_is j b g) ∙ and_r (ltb b j.boxes) _ h))

  -- The grocer at a place of box b is one that it has a total of, at this place.
  pub spot_has : (b i : ℕ) → b < j.boxes → i < length (local_grocers j b) → has_total j b (get_or (local_grocers j b) i 0) ≡ true
  unfolding has_total
  spot_has b i lb li = and_true (lt-ltb b j.boxes lb) (number_at j b i li).0

  pub spot_place : (b i : ℕ) → i < length (local_grocers j b) → total_place j b (get_or (local_grocers j b) i 0) ≡ totals_start j b + i
  unfolding total_place
  spot_place b i li = ap (λ (k : ℕ). totals_start j b + k) (number_at j b i li).1

  rows_length : (w : ℕ → ℕ → ℤ) (n : ℕ) → length (total_rows j n w) ≡ totals_start j n
  unfolding total_rows totals_start sum naturals
  rows_length w zero = refl
  rows_length w (suc n) = length-append (total_rows j n w) (map (w n) (local_grocers j n)) ∙ omega (arith, rows_length w n, length-map (local_grocers j n) (w n))

  module _ (w : ℕ → ℕ → ℤ) where
    -- Word i of box b.
    pub row_word : (n b i : ℕ) → b < n → i < length (local_grocers j b) → get_or (total_rows j n w) (totals_start j b + i) (pos 0) ≡ w b (get_or (local_grocers j b) i 0)
    unfolding total_rows totals_start sum naturals
    row_word zero b i l h = absurd (omega arith)
    row_word (suc n) b i l h =
        split (eqb b n)
        (λ e.
        rw (eqb-true b n e)
        (ap (λ (k : ℕ). get_or (total_rows j n w ++ map (w n) (local_grocers j n)) (k + i) (pos 0)) (sym (rows_length w n))
        ∙ get_or-append-add (total_rows j n w) (map (w n) (local_grocers j n)) i (pos 0)
        ∙ get_d_mapped (w n) (local_grocers j n) i (rw (eqb-true b n e) at h)))
        (λ e.
        let ne : b ≡ n → ⊥ = eqb-false b n e in
        get_or-append (total_rows j n w) (map (w n) (local_grocers j n)) (pos 0) (totals_start j b + i)
        (omega (arith, rows_length w n, sum_within b n (λ c. length (local_grocers j c)) (omega arith)))
        ∙ row_word n b i (omega arith) h)

    -- The table as a list written anew.
    pub pack_over : (l : List ℤ) → pack_totals j w l ≡ overwrite (totals_length j) (λ i. get_or (total_rows j j.boxes w) i (pos 0)) l
    unfolding pack_totals overwrite totals_length
    pack_over l =
        ap (λ (x : List ℤ). x ++ drop (totals_start j j.boxes) l)
        (is_tabulate (total_rows j j.boxes w) (totals_start j j.boxes) (λ i. get_or (total_rows j j.boxes w) i (pos 0)) (pos 0) (rows_length w j.boxes) (λ i k. refl))

    -- It is as long as the packed totals at least, and as long as it was where that was long enough.
    pub pack_long : (l : List ℤ) → totals_length j ≤ length (pack_totals j w l)
    pack_long l = rw (pack_over l) (long_overwrite (totals_length j) (λ i. get_or (total_rows j j.boxes w) i (pos 0)) l)

    -- What is written into a lent part is written into the whole.
    pub pack_take : (n : ℕ) (l : List ℤ) → totals_length j ≤ n → pack_totals j w (take n l) ++ drop n l ≡ pack_totals j w l
    pack_take n l h =
        ap (λ (x : List ℤ). x ++ drop n l) (pack_over (take n l))
        ∙ overwrite_take (totals_length j) n (λ i. get_or (total_rows j j.boxes w) i (pos 0)) l h
        ∙ sym (pack_over l)

    -- The last writing counts.
    pub pack_pack : (v : ℕ → ℕ → ℤ) (l : List ℤ) → pack_totals j w (pack_totals j v l) ≡ pack_totals j w l
    unfolding pack_totals totals_length
    pack_pack v l = ap (λ (x : List ℤ). total_rows j j.boxes w ++ x) (drop_at (total_rows j j.boxes v) (drop (totals_start j j.boxes) l) (totals_start j j.boxes) (rows_length v j.boxes))

    -- A word of the packed table.
    pack_word : (l : List ℤ) (b i : ℕ) → b < j.boxes → i < length (local_grocers j b) → get_or (pack_totals j w l) (totals_start j b + i) (pos 0) ≡ w b (get_or (local_grocers j b) i 0)
    unfolding pack_totals
    pack_word l b i lb li =
        get_or-append (total_rows j j.boxes w) (drop (totals_length j) l) (pos 0) (totals_start j b + i) (omega (arith, rows_length w j.boxes, within b j.boxes i lb li))
        ∙ row_word j.boxes b i lb li

    -- What is packed is unpacked again, at the grocers that the box has totals of.
    pub unpack_pack : (l : List ℤ) (b g : ℕ) → unpack_totals j (pack_totals j w l) b g ≡ cond (has_total j b g) (w b g) (pos 0)
    unfolding unpack_totals has_total total_place
    unpack_pack l b g =
        split (has_total j b g)
        (λ e.
        let lb : b < j.boxes = ltb-true b j.boxes (and_l (ltb b j.boxes) _ e) in
        let (li, at_g) = local_at j b g (and_r (ltb b j.boxes) _ e) in
        rw e (pack_word l b (local_grocer j b g) lb li ∙ ap (w b) at_g))
        (λ e. rw e)

    -- Each word of the table passes what 0 and all totals pass.
    pub rows_each : (P : ℤ → Type 0) → P (pos 0) → ((b g : ℕ) → P (w b g)) → (i : ℕ) → P (get_or (total_rows j j.boxes w) i (pos 0))
    rows_each P z h i =
        split (ltb i (totals_start j j.boxes))
        (λ q. let s = spot j.boxes i (ltb-true i (totals_start j j.boxes) q) in
        subst P (sym (ap (λ (k : ℕ). get_or (total_rows j j.boxes w) k (pos 0)) s.place ∙ row_word j.boxes s.spot_box s.number s.box_in s.number_in_lem))
        (h s.spot_box (get_or (local_grocers j s.spot_box) s.number 0)))
        (λ q. subst P (sym (get_or-eq_default (total_rows j j.boxes w) (pos 0) (omega (arith, rows_length w j.boxes, ltb-false i (totals_start j j.boxes) q)))) z)

  -- Totals that are equal where boxes have them are packed alike.
  pub pack_cong : (w v : ℕ → ℕ → ℤ) (l : List ℤ) → ((b g : ℕ) → has_total j b g ≡ true → w b g ≡ v b g) → pack_totals j w l ≡ pack_totals j v l
  unfolding totals_length
  pack_cong w v l h =
      pack_over w l
      ∙ overwrite_cong (totals_length j) (λ i. get_or (total_rows j j.boxes w) i (pos 0)) (λ i. get_or (total_rows j j.boxes v) i (pos 0)) l (λ i k.
      let s = spot j.boxes i k in
      ap (λ (m : ℕ). get_or (total_rows j j.boxes w) m (pos 0)) s.place
      ∙ row_word w j.boxes s.spot_box s.number s.box_in s.number_in_lem
      ∙ h s.spot_box (get_or (local_grocers j s.spot_box) s.number 0) (spot_has s.spot_box s.number s.box_in s.number_in_lem)
      ∙ sym (row_word v j.boxes s.spot_box s.number s.box_in s.number_in_lem)
      ∙ ap (λ (m : ℕ). get_or (total_rows j j.boxes v) m (pos 0)) (sym s.place))
      ∙ sym (pack_over v l)

  -- A word of a table, unpacked at its box and grocer.
  unpack_spot : (l : List ℤ) (b i : ℕ) → b < j.boxes → i < length (local_grocers j b) → unpack_totals j l b (get_or (local_grocers j b) i 0) ≡ get_or l (totals_start j b + i) (pos 0)
  unfolding unpack_totals
  unpack_spot l b i lb li = rw (spot_has b i lb li, spot_place b i li)

  -- What is unpacked is packed again.
  pub pack_unpack : (l : List ℤ) → totals_length j ≤ length l → pack_totals j (unpack_totals j l) l ≡ l
  unfolding totals_length
  pack_unpack l h =
      pack_over (unpack_totals j l) l
      ∙ overwrite_same (totals_length j) (λ i. get_or (total_rows j j.boxes (unpack_totals j l)) i (pos 0)) l (pos 0) h (λ i k.
      let s = spot j.boxes i k in
      ap (λ (m : ℕ). get_or (total_rows j j.boxes (unpack_totals j l)) m (pos 0)) s.place
      ∙ row_word (unpack_totals j l) j.boxes s.spot_box s.number s.box_in s.number_in_lem
      ∙ unpack_spot l s.spot_box s.number s.box_in s.number_in_lem
      ∙ ap (λ (m : ℕ). get_or l m (pos 0)) (sym s.place))

  -- Outside the grocers that a box has totals of there is 0.
  pub unpack_out : (l : List ℤ) (b g : ℕ) → has_total j b g ≡ false → unpack_totals j l b g ≡ pos 0
  unfolding unpack_totals
  unpack_out l b g e = rw e

  -- A part that holds the table reads as the whole.
  pub unpack_take : (n : ℕ) (l : List ℤ) → totals_length j ≤ n → (b g : ℕ) → unpack_totals j (take n l) b g ≡ unpack_totals j l b g
  unfolding unpack_totals
  unpack_take n l h b g =
      split (has_total j b g)
      (λ e. rw e (get_or-take n l (total_place j b g) (pos 0) (omega (arith, place_within b g e))))
      (λ e. rw e)

  -- The words of full rows, and those of the packed table among them.
  module _ (l : List ℤ) where
    abbrev rows : List ℤ
    rows = recell j.boxes j.grocers (unpack_totals j l) []

    rows_word : (i : ℕ) → i < j.boxes * j.grocers → get_or rows i (pos 0) ≡ unpack_totals j l (i / j.grocers) (i % j.grocers)
    unfolding recell
    rows_word i k = get_d_overwrite (j.boxes * j.grocers) (λ i. unpack_totals j l (i / j.grocers) (i % j.grocers)) [] i (pos 0) k

    module _ (m : ℕ) where
      full_in : around m (totals_length j) l ≡ true → (b g : ℕ) → nat_abs (unpack_totals j l b g) ≤ m
      unfolding around unpack_totals
      full_in h b g =
          split (has_total j b g)
          (λ e. rw e (leb-true (nat_abs (get_or l (total_place j b g) (pos 0))) m
          (all_at (totals_length j) (λ i. leb (nat_abs (get_or l i (pos 0))) m) (total_place j b g) (place_within b g e) h)))
          (λ e. rw e (omega arith))

      rows_in : around m (j.boxes * j.grocers) rows ≡ true → (b g : ℕ) → b < j.boxes → g < j.grocers → nat_abs (unpack_totals j l b g) ≤ m
      unfolding around
      rows_in h b g lb lg =
          subst (λ (z : ℤ). nat_abs z ≤ m) (get_d_recell j.boxes j.grocers (unpack_totals j l) [] b g (pos 0) lb lg)
          (leb-true (nat_abs (get_or rows (b * j.grocers + g) (pos 0))) m
          (all_at (j.boxes * j.grocers) (λ i. leb (nat_abs (get_or rows i (pos 0))) m) (b * j.grocers + g) (cell_in b j.boxes j.grocers g lb lg) h))

      packed_in : around m (j.boxes * j.grocers) rows ≡ true → (i : ℕ) → i < totals_length j → nat_abs (get_or l i (pos 0)) ≤ m
      unfolding totals_length
      packed_in h i k =
          let s = spot j.boxes i k in
          let inside = total_inside s.spot_box (get_or (local_grocers j s.spot_box) s.number 0) (spot_has s.spot_box s.number s.box_in s.number_in_lem) in
          subst (λ (z : ℤ). nat_abs z ≤ m) (unpack_spot l s.spot_box s.number s.box_in s.number_in_lem ∙ ap (λ (x : ℕ). get_or l x (pos 0)) (sym s.place))
          (rows_in h s.spot_box (get_or (local_grocers j s.spot_box) s.number 0) s.box_in
          (ltb-true (get_or (local_grocers j s.spot_box) s.number 0) j.grocers (and_r (ltb s.spot_box j.boxes) _ inside)))

      -- The words of a packed table are in range just where those of the full rows are.
      pub around_rows : around m (totals_length j) l ≡ around m (j.boxes * j.grocers) rows
      unfolding around
      around_rows =
          same_test (around m (totals_length j) l) (around m (j.boxes * j.grocers) rows)
          (λ h. all_of_lem (j.boxes * j.grocers) (λ i. leb (nat_abs (get_or rows i (pos 0))) m) (λ i k.
          rw (rows_word i k) (le-leb (nat_abs (unpack_totals j l (i / j.grocers) (i % j.grocers))) m (full_in h (i / j.grocers) (i % j.grocers)))))
          (λ h. all_of_lem (totals_length j) (λ i. leb (nat_abs (get_or l i (pos 0))) m) (λ i k. le-leb (nat_abs (get_or l i (pos 0))) m (packed_in h i k)))
