-- Orders of steps, one word more at a time. Assumes nothing.
use mathlib.Core.Path.{◌≡◌, refl, sym, ap, ap₂, ◌∙◌}
use mathlib.Core.Bool.{true}
use mathlib.Core.List.{List, [], ◌∷◌, ◌++◌, map}
use Prim.Native.Nat.{ℕ, suc, ◌+◌, ◌-◌, ◌*◌, ◌/◌, ◌%◌, ◌≤◌, ◌<◌}
use native.Mathlib.Nat.{div-add-mod', div-lt_iff_lt-mul, mul-le-mul}
use native.Mathlib.Omega.{arith}
use native.Mathlib.Numerals.{add-one}
use lib.ListN.{length, get_or, set, take, length-map, length-set, length-take, get_or-map}
use lib.Seq.{ext_get_or, take-suc, take-set-le, get_or-set_same, get_or-take, length-take-le}
use Rattle.model.specs.Steps.{Steps, Step, kind_number, step_place, step_at}
use Rattle.model.specs.Ranges.{under}
use Rattle.model.proofs.Machine.{number_place}
use Rattle.model.proofs.Step.{under_at}
use Rattle.step_places.specs.Order.{steps_in, mark_all}
use Rattle.step_places.proofs.Left.{and_step}

-- Steps in front, and one more.
map_snoc : {A B : Type 0} (f : A → B) (xs : List A) (x : A) → map f (xs ++ (x ∷ [])) ≡ map f xs ++ (f x ∷ [])
map_snoc f [] x = refl
map_snoc f (y ∷ ys) x = ap (λ (l : List _). f y ∷ l) (map_snoc f ys x)

pub mark_snoc : (d : Steps) (xs : List Step) (x : Step) → mark_all d (xs ++ (x ∷ [])) ≡ and_step (mark_all d xs) x
unfolding mark_all
mark_snoc d [] x = refl
mark_snoc d (y ∷ ys) x = mark_snoc (and_step d y) ys x

-- As many steps as words.
pub steps_length : (k n : ℕ) (order : List ℕ) → n ≤ length order → length (steps_in k n order) ≡ n
unfolding steps_in
steps_length k n order l = length-map (take n order) (step_at k) ∙ length-take-le n order l

-- One word more, which is the place of a step;
pub steps_next : (k i : ℕ) (order : List ℕ) → i < length order → steps_in k (i + 1) order ≡ steps_in k i order ++ (step_at k (get_or order i 0) ∷ [])
unfolding steps_in
steps_next k i order l =
    ap (λ (n : ℕ). map (step_at k) (take n order)) (add-one i)
    ∙ ap (map (step_at k)) (take-suc order i 0 l)
    ∙ map_snoc (step_at k) (take i order) (get_or order i 0)

-- and one that is written: the words before it are as they were.
pub steps_before_lem : (k y n i : ℕ) (order : List ℕ) → y ≤ n → steps_in k y (set order n i) ≡ steps_in k y order
unfolding steps_in
steps_before_lem k y n i order l = ap (map (step_at k)) (take-set-le y order n i l)

pub steps_put : (k n i : ℕ) (order : List ℕ) → n < length order → steps_in k (n + 1) (set order n i) ≡ steps_in k n order ++ (step_at k i ∷ [])
steps_put k n i order l =
    steps_next k n (set order n i) (rw (length-set order n i) l)
    ∙ ap₂ (λ (xs : List Step) (x : ℕ). xs ++ (step_at k x ∷ [])) (steps_before_lem k n n i order (omega arith)) (get_or-set_same order n i 0 l)

-- The place of the step at a place is this place.
place_back : (k i : ℕ) → 1 ≤ k → i < 6 * k * k → step_place k (kind_number (step_at k i).kind) (step_at k i).first (step_at k i).second ≡ i
unfolding step_at
place_back k i some l =
    ap (λ (q : ℕ). ((q - 1) * k + i / k % k) * k + i % k) (number_place (i / k / k) ((div-lt_iff_lt-mul {k = k} some).1 ((div-lt_iff_lt-mul {k = k} some).1 l)))
    ∙ ap (λ (q : ℕ). (q * k + i / k % k) * k + i % k) (down (i / k / k))
    ∙ ap (λ (r : ℕ). r * k + i % k) (div-add-mod' (i / k) k)
    ∙ div-add-mod' i k
  where
    down : (n : ℕ) → suc n - 1 ≡ n
    down n = omega arith

-- So the places of the steps of an order are its words.
pub places_back : (k n : ℕ) (order : List ℕ) → 1 ≤ k → under (6 * k * k) n order ≡ true →
    map (λ (x : Step). step_place k (kind_number x.kind) x.first x.second) (steps_in k n order) ≡ take n order
unfolding steps_in
places_back k n order some inside =
    ext_get_or zero_place (map place (map (step_at k) (take n order))) (take n order) same_size
    (λ i l. word_back i (omega (arith, l, same_size, length-take n order)))
  where
    place : Step → ℕ
    place x = step_place k (kind_number x.kind) x.first x.second

    zero_place : ℕ
    zero_place = place (step_at k 0)

    same_size : length (map place (map (step_at k) (take n order))) ≡ length (take n order)
    same_size = length-map (map (step_at k) (take n order)) place ∙ length-map (take n order) (step_at k)

    word_back : (i : ℕ) → i < n → get_or (map place (map (step_at k) (take n order))) i zero_place ≡ get_or (take n order) i zero_place
    word_back i l =
        get_or-map place (map (step_at k) (take n order)) i (step_at k 0)
        ∙ ap place (get_or-map (step_at k) (take n order) i 0)
        ∙ ap (λ (w : ℕ). place (step_at k w)) (get_or-take n order i 0 l)
        ∙ place_back k (get_or order i 0) some (under_at (6 * k * k) n order i inside l)
        ∙ sym (get_or-take n order i 0 l)
        ∙ ap (get_or (take n order) i) (sym (place_back k 0 some (omega (arith, mul-le-mul some some))))
