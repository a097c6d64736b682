-- 02 §11, "Working totals by local grocer": how working totals and totals in transit lie in their tables.
use Rattle.std.specs.Prelude.{List, [], ◌++◌, map, Bool, true, cond, ◌&&◌, ◌≡◌, ℕ, zero, suc, ◌+◌, ◌*◌, ◌/◌, ◌%◌, ◌<◌, get_or, length, drop, eqb, ltb, ℤ, pos}
use Rattle.laws.specs.Below.{any, sum, naturals}
use Rattle.model.specs.Job.{Job}
use Rattle.model.specs.LocalLists.{local_grocers, local_grocer}

module _ (j : Job) where
  -- Grocer g is a local grocer of box b.
  unfoldable pub is_local : ℕ → ℕ → Bool
  is_local b g = any (length (local_grocers j b)) (λ i. eqb (get_or (local_grocers j b) i 0) g)

  -- Box b of the job has a total of grocer g.
  unfoldable pub has_total : ℕ → ℕ → Bool
  has_total b g = ltb b j.boxes && is_local b g

  -- Where the totals of box b begin: "boxes one after the other".
  unfoldable pub totals_start : ℕ → ℕ
  totals_start b = sum naturals b (λ c. length (local_grocers j c))

  -- The packed length: the totals of all boxes.
  unfoldable pub totals_length : ℕ
  totals_length = totals_start j.boxes

  -- The place of box b's total of grocer g: "each box's totals by local grocer number". In a job of several price lists a grocer stands
  -- once for each list, side by side; so "a grocer's lists side by side" (`SideBySide`).
  unfoldable pub total_place : ℕ → ℕ → ℕ
  total_place b g = totals_start b + local_grocer j b g

  -- The totals w of the first n boxes as they lie.
  unfoldable pub total_rows : ℕ → (ℕ → ℕ → ℤ) → List ℤ
  total_rows zero w = []
  total_rows (suc n) w = total_rows n w ++ map (w n) (local_grocers j n)

  -- The table l with the totals w written into it. Words past the packed length are not touched.
  unfoldable pub pack_totals : (ℕ → ℕ → ℤ) → List ℤ → List ℤ
  pack_totals w l = total_rows j.boxes w ++ drop totals_length l

  -- The totals that a table holds: "unpacked with 0 for all other grocers".
  unfoldable pub unpack_totals : List ℤ → ℕ → ℕ → ℤ
  unpack_totals l b g = cond (has_total b g) (get_or l (total_place b g) (pos 0)) (pos 0)

-- The job in which every offer, grocer and tally stands once for each of n price lists, side by side: entry e of list l is number e × n + l.
-- The prices p are by offer and list.
unfoldable pub spread : ℕ → (ℕ → ℕ) → Job → Job
spread n p j = record {
  boxes = j.boxes;
  grocers = j.grocers * n;
  offers = j.offers * n;
  tallies = j.tallies * n;
  price = p;
  offer_owner = λ o. j.offer_owner (o / n);
  grocer_owner = λ g. j.grocer_owner (g / n);
  tally_grocer = λ t. j.tally_grocer (t / n) * n + t % n;
  tally_box = λ t. j.tally_box (t / n);
  tally_offer = λ t. j.tally_offer (t / n) * n + t % n;
  tally_count = λ t. j.tally_count (t / n);
}

-- "A grocer's lists side by side": how the totals of a job j lie in an evening of n lists, whatever their prices p.
pub record SideBySide (n : ℕ) (p : ℕ → ℕ) (j : Job) : Type 0 where
  -- List l of grocer g is a local grocer just where the grocer is,
  pub alike : (b g l : ℕ) → l < n → is_local (spread n p j) b (g * n + l) ≡ is_local j b g
  -- and the word of list l stands at place × n + l.
  pub place : (b g l : ℕ) → l < n → is_local j b g ≡ true → total_place (spread n p j) b (g * n + l) ≡ total_place j b g * n + l
  -- The packed length is that of the entries, for each list.
  pub packed_length : totals_length (spread n p j) ≡ totals_length j * n
