-- Laws of the tables of a fresh state. Assumes nothing.
use mathlib.Core.Path.{◌≡◌, refl, sym, ap, ◌∙◌}
use mathlib.Core.List.{List}
use mathlib.Core.Bool.{Bool, false, cond, ◌&&◌}
use Prim.Native.Nat.{ℕ, suc, ◌+◌, ◌-◌, ◌*◌, ◌/◌, ◌%◌, ◌≤◌, ◌<◌}
use native.Mathlib.Decide.{dec_lt}
use native.Mathlib.Nat.{mul_assoc}
use native.Mathlib.Omega.{arith}
use lib.Arith.{digits_div, digits_mod}
use lib.Dec.{eqb, ltb}
use lib.ListN.{length, get_or}
use lib.IntN.{ℤ, pos}
use borrow.Author.Tests.{eqb-true, eqb-false, ne_eqb, lt-ltb, le-ltb}
use Rattle.laws.specs.Tables.{overwrite, recell}
use Rattle.laws.proofs.Bools.{split, and_false, eqb_same}
use Rattle.laws.proofs.Entries.{entry_in, list_in, both}
use Rattle.laws.proofs.Loops.{window, window_in, window_below, window_above, front_else}
use Rattle.laws.proofs.Tables.{recell_cong, word_in_lem, cell_in, cell_at, row_in}
use Rattle.model.specs.Steps.{fresh}
use Rattle.model.specs.Tables.{JobTables, job_of, with_lists, evening_of, StateTables, state_tables, store, marks_of}
use Rattle.model.specs.Step.{fresh_tables}
use Rattle.model.specs.PackedTotals.{totals_length, pack_totals, spread}
use Rattle.run_fresh.specs.Fresh.{own_prices}
use Rattle.model.proofs.Spans.{pack_places}

-- The words of offer o lie in the table.
pub own_in : (k n l o own : ℕ) → o < n → own < k → (own * n + o) * suc l + suc l ≤ k * (n * suc l)
own_in k n l o own lo lown = omega (arith, row_in (own * n + o) (k * n) (suc l) (cell_in own k n o lown lo), mul_assoc k n (suc l))

-- Own prices, one offer a turn: row b, word w of the table of known prices.
module _ (k n l : ℕ) (price owner known known' : List ℕ) (o : ℕ) (lo : o < n) (own : get_or owner o 0 < k)
    (h' : (i : ℕ) → get_or known' i 0
    ≡ cond (window ((get_or owner o 0 * n + o) * suc l) (suc l) i) (get_or price ((i - (get_or owner o 0 * n + o) * suc l) * n + o) 0) (get_or known i 0)) where
  -- The place of the offer in its owner's row, and where its words begin.
  abbrev spot : ℕ
  spot = get_or owner o 0 * n + o

  abbrev here : ℕ
  here = spot * suc l

  -- Word w of row b, by its entry and its list.
  place_of : (b w : ℕ) → b * (n * suc l) + w ≡ (b * n + w / suc l) * suc l + w % suc l
  place_of b w = omega (arith, both l w, mul_assoc b n (suc l))

  -- Another entry's words lie elsewhere.
  apart : (x q : ℕ) → q < suc l → (x ≡ spot → ⊥) → window here (suc l) (x * suc l + q) ≡ false
  apart x q lq ne = go (dec_lt x spot)
    where
      go : Dec (x < spot) → window here (suc l) (x * suc l + q) ≡ false
      go (yes a) = window_below here (suc l) (x * suc l + q) (omega (arith, lq, row_in x spot (suc l) a))
      go (no a) = let b : spot < x = omega (arith, a, ne) in window_above here (suc l) (x * suc l + q) (omega (arith, row_in spot x (suc l) b))

  same_place : (b e : ℕ) → e < n → b * n + e ≡ spot → (b ≡ get_or owner o 0) × (e ≡ o)
  same_place b e le q =
      (sym (digits_div b le) ∙ ap (λ (i : ℕ). i / n) q ∙ digits_div (get_or owner o 0) lo, sym (digits_mod b le) ∙ ap (λ (i : ℕ). i % n) q ∙ digits_mod (get_or owner o 0) lo)

  -- The words of the offers below o are written, and then those of offer o.
  own_entry : (b e q : ℕ) → e < n → q < suc l →
      get_or known ((b * n + e) * suc l + q) 0 ≡ cond (ltb e o && eqb (get_or owner e 0) b) (get_or price (q * n + e) 0) 0 →
      get_or known' ((b * n + e) * suc l + q) 0 ≡ cond (ltb e (o + 1) && eqb (get_or owner e 0) b) (get_or price (q * n + e) 0) 0
  own_entry b e q le lq h =
      split (eqb (b * n + e) spot)
      (λ t. let p = eqb-true (b * n + e) spot t in
      let s = same_place b e le p in
      h' ((b * n + e) * suc l + q)
      ∙ rw (p, window_in here (suc l) (here + q) (omega arith) (omega (arith, lq)), s.0, s.1, lt-ltb o (o + 1) (omega arith), eqb_same (get_or owner o 0))
      (ap (λ (x : ℕ). get_or price (x * n + o) 0) (omega arith)))
      (λ t. let ne : b * n + e ≡ spot → ⊥ = eqb-false (b * n + e) spot t in
      h' ((b * n + e) * suc l + q) ∙ ap (λ (x : Bool). cond x (get_or price (((b * n + e) * suc l + q - here) * n + o) 0) (get_or known ((b * n + e) * suc l + q) 0)) (apart (b * n + e) q lq ne)
      ∙ h ∙ ap (λ (x : Bool). cond x (get_or price (q * n + e) 0) 0)
      (split (eqb e o)
      (λ f. let r : e ≡ o = eqb-true e o f in
      rw (r, le-ltb o o (omega arith), ne_eqb (get_or owner o 0) b (λ z. ne (rw (r, z)))) (sym (and_false (ltb o (o + 1)))))
      (λ f. ap (λ (x : Bool). x && eqb (get_or owner e 0) b) (sym (front_else o e (λ z. eqb-false e o f (sym z)))))))

  pub own_more : (b w : ℕ) → w < n * suc l →
      get_or known (b * (n * suc l) + w) 0 ≡ cond (ltb (w / suc l) o && eqb (get_or owner (w / suc l) 0) b) (get_or price (w % suc l * n + w / suc l) 0) 0 →
      get_or known' (b * (n * suc l) + w) 0 ≡ cond (ltb (w / suc l) (o + 1) && eqb (get_or owner (w / suc l) 0) b) (get_or price (w % suc l * n + w / suc l) 0) 0
  own_more b w lw h =
      ap (λ (i : ℕ). get_or known' i 0) (place_of b w)
      ∙ own_entry b (w / suc l) (w % suc l) (entry_in l n w lw) (list_in l w) (ap (λ (i : ℕ). get_or known i 0) (sym (place_of b w)) ∙ h)

  -- Words past the table stay.
  pub own_past : (i : ℕ) → k * (n * suc l) ≤ i → get_or known' i 0 ≡ get_or known i 0
  own_past i p = h' i ∙ ap (λ (x : Bool). cond x (get_or price ((i - here) * n + o) 0) (get_or known i 0)) (window_above here (suc l) i (omega (arith, p, own_in k n l o (get_or owner o 0) lo own)))

-- The tables of a fresh state, one by one.
module _ (f : JobTables) (t : StateTables) where
  -- The words of a row of prices.
  abbrev words : ℕ
  words = f.offers * suc f.lists

  fresh_known : own_prices f.boxes f.offers f.lists f.price f.offer_owner t.known ≡ (fresh_tables f t).known
  unfolding own_prices fresh_tables store fresh with_lists spread job_of
  fresh_known =
      recell_cong f.boxes words _ _ t.known (λ b w lb lw.
      sym (rw (
        word_in_lem f.offers f.offer_owner 0 (w / suc f.lists) (entry_in f.lists f.offers w lw),
        cell_at (suc f.lists) f.offers f.price 0 (w % suc f.lists) (w / suc f.lists) (list_in f.lists w) (entry_in f.lists f.offers w lw),
      )))

  packed_none : (l : List ℤ) → totals_length (evening_of f) ≤ length l → overwrite (totals_length (evening_of f)) (λ i. pos 0) l ≡ pack_totals (evening_of f) (λ b g. pos 0) l
  packed_none l long = sym (pack_places (evening_of f) l long (λ b g. pos 0) (λ i. pos 0) (λ c g h. refl))

  -- All tables, where the packed ones are long enough.
  pub fresh_is : totals_length (evening_of f) ≤ length t.working → totals_length (evening_of f) ≤ length t.total_transit →
      state_tables
      (own_prices f.boxes f.offers f.lists f.price f.offer_owner t.known)
      (overwrite (f.boxes * words) (λ i. 0) t.price_transit)
      (overwrite (totals_length (evening_of f)) (λ i. pos 0) t.working)
      (overwrite (totals_length (evening_of f)) (λ i. pos 0) t.total_transit)
      (overwrite (f.grocers * suc f.lists) (λ i. pos 0) t.statement)
      (overwrite (6 * f.boxes * f.boxes) (λ i. 0) t.done)
      (overwrite 1 (λ i. 0) t.sent)
      ≡ fresh_tables f t
  unfolding fresh_tables store fresh with_lists spread job_of recell marks_of
  fresh_is lw lt = λ i. state_tables
      (fresh_known i)
      (overwrite (f.boxes * words) (λ i. 0) t.price_transit)
      (packed_none t.working lw i)
      (packed_none t.total_transit lt i)
      (overwrite (f.grocers * suc f.lists) (λ i. pos 0) t.statement)
      (overwrite (6 * f.boxes * f.boxes) (λ i. 0) t.done)
      (overwrite 1 (λ i. 0) t.sent)
