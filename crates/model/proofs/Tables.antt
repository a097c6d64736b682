-- Tables and states: what is written is read again, and a state of the closed form has nothing outside the job's bounds. Assumes nothing.
use mathlib.Core.Path.{◌≡◌, refl, sym, ap, ◌∙◌}
use mathlib.Core.Bool.{true, false, cond, ◌&&◌}
use mathlib.Core.List.{List}
use Prim.Native.Nat.{ℕ, suc, ◌+◌, ◌<◌, ◌*◌, ◌-◌}
use lib.Dec.{eqb, ltb}
use lib.IntN.{pos}
use lib.Arith.{digits_div, digits_mod}
use borrow.Author.Tests.{ne_eqb, eqb-true, ltb-true, ltb-false, lt-ltb}
use Rattle.laws.specs.Below.{naturals, integers, only}
use Rattle.laws.proofs.Below.{any_find}
use Rattle.laws.proofs.Bools.{eqb_same, or_l, or_r, split, and_true, and_l, and_r, and_false, no_true, clash, cond_same}
use Rattle.laws.proofs.Masks.{one_is}
use Rattle.laws.proofs.Sums.{sum_none}
use Rattle.laws.proofs.Tables.{cell_in, cell_recell, word_overwrite, get_d_overwrite}
use Rattle.model.specs.Job.{held_by, Job, needs, shares}
use Rattle.model.specs.Steps.{Kind, kind_number, step_place, places, step_at, Steps, at_place, State, added, kind_of}
use Rattle.model.specs.Tables.{view, store, StateTables, steps_done, marks_of}
use Rattle.model.specs.Boxes.{knows, price_on_way, paid, state_by_rules, Closed, Sound}
use Rattle.model.specs.PackedTotals.{has_total}
use Rattle.model.proofs.Machine.{kinds}
use Rattle.model.proofs.Range.{InRange, held_lt}
use Rattle.model.proofs.Parts.{part_none}
use Rattle.model.proofs.LocalLists.{owned_or_shared, local_is}
use Rattle.model.proofs.PackedTotals.{unpack_pack}
use Rattle.model.proofs.Core.{state_eq, first<, second<}
use Rattle.model.proofs.Marks as M

pub kind_place : (k : Kind) → kind_of (suc (kind_number k - 1)) ≡ k
kind_place = M.kind_place kinds

pub kind_six : (k : Kind) → kind_number k - 1 < 6
kind_six = M.kind_in kinds

-- A step has its place among the marks,
pub place_in : (k kind a b : ℕ) → kind - 1 < 6 → a < k → b < k → step_place k kind a b < places k
place_in k kind a b h la lb = cell_in ((kind - 1) * k + a) (6 * k) k b (cell_in (kind - 1) 6 k a h la) lb

-- and at its place is the step.
pub step_at_lem : (k : ℕ) (q : Kind) (a b : ℕ) → a < k → b < k → step_at k (step_place k (kind_number q) a b) ≡ record { kind = q; first = a; second = b }
unfolding step_at
step_at_lem k q a b la lb =
    rw (digits_div ((kind_number q - 1) * k + a) lb, digits_mod ((kind_number q - 1) * k + a) lb, digits_div (kind_number q - 1) la, digits_mod (kind_number q - 1) la, kind_place q)

-- What is marked is what was to be marked, of steps that have a place.
pub marks_back : (k : ℕ) (d : Steps) (marks : List ℕ) (q : Kind) (a b : ℕ) → steps_done k (marks_of k d marks) q a b ≡ (ltb a k && (ltb b k && d q a b))
unfolding steps_done marks_of only naturals
marks_back k d marks q a b =
    split (ltb a k)
    (λ e. rw e (split (ltb b k)
    (λ f. let la : a < k = ltb-true a k e in
    let lb : b < k = ltb-true b k f in
    rw (
      f,
      get_d_overwrite (places k) (λ i. cond (at_place k d i) 1 0) marks (step_place k (kind_number q) a b) 0 (place_in k (kind_number q) a b (kind_six q) la lb),
      step_at_lem k q a b la lb,
    ) (one_is (d q a b)))
    (λ f. rw f)))
    (λ e. rw e)

-- The state s inside the job's bounds, totals at local grocers, and 0 outside.
unfoldable pub clip : Job → State → State
clip j s = record {
  known = λ b o. cond (ltb b j.boxes && ltb o j.offers) (s.known b o) 0;
  price_transit = λ b o. cond (ltb b j.boxes && ltb o j.offers) (s.price_transit b o) 0;
  working = λ b g. cond (has_total j b g) (s.working b g) (pos 0);
  total_transit = λ b g. cond (has_total j b g) (s.total_transit b g) (pos 0);
  statement = λ g. cond (ltb g j.grocers) (s.statement g) (pos 0);
  done = λ k a b. ltb a j.boxes && (ltb b j.boxes && s.done k a b);
  sent = s.sent;
}

pub view_store : (j : Job) (s : State) (t : StateTables) → view j (store j s t) ≡ clip j s
unfolding view store clip only naturals
view_store j s t =
    state_eq (view j (store j s t)) (clip j s)
    (cell_recell j.boxes j.offers s.known t.known 0)
    (cell_recell j.boxes j.offers s.price_transit t.price_transit 0)
    (unpack_pack j s.working t.working)
    (unpack_pack j s.total_transit t.total_transit)
    (word_overwrite j.grocers s.statement t.statement (pos 0))
    (λ i k a b. marks k a b i)
    (word_overwrite 1 (λ i. s.sent) t.sent 0 0)
  where
    marks : (k : Kind) (a b : ℕ) → (view j (store j s t)).done k a b ≡ (clip j s).done k a b
    marks k a b = marks_back j.boxes s.done t.done k a b

-- Nothing stands outside the job's bounds.
module _ (j : Job) (r : InRange j) where
  pub needs_out : (b o : ℕ) → (ltb b j.boxes && ltb o j.offers) ≡ false → needs j o b ≡ false
  unfolding needs
  needs_out b o h = no_true (needs j o b) (λ q.
      let (t, l, e) = any_find j.tallies (λ t. held_by j t b && eqb (j.tally_offer t) o) q in
      clash (and_true
      (lt-ltb b j.boxes (held_lt j t b (and_l (held_by j t b) _ e)))
      (lt-ltb o j.offers (rw (eqb-true (j.tally_offer t) o (and_r (held_by j t b) _ e)) at (r.offer< t l)))) h)

  pub shares_out : (b g : ℕ) → (ltb b j.boxes && ltb g j.grocers) ≡ false → shares j g b ≡ false
  unfolding shares
  shares_out b g h = no_true (shares j g b) (λ q.
      let (t, l, e) = any_find j.tallies (λ t. held_by j t b && eqb (j.tally_grocer t) g) q in
      clash (and_true
      (lt-ltb b j.boxes (held_lt j t b (and_l (held_by j t b) _ e)))
      (lt-ltb g j.grocers (rw (eqb-true (j.tally_grocer t) g (and_r (held_by j t b) _ e)) at (r.grocer< t l)))) h)

  -- A box has a total of each grocer that it holds a tally of.
  pub shared_has : (b g : ℕ) → shares j g b ≡ true → has_total j b g ≡ true
  unfolding has_total owned_or_shared
  shared_has b g q =
      let inside = in_bounds b g q in
      let lg : g < j.grocers = ltb-true g j.grocers (and_r (ltb b j.boxes) _ inside) in
      and_true (and_l (ltb b j.boxes) _ inside)
      (local_is j b g ∙ and_true (lt-ltb g j.grocers lg) (or_r (eqb (j.grocer_owner g) b) _ (and_true (lt-ltb (j.grocer_owner g) j.boxes (r.grocerOwner< g lg)) q)))
    where
      in_bounds : (b g : ℕ) → shares j g b ≡ true → (ltb b j.boxes && ltb g j.grocers) ≡ true
      in_bounds b g q = split (ltb b j.boxes && ltb g j.grocers) (λ e. e) (λ e. absurd (clash q (shares_out b g e)))

  -- It has one of each grocer that it owns.
  pub own_has : (b g : ℕ) → b < j.boxes → g < j.grocers → j.grocer_owner g ≡ b → has_total j b g ≡ true
  unfolding has_total owned_or_shared
  own_has b g lb lg e = and_true (lt-ltb b j.boxes lb) (local_is j b g ∙ and_true (lt-ltb g j.grocers lg) (or_l (eqb (j.grocer_owner g) b) _ (rw e (eqb_same b))))

  -- Without a total of a grocer it holds no tally of it.
  pub none_shared : (b g : ℕ) → has_total j b g ≡ false → shares j g b ≡ false
  none_shared b g h = no_true (shares j g b) (λ q. clash (shared_has b g q) h)

  clip_form : (d : Steps) → Closed j d → clip j (state_by_rules j d) ≡ state_by_rules j d
  unfolding clip state_by_rules knows price_on_way paid only integers
  clip_form d c =
      state_eq (clip j (state_by_rules j d)) (state_by_rules j d)
      (λ b o. split (ltb b j.boxes && ltb o j.offers)
      (λ e. rw e)
      (λ e. rw e (split (ltb o j.offers)
      (λ f. simp (ne_eqb (j.offer_owner o) b (λ q. clash (and_true (lt-ltb b j.boxes (rw q at (r.owner< o (ltb-true o j.offers f)))) f) e), needs_out b o e))
      (λ f. simp (r.no_price o (ltb-false o j.offers f), cond_same)))))
      (λ b o. split (ltb b j.boxes && ltb o j.offers)
      (λ e. rw e)
      (λ e. simp (e, needs_out b o e, and_false)))
      (λ b g. split (has_total j b g)
      (λ e. rw e)
      (λ e. simp (e, part_none j (added j d) b g (none_shared b g e), cond_same)))
      (λ b g. split (has_total j b g)
      (λ e. rw e)
      (λ e. simp (e, part_none j (λ t. true) b g (none_shared b g e), cond_same)))
      (λ g. split (ltb g j.grocers)
      (λ e. rw e)
      (λ e. rw e (sym (sum_none integers j.boxes (paid j d g)
      (λ b l. simp (part_none j (λ t. true) b g (shares_out b g (rw e (and_false (ltb b j.boxes)))), cond_same))))))
      (λ i k a b. marks k a b i)
      refl
    where
      marks : (k : Kind) (a b : ℕ) → (ltb a j.boxes && (ltb b j.boxes && d k a b)) ≡ d k a b
      marks k a b =
          split (d k a b)
          (λ e. simp (e, lt-ltb a j.boxes (first< j k a b (c.steps k a b e)), lt-ltb b j.boxes (second< j k a b (c.steps k a b e))))
          (λ e. simp (e, and_false))

  pub held_form : (s : State) → Sound j s → clip j s ≡ s
  held_form s o = ap (clip j) o.form ∙ clip_form s.done o.closed ∙ sym o.form
