-- Steps read and write totals of local grocers alone. Assumes nothing.
use mathlib.Core.Path.{◌≡◌, refl, sym}
use mathlib.Core.Bool.{Bool, true, false, cond, ◌&&◌}
use Prim.Native.Nat.{ℕ}
use lib.Dec.{eqb, ltb}
use lib.IntN.{ℤ, pos, ◌+ℤ◌, +ℤ_idr}
use borrow.Author.Tests.{eqb-true, ltb-true}
use Rattle.laws.proofs.Bools.{split, clash, no_true, and_true, and_l, and_r, and_false, eqb_same, cond_same}
use Rattle.laws.proofs.Below.{any_none}
use Rattle.model.specs.Job.{Job, held_by, shares, total_word, price_word}
use Rattle.model.specs.Steps.{Kind, send_prices, multiply_own, receive_prices, send_totals, add_own, receive_totals, Steps, State, added, effect, received, products}
use Rattle.model.specs.Boxes.{state_by_rules}
use Rattle.model.specs.PackedTotals.{has_total}
use Rattle.model.proofs.Range.{InRange}
use Rattle.model.proofs.Core.{state_eq}
use Rattle.model.proofs.Parts.{products_none, part_none}
use Rattle.model.proofs.Tables.{own_has, none_shared}

-- The state s with totals of local grocers alone, and 0 for all others.
unfoldable pub at_local : Job → State → State
at_local j s = record {
  known = s.known;
  price_transit = s.price_transit;
  working = λ b g. cond (has_total j b g) (s.working b g) (pos 0);
  total_transit = λ b g. cond (has_total j b g) (s.total_transit b g) (pos 0);
  statement = s.statement;
  done = s.done;
  sent = s.sent;
}

-- Words that are 0 where a test does not pass: added to, cleared, moved.
add_masked : (h : Bool) (x p : ℤ) → (h ≡ false → p ≡ pos 0) → cond h x (pos 0) +ℤ p ≡ cond h (x +ℤ p) (pos 0)
add_masked true x p e = refl
add_masked false x p e = rw (e refl)

clear_masked : (t h : Bool) (x : ℤ) → cond t (pos 0) (cond h x (pos 0)) ≡ cond h (cond t (pos 0) x) (pos 0)
clear_masked true true x = refl
clear_masked true false x = refl
clear_masked false true x = refl
clear_masked false false x = refl

move_masked : (t h : Bool) (x y : ℤ) → cond t (cond h x (pos 0)) (cond h y (pos 0)) ≡ cond h (cond t x y) (pos 0)
move_masked true true x y = refl
move_masked true false x y = refl
move_masked false true x y = refl
move_masked false false x y = refl

module _ (j : Job) (r : InRange j) where
  -- A box multiplies into totals that it has.
  none_products : (know : ℕ → ℕ) (q : ℕ → Bool) (b g : ℕ) → has_total j b g ≡ false → products j know q b g ≡ pos 0
  unfolding shares
  none_products know q b g h =
      products_none j know q b g (λ t l e i.
      absurd (clash (and_true e (rw i (eqb_same g))) (any_none j.tallies (λ t. held_by j t b && eqb (j.tally_grocer t) g) t l (none_shared j r b g h))))

  -- It sends totals that it has.
  none_word : (a b g : ℕ) → has_total j a g ≡ false → total_word j a b g ≡ false
  unfolding total_word
  none_word a b g h = simp (none_shared j r a g h, and_false)

  pub word_has : (a b g : ℕ) → total_word j a b g ≡ true → has_total j a g ≡ true
  word_has a b g h = split (has_total j a g) (λ e. e) (λ e. absurd (clash h (none_word a b g e)))

  -- A state that holds no totals outside the job's bounds.
  module _ (s : State) (inside : (b g : ℕ) → (ltb b j.boxes && ltb g j.grocers) ≡ false → s.working b g ≡ pos 0) where
    -- It adds own totals that it has.
    own_word : (a g : ℕ) → eqb (j.grocer_owner g) a ≡ true → has_total j a g ≡ false → s.working a g ≡ pos 0
    own_word a g e h =
        inside a g (no_true (ltb a j.boxes && ltb g j.grocers) (λ q.
        clash (own_has j r a g (ltb-true a j.boxes (and_l (ltb a j.boxes) _ q)) (ltb-true g j.grocers (and_r (ltb a j.boxes) _ q)) (eqb-true (j.grocer_owner g) a e)) h))

    own_masked : (a g : ℕ) → eqb (j.grocer_owner g) a ≡ true → cond (has_total j a g) (s.working a g) (pos 0) ≡ s.working a g
    own_masked a g e = split (has_total j a g) (λ h. rw h) (λ h. rw h (sym (own_word a g e h)))

    add_own_lem : (a g : ℕ) → cond (eqb (j.grocer_owner g) a) (s.statement g +ℤ cond (has_total j a g) (s.working a g) (pos 0)) (s.statement g)
        ≡ cond (eqb (j.grocer_owner g) a) (s.statement g +ℤ s.working a g) (s.statement g)
    add_own_lem a g = split (eqb (j.grocer_owner g) a) (λ e. rw (e, own_masked a g e)) (λ e. rw e)

    add_received : (a b g : ℕ) → cond (total_word j b a g) (s.statement g +ℤ cond (has_total j b g) (s.total_transit b g) (pos 0)) (s.statement g)
        ≡ cond (total_word j b a g) (s.statement g +ℤ s.total_transit b g) (s.statement g)
    add_received a b g = split (total_word j b a g) (λ e. rw (e, word_has b a g e)) (λ e. rw e)

    row_grows : (a c g : ℕ) (p : ℤ) → (has_total j a g ≡ false → p ≡ pos 0) →
        cond (eqb c a) (cond (has_total j a g) (s.working a g) (pos 0) +ℤ p) (cond (has_total j c g) (s.working c g) (pos 0))
        ≡ cond (has_total j c g) (cond (eqb c a) (s.working a g +ℤ p) (s.working c g)) (pos 0)
    row_grows a c g p h =
        split (eqb c a)
        (λ e. rw (e, eqb-true c a e) (add_masked (has_total j a g) (s.working a g) p h))
        (λ e. rw e)

    row_moves : (a c g : ℕ) (t : Bool) →
        cond (eqb c a && t) (cond (has_total j a g) (s.working a g) (pos 0)) (cond (has_total j c g) (s.total_transit c g) (pos 0))
        ≡ cond (has_total j c g) (cond (eqb c a && t) (s.working a g) (s.total_transit c g)) (pos 0)
    row_moves a c g t =
        split (eqb c a)
        (λ e. rw (e, eqb-true c a e) (move_masked t (has_total j a g) (s.working a g) (s.total_transit a g)))
        (λ e. rw e)

    -- What a step does to totals of local grocers alone is what it does to all, seen at local grocers alone.
    pub effect_local : (k : Kind) (a b : ℕ) → effect j (at_local j s) k a b ≡ at_local j (effect j s k a b)
    unfolding effect at_local received
    effect_local send_prices a b = refl
    effect_local multiply_own a b =
        state_eq (effect j (at_local j s) multiply_own a b) (at_local j (effect j s multiply_own a b))
        (λ c o. refl) (λ c o. refl)
        (λ c g. row_grows a c g (products j (s.known a) (λ o. eqb (j.offer_owner o) a) a g) (none_products (s.known a) (λ o. eqb (j.offer_owner o) a) a g))
        (λ c g. refl) (λ g. refl) refl refl
    effect_local receive_prices a b =
        state_eq (effect j (at_local j s) receive_prices a b) (at_local j (effect j s receive_prices a b))
        (λ c o. refl) (λ c o. refl)
        (λ c g. row_grows a c g (products j (received j s a b a) (price_word j b a) a g) (none_products (received j s a b a) (price_word j b a) a g))
        (λ c g. refl) (λ g. refl) refl refl
    effect_local send_totals a b =
        state_eq (effect j (at_local j s) send_totals a b) (at_local j (effect j s send_totals a b))
        (λ c o. refl) (λ c o. refl)
        (λ c g. clear_masked (eqb c a && total_word j a b g) (has_total j c g) (s.working c g))
        (λ c g. row_moves a c g (total_word j a b g)) (λ g. refl) refl refl
    effect_local add_own a b =
        state_eq (effect j (at_local j s) add_own a b) (at_local j (effect j s add_own a b))
        (λ c o. refl) (λ c o. refl)
        (λ c g. clear_masked (eqb c a && eqb (j.grocer_owner g) a) (has_total j c g) (s.working c g))
        (λ c g. refl) (λ g. add_own_lem a g) refl refl
    effect_local receive_totals a b =
        state_eq (effect j (at_local j s) receive_totals a b) (at_local j (effect j s receive_totals a b))
        (λ c o. refl) (λ c o. refl)
        (λ c g. refl)
        (λ c g. clear_masked (eqb c b && total_word j b a g) (has_total j c g) (s.total_transit c g)) (λ g. add_received a b g) refl refl

    -- Other totals stay as they are.
    row_stays : (a c g : ℕ) (p : ℤ) → (has_total j a g ≡ false → p ≡ pos 0) → has_total j c g ≡ false → cond (eqb c a) (s.working a g +ℤ p) (s.working c g) ≡ s.working c g
    row_stays a c g p e h =
        split (eqb c a)
        (λ q. let same = eqb-true c a q in rw (q, same, e (rw same at h)) (+ℤ_idr (s.working a g)))
        (λ q. rw q)

    not_sent : (a b c g : ℕ) → has_total j c g ≡ false → (eqb c a && total_word j a b g) ≡ false
    not_sent a b c g h =
        split (eqb c a)
        (λ q. let same = eqb-true c a q in rw q (none_word a b g (rw same at h)))
        (λ q. rw q)

    own_stays : (a c g : ℕ) → has_total j c g ≡ false → cond (eqb c a && eqb (j.grocer_owner g) a) (pos 0) (s.working c g) ≡ s.working c g
    own_stays a c g h =
        split (eqb c a)
        (λ q. let same = eqb-true c a q in
        rw (q, same) (split (eqb (j.grocer_owner g) a) (λ e. rw e (sym (own_word a g e (rw same at h)))) (λ e. rw e)))
        (λ q. rw q)

    pub working_stays : (k : Kind) (a b c g : ℕ) → has_total j c g ≡ false → (effect j s k a b).working c g ≡ s.working c g
    unfolding effect
    working_stays send_prices a b c g h = refl
    working_stays multiply_own a b c g h =
        row_stays a c g (products j (s.known a) (λ o. eqb (j.offer_owner o) a) a g) (none_products (s.known a) (λ o. eqb (j.offer_owner o) a) a g) h
    working_stays receive_prices a b c g h =
        row_stays a c g (products j (received j s a b a) (price_word j b a) a g) (none_products (received j s a b a) (price_word j b a) a g) h
    working_stays send_totals a b c g h = rw (not_sent a b c g h)
    working_stays add_own a b c g h = own_stays a c g h
    working_stays receive_totals a b c g h = refl

    pub transit_stays : (k : Kind) (a b c g : ℕ) → has_total j c g ≡ false → (effect j s k a b).total_transit c g ≡ s.total_transit c g
    unfolding effect
    transit_stays send_prices a b c g h = refl
    transit_stays multiply_own a b c g h = refl
    transit_stays receive_prices a b c g h = refl
    transit_stays send_totals a b c g h = rw (not_sent a b c g h)
    transit_stays add_own a b c g h = refl
    transit_stays receive_totals a b c g h = rw (not_sent b a c g h)

  -- A state that a list leaves has totals of local grocers alone.
  pub form_local : (d : Steps) → at_local j (state_by_rules j d) ≡ state_by_rules j d
  unfolding at_local state_by_rules
  form_local d =
      state_eq (at_local j (state_by_rules j d)) (state_by_rules j d)
      (λ b o. refl) (λ b o. refl)
      (λ b g. split (has_total j b g) (λ e. rw e) (λ e. simp (e, part_none j (added j d) b g (none_shared j r b g e), cond_same)))
      (λ b g. split (has_total j b g) (λ e. rw e) (λ e. simp (e, part_none j (λ t. true) b g (none_shared j r b g e), cond_same)))
      (λ g. refl) refl refl
