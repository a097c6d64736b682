-- One step more is done: what it changes in the rows. Assumes nothing.
use mathlib.Core.Path.{◌≡◌, refl, sym, ap, ap₂, ◌∙◌}
use mathlib.Core.Bool.{Bool, true, false, cond, ◌&&◌, ◌||◌, not}
use mathlib.Core.List.{List}
use Prim.Native.Nat.{ℕ, suc, ◌+◌, ◌-◌, ◌*◌, ◌/◌, ◌%◌, ◌≤◌, ◌<◌}
use native.Mathlib.Omega.{arith}
use native.Mathlib.Nat.{div-add-mod'}
use lib.Arith.{digits_div, digits_mod, digits_lt}
use lib.Dec.{eqb}
use borrow.Author.Tests.{eqb-true, eqb-false, not-true}
use Rattle.laws.proofs.Bools.{split, no_true, and_l, and_r, and_false, or_off, eqb_same, and_one, or_false}
use Rattle.laws.proofs.Below.{all_cong, count_le, count_at}
use Rattle.model.specs.Steps.{Kind, send_prices, multiply_own, receive_prices, send_totals, add_own, receive_totals, Steps, kind_number, kind_of, mark}
use Rattle.model.specs.Tables.{steps_done}
use Rattle.step_places.specs.Marks.{MarksIn}
use Rattle.step_rules.specs.Rules.{fits_by, ready_by, permitted_by, has_got, all_got}
use Rattle.run_ready.specs.Walk.{listed_by}
use Rattle.run_ready.specs.declared.ReadyRows.{ReadyRows}
use Rattle.run_ready.specs.Rows.{row_of, IsRows, RowsBefore, Renewed, HasRow, PlaceOf}
use Rattle.model.proofs.Machine.{number_place}
use Rattle.model.proofs.Cursor.{number_kind}
use Rattle.model.proofs.Reach.{mark_it}
use Rattle.run_ready_rows.proofs.ByRow.{kind_few, row_below, row_listed, renewed_cong}
use Rattle.run_ready_renew.proofs.After.{changes, IsRowsBut, sent_kind, RenewedIn}
use Rattle.run_ready.proofs.Rows.{has_cong}

-- The step of kind n, boxes a and b, does not change kind n' of box a'.
pub record Away (n a b n' a' : ℕ) : Type 0 where
  pub own : n' ≡ n → a' ≡ a → ⊥
  pub prices : n ≡ 1 → n' ≡ 3 → a' ≡ b → ⊥
  pub totals : n ≡ 4 → n' ≡ 6 → a' ≡ b → ⊥
  pub own_4 : n ≡ 2 → n' ≡ 4 → a' ≡ a → ⊥
  pub own_5 : n ≡ 2 → n' ≡ 5 → a' ≡ a → ⊥
  pub received_4 : n ≡ 3 → n' ≡ 4 → a' ≡ a → ⊥
  pub received_5 : n ≡ 3 → n' ≡ 5 → a' ≡ a → ⊥

-- A mark of another step.
mark_first : (d : Steps) (q : Kind) (a b : ℕ) (q' : Kind) (a' b' : ℕ) → (kind_number q' ≡ kind_number q → a' ≡ a → ⊥) → mark d q a b q' a' b' ≡ d q' a' b'
unfolding mark
mark_first d q a b q' a' b' h =
    rw (no_true (eqb (kind_number q') (kind_number q) && (eqb a' a && eqb b' b))
    (λ t. h (eqb-true (kind_number q') (kind_number q) (and_l (eqb (kind_number q') (kind_number q)) _ t)) (eqb-true a' a (and_l (eqb a' a) (eqb b' b) (and_r (eqb (kind_number q') (kind_number q)) _ t)))))

mark_second : (d : Steps) (q : Kind) (a b : ℕ) (q' : Kind) (a' b' : ℕ) → (kind_number q' ≡ kind_number q → b' ≡ b → ⊥) → mark d q a b q' a' b' ≡ d q' a' b'
unfolding mark
mark_second d q a b q' a' b' h =
    rw (no_true (eqb (kind_number q') (kind_number q) && (eqb a' a && eqb b' b))
    (λ t. h (eqb-true (kind_number q') (kind_number q) (and_l (eqb (kind_number q') (kind_number q)) _ t)) (eqb-true b' b (and_r (eqb a' a) (eqb b' b) (and_r (eqb (kind_number q') (kind_number q)) _ t)))))

-- A step that is not made ready is not permitted.
not_ready : (receivers : List ℕ) (waits : List (List ℕ)) (d : Steps) (q : Kind) (a b : ℕ) → ready_by waits d q a b ≡ false → permitted_by receivers waits d q a b ≡ false
unfolding permitted_by
not_ready receivers waits d q a b e = rw (e, and_false (not (d q a b))) (and_false (fits_by receivers waits q a b))

module _ (receivers : List ℕ) (waits : List (List ℕ)) (d : Steps) (q : Kind) (a b : ℕ) where
  -- What box a' has got.
  got_away : (a' b' : ℕ) → (kind_number q ≡ 2 → a' ≡ a → ⊥) → (kind_number q ≡ 3 → a' ≡ a → ⊥) → all_got waits (mark d q a b) a' b' ≡ all_got waits d a' b'
  unfolding all_got has_got kind_number
  got_away a' b' own received =
      all_cong 16 _ _ (λ o l. rw (mark_first d q a b multiply_own a' a' (λ e. own (sym e)), mark_first d q a b receive_prices a' o (λ e. received (sym e))))

  ready_away : (q' : Kind) (a' b' : ℕ) → Away (kind_number q) a b (kind_number q') a' → ready_by waits (mark d q a b) q' a' b' ≡ ready_by waits d q' a' b'
  unfolding ready_by kind_number
  ready_away send_prices a' b' w = refl
  ready_away multiply_own a' b' w = refl
  ready_away receive_prices a' b' w = mark_second d q a b send_prices b' a' (λ e. w.prices (sym e) refl)
  ready_away send_totals a' b' w = got_away a' b' (λ e. w.own_4 e refl) (λ e. w.received_4 e refl)
  ready_away add_own a' b' w = got_away a' a' (λ e. w.own_5 e refl) (λ e. w.received_5 e refl)
  ready_away receive_totals a' b' w = mark_second d q a b send_totals b' a' (λ e. w.totals (sym e) refl)

  -- A step that is not changed is permitted as before.
  pub permitted_away : (q' : Kind) (a' b' : ℕ) → Away (kind_number q) a b (kind_number q') a' → permitted_by receivers waits (mark d q a b) q' a' b' ≡ permitted_by receivers waits d q' a' b'
  unfolding permitted_by
  permitted_away q' a' b' w = rw (mark_first d q a b q' a' b' w.own, ready_away q' a' b' w)

-- A row that the step cannot change is of another kind or box.
module _ (k kind a b r : ℕ) (h : changes k kind a b r ≡ false) where
  row_is : row_of k (suc (r / k)) (r % k) ≡ r
  row_is = ap (λ (x : ℕ). x * k + r % k) (less (r / k)) ∙ div-add-mod' r k
    where
      less : (x : ℕ) → suc x - 1 ≡ x
      less x = omega arith

  not_row : (n c : ℕ) → eqb r (row_of k n c) ≡ false → suc (r / k) ≡ n → r % k ≡ c → ⊥
  not_row n c e f g = eqb-false r (row_of k n c) e (sym row_is ∙ ap₂ (λ (x y : ℕ). row_of k x y) f g)

  own_off : eqb r (row_of k kind a) ≡ false
  unfolding changes
  own_off = (or_off (eqb r (row_of k kind a)) _ h).0

  rest_off : cond (eqb kind 1 || eqb kind 4) (eqb r (row_of k (kind + 2) b)) (cond (eqb kind 2 || eqb kind 3) (eqb r (row_of k 4 a) || eqb r (row_of k 5 a)) false) ≡ false
  unfolding changes
  rest_off = (or_off (eqb r (row_of k kind a)) _ h).1

  own_offs : kind ≡ 2 → (eqb r (row_of k 4 a) ≡ false) × (eqb r (row_of k 5 a) ≡ false)
  own_offs e = or_off (eqb r (row_of k 4 a)) (eqb r (row_of k 5 a)) (rw e at rest_off)

  received_offs : kind ≡ 3 → (eqb r (row_of k 4 a) ≡ false) × (eqb r (row_of k 5 a) ≡ false)
  received_offs e = or_off (eqb r (row_of k 4 a)) (eqb r (row_of k 5 a)) (rw e at rest_off)

  pub changes_away : Away kind a b (suc (r / k)) (r % k)
  changes_away = record {
    own = not_row kind a own_off;
    prices = λ e. not_row 3 b (rw e at rest_off);
    totals = λ e. not_row 6 b (rw e at rest_off);
    own_4 = λ e. not_row 4 a (own_offs e).0;
    own_5 = λ e. not_row 5 a (own_offs e).1;
    received_4 = λ e. not_row 4 a (received_offs e).0;
    received_5 = λ e. not_row 5 a (received_offs e).1;
  }

-- The step's own row: this step is ready no more, since it is done.
ready_own : (receivers : List ℕ) (waits : List (List ℕ)) (d : Steps) (q : Kind) (a b c : ℕ) → ready_by waits (mark d q a b) q a c ≡ ready_by waits d q a c
unfolding ready_by kind_number
ready_own receivers waits d send_prices a b c = refl
ready_own receivers waits d multiply_own a b c = refl
ready_own receivers waits d receive_prices a b c = mark_first d receive_prices a b send_prices c a (λ e l. omega arith)
ready_own receivers waits d send_totals a b c = got_away receivers waits d send_totals a b a c (λ e l. omega arith) (λ e l. omega arith)
ready_own receivers waits d add_own a b c = got_away receivers waits d add_own a b a a (λ e l. omega arith) (λ e l. omega arith)
ready_own receivers waits d receive_totals a b c = mark_first d receive_totals a b send_totals c a (λ e l. omega arith)

module _ (receivers : List ℕ) (waits : List (List ℕ)) (d : Steps) (q : Kind) (a b : ℕ) where
  own_done : permitted_by receivers waits (mark d q a b) q a b ≡ false
  unfolding permitted_by
  own_done = rw (mark_it d q a b) (and_false (fits_by receivers waits q a b))

  own_others : (c : ℕ) → (c ≡ b → ⊥) → permitted_by receivers waits (mark d q a b) q a c ≡ permitted_by receivers waits d q a c
  unfolding permitted_by
  own_others c ne = rw (mark_second d q a b q a c (λ e. ne), ready_own receivers waits d q a b c)

  pub own_after : (c : ℕ) → (permitted_by receivers waits d q a c && not (eqb b c)) ≡ permitted_by receivers waits (mark d q a b) q a c
  own_after c =
      split (eqb b c)
      (λ e. let i : b ≡ c = eqb-true b c e in rw (← i, eqb_same b) (and_false (permitted_by receivers waits d q a b) ∙ sym own_done))
      (λ e. rw e (and_one (permitted_by receivers waits d q a c) ∙ sym (own_others c (λ i. eqb-false b c e (sym i)))))

  -- The receiver's row: the receipt of this message is ready where it is permitted. It is of kind q', which is ready once q is done.
  module _ (was : permitted_by receivers waits d q a b ≡ true) (q' : Kind) (differs : kind_number q' ≡ kind_number q → ⊥) (once : (e : Steps) (c : ℕ) → ready_by waits e q' b c ≡ e q c b) where
    undone : d q a b ≡ false
    unfolding permitted_by
    undone = not-true (d q a b) (and_l (not (d q a b)) (ready_by waits d q a b) (and_r (fits_by receivers waits q a b) (not (d q a b) && ready_by waits d q a b) was))

    receiver_others : (c : ℕ) → (c ≡ a → ⊥) → permitted_by receivers waits (mark d q a b) q' b c ≡ permitted_by receivers waits d q' b c
    unfolding permitted_by
    receiver_others c ne = rw (mark_first d q a b q' b c (λ e l. differs e), once (mark d q a b) c, once d c, mark_first d q a b q c b (λ e. ne))

    pub receiver_not : permitted_by receivers waits d q' b a ≡ false
    receiver_not = not_ready receivers waits d q' b a (once d a ∙ undone)

    pub receiver_after : (c : ℕ) → (permitted_by receivers waits d q' b c || (permitted_by receivers waits (mark d q a b) q' b a && eqb a c)) ≡ permitted_by receivers waits (mark d q a b) q' b c
    receiver_after c =
        split (eqb a c)
        (λ e. let i : a ≡ c = eqb-true a c e in rw (← i, eqb_same a, receiver_not) (and_one (permitted_by receivers waits (mark d q a b) q' b a)))
        (λ e. rw (e, and_false (permitted_by receivers waits (mark d q a b) q' b a))
        (or_false (permitted_by receivers waits d q' b c) ∙ sym (receiver_others c (λ i. eqb-false a c e (sym i)))))

-- The same by the numbers of kinds: 3 receives what 1 sends, and 6 what 4 sends.
module _ (receivers : List ℕ) (waits : List (List ℕ)) (d : Steps) (kind a b : ℕ) (sends : (eqb kind 1 || eqb kind 4) ≡ true) (was : permitted_by receivers waits d (kind_of kind) a b ≡ true) where
  sent_not : permitted_by receivers waits d (kind_of (kind + 2)) b a ≡ false
  unfolding kind_of ready_by kind_number
  sent_not =
      split (eqb kind 1)
      (λ e. let f = eqb-true kind 1 e in rw f (receiver_not receivers waits d send_prices a b (rw f at was) receive_prices (λ g. omega arith) (λ s c. refl)))
      (λ e. let f = eqb-true kind 4 (rw e at sends) in rw f (receiver_not receivers waits d send_totals a b (rw f at was) receive_totals (λ g. omega arith) (λ s c. refl)))

  sent_after : (c : ℕ) → (permitted_by receivers waits d (kind_of (kind + 2)) b c || (permitted_by receivers waits (mark d (kind_of kind) a b) (kind_of (kind + 2)) b a && eqb a c))
      ≡ permitted_by receivers waits (mark d (kind_of kind) a b) (kind_of (kind + 2)) b c
  unfolding kind_of ready_by kind_number
  sent_after c =
      split (eqb kind 1)
      (λ e. let f = eqb-true kind 1 e in rw f (receiver_after receivers waits d send_prices a b (rw f at was) receive_prices (λ g. omega arith) (λ s c. refl) c))
      (λ e. let f = eqb-true kind 4 (rw e at sends) in rw f (receiver_after receivers waits d send_totals a b (rw f at was) receive_totals (λ g. omega arith) (λ s c. refl) c))

-- A place by its row and second box.
place_row : (k : ℕ) (receivers : List ℕ) (waits : List (List ℕ)) (done : List ℕ) (r b : ℕ) → b < k →
    listed_by k receivers waits done (r * k + b) ≡ permitted_by receivers waits (steps_done k done) (kind_of (suc (r / k))) (r % k) b
unfolding listed_by
place_row k receivers waits done r b l = rw (digits_div r l, digits_mod r l)

-- Rows from before a step.
pub rows_before : (k kind a b : ℕ) (receivers : List ℕ) (waits : List (List ℕ)) (done done' : List ℕ) (rows : ReadyRows) →
    steps_done k done' ≡ mark (steps_done k done) (kind_of kind) a b → permitted_by receivers waits (steps_done k done) (kind_of kind) a b ≡ true →
    IsRows k (listed_by k receivers waits done) rows → RowsBefore k kind a b receivers waits done' rows
rows_before k kind a b receivers waits done done' rows e was h = record {
  steps = steps_done k done;
  marked = e;
  was_ready = was;
  long = h.long;
  right = λ r l. has_cong k _ _ r rows (place_row k receivers waits done r) (h.right r l);
}

module _ (k kind a b : ℕ) (receivers : List ℕ) (waits : List (List ℕ)) (done : List ℕ) (rows : ReadyRows) (m : MarksIn k kind a b done) (h : RowsBefore k kind a b receivers waits done rows) where
  -- The tests of places, now.
  abbrev now_ready : ℕ → Bool
  now_ready = listed_by k receivers waits done

  -- The rows before a step are those after it, but for the rows that it can change.
  pub rows_kept : IsRowsBut k kind a b now_ready rows
  rows_kept = record { boxes_in = m.boxes_in; right = λ r l f. has_cong k _ _ r rows (λ c lc. same r l f c ∙ sym (place_row k receivers waits done r c lc)) (h.right r l) }
    where
      away : (r : ℕ) → r < 6 * k → changes k kind a b r ≡ false → Away (kind_number (kind_of kind)) a b (kind_number (kind_of (suc (r / k)))) (r % k)
      away r l f = rw (number_kind kind m.kind_from m.kind_to, number_place (r / k) (kind_few k r (omega (arith, m.a_in)) l)) (changes_away k kind a b r f)

      same : (r : ℕ) → r < 6 * k → changes k kind a b r ≡ false → (c : ℕ) →
          permitted_by receivers waits h.steps (kind_of (suc (r / k))) (r % k) c ≡ permitted_by receivers waits (steps_done k done) (kind_of (suc (r / k))) (r % k) c
      same r l f c = rw h.marked (sym (permitted_away receivers waits h.steps (kind_of kind) a b (kind_of (suc (r / k))) (r % k) c (away r l f)))

  -- A row of kind n and first box c, before and after.
  module _ (n c : ℕ) (from : 1 ≤ n) (to : n ≤ 6) (lc : c < k) where
    row_kind : suc (row_of k n c / k) ≡ n
    row_kind = ap suc (digits_div (n - 1) lc) ∙ up n from
      where
        up : (n : ℕ) → 1 ≤ n → suc (n - 1) ≡ n
        up n h = omega arith

    row_then : HasRow k (permitted_by receivers waits h.steps (kind_of n) c) (row_of k n c) rows
    row_then =
        has_cong k _ _ (row_of k n c) rows (λ x l. ap₂ (λ (u v : ℕ). permitted_by receivers waits h.steps (kind_of u) v x) row_kind (digits_mod (n - 1) lc))
        (h.right (row_of k n c) (digits_lt {q = n - 1} {m = 6} (omega arith) lc))

    pub row_now : (f : ℕ → Bool) (rows₁ rows₂ : ReadyRows) → ((x : ℕ) → f x ≡ permitted_by receivers waits (steps_done k done) (kind_of n) c x) →
        Renewed k f (row_of k n c) rows₁ rows₂ → RenewedIn k now_ready (row_of k n c) rows₁ rows₂
    row_now f rows₁ rows₂ e = renewed_cong k f _ (row_of k n c) (row_of k n c) rows₁ rows₂ refl (λ x l. e x ∙ row_listed k n c receivers waits done m.boxes_in from to lc x l)

  -- Its own row.
  own_then : HasRow k (permitted_by receivers waits h.steps (kind_of kind) a) (row_of k kind a) rows
  own_then = row_then kind a m.kind_from m.kind_to m.a_in

  pub own_place : PlaceOf k kind a b 1 rows
  own_place = record {
    kind_from = m.kind_from;
    kind_to = m.kind_to;
    boxes_in = m.boxes_in;
    a_in = m.a_in;
    b_in = m.b_in;
    long = h.long;
    some = omega (arith, own_then.count_is, count_at k (permitted_by receivers waits h.steps (kind_of kind) a) b m.b_in h.was_ready);
    few = omega (arith, own_then.count_is, count_le k (permitted_by receivers waits h.steps (kind_of kind) a), m.boxes_in);
  }

  module _ (rows₁ : ReadyRows) (e₁ : (f : ℕ → Bool) → HasRow k f (row_of k kind a) rows → f b ≡ true → Renewed k (λ i. f i && not (eqb b i)) (row_of k kind a) rows rows₁) where
    pub own_renewed : RenewedIn k now_ready (row_of k kind a) rows rows₁
    own_renewed =
        row_now kind a m.kind_from m.kind_to m.a_in _ rows rows₁ (λ x. rw h.marked (own_after receivers waits h.steps (kind_of kind) a b x)) (e₁ _ own_then h.was_ready)

    -- A row of another kind.
    other_kind : (n c : ℕ) → 1 ≤ n → c < k → (n ≡ kind → ⊥) → row_of k n c ≡ row_of k kind a → ⊥
    other_kind n c from lc ne e =
        let f : n - 1 ≡ kind - 1 = sym (digits_div (n - 1) lc) ∙ ap (λ (x : ℕ). x / k) e ∙ digits_div (kind - 1) m.a_in in
        ne (omega (arith, m.kind_from))

    -- The receiver's row.
    module _ (sends : (eqb kind 1 || eqb kind 4) ≡ true) where
      to_6 : kind + 2 ≤ 6
      to_6 = omega (arith, sent_kind kind sends)

      receiver_then : HasRow k (permitted_by receivers waits h.steps (kind_of (kind + 2)) b) (row_of k (kind + 2) b) rows₁
      receiver_then =
          own_renewed.others (row_of k (kind + 2) b) _ (row_below k (kind + 2) b m.boxes_in to_6 (omega arith) m.b_in)
          (other_kind (kind + 2) b (omega arith) m.b_in (λ e. omega arith)) (row_then (kind + 2) b (omega arith) to_6 m.b_in)

      pub receiver_place : PlaceOf k (kind + 2) b a 0 rows₁
      receiver_place = record {
        kind_from = omega arith;
        kind_to = to_6;
        boxes_in = m.boxes_in;
        a_in = m.b_in;
        b_in = m.a_in;
        long = own_renewed.long;
        some = omega arith;
        few = omega (arith, receiver_then.count_is, count_le k (permitted_by receivers waits h.steps (kind_of (kind + 2)) b), m.boxes_in);
      }

      pub receiver_renewed : (t : Bool) (rows₂ : ReadyRows) → t ≡ permitted_by receivers waits (steps_done k done) (kind_of (kind + 2)) b a →
          ((f : ℕ → Bool) → HasRow k f (row_of k (kind + 2) b) rows₁ → f a ≡ false → Renewed k (λ i. f i || (t && eqb a i)) (row_of k (kind + 2) b) rows₁ rows₂) →
          RenewedIn k now_ready (row_of k (kind + 2) b) rows₁ rows₂
      receiver_renewed t rows₂ e step =
          row_now (kind + 2) b (omega arith) to_6 m.b_in _ rows₁ rows₂ (λ x. rw (e, h.marked) (sent_after receivers waits h.steps kind a b sends h.was_ready x))
          (step _ receiver_then (sent_not receivers waits h.steps kind a b sends h.was_ready))

  -- Rows 4 and 5 of its box.
  pub sends_renewed : (rows₁ rows₂ : ReadyRows) → Renewed k (permitted_by receivers waits (steps_done k done) send_totals a) (row_of k 4 a) rows₁ rows₂ → RenewedIn k now_ready (row_of k 4 a) rows₁ rows₂
  unfolding kind_of
  sends_renewed rows₁ rows₂ = row_now 4 a (omega arith) (omega arith) m.a_in _ rows₁ rows₂ (λ x. refl)

  pub added_renewed : (rows₁ rows₂ : ReadyRows) → Renewed k (permitted_by receivers waits (steps_done k done) add_own a) (row_of k 5 a) rows₁ rows₂ → RenewedIn k now_ready (row_of k 5 a) rows₁ rows₂
  unfolding kind_of
  added_renewed rows₁ rows₂ = row_now 5 a (omega arith) (omega arith) m.a_in _ rows₁ rows₂ (λ x. refl)
