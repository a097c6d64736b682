-- `trial_rounds::idle_rounds` meets its contract: every box has been idle in all rounds but those of its steps so far. Assumes nothing.
use mathlib.Core.Path.{◌≡◌, refl, ap, ◌∙◌}
use mathlib.Core.List.{List, ◌++◌}
use Prim.Native.Nat.{ℕ, ◌+◌, ◌/◌, ◌%◌, ◌≤◌, ◌<◌}
use native.Mathlib.Omega.{arith}
use lib.ListN.{length, get_or, drop}
use lib.Seq.{get_or-set_other, get_or-take, length-take-le}
use Rattle.laws.specs.Tables.{overwrite}
use Rattle.laws.proofs.Fills.{overwrite_fill}
use Rattle.laws.proofs.Tables.{get_d_overwrite, get_d_past, length_overwrite, is_overwrite}
use Rattle.step_places.specs.Order.{steps_in}
use Rattle.trial_rules.specs.Rounds.{of_box}
use Rattle.trial_rounds.proofs.Idle.{of_none, not_none, one_less}
use Rattle.trial_rounds.proofs.idle_rounds.Goals as goal

-- The rounds are written for each box.
filled : (n k v : ℕ) (l f : List ℕ) → n ≡ k → k ≤ length l → (n ≤ length l → f ++ drop n l ≡ overwrite n (λ i. v) l) → f ++ drop n l ≡ overwrite k (λ i. v) l
filled n k v l f e h made = made (rw e h) ∙ ap (λ (m : ℕ). overwrite m (λ i. v) l) e

pub loop-place-init : goal.loop-place-init
loop-place-init c =
    let all : c.fill.new.self ++ drop c.from.result c.args.idle.now ≡ overwrite c.args.k (λ i. c.args.rounds) c.args.idle.now =
    filled _ _ _ _ _ c.from.ensures c.requires.le_k.1 (λ h. overwrite_fill _ _ _ _ h (c.fill.ensures.after (λ y h. h))) in
    record {
      left = λ b lb. omega (
        arith,
        of_none c.args.k c.args.order.now b,
        ap (λ (l : List ℕ). get_or l b 0) all ∙ get_d_overwrite c.args.k (λ i. c.args.rounds) c.args.idle.now b 0 lb,
      );
      past = λ x l. refl;
    }

pub overflow_sub-idle : goal.overflow_sub-idle
overflow_sub-idle c =
    let all : c.fill.new.self ++ drop c.from.result c.args.idle.now ≡ overwrite c.args.k (λ i. c.args.rounds) c.args.idle.now =
    filled _ _ _ _ _ c.from.ensures c.requires.le_k.1 (λ h. overwrite_fill _ _ _ _ h (c.fill.ensures.after (λ y h. h))) in
    let full : length c.loop-place.idle ≡ length c.args.idle.now =
    c.loop-place.auto.idle ∙ ap length all ∙ length_overwrite c.args.k (λ i. c.args.rounds) c.args.idle.now c.requires.le_k.1 in
    let k = c.args.k in
    let order = c.args.order.now in
    let i = c.loop-place.place-index in
    let size = length-take-le c.args.n order (omega (arith, c.requires.le_k)) in
    let lo : i < c.args.n = omega (arith, c.loop-place-test.true, size) in
    let place_is : c.first_of-b.result ≡ get_or order i 0 / k % k =
    c.first_of-b.ensures.0 ∙ ap (λ (x : ℕ). x / k % k) (get_or-take c.args.n order i 0 lo) in
    let room : c.first_of-b.result < length c.loop-place.idle = omega (arith, c.first_of-b.ensures.1, full, c.requires.le_k.1) in
    let long : c.args.n ≤ length order = omega (arith, c.requires.le_k.2, c.requires.le_k.3) in
    let v = c.loop-place.invariant in
    not_none k order c.args.rounds c.args.n i lo long c.requires.by_index c.loop-place.idle v.left _ place_is c.first_of-b.ensures.1 room

pub loop-place-preserved : goal.loop-place-preserved
loop-place-preserved c =
    let all : c.fill.new.self ++ drop c.from.result c.args.idle.now ≡ overwrite c.args.k (λ i. c.args.rounds) c.args.idle.now =
    filled _ _ _ _ _ c.from.ensures c.requires.le_k.1 (λ h. overwrite_fill _ _ _ _ h (c.fill.ensures.after (λ y h. h))) in
    let full : length c.loop-place.idle ≡ length c.args.idle.now =
    c.loop-place.auto.idle ∙ ap length all ∙ length_overwrite c.args.k (λ i. c.args.rounds) c.args.idle.now c.requires.le_k.1 in
    let k = c.args.k in
    let order = c.args.order.now in
    let i = c.loop-place.place-index in
    let size = length-take-le c.args.n order (omega (arith, c.requires.le_k)) in
    let lo : i < c.args.n = omega (arith, c.loop-place-test.true, size) in
    let place_is : c.first_of-b.result ≡ get_or order i 0 / k % k =
    c.first_of-b.ensures.0 ∙ ap (λ (x : ℕ). x / k % k) (get_or-take c.args.n order i 0 lo) in
    let room : c.first_of-b.result < length c.loop-place.idle = omega (arith, c.first_of-b.ensures.1, full, c.requires.le_k.1) in
    let long : c.args.n ≤ length order = omega (arith, c.requires.le_k.2, c.requires.le_k.3) in
    let v = c.loop-place.invariant in
    record {
      left = one_less k order c.args.rounds c.args.n i lo long c.requires.by_index c.loop-place.idle v.left _ place_is c.first_of-b.ensures.1 room;
      past = λ x lx. get_or-set_other c.loop-place.idle c.first_of-b.result x _ 0 (λ e. omega (arith, e, lx, c.first_of-b.ensures.1)) ∙ v.past x lx;
    }

pub returns : goal.returns
returns c =
    let all : c.fill.new.self ++ drop c.from.result c.args.idle.now ≡ overwrite c.args.k (λ i. c.args.rounds) c.args.idle.now =
    filled _ _ _ _ _ c.from.ensures c.requires.le_k.1 (λ h. overwrite_fill _ _ _ _ h (c.fill.ensures.after (λ y h. h))) in
    let full : length c.loop-place.idle ≡ length c.args.idle.now =
    c.loop-place.auto.idle ∙ ap length all ∙ length_overwrite c.args.k (λ i. c.args.rounds) c.args.idle.now c.requires.le_k.1 in
    let v = c.loop-place.invariant in
    let size = length-take-le c.args.n c.args.order.now (omega (arith, c.requires.le_k)) in
    let end : c.loop-place.place-index ≡ c.args.n = omega (arith, c.loop-place-test.false, c.loop-place.auto.place-index-end, size) in
    is_overwrite c.args.k _ c.args.idle.now c.loop-place.idle 0 c.requires.le_k.1 full
    (λ b lb. let e : get_or c.loop-place.idle b 0 + of_box b (steps_in c.args.k c.args.n c.args.order.now) ≡ c.args.rounds = rw end at (v.left b lb) in omega arith)
    (λ x lx. v.past x lx ∙ ap (λ (w : List ℕ). get_or w x 0) all ∙ get_d_past c.args.k (λ i. c.args.rounds) c.args.idle.now x 0 lx)
