-- `run_fresh::fresh_prices` meets its contract. The invariant: of the first o offers each owner knows the prices, and all else of the table is 0. Assumes nothing.
use mathlib.Core.Path.{◌≡◌, refl, sym, ap, ap₂, ◌∙◌}
use mathlib.Core.Bool.{cond}
use mathlib.Core.List.{List, ◌++◌}
use Prim.Native.Nat.{ℕ, suc, ◌+◌, ◌-◌, ◌*◌, ◌/◌, ◌≤◌, ◌<◌}
use native.Mathlib.Nat.{mul_comm}
use native.Mathlib.Omega.{arith}
use lib.ListN.{length, get_or, drop}
use borrow.Author.Tests.{lt-ltb, le-ltb}
use Rattle.laws.specs.Tables.{overwrite}
use Rattle.laws.proofs.Entries.{entry_in}
use Rattle.laws.proofs.Fills.{overwrite_fill}
use Rattle.laws.proofs.Loops.{window}
use Rattle.laws.proofs.Tables.{is_recell, cell_in, get_d_overwrite, get_d_past}
use Rattle.model.specs.Spans.{in_span}
use Rattle.run_fresh.specs.Fresh.{own_prices}
use Rattle.run_fresh.proofs.Made.{own_more, own_past, own_in}
use Rattle.run_fresh.proofs.fresh_prices.Goals as goal

-- The words of a turn lie in the table, and the prices of all lists in theirs.
known_in : (k n l o own at width size : ℕ) → o < n → own < k → at ≡ (own * n + o) * suc l → width ≡ suc l → k * (n * suc l) ≤ size → at + width ≤ size
known_in k n l o own at width size lo lown ea ew h = rw (ea, ew) (omega (arith, h, own_in k n l o own lo lown))

price_in : (n l width size : ℕ) → width ≡ suc l → n * suc l ≤ size → width * n ≤ size
price_in n l width size e h = rw (e, mul_comm (suc l) n) h

-- The first words of a table, as many as k rows of n entries need, are filled with 0.
module _ (k n l b e width row words : ℕ) (eb : b ≡ k) (en : e ≡ n) (ew : width ≡ suc l) (er : row ≡ e * width) (lw : words ≡ b * row) where
  words_are : words ≡ k * (n * suc l)
  words_are = rw (lw, eb, er, en, ew) refl

  filled : (t f : List ℕ) → k * (n * suc l) ≤ length t → (words ≤ length t → f ++ drop words t ≡ overwrite words (λ i. 0) t) →
      f ++ drop words t ≡ overwrite (k * (n * suc l)) (λ i. 0) t
  filled t f h made = made (rw words_are h) ∙ ap (λ (x : ℕ). overwrite x (λ i. 0) t) words_are

pub loop-o-init : goal.loop-o-init
loop-o-init c =
    let z = c.args.job.now.sizes in
    let m = z.offers * suc z.lists in
    let zero_known : c.fill-2.new.self ++ drop (c.from.result * c.words_at.result) c.args.known.now ≡ overwrite (z.boxes * m) (λ i. 0) c.args.known.now =
    filled _ _ _ _ _ _ _ _ c.from.ensures c.from-n.ensures c.width_of-width.ensures.0 c.words_at.ensures.0 refl _ _ c.requires.known_long
    (λ h. overwrite_fill _ _ _ _ h (c.fill-2.ensures.after (λ y h. h))) in (
      (λ b w lb lw. ap (λ (l : List ℕ). get_or l (b * m + w) 0) zero_known
          ∙ get_d_overwrite (z.boxes * m) (λ i. 0) c.args.known.now (b * m + w) 0 (cell_in b z.boxes m w lb lw)
          ∙ sym (rw (le-ltb (w / suc z.lists) 0 (omega arith)))),
      λ i l. refl,
    )

-- The place of a turn.
module _ (own place u n n' o width l at : ℕ) (eu : u ≡ own) (en : n' ≡ n) (ep : place ≡ u * n' + o) (ew : width ≡ suc l) (ea : at ≡ place * width) where
  at_is : at ≡ (own * n + o) * suc l
  at_is = rw (ea, ep, ew, eu, en) refl

pub put_prices-requires-clause-width_in_bounds : goal.put_prices-requires-clause-width_in_bounds
put_prices-requires-clause-width_in_bounds c =
    let z = c.args.job.now.sizes in
    let owner : ℕ =
    get_or c.args.job.now.offer_owner.now c.loop-o.o 0 in
    let lo : c.loop-o.o < z.offers =
    omega (arith, c.loop-o-test.true, c.from-n.ensures) in (
      known_in z.boxes z.offers z.lists c.loop-o.o owner _ _ _ lo (c.requires.owner< c.loop-o.o lo)
          (at_is owner _ _ z.offers _ _ _ z.lists _ c.u16_at.ensures c.from-n.ensures c.place.ensures c.width_of-width.ensures.0 c.words_at-at.ensures.0)
          c.width_of-width.ensures.0 (omega (arith, c.requires.known_long, c.loop-o.auto.known, c.fill-2.auto.self)),
      rw c.from-n.ensures (price_in z.offers z.lists _ _ c.width_of-width.ensures.0 c.requires.price_long),
    )

pub loop-o-preserved : goal.loop-o-preserved
unfolding in_span
loop-o-preserved c =
    let z = c.args.job.now.sizes in
    let owner : ℕ =
    get_or c.args.job.now.offer_owner.now c.loop-o.o 0 in
    let lo : c.loop-o.o < z.offers =
    omega (arith, c.loop-o-test.true, c.from-n.ensures) in
    let owner_in : owner < z.boxes =
    c.requires.owner< c.loop-o.o lo in
    let place_is : c.words_at-at.result ≡ (owner * z.offers + c.loop-o.o) * suc z.lists =
    at_is owner _ _ z.offers _ _ _ z.lists _ c.u16_at.ensures c.from-n.ensures c.place.ensures c.width_of-width.ensures.0 c.words_at-at.ensures.0 in
    let wrote : (i : ℕ) → let at = (owner * z.offers + c.loop-o.o) * suc z.lists in
    get_or c.put_prices.new.known i 0
    ≡ cond (window at (suc z.lists) i) (get_or c.args.job.now.price.now ((i - at) * z.offers + c.loop-o.o) 0) (get_or c.loop-o.known i 0) =
    λ i. c.put_prices.ensures i
    ∙ ap (λ (n : ℕ). cond (window c.words_at-at.result c.width_of-width.result i) (get_or c.args.job.now.price.now ((i - c.words_at-at.result) * n + c.loop-o.o) 0)
    (get_or c.loop-o.known i 0)) c.from-n.ensures
    ∙ ap₂ (λ (x y : ℕ). cond (window x y i) (get_or c.args.job.now.price.now ((i - x) * z.offers + c.loop-o.o) 0) (get_or c.loop-o.known i 0))
    place_is c.width_of-width.ensures.0 in
    let v = c.loop-o in
    let price = c.args.job.now.price.now in
    let owners = c.args.job.now.offer_owner.now in
    let next = c.put_prices.new.known in (
      (λ b x lb lx. own_more z.boxes z.offers z.lists price owners v.known next v.o lo owner_in wrote b x lx (v.invariant.0 b x lb lx)),
      λ i h. own_past z.boxes z.offers z.lists price owners v.known next v.o lo owner_in wrote i h ∙ v.invariant.1 i h,
    )

pub returns : goal.returns
unfolding own_prices
returns c =
    let z = c.args.job.now.sizes in
    let m = z.offers * suc z.lists in
    let size = filled _ _ _ _ _ _ _ _ c.from.ensures c.from-n.ensures c.width_of-width.ensures.0 c.words_at.ensures.0 refl in
    let zero_known : c.fill-2.new.self ++ drop (c.from.result * c.words_at.result) c.args.known.now ≡ overwrite (z.boxes * m) (λ i. 0) c.args.known.now =
    size _ _ c.requires.known_long (λ h. overwrite_fill _ _ _ _ h (c.fill-2.ensures.after (λ y h. h))) in
    let v = c.loop-o in
    let end : v.o ≡ z.offers = omega (arith, c.loop-o-test.false, v.auto.o-end, c.from-n.ensures) in (
      is_recell z.boxes m _ c.args.known.now v.known 0 c.requires.known_long (omega (arith, v.auto.known, c.fill-2.auto.self))
          (λ b w lb lw. v.invariant.0 b w lb lw ∙ rw (lt-ltb (w / suc z.lists) v.o (omega (arith, end, entry_in z.lists z.offers w lw))))
          (λ i h. v.invariant.1 i h ∙ ap (λ (t : List ℕ). get_or t i 0) zero_known ∙ get_d_past (z.boxes * m) (λ i. 0) c.args.known.now i 0 h),
      size _ _ c.requires.transit_long (λ h. overwrite_fill _ _ _ _ h (c.fill.ensures.after (λ y h. h))),
    )
