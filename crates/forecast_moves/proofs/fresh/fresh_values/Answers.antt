-- `forecast_moves::fresh::fresh_values` meets its contract: before line i own values are those of the lines before it. Assumes nothing.
use mathlib.Core.Path.{◌≡◌, ap, ◌∙◌}
use mathlib.Core.List.{List}
use Prim.Native.Nat.{ℕ, ◌+◌, ◌*◌, ◌≤◌, ◌<◌}
use native.Mathlib.Omega.{arith}
use lib.ListN.{get_or, length, drop}
use lib.Ieee.{Float, nan, of_bits}
use Rattle.std.proofs.Common.{◌++◌}
use Rattle.laws.specs.Tables.{overwrite}
use Rattle.laws.proofs.Fills.{overwrite_fill}
use Rattle.laws.proofs.Tables.{cell_in, long_overwrite}
use Rattle.model.proofs.Step.{under_at}
use Rattle.forecast_rules.specs.Doubles.{zero+}
use Rattle.forecast_doubles.proofs.Words.{other}
use Rattle.forecast_moves.specs.Fresh.{FreshIn, OwnIn}
use Rattle.forecast_moves.proofs.Cleared.{few_words}
use Rattle.forecast_moves.proofs.OwnValues.{own_none, own_told, own_all, place-told}
use Rattle.forecast_moves.proofs.fresh.fresh_values.Goals as goal

-- Line i, of the tables that are asked for: its offer, the owner of that, and where its value stands.
module _ {k n l : ℕ} {owner offer : List ℕ} {value known : List Float} (w : FreshIn k n l owner offer value known) (i : ℕ) (t : i < l) where
  abbrev of : ℕ
  of = get_or offer i 0

  offer_in : of < n
  offer_in = under_at n l offer i w.offers_are t

  owner_in : get_or owner of 0 < k
  owner_in = under_at k n owner of w.owners_in offer_in

  inside : (p : ℕ) → p ≡ get_or owner of 0 * n + of → p < length known
  inside p e = omega (arith, e, cell_in _ k n _ owner_in offer_in, w.known_long_lem)

  early : (p : ℕ) → p ≡ get_or owner of 0 * n + of → p ≤ 8500
  early p e =
      let b : get_or owner of 0 < 16 = omega (arith, owner_in, w.boxes_in) in
      omega (arith, e, few_words _ n b w.offers_in, offer_in, w.offers_in)

  own_in : (m o : ℕ) → m ≡ n → o ≡ of → OwnIn m o owner
  own_in m o em eo = record {
    offers_in = omega (arith, em, w.offers_in);
    offer_in = omega (arith, em, eo, offer_in);
    owner_long_lem = omega (arith, eo, offer_in, w.owner_long_lem);
    owner_in = rw eo (omega (arith, owner_in, w.boxes_in));
  }

pub loop-i-init : goal.loop-i-init
unfolding of_bits
loop-i-init c =
    let f = c.args.f.now in
    let zeros : c.fill.new.self ++ drop c.table_words.result c.args.known.now ≡ overwrite (c.args.f.now.boxes * c.args.f.now.offers) (λ i. zero+) c.args.known.now =
    overwrite_fill _ _ _ _ (omega (arith, c.table_words.ensures, c.requires.known_long_lem)) (c.fill.ensures.after (λ y h. h))
    ∙ ap (λ (n : ℕ). overwrite n (λ i. zero+) c.args.known.now) c.table_words.ensures in
    own_none f.boxes f.offers f.offer_owner.now f.line_offer.now f.line_value.now c.args.known.now _ zeros

pub own_place-p-requires : goal.own_place-p-requires
own_place-p-requires c =
    own_in c.requires c.loop-i.i (omega (arith, c.loop-i-test.true, c.from-i-end.ensures)) _ _ c.from-n.ensures c.from.ensures

pub offset_bounds-known-p : goal.offset_bounds-known-p
offset_bounds-known-p c =
    let t : c.loop-i.i < c.args.f.now.lines = omega (arith, c.loop-i-test.true, c.from-i-end.ensures) in
    let few : c.own_place-p.result ≤ 8500 =
    early c.requires c.loop-i.i t _ (place-told c.args.f.now.offer_owner.now _ _ _ _ _ c.own_place-p.ensures c.from.ensures c.from-n.ensures) in
    omega (arith, few)

pub bounds-known-p : goal.bounds-known-p
bounds-known-p c =
    let t : c.loop-i.i < c.args.f.now.lines = omega (arith, c.loop-i-test.true, c.from-i-end.ensures) in
    omega (
      arith,
      c.loop-i.auto.known,
      inside c.requires c.loop-i.i t _ (place-told c.args.f.now.offer_owner.now _ _ _ _ _ c.own_place-p.ensures c.from.ensures c.from-n.ensures),
    )

pub loop-i-preserved : goal.loop-i-preserved
loop-i-preserved c =
    let f = c.args.f.now in
    let t : c.loop-i.i < c.args.f.now.lines = omega (arith, c.loop-i-test.true, c.from-i-end.ensures) in
    own_told f.boxes f.offers c.loop-i.i f.offer_owner.now f.line_offer.now f.line_value.now _ c.loop-i.known c.loop-i.invariant
    (offer_in c.requires c.loop-i.i t) (owner_in c.requires c.loop-i.i t) (omega (arith, c.requires.known_long_lem, c.loop-i.auto.known)) _ _
    (place-told f.offer_owner.now _ _ _ _ _ c.own_place-p.ensures c.from.ensures c.from-n.ensures)
    (other f.line_value.now c.loop-i.i nan zero+ (omega (arith, t, c.requires.value_long)))

pub returns : goal.returns
unfolding of_bits
returns c =
    let f = c.args.f.now in
    let zeros : c.fill.new.self ++ drop c.table_words.result c.args.known.now ≡ overwrite (c.args.f.now.boxes * c.args.f.now.offers) (λ i. zero+) c.args.known.now =
    overwrite_fill _ _ _ _ (omega (arith, c.table_words.ensures, c.requires.known_long_lem)) (c.fill.ensures.after (λ y h. h))
    ∙ ap (λ (n : ℕ). overwrite n (λ i. zero+) c.args.known.now) c.table_words.ensures in
    own_all f.boxes f.offers c.loop-i.i f.lines f.offer_owner.now f.line_offer.now f.line_value.now c.args.known.now _ c.loop-i.known
    (omega (arith, c.loop-i.auto.i-end, c.from-i-end.ensures)) (omega (arith, c.loop-i-test.false, c.from-i-end.ensures)) c.loop-i.invariant zeros
    (rw zeros (long_overwrite (f.boxes * f.offers) (λ i. zero+) c.args.known.now)) c.loop-i.auto.known
