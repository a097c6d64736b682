-- `step_apply::price_step` meets its contract, kind by kind. Assumes nothing.
use mathlib.Core.Path.{◌≡◌, ◌∙◌}
use Prim.Native.Nat.{◌≤◌}
use native.Mathlib.Nat.{le_trans}
use native.Mathlib.Omega.{arith}
use Rattle.step_totals.specs.Row.{tallies}
use Rattle.step_apply.proofs.Sides.{prices_sent_out, own_multiplied_out, prices_received_out}
use Rattle.step_apply.proofs.Parts.{rows_of, tables_of, places_of, linked_of}
use Rattle.step_apply.proofs.price_step.Goals as goal

pub send_prices-requires : goal.send_prices-requires
send_prices-requires c =
    let given = c.requires.passes.passes in
    rw (c.from-n.ensures, c.width_of-width.ensures.0) (rows_of _ _ _ _ _ _ _ _ _ _ _ _ given c.args.x.second given.b_in (λ two. omega (arith, two, c.if-x-eq1.true)))

pub returns-then-x-eq1-clause-moved : goal.returns-then-x-eq1-clause-moved
returns-then-x-eq1-clause-moved c =
    let given = c.requires.passes.passes in
    let s = c.args.state.now in
    let sent = rw (c.from-n.ensures, c.width_of-width.ensures.0) at c.send_prices.ensures in
    λ owner holder passes l listed. let o = prices_sent_out (tallies _ _ _ owner _ holder _ _) _ c.args.from c.args.to passes s.known.now s.price_transit.now s.working.now
    c.args.x.kind c.args.x.first c.args.x.second c.if-x-eq1.true in
    record {
      known_is = o.known_is;
      transit_is = sent _ passes (tables_of _ _ _ _ _ _ _ _ _ _ _ _ given c.args.x.second given.b_in) (listed (λ two. omega (arith, two, c.if-x-eq1.true))) ∙ o.transit_is;
      working_is = o.working_is;
      sent_is = (rw c.width_of-width.ensures.0 at c.span_words.ensures.0) ∙ o.sent_is;
    }

pub add_placed-requires-clause-placed_tallies : goal.add_placed-requires-clause-placed_tallies
add_placed-requires-clause-placed_tallies c =
    let given = c.requires.passes.passes in
    rw c.width_of-width.ensures.0 (places_of _ _ _ _ _ _ _ _ _ _ _ _ given c.args.state.now.known.now (omega (arith, c.if-x-eq2.true)) given.known_in)

pub add_placed-requires-clause-from_bound : goal.add_placed-requires-clause-from_bound
add_placed-requires-clause-from_bound c =
    let given = c.requires.passes.passes in
    (le_trans given.a_in given.tallies_in.boxes_in, linked_of _ _ _ _ _ _ _ _ _ _ _ _ given)

pub returns-then-x-eq2-clause-moved : goal.returns-then-x-eq2-clause-moved
returns-then-x-eq2-clause-moved c =
    let s = c.args.state.now in
    let placed = rw c.width_of-width.ensures.0 at c.add_placed.ensures in
    λ owner holder passes l listed. let o = own_multiplied_out (tallies _ _ _ owner _ holder _ _) _ c.args.from c.args.to passes s.known.now s.price_transit.now s.working.now
    c.args.x.kind c.args.x.first c.args.x.second c.if-x-eq2.true in
    record { known_is = o.known_is; transit_is = o.transit_is; working_is = placed owner holder l ∙ o.working_is; sent_is = o.sent_is }

pub add_placed-requires-2-clause-placed_tallies : goal.add_placed-requires-2-clause-placed_tallies
add_placed-requires-2-clause-placed_tallies c =
    let given = c.requires.passes.passes in
    let more : 2 ≤ c.args.x.kind = omega (arith, given.kind_from, c.if-x-eq1.false) in
    rw c.width_of-width.ensures.0 (places_of _ _ _ _ _ _ _ _ _ _ _ _ given c.args.state.now.price_transit.now more given.transit_in)

pub add_placed-requires-2-clause-from_bound : goal.add_placed-requires-2-clause-from_bound
add_placed-requires-2-clause-from_bound c =
    let given = c.requires.passes.passes in
    (le_trans given.b_in given.tallies_in.boxes_in, linked_of _ _ _ _ _ _ _ _ _ _ _ _ given)

pub receive_prices-requires : goal.receive_prices-requires
receive_prices-requires c =
    let given = c.requires.passes.passes in
    rw (c.from-n.ensures, c.width_of-width.ensures.0) (rows_of _ _ _ _ _ _ _ _ _ _ _ _ given c.args.x.first given.a_in (λ two. omega (arith, two, c.if-x-eq2.false)))

pub returns-clause-moved : goal.returns-clause-moved
returns-clause-moved c =
    let given = c.requires.passes.passes in
    let s = c.args.state.now in
    let third : c.args.x.kind ≡ 3 = omega (arith, given.kind_from, given.kind_to, c.if-x-eq1.false, c.if-x-eq2.false) in
    let placed = rw c.width_of-width.ensures.0 at c.add_placed-2.ensures in
    let received = rw (c.from-n.ensures, c.width_of-width.ensures.0) at c.receive_prices.ensures in
    λ owner holder passes l listed. let o = prices_received_out (tallies _ _ _ owner _ holder _ _) _ c.args.from c.args.to passes s.known.now s.price_transit.now s.working.now
    c.args.x.kind c.args.x.first c.args.x.second third in
    let e = received _ passes (tables_of _ _ _ _ _ _ _ _ _ _ _ _ given c.args.x.first given.a_in) (listed (λ two. omega (arith, two, third))) in
    record { known_is = e.0 ∙ o.known_is; transit_is = e.1 ∙ o.transit_is; working_is = placed owner holder l ∙ o.working_is; sent_is = o.sent_is }
