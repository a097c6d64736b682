-- `run_steps::one_step` meets its contract: one side does the step, and the tables of the other stay. Assumes nothing.
use mathlib.Core.Path.{◌≡◌, sym, ap, ◌∙◌, subst}
use mathlib.Core.List.{List}
use Prim.Native.Nat.{ℕ, suc, ◌+◌, ◌<◌}
use native.Mathlib.Omega.{arith}
use lib.ListN.{get_or}
use Rattle.laws.specs.Listed.{Listed}
use Rattle.step_totals.specs.Row.{Tallies, tallies}
use Rattle.step_apply.specs.Apply.{PriceStepIn, PriceStepOut, TotalStepIn, TotalStepOut}
use Rattle.run_steps.specs.All.{head_of, StepIn}
use Rattle.run_steps.proofs.one_step.Goals as goal

-- What holds of two numbers holds of two that are the same.
carry : (P : ℕ → ℕ → Type 0) {a b c d : ℕ} → a ≡ c → b ≡ d → P a b → P c d
carry P {a = a} {d = d} ea eb x = subst (λ (u : ℕ). P u d) ea (subst (P a) eb x)

pub price_step-requires : goal.price_step-requires
price_step-requires c =
    let tables : List ℕ → List ℕ → Tallies =
    λ owner. λ holder. tallies c.args.job.now.sizes.boxes c.args.job.now.sizes.offers c.args.job.now.sizes.tallies owner c.args.look.now.tally_place.now holder c.args.job.now.tally_offer.now c.args.job.now.tally_count.now in
    let given : StepIn (tables c.requires.list c.requires.passes.list) c.args.job.now.sizes.lists c.args.look.now.tally_links.now c.args.look.now.offer_heads.now c.args.look.now.offers.now
    c.args.look.now.heads.now c.args.look.now.grocers.now c.args.state.now.known.now c.args.state.now.price_transit.now c.args.state.now.working.now c.args.state.now.total_transit.now c.args.state.now.statement.now
    c.args.x.kind c.args.x.first c.args.x.second =
    c.requires.passes.passes in
    let head : ℕ =
    head_of c.args.x.kind c.args.x.first c.args.x.second in
    let first_is : c.index_at-first.result ≡ get_or c.args.look.now.offer_heads.now head 0 =
    c.index_at-first.ensures.0 ∙ ap (λ (i : ℕ). get_or c.args.look.now.offer_heads.now i 0) c.head_of-head.ensures in
    let last_is : c.index_at-last.result ≡ get_or c.args.look.now.offer_heads.now (head + 1) 0 =
    c.index_at-last.ensures.0 ∙ ap (λ (i : ℕ). get_or c.args.look.now.offer_heads.now (i + 1) 0) c.head_of-head.ensures in
    record {
      list = c.requires.list;
      passes = record {
        list = c.requires.passes.list;
        passes = carry (λ (first last : ℕ). PriceStepIn (tables c.requires.list c.requires.passes.list) (suc c.args.job.now.sizes.lists) first last c.args.look.now.offers.now c.args.look.now.tally_links.now
            c.args.state.now.known.now c.args.state.now.price_transit.now c.args.state.now.working.now c.args.x.kind c.args.x.first c.args.x.second)
            (sym first_is) (sym last_is) (given.price_side c.if-x-le3.true);
      };
    }

pub returns-then-x-le3-clause-moved : goal.returns-then-x-le3-clause-moved
returns-then-x-le3-clause-moved c =
    let tables : List ℕ → List ℕ → Tallies =
    λ owner. λ holder. tallies c.args.job.now.sizes.boxes c.args.job.now.sizes.offers c.args.job.now.sizes.tallies owner c.args.look.now.tally_place.now holder c.args.job.now.tally_offer.now c.args.job.now.tally_count.now in
    let head : ℕ =
    head_of c.args.x.kind c.args.x.first c.args.x.second in
    let first_is : c.index_at-first.result ≡ get_or c.args.look.now.offer_heads.now head 0 =
    c.index_at-first.ensures.0 ∙ ap (λ (i : ℕ). get_or c.args.look.now.offer_heads.now i 0) c.head_of-head.ensures in
    let last_is : c.index_at-last.result ≡ get_or c.args.look.now.offer_heads.now (head + 1) 0 =
    c.index_at-last.ensures.0 ∙ ap (λ (i : ℕ). get_or c.args.look.now.offer_heads.now (i + 1) 0) c.head_of-head.ensures in
    λ owner. λ holder. λ passes. λ linked. λ listing. record {
      price_side = λ small. (
        carry (λ (first last : ℕ). PriceStepOut (tables owner holder) (suc c.args.job.now.sizes.lists) first last passes c.args.state.now.known.now c.args.state.now.price_transit.now c.args.state.now.working.now
            c.args.x.kind c.args.x.first c.args.x.second
            c.price_step.new.state.known.now c.price_step.new.state.price_transit.now c.price_step.new.state.working.now c.price_step.result)
            first_is last_is
            (c.price_step.ensures.moved owner holder passes (linked small)
            (λ other. carry (λ (first last : ℕ). Listed c.args.job.now.sizes.offers passes first last c.args.look.now.offers.now) (sym first_is) (sym last_is) (listing small other))),
        c.price_step.ensures.kept.total_transit_kept,
        c.price_step.ensures.kept.statement_kept,
      );
      total_side = λ l. absurd (omega (arith, c.if-x-le3.true, l));
    }

pub total_step-requires : goal.total_step-requires
total_step-requires c =
    let tables : List ℕ → List ℕ → Tallies =
    λ owner. λ holder. tallies c.args.job.now.sizes.boxes c.args.job.now.sizes.offers c.args.job.now.sizes.tallies owner c.args.look.now.tally_place.now holder c.args.job.now.tally_offer.now c.args.job.now.tally_count.now in
    let given : StepIn (tables c.requires.list c.requires.passes.list) c.args.job.now.sizes.lists c.args.look.now.tally_links.now c.args.look.now.offer_heads.now c.args.look.now.offers.now
    c.args.look.now.heads.now c.args.look.now.grocers.now c.args.state.now.known.now c.args.state.now.price_transit.now c.args.state.now.working.now c.args.state.now.total_transit.now c.args.state.now.statement.now
    c.args.x.kind c.args.x.first c.args.x.second =
    c.requires.passes.passes in
    let head : ℕ =
    head_of c.args.x.kind c.args.x.first c.args.x.second in
    let large : 3 < c.args.x.kind =
    omega (arith, c.if-x-le3.false) in
    let from_is : c.index_at-from.result ≡ get_or c.args.look.now.heads.now head 0 =
    c.index_at-from.ensures.0 ∙ ap (λ (i : ℕ). get_or c.args.look.now.heads.now i 0) c.head_of-head.ensures in
    let to_is : c.index_at-to.result ≡ get_or c.args.look.now.heads.now (head + 1) 0 =
    c.index_at-to.ensures.0 ∙ ap (λ (i : ℕ). get_or c.args.look.now.heads.now (i + 1) 0) c.head_of-head.ensures in
    subst (λ (width : ℕ). TotalStepIn c.index_at-from.result c.index_at-to.result width c.args.look.now.grocers.now c.args.state.now.working.now c.args.state.now.total_transit.now c.args.state.now.statement.now c.args.x.kind)
    (sym c.width_of-width.ensures.0)
    (carry (λ (from to : ℕ). TotalStepIn from to (suc c.args.job.now.sizes.lists) c.args.look.now.grocers.now c.args.state.now.working.now c.args.state.now.total_transit.now c.args.state.now.statement.now c.args.x.kind)
    (sym from_is) (sym to_is) (given.total_side large))

pub returns-clause-moved : goal.returns-clause-moved
returns-clause-moved c =
    let head : ℕ =
    head_of c.args.x.kind c.args.x.first c.args.x.second in
    let from_is : c.index_at-from.result ≡ get_or c.args.look.now.heads.now head 0 =
    c.index_at-from.ensures.0 ∙ ap (λ (i : ℕ). get_or c.args.look.now.heads.now i 0) c.head_of-head.ensures in
    let to_is : c.index_at-to.result ≡ get_or c.args.look.now.heads.now (head + 1) 0 =
    c.index_at-to.ensures.0 ∙ ap (λ (i : ℕ). get_or c.args.look.now.heads.now (i + 1) 0) c.head_of-head.ensures in
    λ owner. λ holder. λ passes. λ linked. λ listing. record {
      price_side = λ l. absurd (omega (arith, c.if-x-le3.false, l));
      total_side = λ many. (
        carry (λ (from to : ℕ). TotalStepOut from to (suc c.args.job.now.sizes.lists) c.args.look.now.grocers.now c.args.state.now.working.now c.args.state.now.total_transit.now c.args.state.now.statement.now c.args.x.kind
            c.total_step.new.state.working.now c.total_step.new.state.total_transit.now c.total_step.new.state.statement.now c.total_step.result)
            from_is to_is
            (subst (λ (width : ℕ). TotalStepOut c.index_at-from.result c.index_at-to.result width c.args.look.now.grocers.now c.args.state.now.working.now c.args.state.now.total_transit.now c.args.state.now.statement.now c.args.x.kind
            c.total_step.new.state.working.now c.total_step.new.state.total_transit.now c.total_step.new.state.statement.now c.total_step.result)
            c.width_of-width.ensures.0 c.total_step.ensures.moved),
        c.total_step.ensures.kept.known_kept,
        c.total_step.ensures.kept.price_transit_kept,
      );
    }
