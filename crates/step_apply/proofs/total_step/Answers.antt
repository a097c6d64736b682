-- `step_apply::total_step` meets its contract, kind by kind. Assumes nothing.
use mathlib.Core.Path.{◌≡◌, ap₂, ◌∙◌}
use Prim.Native.Nat.{ℕ}
use native.Mathlib.Omega.{arith}
use lib.IntN.{pos}
use lib.ListN.{get_or}
use Rattle.model.specs.Spans.{span_written}
use Rattle.step_apply.proofs.Sides.{totals_sent_out, own_added_out, totals_received_out}
use Rattle.step_apply.proofs.total_step.Goals as goal

pub returns-then-kind-eq4-clause-moved : goal.returns-then-kind-eq4-clause-moved
returns-then-kind-eq4-clause-moved c =
    let s = c.args.state.now in
    let o = totals_sent_out c.args.from c.args.to c.args.width c.args.grocers.now s.working.now s.total_transit.now s.statement.now c.args.kind c.if-kind-eq4.true in
    record {
      working_is = c.move_span.ensures.0 ∙ ap₂ (λ (x y : ℕ). span_written x y (λ w. pos 0) s.working.now) c.words_at.ensures.0 c.words_at-then-kind-eq4.ensures.0 ∙ o.working_is;
      transit_is = c.move_span.ensures.1
          ∙ ap₂ (λ (x y : ℕ). span_written x y (λ w. get_or s.working.now w (pos 0)) s.total_transit.now) c.words_at.ensures.0 c.words_at-then-kind-eq4.ensures.0
          ∙ o.transit_is;
      statement_is = o.statement_is;
      sent_is = c.span_words.ensures.0 ∙ o.sent_is;
    }

pub returns-then-kind-eq5-clause-moved : goal.returns-then-kind-eq5-clause-moved
returns-then-kind-eq5-clause-moved c =
    let s = c.args.state.now in
    let o = own_added_out c.args.from c.args.to c.args.width c.args.grocers.now s.working.now s.total_transit.now s.statement.now c.args.kind c.if-kind-eq5.true in
    record { working_is = c.credit_span.ensures.0 ∙ o.working_is; transit_is = o.transit_is; statement_is = c.credit_span.ensures.1 ∙ o.statement_is; sent_is = o.sent_is }

pub returns-clause-moved : goal.returns-clause-moved
returns-clause-moved c =
    let s = c.args.state.now in
    let sixth : c.args.kind ≡ 6 = omega arith in
    let o = totals_received_out c.args.from c.args.to c.args.width c.args.grocers.now s.working.now s.total_transit.now s.statement.now c.args.kind sixth in
    record { working_is = o.working_is; transit_is = c.credit_span-2.ensures.0 ∙ o.transit_is; statement_is = c.credit_span-2.ensures.1 ∙ o.statement_is; sent_is = o.sent_is }
