-- `step_checks::request::request_refusal` meets its contract: each number is that of the first test that holds. Assumes nothing.
use mathlib.Core.Path.{◌≡◌, sym, ◌∙◌}
use mathlib.Core.Bool.{true}
use native.Mathlib.Omega.{arith}
use borrow.Author.Tests.{not-false}
use Rattle.laws.specs.Checks.{first_met}
use Rattle.model.specs.Step.{is_kind}
use Rattle.step_places.specs.Marks.{MarksIn}
use Rattle.step_checks.specs.Request.{rules_by}
use Rattle.step_checks.proofs.Asked.{kind_from, kind_to, marks_in}
use Rattle.step_checks.proofs.request.request_refusal.Goals as goal

pub returns-then-not-is_kind : goal.returns-then-not-is_kind
unfolding first_met rules_by
returns-then-not-is_kind c =
    rw (sym c.is_kind.ensures, (mathlib.Core.Path.ap mathlib.Core.Bool.not c.if-not-is_kind.true))

pub boxes_fit-requires : goal.boxes_fit-requires
boxes_fit-requires c =
    let is_one : is_kind c.args.x.kind ≡ true =
    sym c.is_kind.ensures ∙ not-false _ (mathlib.Core.Path.ap mathlib.Core.Bool.not c.if-not-is_kind.false) in
    let e = is_one in (kind_from _ e, kind_to _ e)

pub returns-then-not-boxes_fit : goal.returns-then-not-boxes_fit
unfolding first_met rules_by
returns-then-not-boxes_fit c =
    rw (sym c.is_kind.ensures, (mathlib.Core.Path.ap mathlib.Core.Bool.not c.if-not-is_kind.false), sym c.boxes_fit.ensures, (mathlib.Core.Path.ap mathlib.Core.Bool.not c.if-not-boxes_fit.true))

pub fits-requires : goal.fits-requires
fits-requires c =
    let is_one : is_kind c.args.x.kind ≡ true =
    sym c.is_kind.ensures ∙ not-false _ (mathlib.Core.Path.ap mathlib.Core.Bool.not c.if-not-is_kind.false) in
    let marked_in : MarksIn c.args.k c.args.x.kind c.args.x.first c.args.x.second c.args.done.now =
    marks_in c.args.k c.args.x.kind c.args.x.first c.args.x.second c.args.done.now c.requires.0 c.requires.1 is_one (sym c.boxes_fit.ensures ∙ not-false _ (mathlib.Core.Path.ap mathlib.Core.Bool.not c.if-not-boxes_fit.false)) in
    let m = marked_in in (m.kind_from, m.kind_to, omega (arith, m.a_in, m.boxes_in), omega (arith, m.b_in, m.boxes_in))

pub returns-then-not-fits : goal.returns-then-not-fits
unfolding first_met rules_by
returns-then-not-fits c =
    rw (
      sym c.is_kind.ensures,
      (mathlib.Core.Path.ap mathlib.Core.Bool.not c.if-not-is_kind.false),
      sym c.boxes_fit.ensures,
      (mathlib.Core.Path.ap mathlib.Core.Bool.not c.if-not-boxes_fit.false),
      sym c.fits.ensures,
      (mathlib.Core.Path.ap mathlib.Core.Bool.not c.if-not-fits.true),
    )

pub is_done-requires : goal.is_done-requires
is_done-requires c =
    let is_one : is_kind c.args.x.kind ≡ true =
    sym c.is_kind.ensures ∙ not-false _ (mathlib.Core.Path.ap mathlib.Core.Bool.not c.if-not-is_kind.false) in
    let marked_in : MarksIn c.args.k c.args.x.kind c.args.x.first c.args.x.second c.args.done.now =
    marks_in c.args.k c.args.x.kind c.args.x.first c.args.x.second c.args.done.now c.requires.0 c.requires.1 is_one (sym c.boxes_fit.ensures ∙ not-false _ (mathlib.Core.Path.ap mathlib.Core.Bool.not c.if-not-boxes_fit.false)) in
    marked_in

pub returns-then-is_done : goal.returns-then-is_done
unfolding first_met rules_by
returns-then-is_done c =
    rw (
      sym c.is_kind.ensures,
      (mathlib.Core.Path.ap mathlib.Core.Bool.not c.if-not-is_kind.false),
      sym c.boxes_fit.ensures,
      (mathlib.Core.Path.ap mathlib.Core.Bool.not c.if-not-boxes_fit.false),
      sym c.fits.ensures,
      (mathlib.Core.Path.ap mathlib.Core.Bool.not c.if-not-fits.false),
      sym c.is_done.ensures,
      c.if-is_done.true,
    )

pub is_ready-requires : goal.is_ready-requires
is_ready-requires c =
    let is_one : is_kind c.args.x.kind ≡ true =
    sym c.is_kind.ensures ∙ not-false _ (mathlib.Core.Path.ap mathlib.Core.Bool.not c.if-not-is_kind.false) in
    let marked_in : MarksIn c.args.k c.args.x.kind c.args.x.first c.args.x.second c.args.done.now =
    marks_in c.args.k c.args.x.kind c.args.x.first c.args.x.second c.args.done.now c.requires.0 c.requires.1 is_one (sym c.boxes_fit.ensures ∙ not-false _ (mathlib.Core.Path.ap mathlib.Core.Bool.not c.if-not-boxes_fit.false)) in
    marked_in

pub returns-then-not-is_ready : goal.returns-then-not-is_ready
unfolding first_met rules_by
returns-then-not-is_ready c =
    rw (
      sym c.is_kind.ensures,
      (mathlib.Core.Path.ap mathlib.Core.Bool.not c.if-not-is_kind.false),
      sym c.boxes_fit.ensures,
      (mathlib.Core.Path.ap mathlib.Core.Bool.not c.if-not-boxes_fit.false),
      sym c.fits.ensures,
      (mathlib.Core.Path.ap mathlib.Core.Bool.not c.if-not-fits.false),
      sym c.is_done.ensures,
      c.if-is_done.false,
      sym c.is_ready.ensures,
      (mathlib.Core.Path.ap mathlib.Core.Bool.not c.if-not-is_ready.true),
    )

pub returns : goal.returns
unfolding first_met rules_by
returns c =
    rw (
      sym c.is_kind.ensures,
      (mathlib.Core.Path.ap mathlib.Core.Bool.not c.if-not-is_kind.false),
      sym c.boxes_fit.ensures,
      (mathlib.Core.Path.ap mathlib.Core.Bool.not c.if-not-boxes_fit.false),
      sym c.fits.ensures,
      (mathlib.Core.Path.ap mathlib.Core.Bool.not c.if-not-fits.false),
      sym c.is_done.ensures,
      c.if-is_done.false,
      sym c.is_ready.ensures,
      (mathlib.Core.Path.ap mathlib.Core.Bool.not c.if-not-is_ready.false),
    )
