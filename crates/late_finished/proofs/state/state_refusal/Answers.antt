-- `late_finished::state::state_refusal` meets its contract: each number is that of the first condition that is met. Assumes nothing.
use mathlib.Core.Path.{◌≡◌, refl, sym, ap₂, ◌∙◌}
use mathlib.Core.Bool.{Bool, ◌&&◌}
use mathlib.Core.List.{List}
use Prim.Native.Nat.{ℕ, ◌<◌}
use native.Mathlib.Omega.{arith}
use Rattle.std.proofs.lemmas.Result.{err_from_is_err_and}
use Rattle.refusals.specs.Numbers.{number_of}
use Rattle.refusals.proofs.Numbers.{number_positive}
use Rattle.model.specs.Tables.{JobTables, StateTables, bag_tables}
use Rattle.tables.specs.Lent.{state_viewed}
use Rattle.tables.specs.declared.Job.{Job}
use Rattle.step_links.specs.Links.{Some}
use Rattle.late_rules.specs.Late.{left_by_run}
use Rattle.late_finished.specs.Present.{PresentState}
use Rattle.late_finished.proofs.Joined.{tests_are, prices_lent, sums_lent, totals_lent, marks_lent}
use Rattle.late_finished.proofs.Present.{grocers_placed, offers_placed, counted, length_is, met_packed, nothing_short, left_on, left_off}
use Rattle.late_finished.proofs.state.state_refusal.Goals as goal

-- The job's tables, with these boxes, bags and revisions of its tallies;
abbrev job_with : Job → (holder bag revision : List ℕ) → JobTables
job_with j holder bag revision =
    bag_tables j.sizes.boxes j.sizes.grocers j.sizes.offers j.sizes.tallies j.sizes.lists j.price.now j.offer_owner.now j.grocer_owner.now j.tally_grocer.now holder j.tally_offer.now j.tally_count.now bag revision

-- and with those that the caller shows.
abbrev job_given : (j : Job) (s : StateTables) (boxes : List ℕ) → Some (λ holder. Some (λ bag. Some (λ revision. PresentState (job_with j holder bag revision) s boxes))) → JobTables
job_given j s boxes r = job_with j r.list r.passes.list r.passes.passes.list

pub sharers-sharers-requires : goal.sharers-sharers-requires
sharers-sharers-requires c =
    let s = state_viewed c.args.state.now in
    let f = job_given c.args.job.now s c.args.standing.now c.requires in
    let p : PresentState f s c.args.standing.now = c.requires.passes.passes.passes in
    grocers_placed f p.settles c.args.standing.now p.stands

pub packed_length-own-requires : goal.packed_length-own-requires
packed_length-own-requires c =
    let s = state_viewed c.args.state.now in
    let f = job_given c.args.job.now s c.args.standing.now c.requires in
    let p : PresentState f s c.args.standing.now = c.requires.passes.passes.passes in
    counted f p.settles c.args.standing.now p.stands c.sharers-sharers.result c.sharers-sharers.ensures

pub returns-in_err-totals_refusal : goal.returns-in_err-totals_refusal
returns-in_err-totals_refusal c =
    λ holder bag revision p.
    let s = state_viewed c.args.state.now in
    let f = job_with c.args.job.now holder bag revision in
    let own_is = c.packed_length-own.ensures ∙ length_is f p.settles c.args.standing.now p.stands c.sharers-sharers.result c.sharers-sharers.ensures in
    let q = err_from_is_err_and c.from_residual.result c.from_residual.ensures.1 in
    let some : 0 < number_of c.in_err-totals_refusal.field-0.0 = number_positive c.in_err-totals_refusal.field-0.0 in
    rw (q.1, q.2) (
    met_packed f s c.args.standing.now p c.packed_length-own.result c.args.edited (number_of c.in_err-totals_refusal.field-0.0) own_is c.in_err-totals_refusal.ensures
    (λ z. omega (arith, some, z))
    )

pub needs-needs-requires : goal.needs-needs-requires
needs-needs-requires c =
    let s = state_viewed c.args.state.now in
    let f = job_given c.args.job.now s c.args.standing.now c.requires in
    let p : PresentState f s c.args.standing.now = c.requires.passes.passes.passes in
    offers_placed f p.settles c.args.standing.now p.stands

pub prices_finished-prices-requires : goal.prices_finished-prices-requires
prices_finished-prices-requires c =
    let s = state_viewed c.args.state.now in
    let f = job_given c.args.job.now s c.args.standing.now c.requires in
    let p : PresentState f s c.args.standing.now = c.requires.passes.passes.passes in
    let own_is = c.packed_length-own.ensures ∙ length_is f p.settles c.args.standing.now p.stands c.sharers-sharers.result c.sharers-sharers.ensures in
    let nothing = nothing_short f s c.args.standing.now p c.packed_length-own.result c.args.edited 0 own_is c.in_ok-totals_refusal.ensures refl in
    prices_lent f p.settles c.args.standing.now p.stands c.needs-needs.result c.sharers-sharers.result c.needs-needs.ensures c.sharers-sharers.ensures s nothing

pub totals_finished-totals-requires-clause-sums_lent : goal.totals_finished-totals-requires-clause-sums_lent
totals_finished-totals-requires-clause-sums_lent c =
    let s = state_viewed c.args.state.now in
    let f = job_given c.args.job.now s c.args.standing.now c.requires in
    let p : PresentState f s c.args.standing.now = c.requires.passes.passes.passes in
    let own_is = c.packed_length-own.ensures ∙ length_is f p.settles c.args.standing.now p.stands c.sharers-sharers.result c.sharers-sharers.ensures in
    let nothing = nothing_short f s c.args.standing.now p c.packed_length-own.result c.args.edited 0 own_is c.in_ok-totals_refusal.ensures refl in
    sums_lent f p.settles c.args.standing.now p.stands c.needs-needs.result c.sharers-sharers.result c.needs-needs.ensures c.sharers-sharers.ensures s nothing

pub totals_finished-totals-requires-clause-words_in_bounds : goal.totals_finished-totals-requires-clause-words_in_bounds
totals_finished-totals-requires-clause-words_in_bounds c =
    let s = state_viewed c.args.state.now in
    let f = job_given c.args.job.now s c.args.standing.now c.requires in
    let p : PresentState f s c.args.standing.now = c.requires.passes.passes.passes in
    let own_is = c.packed_length-own.ensures ∙ length_is f p.settles c.args.standing.now p.stands c.sharers-sharers.result c.sharers-sharers.ensures in
    let nothing = nothing_short f s c.args.standing.now p c.packed_length-own.result c.args.edited 0 own_is c.in_ok-totals_refusal.ensures refl in
    rw own_is (totals_lent f p.settles c.args.standing.now p.stands c.needs-needs.result c.sharers-sharers.result c.needs-needs.ensures c.sharers-sharers.ensures s nothing)

pub marks_finished-marks-requires-clause-le_boxes : goal.marks_finished-marks-requires-clause-le_boxes
marks_finished-marks-requires-clause-le_boxes c =
    let s = state_viewed c.args.state.now in
    let f = job_given c.args.job.now s c.args.standing.now c.requires in
    let p : PresentState f s c.args.standing.now = c.requires.passes.passes.passes in
    let own_is = c.packed_length-own.ensures ∙ length_is f p.settles c.args.standing.now p.stands c.sharers-sharers.result c.sharers-sharers.ensures in
    let nothing = nothing_short f s c.args.standing.now p c.packed_length-own.result c.args.edited 0 own_is c.in_ok-totals_refusal.ensures refl in
    (marks_lent f p.settles c.args.standing.now p.stands c.needs-needs.result c.sharers-sharers.result c.needs-needs.ensures c.sharers-sharers.ensures s nothing).0

pub marks_finished-marks-requires-clause-owned : goal.marks_finished-marks-requires-clause-owned
marks_finished-marks-requires-clause-owned c =
    let s = state_viewed c.args.state.now in
    let f = job_given c.args.job.now s c.args.standing.now c.requires in
    let p : PresentState f s c.args.standing.now = c.requires.passes.passes.passes in
    let own_is = c.packed_length-own.ensures ∙ length_is f p.settles c.args.standing.now p.stands c.sharers-sharers.result c.sharers-sharers.ensures in
    let nothing = nothing_short f s c.args.standing.now p c.packed_length-own.result c.args.edited 0 own_is c.in_ok-totals_refusal.ensures refl in
    (marks_lent f p.settles c.args.standing.now p.stands c.needs-needs.result c.sharers-sharers.result c.needs-needs.ensures c.sharers-sharers.ensures s nothing).1

pub returns-then-prices-totals : goal.returns-then-prices-totals
returns-then-prices-totals c =
    λ holder bag revision p.
    let s = state_viewed c.args.state.now in
    let f = job_with c.args.job.now holder bag revision in
    let own_is = c.packed_length-own.ensures ∙ length_is f p.settles c.args.standing.now p.stands c.sharers-sharers.result c.sharers-sharers.ensures in
    let nothing = nothing_short f s c.args.standing.now p c.packed_length-own.result c.args.edited 0 own_is c.in_ok-totals_refusal.ensures refl in
    let tests : Bool = (c.prices_finished-prices.result && c.totals_finished-totals.result) && c.marks_finished-marks.result in
    let told : tests ≡ left_by_run f s =
    ap₂ ◌&&◌ (ap₂ ◌&&◌ c.prices_finished-prices.ensures (rw (sym own_is) c.totals_finished-totals.ensures)) c.marks_finished-marks.ensures
    ∙ tests_are f p.settles c.args.standing.now p.stands c.needs-needs.result c.sharers-sharers.result c.needs-needs.ensures c.sharers-sharers.ensures s nothing in
    left_on f s c.args.standing.now p c.packed_length-own.result c.args.edited 0 own_is c.in_ok-totals_refusal.ensures refl tests told c.if-prices-totals.true

pub returns : goal.returns
returns c =
    λ holder bag revision p.
    let s = state_viewed c.args.state.now in
    let f = job_with c.args.job.now holder bag revision in
    let own_is = c.packed_length-own.ensures ∙ length_is f p.settles c.args.standing.now p.stands c.sharers-sharers.result c.sharers-sharers.ensures in
    let nothing = nothing_short f s c.args.standing.now p c.packed_length-own.result c.args.edited 0 own_is c.in_ok-totals_refusal.ensures refl in
    let tests : Bool = (c.prices_finished-prices.result && c.totals_finished-totals.result) && c.marks_finished-marks.result in
    let told : tests ≡ left_by_run f s =
    ap₂ ◌&&◌ (ap₂ ◌&&◌ c.prices_finished-prices.ensures (rw (sym own_is) c.totals_finished-totals.ensures)) c.marks_finished-marks.ensures
    ∙ tests_are f p.settles c.args.standing.now p.stands c.needs-needs.result c.sharers-sharers.result c.needs-needs.ensures c.sharers-sharers.ensures s nothing in
    left_off f s c.args.standing.now p c.packed_length-own.result c.args.edited 0 own_is c.in_ok-totals_refusal.ensures refl tests told c.if-prices-totals.false
