-- `run::run` meets its contract: refused, or its steps are picked and then done. Assumes nothing.
use mathlib.Core.Path.{◌≡◌, refl, sym, ap, ◌∙◌}
use mathlib.Core.Bool.{false}
use mathlib.Core.List.{List}
use Prim.Native.Nat.{ℕ}
use native.Mathlib.Omega.{arith}
use borrow.Author.Rules.{rules}
use Rattle.std.proofs.lemmas.Result.{err_from_is_err_and}
use Rattle.refusals.proofs.Numbers.{number_positive}
use Rattle.laws.specs.Checks.{first_met}
use Rattle.job_checks.specs.Sizes.{sizes}
use Rattle.tables.specs.Lent.{job_held, state_held}
use Rattle.model.specs.Tables.{JobTables, evening_of, StateTables, state_lengths, state_short, totals_short}
use Rattle.model.specs.Local.{job_refusals}
use Rattle.model.specs.Handed.{handed_tables, Standing}
use Rattle.run.specs.Run.{Begins, answer_of}
use Rattle.run.proofs.Ends.{begins, begins_needs, begins_sharers, order_in, run_ended, run_short, needs_of, sharers_of, totals_count, totals_told, of_job, all_in, run_finished, run_refused, run_packed, sent_room}
use Rattle.run.proofs.run.Goals as goal

pub returns-then-state_short-clause-ran : goal.returns-then-state_short-clause-ran
unfolding answer_of
returns-then-state_short-clause-ran c =
    let job : JobTables = job_held c.args.job.now in
    let lent : StateTables = state_held c.args.state.now in
    let short : c.state_short.result ≡ state_short (sizes job.boxes job.grocers job.offers job.lists) (state_lengths lent) =
    rw c.view-seen.ensures at (c.state_short.ensures c.view-seen.result.working.now c.view-seen.result.total_transit.now) in
    run_short job lent _ short c.args.choices.now c.args.picked.now c.if-state_short.true

pub returns-in_err-job_refusal-clause-ran : goal.returns-in_err-job_refusal-clause-ran
unfolding answer_of
returns-in_err-job_refusal-clause-ran c =
    let job : JobTables = job_held c.args.job.now in
    let lent : StateTables = state_held c.args.state.now in
    let short : c.state_short.result ≡ state_short (sizes job.boxes job.grocers job.offers job.lists) (state_lengths lent) =
    rw c.view-seen.ensures at (c.state_short.ensures c.view-seen.result.working.now c.view-seen.result.total_transit.now) in
    let p = err_from_is_err_and c.from_residual.result c.from_residual.ensures.1 in
    rw (p.1, p.2)
    (run_refused job lent _ short c.if-state_short.false c.args.choices.now c.args.picked.now _ c.in_err-job_refusal.ensures.value (λ z. omega (arith, z, number_positive c.in_err-job_refusal.field-0.0)))

pub sharers-sharers-requires : goal.sharers-sharers-requires
sharers-sharers-requires c =
    let job : JobTables = job_held c.args.job.now in
    let lent : StateTables = state_held c.args.state.now in
    let short : c.state_short.result ≡ state_short (sizes job.boxes job.grocers job.offers job.lists) (state_lengths lent) =
    rw c.view-seen.ensures at (c.state_short.ensures c.view-seen.result.working.now c.view-seen.result.total_transit.now) in
    let standing : List ℕ = c.job_refusal.new.standing in
    let none_met : first_met (job_refusals job) ≡ 0 = sym c.in_ok-job_refusal.ensures.value in
    let stand : Standing job standing = c.in_ok-job_refusal.ensures.standing in
    let handed : JobTables = handed_tables job standing in
    let may : Begins handed lent = begins job lent _ short c.if-state_short.false none_met standing stand in
    begins_sharers _ _ may

pub totals_short-requires : goal.totals_short-requires
totals_short-requires c =
    let job : JobTables = job_held c.args.job.now in
    let lent : StateTables = state_held c.args.state.now in
    let short : c.state_short.result ≡ state_short (sizes job.boxes job.grocers job.offers job.lists) (state_lengths lent) =
    rw c.view-seen.ensures at (c.state_short.ensures c.view-seen.result.working.now c.view-seen.result.total_transit.now) in
    let standing : List ℕ = c.job_refusal.new.standing in
    let none_met : first_met (job_refusals job) ≡ 0 = sym c.in_ok-job_refusal.ensures.value in
    let stand : Standing job standing = c.in_ok-job_refusal.ensures.standing in
    let handed : JobTables = handed_tables job standing in
    let may : Begins handed lent = begins job lent _ short c.if-state_short.false none_met standing stand in
    totals_count _ _ may _ c.sharers-sharers.ensures

pub returns-then-totals_short-clause-ran : goal.returns-then-totals_short-clause-ran
unfolding answer_of
returns-then-totals_short-clause-ran c =
    let job : JobTables = job_held c.args.job.now in
    let lent : StateTables = state_held c.args.state.now in
    let short : c.state_short.result ≡ state_short (sizes job.boxes job.grocers job.offers job.lists) (state_lengths lent) =
    rw c.view-seen.ensures at (c.state_short.ensures c.view-seen.result.working.now c.view-seen.result.total_transit.now) in
    let standing : List ℕ = c.job_refusal.new.standing in
    let none_met : first_met (job_refusals job) ≡ 0 = sym c.in_ok-job_refusal.ensures.value in
    let stand : Standing job standing = c.in_ok-job_refusal.ensures.standing in
    let handed : JobTables = handed_tables job standing in
    let may : Begins handed lent = begins job lent _ short c.if-state_short.false none_met standing stand in
    let packed_told : c.totals_short.result ≡ totals_short (evening_of handed) (state_lengths lent) =
    totals_told handed lent may _ c.sharers-sharers.ensures _ (rw (ap (λ (s : StateTables). s.working) c.view-seen.ensures, ap (λ (s : StateTables). s.total_transit) c.view-seen.ensures) at c.totals_short.ensures) in
    run_packed job lent _ short c.if-state_short.false none_met standing stand c.args.choices.now c.args.picked.now c.totals_short.result packed_told c.if-totals_short.true

pub needs-needs-requires : goal.needs-needs-requires
needs-needs-requires c =
    let job : JobTables = job_held c.args.job.now in
    let lent : StateTables = state_held c.args.state.now in
    let short : c.state_short.result ≡ state_short (sizes job.boxes job.grocers job.offers job.lists) (state_lengths lent) =
    rw c.view-seen.ensures at (c.state_short.ensures c.view-seen.result.working.now c.view-seen.result.total_transit.now) in
    let standing : List ℕ = c.job_refusal.new.standing in
    let none_met : first_met (job_refusals job) ≡ 0 = sym c.in_ok-job_refusal.ensures.value in
    let stand : Standing job standing = c.in_ok-job_refusal.ensures.standing in
    let handed : JobTables = handed_tables job standing in
    let may : Begins handed lent = begins job lent _ short c.if-state_short.false none_met standing stand in
    begins_needs _ _ may

pub pick_order-n-requires : goal.pick_order-n-requires
pick_order-n-requires c =
    let job : JobTables = job_held c.args.job.now in
    let lent : StateTables = state_held c.args.state.now in
    let short : c.state_short.result ≡ state_short (sizes job.boxes job.grocers job.offers job.lists) (state_lengths lent) =
    rw c.view-seen.ensures at (c.state_short.ensures c.view-seen.result.working.now c.view-seen.result.total_transit.now) in
    let standing : List ℕ = c.job_refusal.new.standing in
    let none_met : first_met (job_refusals job) ≡ 0 = sym c.in_ok-job_refusal.ensures.value in
    let stand : Standing job standing = c.in_ok-job_refusal.ensures.standing in
    let handed : JobTables = handed_tables job standing in
    let may : Begins handed lent = begins job lent _ short c.if-state_short.false none_met standing stand in
    (order_in _ _ may _ c.needs-needs.ensures, refl)

pub lay_order-requires : goal.lay_order-requires
lay_order-requires c =
    let job : JobTables = job_held c.args.job.now in
    let lent : StateTables = state_held c.args.state.now in
    let short : c.state_short.result ≡ state_short (sizes job.boxes job.grocers job.offers job.lists) (state_lengths lent) =
    rw c.view-seen.ensures at (c.state_short.ensures c.view-seen.result.working.now c.view-seen.result.total_transit.now) in
    let standing : List ℕ = c.job_refusal.new.standing in
    let none_met : first_met (job_refusals job) ≡ 0 = sym c.in_ok-job_refusal.ensures.value in
    let stand : Standing job standing = c.in_ok-job_refusal.ensures.standing in
    let handed : JobTables = handed_tables job standing in
    let may : Begins handed lent = begins job lent _ short c.if-state_short.false none_met standing stand in
    let p = (c.pick_order-n.ensures.every_job _ (of_job _ _ may _ c.needs-needs.ensures)).picked in
    (p.in_order, p.long)

pub all_steps-all-requires : goal.all_steps-all-requires
all_steps-all-requires c =
    let job : JobTables = job_held c.args.job.now in
    let lent : StateTables = state_held c.args.state.now in
    let short : c.state_short.result ≡ state_short (sizes job.boxes job.grocers job.offers job.lists) (state_lengths lent) =
    rw c.view-seen.ensures at (c.state_short.ensures c.view-seen.result.working.now c.view-seen.result.total_transit.now) in
    let standing : List ℕ = c.job_refusal.new.standing in
    let none_met : first_met (job_refusals job) ≡ 0 = sym c.in_ok-job_refusal.ensures.value in
    let stand : Standing job standing = c.in_ok-job_refusal.ensures.standing in
    let handed : JobTables = handed_tables job standing in
    let may : Begins handed lent = begins job lent _ short c.if-state_short.false none_met standing stand in
    let packed_told : c.totals_short.result ≡ totals_short (evening_of handed) (state_lengths lent) =
    totals_told handed lent may _ c.sharers-sharers.ensures _ (rw (ap (λ (s : StateTables). s.working) c.view-seen.ensures, ap (λ (s : StateTables). s.total_transit) c.view-seen.ensures) at c.totals_short.ensures) in
    let packed_long : totals_short (evening_of handed) (state_lengths lent) ≡ false = sym packed_told ∙ c.if-totals_short.false in
    all_in _ _ may packed_long _ _ _ _ _ _ (needs_of _ _ may _ c.needs-needs.ensures) (sharers_of _ _ may _ c.sharers-sharers.ensures)
    (c.pick_order-n.ensures.every_job _ (of_job _ _ may _ c.needs-needs.ensures))

pub bounds-state-0 : goal.bounds-state-0
bounds-state-0 c =
    let job : JobTables = job_held c.args.job.now in
    let lent : StateTables = state_held c.args.state.now in
    let short : c.state_short.result ≡ state_short (sizes job.boxes job.grocers job.offers job.lists) (state_lengths lent) =
    rw c.view-seen.ensures at (c.state_short.ensures c.view-seen.result.working.now c.view-seen.result.total_transit.now) in
    let standing : List ℕ = c.job_refusal.new.standing in
    let none_met : first_met (job_refusals job) ≡ 0 = sym c.in_ok-job_refusal.ensures.value in
    let stand : Standing job standing = c.in_ok-job_refusal.ensures.standing in
    let handed : JobTables = handed_tables job standing in
    let may : Begins handed lent = begins job lent _ short c.if-state_short.false none_met standing stand in
    omega (arith, sent_room _ _ may)

pub overflow_cast-result : goal.overflow_cast-result
overflow_cast-result c =
    let job : JobTables = job_held c.args.job.now in
    let lent : StateTables = state_held c.args.state.now in
    let short : c.state_short.result ≡ state_short (sizes job.boxes job.grocers job.offers job.lists) (state_lengths lent) =
    rw c.view-seen.ensures at (c.state_short.ensures c.view-seen.result.working.now c.view-seen.result.total_transit.now) in
    let standing : List ℕ = c.job_refusal.new.standing in
    let none_met : first_met (job_refusals job) ≡ 0 = sym c.in_ok-job_refusal.ensures.value in
    let stand : Standing job standing = c.in_ok-job_refusal.ensures.standing in
    let handed : JobTables = handed_tables job standing in
    let may : Begins handed lent = begins job lent _ short c.if-state_short.false none_met standing stand in
    omega (arith, (c.pick_order-n.ensures.every_job _ (of_job _ _ may _ c.needs-needs.ensures)).picked.in_order)

pub returns-clause-ran : goal.returns-clause-ran
unfolding answer_of
returns-clause-ran c =
    let job : JobTables = job_held c.args.job.now in
    let lent : StateTables = state_held c.args.state.now in
    let short : c.state_short.result ≡ state_short (sizes job.boxes job.grocers job.offers job.lists) (state_lengths lent) =
    rw c.view-seen.ensures at (c.state_short.ensures c.view-seen.result.working.now c.view-seen.result.total_transit.now) in
    let standing : List ℕ = c.job_refusal.new.standing in
    let none_met : first_met (job_refusals job) ≡ 0 = sym c.in_ok-job_refusal.ensures.value in
    let stand : Standing job standing = c.in_ok-job_refusal.ensures.standing in
    let handed : JobTables = handed_tables job standing in
    let may : Begins handed lent = begins job lent _ short c.if-state_short.false none_met standing stand in
    let packed_told : c.totals_short.result ≡ totals_short (evening_of handed) (state_lengths lent) =
    totals_told handed lent may _ c.sharers-sharers.ensures _ (rw (ap (λ (s : StateTables). s.working) c.view-seen.ensures, ap (λ (s : StateTables). s.total_transit) c.view-seen.ensures) at c.totals_short.ensures) in
    let packed_long : totals_short (evening_of handed) (state_lengths lent) ≡ false = sym packed_told ∙ c.if-totals_short.false in
    let out =
    run_ended handed lent may packed_long _ _ c.args.choices.now _ _ _ (needs_of _ _ may _ c.needs-needs.ensures) (sharers_of _ _ may _ c.sharers-sharers.ensures)
    (c.pick_order-n.ensures.every_job _ (of_job _ _ may _ c.needs-needs.ensures)) _ _ _ c.all_steps-all.ensures.done c.pick_order-n.ensures.marks_from refl refl c.args.picked.now _ c.lay_order.ensures
    ∙ run_finished job lent _ short c.if-state_short.false none_met standing stand c.args.choices.now c.args.picked.now packed_long in
    search (rules, out)
