-- `trial::trial` meets its contract: refused, or its rounds are picked and then their steps done. Assumes nothing.
use mathlib.Core.Path.{◌≡◌, refl, sym, ap, ◌∙◌}
use mathlib.Core.Bool.{true, false, not}
use mathlib.Core.List.{List}
use Prim.Native.Nat.{ℕ}
use native.Mathlib.Omega.{arith}
use borrow.Author.Rules.{rules}
use borrow.Author.Tests.{not-false}
use Rattle.std.proofs.lemmas.Result.{err_from_is_err_and}
use Rattle.refusals.proofs.Numbers.{number_positive}
use Rattle.laws.specs.Checks.{first_met}
use Rattle.job_checks.specs.Sizes.{sizes}
use Rattle.tables.specs.Lent.{job_held, state_held}
use Rattle.model.specs.Tables.{JobTables, job_of, evening_of, StateTables, state_lengths, state_short, totals_short}
use Rattle.model.specs.Local.{job_refusals}
use Rattle.model.specs.Handed.{handed_tables, Standing}
use Rattle.run.specs.Run.{Begins}
use Rattle.trial_rules.specs.Rounds.{is_preference}
use Rattle.trial_rounds.specs.Taken.{Liking, AllRounds}
use Rattle.trial.specs.Trial.{answer_of}
use Rattle.run.proofs.Ends.{begins, begins_needs, begins_sharers, order_in, needs_of, sharers_of, totals_count, totals_told, of_job, sent_room}
use Rattle.run.proofs.Done.{steps_may}
use Rattle.trial.proofs.Ends.{trial_short_lem, state_long, list_long, idle_long, trial_refused, trial_packed, trial_listless, trial_finished, trial_ended, steps_few}
use Rattle.trial.proofs.trial.Goals as goal

pub returns-then-state_short-lists_short-clause-tried : goal.returns-then-state_short-lists_short-clause-tried
unfolding answer_of
returns-then-state_short-lists_short-clause-tried c =
    let job : JobTables = job_held c.args.job.now in
    let lent : StateTables = state_held c.args.state.now in
    let short : c.state_short.result ≡ state_short (sizes job.boxes job.grocers job.offers job.lists) (state_lengths lent) =
    rw c.view-seen.ensures at (c.state_short.ensures c.view-seen.result.working.now c.view-seen.result.total_transit.now) in
    trial_short_lem job lent _ short c.args.preferences.now c.args.idle.now c.args.picked.now _ c.lists_short.ensures c.if-state_short-lists_short.true

pub returns-in_err-job_refusal-clause-tried : goal.returns-in_err-job_refusal-clause-tried
unfolding answer_of
returns-in_err-job_refusal-clause-tried c =
    let job : JobTables = job_held c.args.job.now in
    let lent : StateTables = state_held c.args.state.now in
    let short : c.state_short.result ≡ state_short (sizes job.boxes job.grocers job.offers job.lists) (state_lengths lent) =
    rw c.view-seen.ensures at (c.state_short.ensures c.view-seen.result.working.now c.view-seen.result.total_transit.now) in
    let p = err_from_is_err_and c.from_residual.result c.from_residual.ensures.1 in
    rw (p.1, p.2)
    (trial_refused job lent _ short c.args.preferences.now c.args.idle.now c.args.picked.now _ c.lists_short.ensures c.if-state_short-lists_short.false _ c.in_err-job_refusal.ensures.value
    (λ z. omega (arith, z, number_positive c.in_err-job_refusal.field-0.0)))

pub sharers-sharers-requires : goal.sharers-sharers-requires
sharers-sharers-requires c =
    let job : JobTables = job_held c.args.job.now in
    let lent : StateTables = state_held c.args.state.now in
    let short : c.state_short.result ≡ state_short (sizes job.boxes job.grocers job.offers job.lists) (state_lengths lent) =
    rw c.view-seen.ensures at (c.state_short.ensures c.view-seen.result.working.now c.view-seen.result.total_transit.now) in
    let standing : List ℕ = c.job_refusal.new.standing in
    let none_met : first_met (job_refusals job) ≡ 0 = sym c.in_ok-job_refusal.ensures.value in
    let stand : Standing job standing = c.in_ok-job_refusal.ensures.standing in
    let handed : JobTables = handed_tables job standing in
    let state_whole : c.state_short.result ≡ false = state_long job lent _ short c.args.preferences.now c.args.idle.now c.args.picked.now _ c.lists_short.ensures c.if-state_short-lists_short.false in
    let may : Begins handed lent = begins job lent _ short state_whole none_met standing stand in
    begins_sharers _ _ may

pub totals_short-requires : goal.totals_short-requires
totals_short-requires c =
    let job : JobTables = job_held c.args.job.now in
    let lent : StateTables = state_held c.args.state.now in
    let short : c.state_short.result ≡ state_short (sizes job.boxes job.grocers job.offers job.lists) (state_lengths lent) =
    rw c.view-seen.ensures at (c.state_short.ensures c.view-seen.result.working.now c.view-seen.result.total_transit.now) in
    let standing : List ℕ = c.job_refusal.new.standing in
    let none_met : first_met (job_refusals job) ≡ 0 = sym c.in_ok-job_refusal.ensures.value in
    let stand : Standing job standing = c.in_ok-job_refusal.ensures.standing in
    let handed : JobTables = handed_tables job standing in
    let state_whole : c.state_short.result ≡ false = state_long job lent _ short c.args.preferences.now c.args.idle.now c.args.picked.now _ c.lists_short.ensures c.if-state_short-lists_short.false in
    let may : Begins handed lent = begins job lent _ short state_whole none_met standing stand in
    totals_count _ _ may _ c.sharers-sharers.ensures

pub returns-then-totals_short-clause-tried : goal.returns-then-totals_short-clause-tried
unfolding answer_of
returns-then-totals_short-clause-tried c =
    let job : JobTables = job_held c.args.job.now in
    let lent : StateTables = state_held c.args.state.now in
    let short : c.state_short.result ≡ state_short (sizes job.boxes job.grocers job.offers job.lists) (state_lengths lent) =
    rw c.view-seen.ensures at (c.state_short.ensures c.view-seen.result.working.now c.view-seen.result.total_transit.now) in
    let standing : List ℕ = c.job_refusal.new.standing in
    let none_met : first_met (job_refusals job) ≡ 0 = sym c.in_ok-job_refusal.ensures.value in
    let stand : Standing job standing = c.in_ok-job_refusal.ensures.standing in
    let handed : JobTables = handed_tables job standing in
    let state_whole : c.state_short.result ≡ false = state_long job lent _ short c.args.preferences.now c.args.idle.now c.args.picked.now _ c.lists_short.ensures c.if-state_short-lists_short.false in
    let may : Begins handed lent = begins job lent _ short state_whole none_met standing stand in
    let packed_told : c.totals_short.result ≡ totals_short (evening_of handed) (state_lengths lent) =
    totals_told handed lent may _ c.sharers-sharers.ensures _ (rw (ap (λ (s : StateTables). s.working) c.view-seen.ensures, ap (λ (s : StateTables). s.total_transit) c.view-seen.ensures) at c.totals_short.ensures) in
    trial_packed job lent _ short c.args.preferences.now c.args.idle.now c.args.picked.now _ c.lists_short.ensures c.if-state_short-lists_short.false none_met standing stand c.totals_short.result packed_told c.if-totals_short.true

pub is_preference-requires : goal.is_preference-requires
is_preference-requires c =
    let job : JobTables = job_held c.args.job.now in
    let lent : StateTables = state_held c.args.state.now in
    let short : c.state_short.result ≡ state_short (sizes job.boxes job.grocers job.offers job.lists) (state_lengths lent) =
    rw c.view-seen.ensures at (c.state_short.ensures c.view-seen.result.working.now c.view-seen.result.total_transit.now) in
    list_long job lent _ short c.args.preferences.now c.args.idle.now c.args.picked.now _ c.lists_short.ensures c.if-state_short-lists_short.false

pub returns-then-not-is_preference-clause-tried : goal.returns-then-not-is_preference-clause-tried
unfolding answer_of
returns-then-not-is_preference-clause-tried c =
    let job : JobTables = job_held c.args.job.now in
    let lent : StateTables = state_held c.args.state.now in
    let short : c.state_short.result ≡ state_short (sizes job.boxes job.grocers job.offers job.lists) (state_lengths lent) =
    rw c.view-seen.ensures at (c.state_short.ensures c.view-seen.result.working.now c.view-seen.result.total_transit.now) in
    let standing : List ℕ = c.job_refusal.new.standing in
    let none_met : first_met (job_refusals job) ≡ 0 = sym c.in_ok-job_refusal.ensures.value in
    let stand : Standing job standing = c.in_ok-job_refusal.ensures.standing in
    let handed : JobTables = handed_tables job standing in
    let state_whole : c.state_short.result ≡ false = state_long job lent _ short c.args.preferences.now c.args.idle.now c.args.picked.now _ c.lists_short.ensures c.if-state_short-lists_short.false in
    let may : Begins handed lent = begins job lent _ short state_whole none_met standing stand in
    let packed_told : c.totals_short.result ≡ totals_short (evening_of handed) (state_lengths lent) =
    totals_told handed lent may _ c.sharers-sharers.ensures _ (rw (ap (λ (s : StateTables). s.working) c.view-seen.ensures, ap (λ (s : StateTables). s.total_transit) c.view-seen.ensures) at c.totals_short.ensures) in
    let packed_long : totals_short (evening_of handed) (state_lengths lent) ≡ false = sym packed_told ∙ c.if-totals_short.false in
    trial_listless job lent _ short c.args.preferences.now c.args.idle.now c.args.picked.now _ c.lists_short.ensures c.if-state_short-lists_short.false none_met standing stand packed_long
    (ap not (sym c.is_preference.ensures) ∙ ap not c.if-not-is_preference.true)

pub needs-needs-requires : goal.needs-needs-requires
needs-needs-requires c =
    let job : JobTables = job_held c.args.job.now in
    let lent : StateTables = state_held c.args.state.now in
    let short : c.state_short.result ≡ state_short (sizes job.boxes job.grocers job.offers job.lists) (state_lengths lent) =
    rw c.view-seen.ensures at (c.state_short.ensures c.view-seen.result.working.now c.view-seen.result.total_transit.now) in
    let standing : List ℕ = c.job_refusal.new.standing in
    let none_met : first_met (job_refusals job) ≡ 0 = sym c.in_ok-job_refusal.ensures.value in
    let stand : Standing job standing = c.in_ok-job_refusal.ensures.standing in
    let handed : JobTables = handed_tables job standing in
    let state_whole : c.state_short.result ≡ false = state_long job lent _ short c.args.preferences.now c.args.idle.now c.args.picked.now _ c.lists_short.ensures c.if-state_short-lists_short.false in
    let may : Begins handed lent = begins job lent _ short state_whole none_met standing stand in
    begins_needs _ _ may

pub pick_rounds-taken-requires : goal.pick_rounds-taken-requires
pick_rounds-taken-requires c =
    let job : JobTables = job_held c.args.job.now in
    let lent : StateTables = state_held c.args.state.now in
    let short : c.state_short.result ≡ state_short (sizes job.boxes job.grocers job.offers job.lists) (state_lengths lent) =
    rw c.view-seen.ensures at (c.state_short.ensures c.view-seen.result.working.now c.view-seen.result.total_transit.now) in
    let standing : List ℕ = c.job_refusal.new.standing in
    let none_met : first_met (job_refusals job) ≡ 0 = sym c.in_ok-job_refusal.ensures.value in
    let stand : Standing job standing = c.in_ok-job_refusal.ensures.standing in
    let handed : JobTables = handed_tables job standing in
    let state_whole : c.state_short.result ≡ false = state_long job lent _ short c.args.preferences.now c.args.idle.now c.args.picked.now _ c.lists_short.ensures c.if-state_short-lists_short.false in
    let may : Begins handed lent = begins job lent _ short state_whole none_met standing stand in
    let is_list : is_preference c.args.preferences.now ≡ true =
    sym c.is_preference.ensures ∙ not-false c.is_preference.result (ap not c.if-not-is_preference.false) in
    let liking : Liking c.args.job.now.sizes.boxes c.args.preferences.now =
    let o = (order_in _ _ may _ c.needs-needs.ensures).done_in_lem in
    record { some = o.some; boxes_in = o.boxes_in; long = list_long job lent _ short c.args.preferences.now c.args.idle.now c.args.picked.now _ c.lists_short.ensures c.if-state_short-lists_short.false; is_list = is_list } in
    (order_in _ _ may _ c.needs-needs.ensures, refl, liking)

pub lay_order-requires : goal.lay_order-requires
lay_order-requires c =
    let job : JobTables = job_held c.args.job.now in
    let lent : StateTables = state_held c.args.state.now in
    let short : c.state_short.result ≡ state_short (sizes job.boxes job.grocers job.offers job.lists) (state_lengths lent) =
    rw c.view-seen.ensures at (c.state_short.ensures c.view-seen.result.working.now c.view-seen.result.total_transit.now) in
    let standing : List ℕ = c.job_refusal.new.standing in
    let none_met : first_met (job_refusals job) ≡ 0 = sym c.in_ok-job_refusal.ensures.value in
    let stand : Standing job standing = c.in_ok-job_refusal.ensures.standing in
    let handed : JobTables = handed_tables job standing in
    let state_whole : c.state_short.result ≡ false = state_long job lent _ short c.args.preferences.now c.args.idle.now c.args.picked.now _ c.lists_short.ensures c.if-state_short-lists_short.false in
    let may : Begins handed lent = begins job lent _ short state_whole none_met standing stand in
    let all_rounds : AllRounds (job_of handed) c.args.preferences.now c.pick_rounds-taken.new.done c.pick_rounds-taken.new.order
    c.pick_rounds-taken.result.steps c.pick_rounds-taken.result.rounds =
    c.pick_rounds-taken.ensures.every_job _ (of_job _ _ may _ c.needs-needs.ensures) in
    (all_rounds.so_far.in_order, all_rounds.so_far.long)

pub idle_rounds-requires : goal.idle_rounds-requires
idle_rounds-requires c =
    let job : JobTables = job_held c.args.job.now in
    let lent : StateTables = state_held c.args.state.now in
    let short : c.state_short.result ≡ state_short (sizes job.boxes job.grocers job.offers job.lists) (state_lengths lent) =
    rw c.view-seen.ensures at (c.state_short.ensures c.view-seen.result.working.now c.view-seen.result.total_transit.now) in
    let standing : List ℕ = c.job_refusal.new.standing in
    let none_met : first_met (job_refusals job) ≡ 0 = sym c.in_ok-job_refusal.ensures.value in
    let stand : Standing job standing = c.in_ok-job_refusal.ensures.standing in
    let handed : JobTables = handed_tables job standing in
    let state_whole : c.state_short.result ≡ false = state_long job lent _ short c.args.preferences.now c.args.idle.now c.args.picked.now _ c.lists_short.ensures c.if-state_short-lists_short.false in
    let may : Begins handed lent = begins job lent _ short state_whole none_met standing stand in
    let is_list : is_preference c.args.preferences.now ≡ true =
    sym c.is_preference.ensures ∙ not-false c.is_preference.result (ap not c.if-not-is_preference.false) in
    let liking : Liking c.args.job.now.sizes.boxes c.args.preferences.now =
    let o = (order_in _ _ may _ c.needs-needs.ensures).done_in_lem in
    record { some = o.some; boxes_in = o.boxes_in; long = list_long job lent _ short c.args.preferences.now c.args.idle.now c.args.picked.now _ c.lists_short.ensures c.if-state_short-lists_short.false; is_list = is_list } in
    let all_rounds : AllRounds (job_of handed) c.args.preferences.now c.pick_rounds-taken.new.done c.pick_rounds-taken.new.order
    c.pick_rounds-taken.result.steps c.pick_rounds-taken.result.rounds =
    c.pick_rounds-taken.ensures.every_job _ (of_job _ _ may _ c.needs-needs.ensures) in
    record {
      le_k = (liking.some, idle_long job lent _ short c.args.preferences.now c.args.idle.now c.args.picked.now _ c.lists_short.ensures c.if-state_short-lists_short.false, all_rounds.so_far.in_order, all_rounds.so_far.long);
      by_index = steps_few handed lent may _ is_list _ _ _ _ all_rounds;
    }

pub all_steps-all-requires : goal.all_steps-all-requires
all_steps-all-requires c =
    let job : JobTables = job_held c.args.job.now in
    let lent : StateTables = state_held c.args.state.now in
    let short : c.state_short.result ≡ state_short (sizes job.boxes job.grocers job.offers job.lists) (state_lengths lent) =
    rw c.view-seen.ensures at (c.state_short.ensures c.view-seen.result.working.now c.view-seen.result.total_transit.now) in
    let standing : List ℕ = c.job_refusal.new.standing in
    let none_met : first_met (job_refusals job) ≡ 0 = sym c.in_ok-job_refusal.ensures.value in
    let stand : Standing job standing = c.in_ok-job_refusal.ensures.standing in
    let handed : JobTables = handed_tables job standing in
    let state_whole : c.state_short.result ≡ false = state_long job lent _ short c.args.preferences.now c.args.idle.now c.args.picked.now _ c.lists_short.ensures c.if-state_short-lists_short.false in
    let may : Begins handed lent = begins job lent _ short state_whole none_met standing stand in
    let packed_told : c.totals_short.result ≡ totals_short (evening_of handed) (state_lengths lent) =
    totals_told handed lent may _ c.sharers-sharers.ensures _ (rw (ap (λ (s : StateTables). s.working) c.view-seen.ensures, ap (λ (s : StateTables). s.total_transit) c.view-seen.ensures) at c.totals_short.ensures) in
    let packed_long : totals_short (evening_of handed) (state_lengths lent) ≡ false = sym packed_told ∙ c.if-totals_short.false in
    let all_rounds : AllRounds (job_of handed) c.args.preferences.now c.pick_rounds-taken.new.done c.pick_rounds-taken.new.order
    c.pick_rounds-taken.result.steps c.pick_rounds-taken.result.rounds =
    c.pick_rounds-taken.ensures.every_job _ (of_job _ _ may _ c.needs-needs.ensures) in
    steps_may _ _ may packed_long _ _ _ _ _ (needs_of _ _ may _ c.needs-needs.ensures) (sharers_of _ _ may _ c.sharers-sharers.ensures) all_rounds.so_far

pub bounds-state-0 : goal.bounds-state-0
bounds-state-0 c =
    let job : JobTables = job_held c.args.job.now in
    let lent : StateTables = state_held c.args.state.now in
    let short : c.state_short.result ≡ state_short (sizes job.boxes job.grocers job.offers job.lists) (state_lengths lent) =
    rw c.view-seen.ensures at (c.state_short.ensures c.view-seen.result.working.now c.view-seen.result.total_transit.now) in
    let standing : List ℕ = c.job_refusal.new.standing in
    let none_met : first_met (job_refusals job) ≡ 0 = sym c.in_ok-job_refusal.ensures.value in
    let stand : Standing job standing = c.in_ok-job_refusal.ensures.standing in
    let handed : JobTables = handed_tables job standing in
    let state_whole : c.state_short.result ≡ false = state_long job lent _ short c.args.preferences.now c.args.idle.now c.args.picked.now _ c.lists_short.ensures c.if-state_short-lists_short.false in
    let may : Begins handed lent = begins job lent _ short state_whole none_met standing stand in
    omega (arith, sent_room _ _ may)

pub returns-clause-tried : goal.returns-clause-tried
unfolding answer_of
returns-clause-tried c =
    let job : JobTables = job_held c.args.job.now in
    let lent : StateTables = state_held c.args.state.now in
    let short : c.state_short.result ≡ state_short (sizes job.boxes job.grocers job.offers job.lists) (state_lengths lent) =
    rw c.view-seen.ensures at (c.state_short.ensures c.view-seen.result.working.now c.view-seen.result.total_transit.now) in
    let standing : List ℕ = c.job_refusal.new.standing in
    let none_met : first_met (job_refusals job) ≡ 0 = sym c.in_ok-job_refusal.ensures.value in
    let stand : Standing job standing = c.in_ok-job_refusal.ensures.standing in
    let handed : JobTables = handed_tables job standing in
    let state_whole : c.state_short.result ≡ false = state_long job lent _ short c.args.preferences.now c.args.idle.now c.args.picked.now _ c.lists_short.ensures c.if-state_short-lists_short.false in
    let may : Begins handed lent = begins job lent _ short state_whole none_met standing stand in
    let packed_told : c.totals_short.result ≡ totals_short (evening_of handed) (state_lengths lent) =
    totals_told handed lent may _ c.sharers-sharers.ensures _ (rw (ap (λ (s : StateTables). s.working) c.view-seen.ensures, ap (λ (s : StateTables). s.total_transit) c.view-seen.ensures) at c.totals_short.ensures) in
    let packed_long : totals_short (evening_of handed) (state_lengths lent) ≡ false = sym packed_told ∙ c.if-totals_short.false in
    let is_list : is_preference c.args.preferences.now ≡ true =
    sym c.is_preference.ensures ∙ not-false c.is_preference.result (ap not c.if-not-is_preference.false) in
    let all_rounds : AllRounds (job_of handed) c.args.preferences.now c.pick_rounds-taken.new.done c.pick_rounds-taken.new.order
    c.pick_rounds-taken.result.steps c.pick_rounds-taken.result.rounds =
    c.pick_rounds-taken.ensures.every_job _ (of_job _ _ may _ c.needs-needs.ensures) in
    let out =
    trial_ended handed lent may c.args.preferences.now is_list _ _ _ _ all_rounds packed_long _ _ (needs_of _ _ may _ c.needs-needs.ensures) (sharers_of _ _ may _ c.sharers-sharers.ensures) _ _ _
    c.all_steps-all.ensures.done c.pick_rounds-taken.ensures.marks_from refl refl
    c.args.idle.now _ c.idle_rounds.ensures c.args.picked.now _ c.lay_order.ensures
    ∙ trial_finished job lent _ short c.args.preferences.now c.args.idle.now c.args.picked.now _ c.lists_short.ensures c.if-state_short-lists_short.false none_met standing stand packed_long is_list in
    rw c.from.ensures (search (rules, out))
