-- `late_finished::totals::right_statements` meets its contract: at list q those before it are tested. Assumes nothing.
use mathlib.Core.Path.{◌≡◌, sym, ap, ap₂, ◌∙◌}
use mathlib.Core.List.{List}
use Prim.Native.Nat.{ℕ, suc, ◌<◌, ◌*◌}
use native.Mathlib.Omega.{arith}
use lib.IntN.{ℤ, pos}
use lib.ListN.{get_or}
use Rattle.laws.specs.Below.{all}
use Rattle.laws.specs.Tables.{tabulate}
use Rattle.laws.proofs.Below.{all_start, all_more}
use Rattle.late_finished.specs.Tests.{sum_by, right_amounts, right_statements}
use Rattle.late_finished.proofs.Plain.{amounts_told}
use Rattle.late_finished.proofs.totals.right_statements.Goals as goal

pub loop-q-init : goal.loop-q-init
loop-q-init c =
    sym (all_start _)

pub loop-q-preserved : goal.loop-q-preserved
loop-q-preserved c =
    let sums : ℕ → ℕ → ℤ =
    λ at. sum_by c.args.job.now.sizes.boxes c.args.job.now.sizes.tallies c.args.job.now.tally_box.now c.args.job.now.tally_grocer.now c.args.job.now.tally_offer.now c.args.job.now.tally_count.now c.args.job.now.price.now at in
    let list_in : c.loop-q.q < suc c.args.job.now.sizes.lists =
    omega (arith, c.loop-q-test.true, c.width_of-width.ensures.0) in
    let from_is : c.loop-q.q * c.from-n.result ≡ c.loop-q.q * c.args.job.now.sizes.offers =
    ap (λ (n : ℕ). c.loop-q.q * n) c.from-n.ensures in
    all_more c.loop-q.q _ c.loop-q.all _ c.loop-q.invariant
    (c.right_amounts-all.ensures
    ∙ ap₂ (λ (m w : ℕ). right_amounts m w c.loop-q.q c.args.statement.now (λ g. get_or c.plain_sums-sums.result g (pos 0))) c.from-m.ensures c.width_of-width.ensures.0
    ∙ ap (λ (x : List ℤ). right_amounts c.args.job.now.sizes.grocers (suc c.args.job.now.sizes.lists) c.loop-q.q c.args.statement.now (λ g. get_or x g (pos 0)))
    (c.plain_sums-sums.ensures ∙ ap (λ (x : ℕ). tabulate 255 (sums x)) from_is)
    ∙ amounts_told c.args.job.now.sizes.grocers (suc c.args.job.now.sizes.lists) c.loop-q.q c.args.statement.now (sums (c.loop-q.q * c.args.job.now.sizes.offers)) c.requires.grocers≤)

pub returns : goal.returns
unfolding right_statements
returns c =
    let sums : ℕ → ℕ → ℤ =
    λ at. sum_by c.args.job.now.sizes.boxes c.args.job.now.sizes.tallies c.args.job.now.tally_box.now c.args.job.now.tally_grocer.now c.args.job.now.tally_offer.now c.args.job.now.tally_count.now c.args.job.now.price.now at in
    let last : c.loop-q.q ≡ suc c.args.job.now.sizes.lists = omega (arith, c.loop-q-test.false, c.width_of-width.ensures.0, c.loop-q.auto.q-end) in
    c.loop-q.invariant ∙ ap (λ (n : ℕ). all n (λ x. right_amounts c.args.job.now.sizes.grocers (suc c.args.job.now.sizes.lists) x c.args.statement.now (sums (x * c.args.job.now.sizes.offers)))) last
