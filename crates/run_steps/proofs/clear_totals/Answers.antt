-- `run_steps::clear_totals` meets its contract. Assumes nothing.
use mathlib.Core.Path.{◌≡◌, sym, ap, ap₂, ◌∙◌, subst}
use Prim.Native.Nat.{ℕ, suc, ◌*◌}
use lib.IntN.{pos}
use Rattle.laws.specs.Lists.{list_words}
use Rattle.laws.specs.Tables.{overwrite}
use Rattle.book_places.specs.Spots.{start_by}
use Rattle.run_fresh.specs.Fresh.{FreshTotals}
use Rattle.run_steps.proofs.clear_totals.Goals as goal

pub fresh_totals-requires : goal.fresh_totals-requires
fresh_totals-requires c =
    let places_are : c.from-places.result ≡ start_by c.args.job.now.sizes.grocers c.args.job.now.grocer_owner.now c.args.sharers.now c.args.job.now.sizes.boxes =
    c.from-places.ensures ∙ c.box_start.ensures.0
    ∙ ap (λ (m : ℕ). start_by m c.args.job.now.grocer_owner.now c.args.sharers.now c.args.job.now.sizes.boxes) c.from-m.ensures in
    let words_are : c.words_at-words.result ≡ start_by c.args.job.now.sizes.grocers c.args.job.now.grocer_owner.now c.args.sharers.now c.args.job.now.sizes.boxes * suc c.args.job.now.sizes.lists =
    c.words_at-words.ensures.0 ∙ ap₂ ◌*◌ places_are c.width_of.ensures.0 in
    subst (λ (m : ℕ). FreshTotals c.words_at-words.result m c.args.working.now c.args.total_transit.now c.args.statement.now) (sym c.list_words-statements.ensures.0)
    (subst (λ (n : ℕ). FreshTotals n (list_words c.args.job.now.sizes.lists c.args.job.now.sizes.grocers) c.args.working.now c.args.total_transit.now c.args.statement.now) (sym words_are) c.requires.fresh_totals)

pub returns : goal.returns
returns c =
    let places_are : c.from-places.result ≡ start_by c.args.job.now.sizes.grocers c.args.job.now.grocer_owner.now c.args.sharers.now c.args.job.now.sizes.boxes =
    c.from-places.ensures ∙ c.box_start.ensures.0
    ∙ ap (λ (m : ℕ). start_by m c.args.job.now.grocer_owner.now c.args.sharers.now c.args.job.now.sizes.boxes) c.from-m.ensures in
    let words_are : c.words_at-words.result ≡ start_by c.args.job.now.sizes.grocers c.args.job.now.grocer_owner.now c.args.sharers.now c.args.job.now.sizes.boxes * suc c.args.job.now.sizes.lists =
    c.words_at-words.ensures.0 ∙ ap₂ ◌*◌ places_are c.width_of.ensures.0 in (
      c.fresh_totals.ensures.0 ∙ ap (λ (n : ℕ). overwrite n (λ i'. pos 0) c.args.working.now) (words_are),
      c.fresh_totals.ensures.1 ∙ ap (λ (n : ℕ). overwrite n (λ i'. pos 0) c.args.total_transit.now) (words_are),
      c.fresh_totals.ensures.2 ∙ ap (λ (n : ℕ). overwrite n (λ i'. pos 0) c.args.statement.now) c.list_words-statements.ensures.0,
    )
