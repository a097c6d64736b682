-- `step_checks::finish::price_fits` meets its contract, kind by kind. Assumes nothing.
use mathlib.Core.Path.{◌≡◌, sym, ap, ap₂, ◌∙◌}
use Prim.Native.Nat.{ℕ, ◌+◌, ◌-◌, ◌*◌, ◌≤◌}
use native.Mathlib.Omega.{arith}
use lib.Dec.{leb}
use lib.ListN.{get_or}
use Rattle.laws.specs.Limits.{max_sent}
use Rattle.step_checks.proofs.Finished.{fits_1, fits_2, fits_3, row_in}
use Rattle.step_checks.proofs.finish.price_fits.Goals as goal

pub returns-then-x-eq1 : goal.returns-then-x-eq1
returns-then-x-eq1 c =
    let all : c.args.offers - 0 ≡ c.args.offers = omega arith in
    c.sent_fits.ensures
    ∙ ap (λ (n : ℕ). leb (get_or c.args.state.now.sent.now 0 0 + n) max_sent) (c.span_words.ensures.0 ∙ ap₂ (λ (x y : ℕ). x * y) all c.width_of-width.ensures.0)
    ∙ sym (fits_1 _ _ _ _ _ _ _ _ _ _ _ _ c.if-x-eq1.true)

pub products_fit-requires : goal.products_fit-requires
products_fit-requires c =
    let more : 2 ≤ c.args.x.kind = omega (arith, c.if-x-eq2.true) in
    rw c.width_of-width.ensures.0 (row_in _ _ _ _ _ _ _ _ (omega arith) (omega (arith, c.requires.lists_in)) c.requires.tallies_in c.requires.known_in (c.requires.held_in more) c.requires.a_in)

pub returns-then-x-eq2 : goal.returns-then-x-eq2
returns-then-x-eq2 c =
    (rw c.width_of-width.ensures.0 at c.products_fit.ensures) ∙ sym (fits_2 _ _ _ _ _ _ _ _ _ _ _ _ c.if-x-eq2.true)

pub products_fit-requires-2 : goal.products_fit-requires-2
products_fit-requires-2 c =
    let more : 2 ≤ c.args.x.kind = omega (arith, c.if-x-eq1.false, c.requires.kind_from) in
    rw c.width_of-width.ensures.0 (row_in _ _ _ _ _ _ _ _ (omega arith) (omega (arith, c.requires.lists_in)) c.requires.tallies_in c.requires.transit_in (c.requires.held_in more) c.requires.a_in)

pub returns : goal.returns
returns c =
    let third : c.args.x.kind ≡ 3 = omega (arith, c.if-x-eq1.false, c.if-x-eq2.false, c.requires.kind_from, c.requires.kind_to) in
    (rw c.width_of-width.ensures.0 at c.products_fit-2.ensures) ∙ sym (fits_3 _ _ _ _ _ _ _ _ _ _ _ _ third)
