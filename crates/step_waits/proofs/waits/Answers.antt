-- `step_waits::waits` meets its contract: the words are those of the tallies passed. Assumes nothing.
use mathlib.Core.Path.{◌≡◌, ap, ◌∙◌}
use Prim.Native.Nat.{ℕ, ◌<◌}
use native.Mathlib.Omega.{arith}
use lib.ListN.{get_or}
use Rattle.step_waits.specs.Waits.{tally_lists}
use Rattle.step_waits.proofs.Waiting.{waits_none, waits_told}
use Rattle.step_waits.proofs.waits.Goals as goal

pub loop-t-init : goal.loop-t-init
loop-t-init c =
    waits_none _ _

-- The grocer and the offer of the tally are in their tables.
pub u16_at-requires-in-loop-t : goal.u16_at-requires-in-loop-t
u16_at-requires-in-loop-t c =
    rw c.index_at-g.ensures.0 (c.requires.grocer< c.loop-t.t (omega arith))

pub u16_at-requires-in-loop-t-2 : goal.u16_at-requires-in-loop-t-2
u16_at-requires-in-loop-t-2 c =
    rw c.index_at-o.ensures.0 (c.requires.offer< c.loop-t.t (omega arith))

pub add_wait-requires : goal.add_wait-requires
add_wait-requires c =
    let grocer_of_lem : c.u16_at-in-loop-t.result ≡ get_or c.args.job.now.grocer_owner.now (get_or c.args.job.now.tally_grocer.now c.loop-t.t 0) 0 =
    c.u16_at-in-loop-t.ensures ∙ ap (λ (g : ℕ). get_or c.args.job.now.grocer_owner.now g 0) c.index_at-g.ensures.0 in
    let offer_of_lem : c.u16_at-in-loop-t-2.result ≡ get_or c.args.job.now.offer_owner.now (get_or c.args.job.now.tally_offer.now c.loop-t.t 0) 0 =
    c.u16_at-in-loop-t-2.ensures ∙ ap (λ (o : ℕ). get_or c.args.job.now.offer_owner.now o 0) c.index_at-o.ensures.0 in
    let t = c.loop-t.t in
    let lt : t < c.args.job.now.sizes.tallies = omega arith in
    (c.requires.boxes≤, (rw grocer_of_lem (c.requires.grocerOwner< t lt), rw offer_of_lem (c.requires.offerOwner< t lt)))

pub loop-t-preserved : goal.loop-t-preserved
loop-t-preserved c =
    let grocer_of_lem : c.u16_at-in-loop-t.result ≡ get_or c.args.job.now.grocer_owner.now (get_or c.args.job.now.tally_grocer.now c.loop-t.t 0) 0 =
    c.u16_at-in-loop-t.ensures ∙ ap (λ (g : ℕ). get_or c.args.job.now.grocer_owner.now g 0) c.index_at-g.ensures.0 in
    let offer_of_lem : c.u16_at-in-loop-t-2.result ≡ get_or c.args.job.now.offer_owner.now (get_or c.args.job.now.tally_offer.now c.loop-t.t 0) 0 =
    c.u16_at-in-loop-t-2.ensures ∙ ap (λ (o : ℕ). get_or c.args.job.now.offer_owner.now o 0) c.index_at-o.ensures.0 in
    let t = c.loop-t.t in
    let lt : t < c.args.job.now.sizes.tallies = omega arith in (
    c.add_wait.ensures
    ∙ waits_told c.args.job.now.sizes.boxes (tally_lists _ _ _ _ _) t c.requires.boxes≤ (c.requires.grocerOwner< t lt) (c.requires.offerOwner< t lt)
    _ _ _ _ c.loop-t.invariant c.u16_at.ensures grocer_of_lem (offer_of_lem)
    )
