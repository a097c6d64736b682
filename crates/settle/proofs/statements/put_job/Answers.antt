-- `settle::statements::put_job` meets its contract: the tables are those that the reader leaves, and the run is the one of `run` without choices. Assumes nothing.
use Prim.Native.Nat.{◌≤◌, suc-le-suc}
use native.Mathlib.Nat.{mul-le-mul}
use native.Mathlib.Omega.{arith}
use Rattle.laws.specs.Lists.{list_words}
use Rattle.format.specs.File.{decode}
use Rattle.file_blocks.specs.Due.{as_head}
use Rattle.file_blocks.specs.Fills.{Whole, Placed}
use Rattle.file_blocks.proofs.Shapes.{sound_read, placed_read}
use Rattle.settle_text.proofs.Puts.{reworded}
use Rattle.settle.proofs.Texts.{once, may_run, run_text_lem}
use Rattle.settle.proofs.statements.put_job.Goals as goal

pub invariant_of-job_file : goal.invariant_of-job_file
invariant_of-job_file c =
    record { whole = (sound_read c.requires.0 c.requires.1.1.sound).whole }

pub fill_offers-requires : goal.fill_offers-requires
fill_offers-requires c =
    let m = (sound_read c.requires.0 c.requires.1.1.sound).whole.most in
    let prices_most : list_words c.args.head.sizes.lists c.args.head.sizes.offers ≤ 4_000 = mul-le-mul {n₂ = 500} {m₂ = 8} m.offers (suc-le-suc m.lists) in
    (omega (arith, prices_most), omega (arith, m.offers), omega (arith, m.grocers))

pub fill_tallies-requires : goal.fill_tallies-requires
fill_tallies-requires c =
    let t = (sound_read c.requires.0 c.requires.1.1.sound).whole.most.tallies in
    record {
      placed = (placed_read c.requires.0 c.requires.1.1, omega (arith, t));
      tallies_in_bounds = (omega (arith, t), omega (arith, t), omega (arith, t));
    }

pub standing_boxes-requires : goal.standing_boxes-requires
standing_boxes-requires c =
    let t = (sound_read c.requires.0 c.requires.1.1.sound).whole.most.tallies in
    record {
      placed = placed_read c.requires.0 c.requires.1.1;
      tallies_in_bounds = (omega (arith, t), omega (arith, t));
      f_value = once _ c.requires.1.0;
    }

pub due_run-report-requires : goal.due_run-report-requires
due_run-report-requires c =
    let whole : Whole c.args.file.now (as_head c.args.head) =
    (sound_read c.requires.0 c.requires.1.1.sound).whole in
    let amounts_most : list_words c.args.head.sizes.lists c.args.head.sizes.grocers ≤ 2_040 =
    let m = whole.most in mul-le-mul {n₂ = 255} {m₂ = 8} m.grocers (suc-le-suc m.lists) in (
      may_run c.args.file.now c.requires.1.0
          (as_head c.args.head) c.requires.0 _ _ _ _ _ _ c.fill_offers.ensures.price_after c.fill_offers.ensures.offer_owner_after c.fill_offers.ensures.grocer_owner_after c.fill_tallies.ensures.tally_grocer_after
          c.fill_tallies.ensures.tally_offer_after c.fill_tallies.ensures.tally_count_after
          _ c.standing_boxes.ensures,
      amounts_most,
    )

pub put_settled-requires : goal.put_settled-requires
put_settled-requires c =
    let whole : Whole c.args.file.now (as_head c.args.head) =
    (sound_read c.requires.0 c.requires.1.1.sound).whole in
    let amounts_most : list_words c.args.head.sizes.lists c.args.head.sizes.grocers ≤ 2_040 =
    let m = whole.most in mul-le-mul {n₂ = 255} {m₂ = 8} m.grocers (suc-le-suc m.lists) in
    let m = whole.most in
    (m.lists, m.grocers, omega (arith, amounts_most, c.due_run-report.auto.statement))

pub returns : goal.returns
returns c =
    reworded
    (run_text_lem c.args.file.now c.requires.1.0
    (as_head c.args.head) c.requires.0 _ _ _ _ _ _ c.fill_offers.ensures.price_after c.fill_offers.ensures.offer_owner_after c.fill_offers.ensures.grocer_owner_after c.fill_tallies.ensures.tally_grocer_after
    c.fill_tallies.ensures.tally_offer_after c.fill_tallies.ensures.tally_count_after
    _ c.standing_boxes.ensures _ _ _ _ c.due_run-report.ensures)
    c.put_settled.ensures
