-- `late_checks::decide::added_job` meets its contract. Assumes nothing.
use mathlib.Core.Path.{◌≡◌, sym, ap, subst, ◌∙◌}
use mathlib.Core.Bool.{false, not}
use Prim.Native.Nat.{ℕ, ◌+◌, ◌<◌}
use native.Mathlib.Omega.{arith}
use lib.Dec.{eqb, leb}
use borrow.Author.Tests.{le-leb, lt-leb, lt-ltb}
use Rattle.laws.specs.Limits.{max_tallies}
use Rattle.model.specs.Tables.{JobTables}
use Rattle.format.specs.Refusals.{job_refusal}
use Rattle.format.specs.Tables.{FileTables, ReaderTables, file_job_of}
use Rattle.late_rules.specs.Late.{room}
use Rattle.late_rules.specs.Edit.{added_head}
use Rattle.late_checks.specs.Judged.{ByPlaces, file_then}
use Rattle.std.proofs.Common.{IfOk}
use Rattle.late_checks.specs.declared.judge.Edit.{Edit}
use Rattle.late_checks.specs.Lent.{reader_held}
use Rattle.late_checks.specs.Decided.{PresentIn}
use Rattle.late_checks.proofs.Decided.{head_now, adding, told_full, told_codes, told-places, add_alone, add_file, add_job, add_file_in, add_written, add_names, add_code, add_place, add_job_in}
use Rattle.late_checks.proofs.decide.added_job.Goals as goal

-- 31.
pub returns-then-full : goal.returns-then-full
returns-then-full c =
    let tables : ReaderTables = reader_held c.args.tables.now in
    record { told = told_full c.args.tables.now.sizes c.args.x c.args.code.now tables (le-leb _ _ c.if-full.true); place_value = tt }

pub by_codes-requires : goal.by_codes-requires
unfolding room
by_codes-requires c =
    let tables : ReaderTables = reader_held c.args.tables.now in
    let few : c.args.tables.now.sizes.tallies < 1000 =
    omega (arith, c.if-full.false) in
    let present : PresentIn (c.args.tables.now.sizes.tallies + 1) (head_now c.args.tables.now.sizes) (tables) =
    rw (lt-ltb c.args.tables.now.sizes.tallies max_tallies few) at c.requires in
    add_file_in c.args.tables.now.sizes c.args.x c.args.code.now tables few (present)

pub returns-then-by_codes : goal.returns-then-by_codes
returns-then-by_codes c =
    let tables : ReaderTables = reader_held c.args.tables.now in
    let few : c.args.tables.now.sizes.tallies < 1000 =
    omega (arith, c.if-full.false) in
    let not_full : leb max_tallies c.args.tables.now.sizes.tallies ≡ false =
    lt-leb max_tallies c.args.tables.now.sizes.tallies (few) in
    let a = c.args in record {
      told = told_codes _ _ _ (add_alone a.tables.now.sizes a.x a.code.now tables not_full)
          (ap (λ (t : FileTables). not (eqb (job_refusal (file_job_of (added_head (head_now a.tables.now.sizes)) t)) 0)) (sym (add_file a.tables.now.sizes a.x a.code.now tables))
          ∙ sym c.by_codes.ensures ∙ c.if-by_codes.true);
      place_value = tt;
    }

pub place_of-place-requires : goal.place_of-place-requires
unfolding room
place_of-place-requires c =
    let tables : ReaderTables = reader_held c.args.tables.now in
    let few : c.args.tables.now.sizes.tallies < 1000 =
    omega (arith, c.if-full.false) in
    let present : PresentIn (c.args.tables.now.sizes.tallies + 1) (head_now c.args.tables.now.sizes) (tables) =
    rw (lt-ltb c.args.tables.now.sizes.tallies max_tallies few) at c.requires in
    let none : not (eqb (job_refusal (file_job_of (added_head (head_now c.args.tables.now.sizes)) (file_then (adding c.args.tables.now.sizes c.args.x) c.args.code.now tables.job))) 0) ≡ false =
    sym c.by_codes.ensures ∙ c.if-by_codes.false in
    let a = c.args in (
      add_names a.tables.now.sizes a.x a.code.now tables few present (none),
      add_code a.tables.now.sizes a.x a.code.now tables few present (none),
    )

pub by_places-requires : goal.by_places-requires
unfolding room
by_places-requires c =
    let tables : ReaderTables = reader_held c.args.tables.now in
    let few : c.args.tables.now.sizes.tallies < 1000 =
    omega (arith, c.if-full.false) in
    let present : PresentIn (c.args.tables.now.sizes.tallies + 1) (head_now c.args.tables.now.sizes) (tables) =
    rw (lt-ltb c.args.tables.now.sizes.tallies max_tallies few) at c.requires in
    let none : not (eqb (job_refusal (file_job_of (added_head (head_now c.args.tables.now.sizes)) (file_then (adding c.args.tables.now.sizes c.args.x) c.args.code.now tables.job))) 0) ≡ false =
    sym c.by_codes.ensures ∙ c.if-by_codes.false in
    add_job_in c.args.tables.now.sizes c.args.x c.args.code.now tables few present none c.place_of-place.result c.place_of-place.ensures

pub returns : goal.returns
unfolding room
returns c =
    let tables : ReaderTables = reader_held c.args.tables.now in
    let few : c.args.tables.now.sizes.tallies < 1000 =
    omega (arith, c.if-full.false) in
    let not_full : leb max_tallies c.args.tables.now.sizes.tallies ≡ false =
    lt-leb max_tallies c.args.tables.now.sizes.tallies (few) in
    let present : PresentIn (c.args.tables.now.sizes.tallies + 1) (head_now c.args.tables.now.sizes) (tables) =
    rw (lt-ltb c.args.tables.now.sizes.tallies max_tallies few) at c.requires in
    let none : not (eqb (job_refusal (file_job_of (added_head (head_now c.args.tables.now.sizes)) (file_then (adding c.args.tables.now.sizes c.args.x) c.args.code.now tables.job))) 0) ≡ false =
    sym c.by_codes.ensures ∙ c.if-by_codes.false in
    let a = c.args in
    let found = add_place a.tables.now.sizes a.x a.code.now tables few present none c.place_of-place.result c.place_of-place.ensures in record {
      told = told-places _ _ _ (add_alone a.tables.now.sizes a.x a.code.now tables not_full) _ c.place_of-place.result
          (add_written a.tables.now.sizes a.x a.code.now tables few present none)
          (subst (λ (f : JobTables). ByPlaces f c.place_of-place.result c.by_places.result) (add_job a.tables.now.sizes a.x a.code.now tables c.place_of-place.result found) c.by_places.ensures);
      place_value = subst (λ (n : ℕ). IfOk c.by_places.result (λ (e : Edit). e.place ≡ n)) found c.by_places.ensures.place_is;
    }
