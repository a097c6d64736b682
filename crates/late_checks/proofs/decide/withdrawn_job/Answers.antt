-- `late_checks::decide::withdrawn_job` meets its contract. Assumes nothing.
use mathlib.Core.Path.{◌≡◌, sym, ap, subst, ◌∙◌}
use mathlib.Core.Bool.{true, false, not}
use Prim.Native.Nat.{◌<◌}
use native.Mathlib.Omega.{arith}
use lib.Dec.{eqb, ltb}
use borrow.Author.Tests.{lt-ltb, le-ltb}
use Rattle.model.specs.Tables.{JobTables}
use Rattle.format.specs.Refusals.{job_refusal}
use Rattle.format.specs.Tables.{FileTables, ReaderTables, file_job_of}
use Rattle.late_rules.specs.Edit.{withdrawn_head}
use Rattle.late_checks.specs.Judged.{ByPlaces, file_then}
use Rattle.late_checks.proofs.Decided.{head_now, withdrawing, no_code, told_nowhere, told_codes, told-places, withdraw_alone, withdraw_file, withdraw_job, withdraw_file_in, withdraw_written, withdraw_job_in}
use Rattle.late_checks.specs.Lent.{reader_held}
use Rattle.late_checks.proofs.decide.withdrawn_job.Goals as goal

-- 32: no such place.
pub returns-then-z-place : goal.returns-then-z-place
returns-then-z-place c =
    let tables : ReaderTables = reader_held c.args.tables.now in
    told_nowhere c.args.tables.now.sizes c.args.place tables (le-ltb _ _ c.if-z-place.true)

pub by_codes-requires : goal.by_codes-requires
by_codes-requires c =
    let tables : ReaderTables = reader_held c.args.tables.now in
    let here : c.args.place < c.args.tables.now.sizes.tallies =
    omega (arith, c.if-z-place.false) in
    withdraw_file_in c.args.tables.now.sizes c.args.place tables here c.requires

pub returns-then-by_codes : goal.returns-then-by_codes
returns-then-by_codes c =
    let tables : ReaderTables = reader_held c.args.tables.now in
    let here : c.args.place < c.args.tables.now.sizes.tallies =
    omega (arith, c.if-z-place.false) in
    let there : ltb c.args.place c.args.tables.now.sizes.tallies ≡ true =
    lt-ltb _ _ (here) in
    let a = c.args in
    told_codes _ _ _ (withdraw_alone a.tables.now.sizes a.place tables there)
    (ap (λ (t : FileTables). not (eqb (job_refusal (file_job_of (withdrawn_head (head_now a.tables.now.sizes)) t)) 0)) (sym (withdraw_file a.tables.now.sizes a.place tables here))
    ∙ sym c.by_codes.ensures ∙ c.if-by_codes.true)

pub by_places-requires : goal.by_places-requires
by_places-requires c =
    let tables : ReaderTables = reader_held c.args.tables.now in
    let here : c.args.place < c.args.tables.now.sizes.tallies =
    omega (arith, c.if-z-place.false) in
    let none : not (eqb (job_refusal (file_job_of (withdrawn_head (head_now c.args.tables.now.sizes)) (file_then (withdrawing c.args.tables.now.sizes c.args.place) no_code tables.job))) 0) ≡ false =
    sym c.by_codes.ensures ∙ c.if-by_codes.false in
    withdraw_job_in c.args.tables.now.sizes c.args.place tables here c.requires (none)

pub returns : goal.returns
returns c =
    let tables : ReaderTables = reader_held c.args.tables.now in
    let here : c.args.place < c.args.tables.now.sizes.tallies =
    omega (arith, c.if-z-place.false) in
    let there : ltb c.args.place c.args.tables.now.sizes.tallies ≡ true =
    lt-ltb _ _ (here) in
    let none : not (eqb (job_refusal (file_job_of (withdrawn_head (head_now c.args.tables.now.sizes)) (file_then (withdrawing c.args.tables.now.sizes c.args.place) no_code tables.job))) 0) ≡ false =
    sym c.by_codes.ensures ∙ c.if-by_codes.false in
    let a = c.args in
    told-places _ _ _ (withdraw_alone a.tables.now.sizes a.place tables there) _ 0 (withdraw_written a.tables.now.sizes a.place tables here c.requires none)
    (subst (λ (f : JobTables). ByPlaces f 0 c.by_places.result) (withdraw_job a.tables.now.sizes a.place tables here) c.by_places.ensures)
