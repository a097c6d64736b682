-- The blank buffers are long enough, so that a file is printed by its refusal, or by the job that it says. Assumes nothing.
use mathlib.Core.Path.{◌≡◌, sym, ap, ◌∙◌}
use mathlib.Core.List.{List}
use mathlib.Core.Bool.{true, false}
use Prim.Native.Nat.{ℕ, suc, ◌+◌, ◌*◌, ◌≤◌}
use native.Mathlib.Omega.{arith}
use native.Mathlib.Nat.{le_refl, mul-le-mul}
use lib.IntN.{pos}
use lib.ListN.{length, replicate, length-replicate}
use borrow.Author.Tests.{le-ltb}
use Rattle.model.specs.Job.{Job}
use Rattle.model.specs.Tables.{JobTables, evening_of, StateTables, state_lengths, state_short, totals_short}
use Rattle.model.specs.Ranges.{job_in_range}
use Rattle.model.specs.PackedTotals.{totals_length}
use Rattle.model.proofs.Step.{job_in_lem, in_handed}
use Rattle.model.proofs.ListTotals.{list_totals_lem}
use Rattle.format.specs.File.{decode}
use Rattle.format.specs.Refusals.{file_refusal}
use Rattle.format.specs.Tables.{ReaderTables, LongOffers, LongTallies, ReadOutcome, largest, short_reader, read_refusal}
use Rattle.printing.specs.Printed.{job_read, blank_job, blank_state, refused_text, job_text, read_text, printed}
use Rattle.format.proofs.Order.{reader_file}
use Rattle.format.proofs.Tables.{read_accepted, read_refused, tables_long}

pub zeros : (n : ℕ) → n ≤ length (replicate {A = ℕ} n 0)
zeros n = rw (length-replicate {A = ℕ} n 0) (le_refl n)

pub zeros_signed : (n : ℕ) → n ≤ length (replicate n (pos 0))
zeros_signed n = rw (length-replicate n (pos 0)) (le_refl n)

-- Those of the state, for every job in range.
state_enough : (job : JobTables) (t : StateTables) → job.boxes ≤ 16 → job.grocers ≤ 255 → job.offers ≤ 500 → job.lists ≤ 7 →
    64_000 ≤ length t.known → 64_000 ≤ length t.price_transit → 2_040 ≤ length t.statement → 1_536 ≤ length t.done → 1 ≤ length t.sent →
    state_short job (state_lengths t) ≡ false
unfolding state_short state_lengths
state_enough job t k m n l a b e f g =
    let width : suc job.lists ≤ 8 = omega arith in
    let prices : job.boxes * (job.offers * suc job.lists) ≤ 64_000 = mul-le-mul {n₂ = 16} {m₂ = 4_000} k (mul-le-mul {n₂ = 500} {m₂ = 8} n width) in
    let amounts : job.grocers * suc job.lists ≤ 2_040 = mul-le-mul {n₂ = 255} {m₂ = 8} m width in
    let marks : 6 * job.boxes * job.boxes ≤ 1_536 = mul-le-mul {n₂ = 96} (omega arith) k in
    rw (
      le-ltb (length t.known) (job.boxes * (job.offers * suc job.lists)) (omega (arith, prices)),
      le-ltb (length t.price_transit) (job.boxes * (job.offers * suc job.lists)) (omega (arith, prices)),
      le-ltb (length t.statement) (job.grocers * suc job.lists) (omega (arith, amounts)),
      le-ltb (length t.done) (6 * job.boxes * job.boxes) (omega arith),
      le-ltb (length t.sent) 1 g,
    )

pub blank_state_lem : (job : JobTables) → job.boxes ≤ 16 → job.grocers ≤ 255 → job.offers ≤ 500 → job.lists ≤ 7 → state_short job (state_lengths blank_state) ≡ false
unfolding blank_state
blank_state_lem job k m n l = state_enough job blank_state k m n l (zeros 64_000) (zeros 64_000) (zeros_signed 2_040) (zeros 1_536) (zeros 1)

-- The packed ones, for every job of at most 10,040 totals.
totals_enough : (j : Job) (t : StateTables) → totals_length j ≤ 10_040 → 10_040 ≤ length t.working → 10_040 ≤ length t.total_transit → totals_short j (state_lengths t) ≡ false
unfolding totals_short state_lengths
totals_enough j t most a b = rw (le-ltb (length t.working) (totals_length j) (omega arith), le-ltb (length t.total_transit) (totals_length j) (omega arith))

-- No job in range has on a list more totals than grocers and tallies together.
totals_most : (job : JobTables) → job_in_range job ≡ true → totals_length (evening_of job) ≤ 10_040
totals_most job h =
    let w = job_in_lem job (in_handed job h) in
    let few : job.grocers + job.tallies ≤ 1_255 = omega (arith, w.grocers≤, w.tallies≤) in
    let width : suc job.lists ≤ 8 = omega (arith, w.lists≤) in
    omega (arith, (list_totals_lem job).most h, mul-le-mul {n₂ = 1_255} {m₂ = 8} few width)

pub blank_totals : (job : JobTables) → job_in_range job ≡ true → totals_short (evening_of job) (state_lengths blank_state) ≡ false
unfolding blank_state
blank_totals job h = totals_enough (evening_of job) blank_state (totals_most job h) (zeros_signed 10_040) (zeros_signed 10_040)

-- Those of the reader.
reader_enough : (l : ReaderTables) → LongOffers 7 500 l.job.offers → 255 ≤ length l.job.grocer_owner → LongTallies 1_000 l.job.tallies → 1_000 ≤ length l.tally_offer → short_reader l ≡ false
unfolding short_reader
reader_enough l o g t p =
    rw (tables_long largest l.job (record { offers = o; grocer_owner = g; tallies = t }), le-ltb (length l.tally_offer) 1_000 p)

blank_reader : short_reader blank_job ≡ false
unfolding blank_job
blank_reader =
    reader_enough blank_job
    (record { price = zeros 4_000; owner = zeros 500; code = zeros 5_500; issuer = zeros 500 })
    (zeros 255)
    (record { grocer = zeros 1_000; box = zeros 1_000; code = zeros 11_000; count = zeros_signed 1_000; issuer = zeros 1_000; bag = zeros 1_000; revision = zeros 1_000 })
    (zeros 1_000)

-- So the reader, lent them, refuses just what the file's conditions refuse.
pub read_by_file : (file : List ℕ) → read_refusal file blank_job ≡ file_refusal file
read_by_file file = reader_file file blank_job blank_reader

-- What is printed of a refused file,
pub printed_refusal : (file : List ℕ) → (file_refusal file ≡ 0 → ⊥) → printed file ≡ refused_text (file_refusal file)
unfolding printed read_text
printed_refusal file met =
    let e = read_by_file file in
    ap (λ (o : ReadOutcome). read_text file o.answer) (read_refused file blank_job (λ z. met (sym e ∙ z))) ∙ ap refused_text e

-- and of an accepted one.
pub printed_job : (file : List ℕ) → file_refusal file ≡ 0 → printed file ≡ job_text (decode file).head.cycle (job_read file blank_job)
unfolding printed read_text
printed_job file ok = ap (λ (o : ReadOutcome). read_text file o.answer) (read_accepted file blank_job (read_by_file file ∙ ok))
