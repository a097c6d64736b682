-- The first condition met in the order is the one refused: each refusal of reader and writer, at its place. Assumes nothing.
use mathlib.Core.Path.{◌≡◌, refl, sym, ◌∙◌}
use mathlib.Core.Bool.{Bool, true, false}
use mathlib.Core.List.{List, [], ◌∷◌}
use Prim.Native.Nat.{ℕ, ◌+◌, ◌-◌, ◌<◌}
use native.Mathlib.Omega.{arith}
use Rattle.laws.specs.Checks.{first_met}
use Rattle.laws.proofs.Checks.{one_met, one_off}
use Rattle.recount.specs.Recount.{counted_twice}
use Rattle.format.specs.First.{first_below}
use Rattle.format.specs.Job.{Head, FileJob, bad_sizes, bad_records, shared, unnamed, counted_tallies}
use Rattle.format.specs.Blocks.{blocks}
use Rattle.format.specs.File.{decode}
use Rattle.format.specs.Refusals.{bad_length, bad_count, header_refusal, block_refusal, file_refusal, job_refusal}
use Rattle.format.specs.Tables.{FileTables, ReaderTables, short_reader, read_refusal, short_writer, write_refusal, file_job_of}
use Rattle.format.proofs.Firsts.{hit, next, alone, below_hit}

-- ---- the reader: 20, 1, the header, the block count, other blocks ascending, 7, 8, 9

-- 20 comes before all else.
pub reader_20 : (f : List ℕ) (l : ReaderTables) → short_reader l ≡ true → read_refusal f l ≡ 20
unfolding read_refusal
reader_20 f l h = rw (one_met (short_reader l) 20 h) (hit 20 _ (omega arith))

-- Then the file decides.
pub reader_file : (f : List ℕ) (l : ReaderTables) → short_reader l ≡ false → read_refusal f l ≡ file_refusal f
unfolding read_refusal
reader_file f l h = rw (one_off (short_reader l) 20 h, next) (alone (file_refusal f))

module _ (f : List ℕ) where
  -- 1, by the length alone.
  pub length_refused : bad_length f ≡ true → file_refusal f ≡ 1
  unfolding file_refusal
  length_refused h = rw (one_met (bad_length f) 1 h) (hit 1 _ (omega arith))

  module _ (right : bad_length f ≡ false) where
    -- The header's refusal.
    pub header_refused : (header_refusal f ≡ 0 → ⊥) → file_refusal f ≡ header_refusal f
    unfolding file_refusal
    header_refused n = rw (one_off (bad_length f) 1 right, next) (hit (header_refusal f) _ n)

    module _ (top : header_refusal f ≡ 0) where
      -- 1, by the header's block count.
      pub count_refused : bad_count f ≡ true → file_refusal f ≡ 1
      unfolding file_refusal
      count_refused h = rw (one_off (bad_length f) 1 right, next, top, next, one_met (bad_count f) 1 h) (hit 1 _ (omega arith))

      module _ (count : bad_count f ≡ false) where
        -- The blocks before block 1 + k are not refused, and this one is.
        pub block_refused : (k : ℕ) → k < blocks (decode f) - 1 → first_below k (λ k. block_refusal f (1 + k)) ≡ 0 → (block_refusal f (1 + k) ≡ 0 → ⊥) → file_refusal f ≡ block_refusal f (1 + k)
        unfolding file_refusal
        block_refused k l h n =
            let r = block_refusal f (1 + k) in
            rw (one_off (bad_length f) 1 right, next, top, next, one_off (bad_count f) 1 count, next, below_hit (λ k. block_refusal f (1 + k)) k (blocks (decode f) - 1) r l h refl n) (hit r _ n)

        module _ (clean : first_below (blocks (decode f) - 1) (λ k. block_refusal f (1 + k)) ≡ 0) where
          last : file_refusal f ≡ first_met ((shared (decode f), 7) ∷ (unnamed (decode f), 8) ∷ (counted_twice (counted_tallies (decode f)), 9) ∷ [])
          unfolding file_refusal
          last = rw (one_off (bad_length f) 1 right, next, top, next, one_off (bad_count f) 1 count, next, clean, next) (alone _)

          -- 7, whatever 8 and 9 say.
          pub shared_refused : shared (decode f) ≡ true → file_refusal f ≡ 7
          unfolding first_met
          shared_refused h = last ∙ rw h

          -- 8, where 7 is not met, whatever 9 says.
          pub unnamed_refused : shared (decode f) ≡ false → unnamed (decode f) ≡ true → file_refusal f ≡ 8
          unfolding first_met
          unnamed_refused h u = last ∙ rw (h, u)

          -- 9, where neither is met.
          pub twice_refused : shared (decode f) ≡ false → unnamed (decode f) ≡ false → counted_twice (counted_tallies (decode f)) ≡ true → file_refusal f ≡ 9
          unfolding first_met
          twice_refused h u c = last ∙ rw (h, u, c)

          -- No condition is met.
          pub file_accepted : shared (decode f) ≡ false → unnamed (decode f) ≡ false → counted_twice (counted_tallies (decode f)) ≡ false → file_refusal f ≡ 0
          unfolding first_met
          file_accepted h u c = last ∙ rw (h, u, c)

-- ---- the writer: 20, 4, 6, 7, 8, 9

-- 20 comes before all else.
pub writer_20 : (h : Head) (l : FileTables) (out : List ℕ) → short_writer h l out ≡ true → write_refusal h l out ≡ 20
unfolding write_refusal
writer_20 h l out e = rw (one_met (short_writer h l out) 20 e) (hit 20 _ (omega arith))

-- Then the job decides.
pub writer_job : (h : Head) (l : FileTables) (out : List ℕ) → short_writer h l out ≡ false → write_refusal h l out ≡ job_refusal (file_job_of h l)
unfolding write_refusal
writer_job h l out e = rw (one_off (short_writer h l out) 20 e, next) (alone (job_refusal (file_job_of h l)))

module _ (j : FileJob) where
  -- 4 first.
  pub job_4 : bad_sizes j.head ≡ true → job_refusal j ≡ 4
  unfolding job_refusal first_met
  job_4 a = rw a

  -- 6 where 4 is not met.
  pub job_6 : bad_sizes j.head ≡ false → bad_records j ≡ true → job_refusal j ≡ 6
  unfolding job_refusal first_met
  job_6 a b = rw (a, b)

  -- 7, whatever 8 and 9 say.
  pub job_7 : bad_sizes j.head ≡ false → bad_records j ≡ false → shared j ≡ true → job_refusal j ≡ 7
  unfolding job_refusal first_met
  job_7 a b c = rw (a, b, c)

  -- 8, whatever 9 says.
  pub job_8 : bad_sizes j.head ≡ false → bad_records j ≡ false → shared j ≡ false → unnamed j ≡ true → job_refusal j ≡ 8
  unfolding job_refusal first_met
  job_8 a b c d = rw (a, b, c, d)

  -- 9 last.
  pub job_9 : bad_sizes j.head ≡ false → bad_records j ≡ false → shared j ≡ false → unnamed j ≡ false → counted_twice (counted_tallies j) ≡ true → job_refusal j ≡ 9
  unfolding job_refusal first_met
  job_9 a b c d e = rw (a, b, c, d, e)

-- ---- 9 behind 7 and 8

-- Where 7 or 8 is met, 9 is not asked.
pub before_9 : (a b c : Bool) (r : ℕ) → r ≡ first_met ((a, 7) ∷ (b, 8) ∷ []) → (r ≡ 0 → ⊥) → r ≡ first_met ((a, 7) ∷ (b, 8) ∷ (c, 9) ∷ [])
unfolding first_met
before_9 true b c r e n = e
before_9 false true c r e n = e
before_9 false false c r e n = absurd (n e)

-- Where neither is met, 9 decides.
pub only_9 : (a b c : Bool) → first_met ((a, 7) ∷ (b, 8) ∷ []) ≡ 0 → first_met ((a, 7) ∷ (b, 8) ∷ (c, 9) ∷ []) ≡ first_met ((c, 9) ∷ [])
unfolding first_met
only_9 true b c e = absurd (omega arith)
only_9 false true c e = absurd (omega arith)
only_9 false false c e = refl

-- It is met,
pub then_9 : (a b c : Bool) → first_met ((a, 7) ∷ (b, 8) ∷ []) ≡ 0 → c ≡ true → 9 ≡ first_met ((a, 7) ∷ (b, 8) ∷ (c, 9) ∷ [])
then_9 a b c e h = sym (only_9 a b c e ∙ one_met c 9 h)

-- or not.
pub not_9 : (a b c : Bool) → first_met ((a, 7) ∷ (b, 8) ∷ []) ≡ 0 → c ≡ false → 0 ≡ first_met ((a, 7) ∷ (b, 8) ∷ (c, 9) ∷ [])
not_9 a b c e h = sym (only_9 a b c e ∙ one_off c 9 h)
