-- What is printed of a file, by what is read of it, and of a job that was run. Assumes nothing.
use mathlib.Core.Path.{◌≡◌, sym, ap, ◌∙◌, subst}
use mathlib.Core.Bool.{Bool, false, cond}
use mathlib.Core.List.{List, []}
use Prim.Native.Nat.{ℕ, suc, ◌<◌}
use native.Mathlib.Omega.{arith}
use lib.IntN.{ℤ, pos}
use lib.ListN.{get_or, replicate}
use Rattle.laws.specs.Tables.{overwrite, recell}
use Rattle.recount.specs.Recount.{stands, counted_twice}
use Rattle.model.specs.Tables.{JobTables, job_tables, bag_tables, evening_of, counted_of, store, lent_short}
use Rattle.model.specs.Ranges.{Settles}
use Rattle.model.specs.Handed.{handed_tables, Standing}
use Rattle.model.specs.Run.{RunOutcome}
use Rattle.format.specs.Job.{Head, price_on, place_of, counted_tallies}
use Rattle.format.specs.File.{decode}
use Rattle.format.specs.Refusals.{file_refusal}
use Rattle.format.specs.Tables.{store_read, store as store_file, store_offers, store_tallies, read_refusal}
use Rattle.printing.specs.Printed.{job_read, blank_job, blank_state, amount_in, settled_text, run_text, job_text, printed}
use Rattle.settle.specs.Due.{DueIn, DueOut}
use Rattle.index.specs.Bags.{Struck}
use Rattle.model.proofs.Step.{job_in_lem, in_handed}
use Rattle.model.proofs.Handed.{handed-whole, handed_in, handed_run}
use Rattle.format.proofs.Tables.{read_accepted}
use Rattle.printing.proofs.Accepted.{settles, accepted}
use Rattle.printing.proofs.Blank.{blank_state_lem, blank_totals, read_by_file, printed_job}

-- ---- A job that settles, and the boxes of its tallies that stand

module _ (f : JobTables) (s : Settles f) (standing : List ℕ) (st : Standing f standing) where
  abbrev handed : JobTables
  handed = handed_tables f standing

  -- It may be run.
  pub due_in : DueIn handed
  due_in = record { job_in_lem = handed_in f standing st s.in_range; job_long = handed-whole f standing st s.whole }

  -- The blank buffers are long enough for it.
  lent_ok : lent_short f blank_state ≡ false
  unfolding lent_short
  lent_ok =
      let w = job_in_lem f (in_handed f s.in_range) in
      rw (s.whole, s.bags, blank_state_lem f w.boxes≤ w.grocers≤ w.offers≤ w.lists≤)

  -- What its run without choices comes to is printed of it.
  pub due_text : (cycle : ℕ) (statement : List ℤ) (words messages steps : ℕ) → DueOut (evening_of handed) (replicate 2_040 (pos 0)) statement words messages steps →
      settled_text cycle f.lists f.grocers (amount_in f.lists statement) words messages steps ≡ job_text cycle f
  unfolding job_text run_text blank_state store
  due_text cycle statement words messages steps r =
      (λ i. settled_text cycle f.lists f.grocers (amount_in f.lists (r.statement_is i)) (r.words_are i) (r.messages_are i) (r.steps_are i))
      ∙ sym (ap (λ (o : RunOutcome). run_text cycle f.lists f.grocers o.answer o.tables.statement) (handed_run f standing st blank_state [] [] lent_ok s.in_range s.once (blank_totals f s.in_range)))

-- ---- An accepted file

module _ (file : List ℕ) (ok : file_refusal file ≡ 0) where
  read_ok : read_refusal file blank_job ≡ 0
  read_ok = read_by_file file ∙ ok

  -- 9 is not met.
  pub once : counted_twice (counted_tallies (decode file)) ≡ false
  once = (accepted file blank_job read_ok).once

  -- The job's tables, for the numbers that the header says; boxes, bags and revisions are the file's.
  abbrev job_in : Head → (price offer_owner grocer_owner tally_grocer tally_offer : List ℕ) → List ℤ → JobTables
  job_in h price offer_owner grocer_owner tally_grocer tally_offer tally_count =
      bag_tables h.boxes h.grocers h.offers h.tallies h.lists price offer_owner grocer_owner tally_grocer
      (overwrite h.tallies (λ i. ((decode file).tally i).box) (replicate 1_000 0)) tally_offer tally_count
      (overwrite h.tallies (λ i. ((decode file).tally i).bag) (replicate 1_000 0)) (overwrite h.tallies (λ i. ((decode file).tally i).revision) (replicate 1_000 0))

  -- All tables are filled from the file.
  abbrev fields : Head → JobTables
  fields h =
      job_in h (recell (suc h.lists) h.offers (price_on (decode file).offer (decode file).list_price) (replicate 4_000 0)) (overwrite h.offers (λ i. ((decode file).offer i).owner) (replicate 500 0))
      (overwrite h.grocers (decode file).grocer_owner (replicate 255 0)) (overwrite h.tallies (λ i. ((decode file).tally i).grocer) (replicate 1_000 0))
      (overwrite h.tallies (place_of (decode file)) (replicate 1_000 0)) (overwrite h.tallies (λ i. ((decode file).tally i).count) (replicate 1_000 (pos 0)))

  fields_read : fields (decode file).head ≡ job_read file blank_job
  unfolding job_read blank_job store_read store_file store_offers store_tallies
  fields_read = sym (rw (read_accepted file blank_job read_ok))

  -- Tables that are so filled are those that the reader leaves in blank ones.
  module _ (h : Head) (says : h ≡ (decode file).head) (price offer_owner grocer_owner tally_grocer tally_offer : List ℕ) (tally_count : List ℤ)
      (prices : price ≡ recell (suc h.lists) h.offers (price_on (decode file).offer (decode file).list_price) (replicate 4_000 0))
      (offer_owners : offer_owner ≡ overwrite h.offers (λ i. ((decode file).offer i).owner) (replicate 500 0))
      (grocer_owners : grocer_owner ≡ overwrite h.grocers (decode file).grocer_owner (replicate 255 0))
      (tally_grocers : tally_grocer ≡ overwrite h.tallies (λ i. ((decode file).tally i).grocer) (replicate 1_000 0))
      (tally_offers : tally_offer ≡ overwrite h.tallies (place_of (decode file)) (replicate 1_000 0))
      (tally_counts : tally_count ≡ overwrite h.tallies (λ i. ((decode file).tally i).count) (replicate 1_000 (pos 0))) where
    abbrev job : JobTables
    job = job_in h price offer_owner grocer_owner tally_grocer tally_offer tally_count

    job_is : job ≡ job_read file blank_job
    job_is =
        (λ i. job_in h (prices i) (offer_owners i) (grocer_owners i) (tally_grocers i) (tally_offers i) (tally_counts i)) ∙ ap fields says ∙ fields_read

    job_settles : Settles job
    job_settles = subst Settles (sym job_is) (settles file blank_job read_ok)

    -- The boxes that were struck are the standing ones.
    module _ (boxes : List ℕ) (s : Struck (counted_tallies (decode file)) h.tallies (overwrite h.tallies (λ i. ((decode file).tally i).box) (replicate 1_000 0)) boxes) where
      stand_same : (t : ℕ) → t < h.tallies → stands (counted_of job) t ≡ stands (counted_tallies (decode file)) t
      stand_same t l =
          ap (λ (f : JobTables). stands (counted_of f) t) job_is
          ∙ (accepted file blank_job read_ok).standing t (omega (arith, l, ap (λ (h : Head). h.tallies) says))

      standing : Standing job boxes
      standing = record {
        long = s.long;
        each = λ t l. s.each t l ∙ sym (ap (λ (b : Bool). cond b (get_or job.tally_box t 0) 16) (stand_same t l));
      }

      -- So the job may be run, and what the run comes to is printed of the file.
      abbrev ran : JobTables
      ran = job_tables h.boxes h.grocers h.offers h.tallies h.lists price offer_owner grocer_owner tally_grocer boxes tally_offer tally_count

      pub may_run : DueIn ran
      may_run = due_in job job_settles boxes standing

      pub run_text_lem : (statement : List ℤ) (words messages steps : ℕ) →
          DueOut (evening_of ran) (replicate 2_040 (pos 0)) statement words messages steps →
          settled_text h.cycle h.lists h.grocers (amount_in h.lists statement) words messages steps ≡ printed file
      run_text_lem statement words messages steps r =
          due_text job job_settles boxes standing h.cycle statement words messages steps r
          ∙ (λ i. job_text (says i).cycle (job_is i)) ∙ sym (printed_job file ok)
