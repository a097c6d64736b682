-- The place that an added tally finds, where the writer does not refuse the edited job. Assumes nothing.
use mathlib.Core.Path.{◌≡◌, sym}
use mathlib.Core.Bool.{true}
use Prim.Native.Nat.{ℕ, ◌+◌, ◌<◌}
use native.Mathlib.Omega.{arith}
use borrow.Author.Tests.{le-ltb}
use Rattle.laws.proofs.Below.{find_cong}
use Rattle.format.specs.Codes.{name_of, is_code, same_offer}
use Rattle.format.specs.Job.{Head, Tally, FileJob, offer_name, names, place_of}
use Rattle.format.specs.Refusals.{job_refusal}
use Rattle.format.specs.Tables.{ReaderTables, file_job_of}
use Rattle.late_rules.specs.Edit.{entry_of, followed, store_entries, place_found, added_head, added_tables}
use Rattle.format.proofs.Codes.{code_cong, number_cong}
use Rattle.format.proofs.Range.{InRange, in_range_lem}
use Rattle.late_rules.proofs.Entries.{SameEntry, stored}

-- Behind the entries of before stands x.
pub added_last : (h : Head) (l : ReaderTables) (x : Tally) → SameEntry (entry_of (added_tables h l x) h.tallies) (record { tally = x; place = place_found h l x })
unfolding added_tables
added_last h l x =
    rw (le-ltb h.tallies h.tallies (omega arith))
    at (stored (h.tallies + 1) (followed h.tallies (entry_of l) (record { tally = x; place = place_found h l x })) l h.tallies (omega arith))

module _ (h : Head) (l : ReaderTables) (x : Tally) (written : job_refusal (file_job_of (added_head h) (added_tables h l x).job) ≡ 0) where
  abbrev j' : FileJob
  j' = file_job_of (added_head h) (added_tables h l x).job

  pub written_range : InRange j'
  written_range = in_range_lem j' written

  -- Its code is one.
  pub added_code : is_code x.code ≡ true
  unfolding file_job_of
  added_code =
      let c = (added_last h l x).tally.code in
      rw (code_cong (j'.tally h.tallies).code x.code c.size c.digit) at (written_range.tally h.tallies (omega arith)).code

  -- The name of x is found where the reader would find it.
  same_names : (i : ℕ) → names j' h.tallies i ≡ same_offer (offer_name (file_job_of h l.job) i) (name_of x.issuer x.code)
  unfolding names same_offer added_tables store_entries file_job_of
  same_names i =
      let c = (added_last h l x).tally.code in
      rw (
        (added_last h l x).tally.issuer,
        ← (number_cong x.code (j'.tally h.tallies).code (written_range.tally h.tallies (omega arith)).code (sym c.size) (λ k q. sym (c.digit k q))),
      )

  pub added_place : place_of j' h.tallies ≡ place_found h l x
  unfolding place_of place_found file_job_of
  added_place = find_cong h.offers (names j' h.tallies) _ (λ i q. same_names i)

  pub added_named : place_found h l x < h.offers
  unfolding file_job_of
  added_named = rw added_place at (written_range.place h.tallies (omega arith))
