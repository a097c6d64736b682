-- A tally that stays names the offer that it named. Assumes nothing.
use mathlib.Core.Path.{◌≡◌, sym}
use Prim.Native.Nat.{ℕ, ◌<◌}
use Rattle.laws.proofs.Below.{find_cong}
use Rattle.format.specs.Codes.{same_offer}
use Rattle.format.specs.Job.{Head, FileJob, names, place_of}
use Rattle.format.specs.Refusals.{job_refusal}
use Rattle.format.specs.Tables.{ReaderTables, file_job_of}
use Rattle.format.proofs.Codes.{number_cong}
use Rattle.format.proofs.Range.{in_range_lem}
use Rattle.late_rules.specs.Edit.{entry_of, with_tallies}
use Rattle.late_rules.proofs.Entries.{SameEntry}

-- Of tables l and l' with the same offers, l' of n tallies, which the writer does not refuse: entry t of l' is entry u of l.
module _ (h : Head) (l l' : ReaderTables) (n : ℕ) (offers : l'.job.offers ≡ l.job.offers)
    (ok : job_refusal (file_job_of (with_tallies h n) l'.job) ≡ 0) (t u : ℕ) (q : t < n) (e : SameEntry (entry_of l' t) (entry_of l u)) where
  abbrev j : FileJob
  j = file_job_of h l.job

  abbrev j' : FileJob
  j' = file_job_of (with_tallies h n) l'.job

  same_names : (i : ℕ) → names j' t i ≡ names j u i
  unfolding names same_offer file_job_of
  same_names i =
      let c = e.tally.code in
      rw (
        offers,
        e.tally.issuer,
        ← (number_cong (j.tally u).code (j'.tally t).code ((in_range_lem j' ok).tally t q).code (sym c.size) (λ k m. sym (c.digit k m))),
      )

  pub place_stays : place_of j' t ≡ place_of j u
  unfolding place_of file_job_of
  place_stays = find_cong h.offers (names j' t) (names j u) (λ i m. same_names i)
