-- Working totals by local grocer (02 §11): steps, lists of steps and runs on the packed tables do what they do on full rows.
use Rattle.std.specs.Prelude.{◌≡◌, List, true, false, ℕ, suc, ◌+◌, ◌*◌, ◌≤◌}
use Rattle.model.specs.Tables.{JobTables, StateTables, evening_of, state_lengths, totals_short}
use Rattle.model.specs.Ranges.{job_in_range}
use Rattle.model.specs.PackedTotals.{totals_length}
use Rattle.model.specs.FullRows.{TotalsIn, SameStep, SameRequests, SameFresh, SameRun, rows_short, rows_in_range, FromRows}
use Rattle.model.specs.Step.{Asked}

-- Where the packed tables are long enough and their totals in range, whatever all else holds and asks.
pub record PackedHolds : Type 0 where
  -- Each step gives the same answer and, unpacked with 0 for all other grocers, the same words,
  pub steps : (f : JobTables) (t : StateTables) (q : Asked) → TotalsIn (evening_of f) t → SameStep f t q
  -- every list of steps, with those that are refused,
  pub lists : (f : JobTables) (t : StateTables) (qs : List Asked) → TotalsIn (evening_of f) t → SameRequests f t qs
  -- a fresh state, whatever the buffers held,
  pub fresh : (f : JobTables) (t : StateTables) → SameFresh f t
  -- and every run, which does not look at the old words.
  pub runs : (f : JobTables) (t : StateTables) (choices picked : List ℕ) → totals_short (evening_of f) (state_lengths t) ≡ false → SameRun f t choices picked
  -- Full rows that hold anything in range for other grocers, packed into whatever buffers t: no step reads or writes those words.
  pub rows : (f : JobTables) (u t : StateTables) (q : Asked) →
      rows_short (evening_of f) (state_lengths u) ≡ false → rows_in_range (evening_of f) u ≡ true → FromRows f u t q
  -- (M + T) × L words are always enough, L being the number of price lists.
  pub enough : (f : JobTables) → job_in_range f ≡ true → totals_length (evening_of f) ≤ (f.grocers + f.tallies) * suc f.lists
