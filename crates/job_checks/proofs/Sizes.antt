-- What is asked of a state's tables reads K, M, N and the number of lists of the job and nothing else. Assumes nothing.
use mathlib.Core.Path.{◌≡◌, refl}
use mathlib.Core.List.{[]}
use Rattle.model.specs.Tables.{JobTables, job_tables, StateTables, StateLengths, state_short}
use Rattle.model.specs.Ranges.{sizes_in_range, state_in_range}
use Rattle.job_checks.specs.Sizes.{sizes}

module _ (f : JobTables) where
  -- The caller's tables may stand for the sizes alone.
  pub short_sizes : (n : StateLengths) → state_short (sizes f.boxes f.grocers f.offers f.lists) n ≡ state_short f n
  unfolding state_short
  short_sizes n = refl

  pub range_sizes : (t : StateTables) → state_in_range (sizes f.boxes f.grocers f.offers f.lists) t ≡ state_in_range f t
  unfolding state_in_range
  range_sizes t = refl

  pub job_sizes : sizes_in_range (job_tables f.boxes f.grocers f.offers f.tallies f.lists [] [] [] [] [] [] []) ≡ sizes_in_range f
  unfolding sizes_in_range
  job_sizes = refl
