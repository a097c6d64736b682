-- What the recount rule comes to in a job's tables.
use Rattle.std.specs.Prelude.{◌≡◌, ◌&&◌, ℕ, suc, ◌+◌, ◌*◌, ◌<◌, get_or, eqb, pos, ◌*ℤ◌}
use Rattle.laws.specs.Below.{sum, only, integers}
use Rattle.recount.specs.Recount.{stands}
use Rattle.model.specs.Job.{held_by, held, plain_sum}
use Rattle.model.specs.Tables.{JobTables, counted_of, job_of, evening_of}

-- In tables in range:
pub record StandingCount (f : JobTables) : Type 0 where
  -- box b holds a tally just where the tally stands and its word is b; amounts, needs, sharers, books, words, messages and steps are told from this;
  pub holder : (t b : ℕ) → t < f.tallies → held_by (job_of f) t b ≡ (stands (counted_of f) t && eqb (get_or f.tally_box t 0) b)
  -- the tallies that count are those that stand;
  pub counts : (t : ℕ) → t < f.tallies → held (job_of f) t ≡ stands (counted_of f) t
  -- the plain sum of the first price list is count × price over the standing tallies of the grocer;
  pub sums : (g : ℕ) → plain_sum (job_of f) g
      ≡ sum integers f.tallies (λ t. only integers (stands (counted_of f) t && eqb (get_or f.tally_grocer t 0) g)
      (get_or f.tally_count t (pos 0) *ℤ pos (get_or f.price (get_or f.tally_offer t 0) 0)))
  -- and so is that of every list, with its prices: list after list in the table, a grocer's lists side by side in the evening's job.
  pub list_sums : (g q : ℕ) → q < suc f.lists → plain_sum (evening_of f) (g * suc f.lists + q)
      ≡ sum integers f.tallies (λ t. only integers (stands (counted_of f) t && eqb (get_or f.tally_grocer t 0) g)
      (get_or f.tally_count t (pos 0) *ℤ pos (get_or f.price (q * f.offers + get_or f.tally_offer t 0) 0)))
