-- Tables of which only the sizes matter: what is asked of a state's tables reads no other word of the job's.
use Rattle.std.specs.Prelude.{[], ℕ}
use Rattle.model.specs.Tables.{JobTables, job_tables}

-- K, M, N and the number of additional price lists alone.
abbrev pub sizes : ℕ → ℕ → ℕ → ℕ → JobTables
sizes k m n l = job_tables k m n 0 l [] [] [] [] [] [] []
