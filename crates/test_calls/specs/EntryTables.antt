-- What the entry point of the tables of messages gives: a number for the answer, and the lent words.
use Rattle.std.specs.Prelude.{Bool, cond, List, [], ◌∷◌, ℕ, ltb, length}
use Rattle.laws.specs.Checks.{any_of}
use Rattle.laws.specs.Tables.{tabulate, recell, cell_at}
use Rattle.model.specs.Tables.{JobTables}
use Rattle.message_tables.specs.Answers.{MessagesAnswer, made, refused, TablesGiven, message_tables}
use Rattle.book_sort.specs.Sort.{in_front}

-- A number, and the buffers for the two tables and for the words of the job as they are afterwards.
pub record MessagesTold : Type 0 where
  pub answer : ℕ
  pub price_words : List ℕ
  pub total_words : List ℕ
  pub job_words : List ℕ

-- The same, as a contract names it.
abbrev pub messages_told : ℕ → List ℕ → List ℕ → List ℕ → MessagesTold
messages_told n p t w = record { answer = n; price_words = p; total_words = t; job_words = w }

-- By the answer: both tables row by row and the words of the job, each in front of its buffer; or the refusal, and the buffers as they were.
unfoldable pub messages_for : MessagesAnswer → (prices totals : List (List ℕ)) → (p t w : List ℕ) → MessagesTold
messages_for (made n) prices totals p t w = messages_told 0 (recell 16 16 (cell_at prices) p) (recell 16 16 (cell_at totals) t) (in_front (n ∷ []) w)
messages_for (refused n) prices totals p t w = messages_told n p t w

-- What the call of the tables gives, told.
abbrev pub messages_as : TablesGiven → (p t w : List ℕ) → MessagesTold
messages_as m p t w = messages_for m.answer m.prices m.totals p t w

-- 20: a buffer has no room for 256 counts, or for the words of the job.
unfoldable pub messages_short : (p t w : List ℕ) → Bool
messages_short p t w = any_of (ltb (length p) 256 ∷ ltb (length t) 256 ∷ ltb (length w) 1 ∷ [])

-- Tables of no words.
unfoldable pub no_words : List (List ℕ)
no_words = tabulate 16 (λ a. tabulate 16 (λ b. 0))

-- What the entry point gives: 20 also where a buffer is short.
unfoldable pub messages_by : JobTables → (p t w : List ℕ) → MessagesTold
messages_by f p t w = cond (messages_short p t w) (messages_told 20 p t w) (messages_as (message_tables f no_words no_words) p t w)
