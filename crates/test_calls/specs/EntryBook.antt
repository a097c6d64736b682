-- What the entry point of the local book gives: a number for the answer, the five lent tables, and the numbers of what is in them.
use Rattle.std.specs.Prelude.{cond, List, [], ◌∷◌, ℕ, ltb, length}
use Rattle.model.specs.Tables.{JobTables}
use Rattle.book_sort.specs.Sort.{in_front}
use Rattle.book.specs.Book.{BookAnswer, book, refused, BookTables, BookOutcome, booked}

-- A number, and the buffer for the numbers as it is afterwards.
pub record NumbersTold : Type 0 where
  pub answer : ℕ
  pub numbers : List ℕ

-- The same, as a contract names it.
abbrev pub numbers_told : ℕ → List ℕ → NumbersTold
numbers_told n l = record { answer = n; numbers = l }

-- The book's answer as a number; local offers, local grocers and tallies are counted in front of the buffer.
unfoldable pub numbers_as : BookAnswer → List ℕ → NumbersTold
numbers_as (book offers grocers tallies) l = numbers_told 0 (in_front (offers ∷ grocers ∷ tallies ∷ []) l)
numbers_as (refused n) l = numbers_told n l

-- What the entry point gives: a number, the five tables, and the buffer for the numbers.
pub record BookTold : Type 0 where
  pub answer : ℕ
  pub tables : BookTables
  pub numbers : List ℕ

-- The same, as a contract names it.
abbrev pub book_told : ℕ → BookTables → List ℕ → BookTold
book_told n t l = record { answer = n; tables = t; numbers = l }

-- What the book gives, told in a number and a lent buffer.
unfoldable pub booked_as : BookOutcome → List ℕ → BookTold
booked_as o l = book_told (numbers_as o.answer l).answer o.tables (numbers_as o.answer l).numbers

-- The same of the job's book: 20 also where the buffer is shorter than three words.
unfoldable pub booked_by : JobTables → ℕ → BookTables → List ℕ → BookTold
booked_by f b t l = cond (ltb (length l) 3) (book_told 20 t l) (booked_as (booked f b t) l)
