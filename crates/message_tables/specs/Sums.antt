-- Sums over tables of messages, and the words of a job by its owner tables.
use Rattle.std.specs.Prelude.{List, ℕ, get_or}
use Rattle.std.specs.Int.Count.{ones}
use Rattle.laws.specs.Below.{sum, naturals}
use Rattle.laws.specs.Masks.{without}
use Rattle.laws.specs.Tables.{cell_at}

-- What box a sends in all: the sum of its row.
unfoldable pub row_sum : List (List ℕ) → ℕ → ℕ
row_sum t a = sum naturals 16 (λ b. cell_at t a b)

-- What box b receives in all: the sum of its column.
unfoldable pub column_sum : List (List ℕ) → ℕ → ℕ
column_sum t b = sum naturals 16 (λ a. cell_at t a b)

-- The words of a table in all.
unfoldable pub table_sum : List (List ℕ) → ℕ
table_sum t = sum naturals 16 (λ a. row_sum t a)

-- The ones in the first n words, each without its owner's bit.
unfoldable pub others_sum : ℕ → List ℕ → List ℕ → ℕ
others_sum n owners masks = sum naturals n (λ i. ones (without (get_or owners i 0) (get_or masks i 0)))
