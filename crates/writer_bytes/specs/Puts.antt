-- Bytes that are put into a buffer.
use Rattle.std.specs.Prelude.{ℕ, ◌+◌, List, ◌++◌, get_or, take, drop}
use Rattle.laws.specs.Tables.{tabulate}

-- The list d with g 0, g 1, .. in place of its n words from place `at` on.
unfoldable pub put : ℕ → ℕ → (ℕ → ℕ) → List ℕ → List ℕ
put at n g d = take at d ++ tabulate n g ++ drop (at + n) d

-- The bytes of a list.
abbrev pub bytes_of : List ℕ → ℕ → ℕ
bytes_of l k = get_or l k 0
