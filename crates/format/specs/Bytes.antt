-- Bytes and little-endian words. Bytes are a function of their place; a list's bytes past its end are 0.
use Rattle.std.specs.Prelude.{ℕ, ◌+◌, ◌*◌, ◌/◌, ◌%◌, List, [], ◌∷◌, get_or}

-- The bytes of a list from a place on.
abbrev pub from : List ℕ → ℕ → ℕ → ℕ
from f at k = get_or f (at + k) 0

-- The bytes of g from a place on.
abbrev pub after : (ℕ → ℕ) → ℕ → ℕ → ℕ
after g at k = g (at + k)

-- "integers little-endian": the 16-bit word of the first two bytes.
abbrev pub word16 : (ℕ → ℕ) → ℕ
word16 g = g 0 + 256 * g 1

-- The 32-bit word of the first four.
abbrev pub word32 : (ℕ → ℕ) → ℕ
word32 g = g 0 + 256 * g 1 + 65536 * g 2 + 16777216 * g 3

-- The two bytes of a 16-bit word.
abbrev pub bytes16 : ℕ → List ℕ
bytes16 v = v % 256 ∷ v / 256 ∷ []

-- The four bytes of a 32-bit word.
abbrev pub bytes32 : ℕ → List ℕ
bytes32 v = v % 256 ∷ v / 256 % 256 ∷ v / 65536 % 256 ∷ v / 16777216 ∷ []
