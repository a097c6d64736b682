-- Text that is put into a buffer of bytes, from a place on.
use Rattle.std.specs.Prelude.{◌≡◌, List, [], ◌∷◌, ◌++◌, ℕ, zero, suc, ◌+◌, ◌≤◌, ℤ, length}
use Rattle.std.proofs.lemmas.List.Edits.{sets}
use Rattle.printing.specs.Cents.{Half, cents}
use Rattle.printing.specs.Printed.{signed_decimal}

-- The buffer d with the text s stored byte by byte from place `at` on.
unfoldable pub put : ℕ → List ℕ → List ℕ → List ℕ
put at s d = sets d at s

-- The text s was put at place `at` of the buffer d, which is d' now; the answer r is the place behind it.
pub record Put (at : ℕ) (s d d' : List ℕ) (r : ℕ) : Type 0 where
  pub next : r ≡ at + length s
  pub room : r ≤ length d
  pub bytes : d' ≡ put at s d

-- The first n of a grocer's amounts in whole cents, a space before each.
unfoldable pub spaced_amounts : Half → ℕ → (ℕ → ℤ) → List ℕ
spaced_amounts h zero amount = []
spaced_amounts h (suc n) amount = spaced_amounts h n amount ++ (32 ∷ signed_decimal (cents h (amount n)))
