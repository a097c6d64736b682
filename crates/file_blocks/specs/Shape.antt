-- The reader's refusals of a file's form: all but 7, 8 and 9, which look at the whole job.
use Rattle.std.specs.Prelude.{ℕ, ◌+◌, ◌-◌, ◌/◌, ◌%◌, Bool, not, ◌&&◌, ◌||◌, List, [], ◌∷◌, leb, eqb}
use Rattle.laws.specs.Below.{any}
use Rattle.laws.specs.Checks.{first_met}
use Rattle.format.specs.First.{first_of, first_below}
use Rattle.format.specs.Blocks.{blocks}
use Rattle.format.specs.File.{decode}
use Rattle.format.specs.Refusals.{bad_length, bad_count, header_refusal, block_refusal}

-- A byte that is not 0.
abbrev pub used : ℕ → Bool
used x = not (eqb x 0)

-- 504 bytes hold n records of z bytes each, whose fields are the first w: a byte past the records, or past a record's fields, is not 0.
unfoldable pub spare_in : ℕ → ℕ → ℕ → (ℕ → ℕ) → Bool
spare_in n z w g = any 504 (λ s. (leb n (s / z) || leb w (s % z)) && used (g s))

-- "1, the header, the block count, other blocks ascending".
unfoldable pub shape_refusal : List ℕ → ℕ
shape_refusal f =
    first_of (
    first_met ((bad_length f, 1) ∷ []) ∷
    header_refusal f ∷
    first_met ((bad_count f, 1) ∷ []) ∷
    first_below (blocks (decode f) - 1) (λ k. block_refusal f (1 + k)) ∷ [])
