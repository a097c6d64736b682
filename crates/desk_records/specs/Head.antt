-- What the desk looks at before any record.
use Rattle.std.specs.Prelude.{List, [], ◌∷◌, Bool, cond, ◌&&◌, ℕ, length, ltb, leb}
use Rattle.laws.specs.Checks.{all_of}
use Rattle.laws.specs.Limits.{max_grocers, max_offers, max_tallies, max_price}
use Rattle.model.specs.Ranges.{up_to}

-- What 21 looks at beside the records: M, N, the prices, the number of records and the grocer wanted.
unfoldable pub head_in_range : ℕ → ℕ → ℕ → List ℕ → ℕ → Bool
head_in_range m n g prices len =
    all_of ((leb 1 m && leb m max_grocers) ∷ (leb 1 n && leb n max_offers) ∷ up_to max_price n prices ∷ leb len max_tallies ∷ ltb g m ∷ [])

-- The refusal before any of len records; 0 where there is none.
unfoldable pub head_refusal : ℕ → ℕ → ℕ → List ℕ → ℕ → ℕ
head_refusal m n g prices len = cond (ltb (length prices) n) 20 (cond (head_in_range m n g prices len) 0 21)
