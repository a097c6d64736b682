-- What loops over places say, of a body that is passed to them.
use Rattle.std.specs.Prelude.{◌≡◌, true, false, List, ℕ, ◌<◌, ◌≤◌, Bool, get_or}

-- Whether one of the first n places passes a test: where one does, the test says so of a place, and where none does, of each that it does not.
pub record AnyBy (says : ℕ → Bool → Type 0) (n : ℕ) (found : Bool) : Type 0 where
  pub some : found ≡ true → (i : ℕ) × (i < n) × says i true
  pub none : found ≡ false → (i : ℕ) → i < n → says i false

-- The first n words of a table are what is read for their places, and the others are as they were.
pub record FilledBy {A : Type 0} (reads : ℕ → A → Type 0) (n : ℕ) (old new : List A) : Type 0 where
  pub read : (z : A) (i : ℕ) → i < n → reads i (get_or new i z)
  pub past : (z : A) (i : ℕ) → n ≤ i → get_or new i z ≡ get_or old i z
