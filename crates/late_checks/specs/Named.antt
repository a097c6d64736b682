-- The offer of a number, among names that tables hold.
use Rattle.std.specs.Prelude.{◌≡◌, Bool, true, List, ℕ, ◌*◌, ◌≤◌, ◌<◌, eqb, length}
use Rattle.format.specs.Codes.{is_code, name_number}
use Rattle.format.specs.Tables.{code_of, name_in}

-- Name i of the tables has this number.
unfoldable pub is_number : (code issuer : List ℕ) → ℕ → ℕ → Bool
is_number code issuer number i = eqb (name_number (name_in code issuer i)) number

-- Tables of n names, each of which has a code.
pub record NamesLent (n : ℕ) (codes issuer : List ℕ) : Type 0 where
  pub code_long : n * 11 ≤ length codes
  pub issuer_long : n ≤ length issuer
  pub code : (i : ℕ) → i < n → is_code (code_of codes i) ≡ true
