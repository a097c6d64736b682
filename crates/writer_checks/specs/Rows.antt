-- The codes, names and bags that lent tables hold, and the index of the names.
use Rattle.std.specs.Prelude.{ℕ, ◌*◌, ◌<◌, ◌≤◌, true, false, ◌≡◌, List, get_or, length}
use Rattle.index.specs.Index.{IsIndex, shares_number, place_of as place_in}
use Rattle.format.specs.Codes.{is_code, name_number}
use Rattle.format.specs.Job.{Head, FileJob, offer_name, tally_name, place_of, shared}
use Rattle.format.specs.Tables.{code_of, name_in}
use Rattle.file_blocks.specs.Due.{Most}

-- The first n entries of a table hold codes.
pub record Codes (l : List ℕ) (n : ℕ) : Type 0 where
  pub code : (i : ℕ) → i < n → is_code (code_of l i) ≡ true

-- The index of the first n names of two tables, by their numbers.
pub record Indexed (code issuer keys order : List ℕ) (n : ℕ) : Type 0 where
  pub numbers : List ℕ
  pub index : IsIndex keys order numbers n
  pub right : (i : ℕ) → i < n → get_or numbers i 0 ≡ name_number (name_in code issuer i)

-- The index of a job's n offers by the numbers of their names, and tables that hold the names of its t tallies.
pub record Keyed (j : FileJob) (keys order tally_code tally_issuer : List ℕ) (n t : ℕ) : Type 0 where
  pub offers : j.head.offers ≡ n
  pub tallies : j.head.tallies ≡ t
  pub numbers : List ℕ
  pub index : IsIndex keys order numbers n
  pub shares : shares_number numbers n ≡ shared j
  pub place : (i : ℕ) → is_code (code_of tally_code i) ≡ true → place_in numbers n (name_number (name_in tally_code tally_issuer i)) ≡ place_of j i

-- The index by which the tallies of a job, whose names these tables hold, find their offers.
pub record Finds (j : FileJob) (keys order tally_code tally_issuer : List ℕ) (n : ℕ) : Type 0 where
  pub size : j.head.offers ≡ n
  pub numbers : List ℕ
  pub index : IsIndex keys order numbers n
  pub apart : shares_number numbers n ≡ false
  pub place : (i : ℕ) → is_code (code_of tally_code i) ≡ true → place_in numbers n (name_number (name_in tally_code tally_issuer i)) ≡ place_of j i

-- Numbers that are at most their largest, tables long enough for them, and each code is one.
pub record NamesIn (h : Head) (code issuer tcode tissuer : List ℕ) : Type 0 where
  pub most : Most h
  pub offer_code : h.offers * 11 ≤ length code
  pub offer_issuer : h.offers ≤ length issuer
  pub tally_code : h.tallies * 11 ≤ length tcode
  pub tally_issuer : h.tallies ≤ length tissuer
  pub offers : Codes code h.offers
  pub tallies : Codes tcode h.tallies

-- A job with these numbers, whose names these tables hold.
pub record HasNames (j : FileJob) (code issuer tally_code tally_issuer : List ℕ) (h : Head) : Type 0 where
  pub head : j.head ≡ h
  pub offer : (i : ℕ) → offer_name j i ≡ name_in code issuer i
  pub tally : (i : ℕ) → tally_name j i ≡ name_in tally_code tally_issuer i

-- A job whose tallies' grocers, bags and revisions these tables hold.
pub record HasBags (j : FileJob) (grocers bags revisions : List ℕ) : Type 0 where
  pub grocer : (i : ℕ) → (j.tally i).grocer ≡ get_or grocers i 0
  pub bag : (i : ℕ) → (j.tally i).bag ≡ get_or bags i 0
  pub revision : (i : ℕ) → (j.tally i).revision ≡ get_or revisions i 0
