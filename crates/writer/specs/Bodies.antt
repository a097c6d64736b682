-- A block as its head, its records and the zeros behind them.
use Rattle.std.specs.Prelude.{cond, List, ◌∷◌, ℕ, suc, ◌+◌, ◌-◌, ◌*◌, ◌/◌, ◌%◌, ◌<◌, min, ltb, get_or}
use Rattle.format.specs.Bytes.{bytes16, bytes32}
use Rattle.format.specs.Blocks.{list_blocks}
use Rattle.format.specs.File.{block_byte}
use Rattle.writer_bytes.specs.Puts.{bytes_of}

-- Byte s of rows of `size` bytes each, one after the other.
abbrev pub rows_of : ℕ → (ℕ → ℕ → ℕ) → ℕ → ℕ
rows_of size row s = row (s / size) (s % size)

-- Byte p of a block below 508: its head of four bytes, `count` records of `size` bytes each, then zeros.
unfoldable pub body_of : List ℕ → ℕ → ℕ → (ℕ → ℕ → ℕ) → ℕ → ℕ
body_of head size count row p =
    cond (ltb p 4) (get_or head p 0) (cond (ltb (p - 4) (count * size)) (rows_of size row (p - 4)) 0)

-- The first n bytes, then zeros.
unfoldable pub keep_of : ℕ → (ℕ → ℕ) → ℕ → ℕ
keep_of n g p = cond (ltb p n) (g p) 0

-- Block b of those of n records of 24 bytes: their kind, the number of the first of these blocks, and each record's fields; what follows them is 0.
abbrev pub record_body : ℕ → ℕ → ℕ → (ℕ → List ℕ) → ℕ → ℕ → ℕ
record_body kind first n fields b =
    let count = min 21 (n - 21 * b) in
    body_of (kind ∷ count ∷ bytes16 (first + b)) 24 count (λ r. bytes_of (fields (21 * b + r)))

-- Price block b of a list of n prices, four bytes each, which is block `number` of the file.
abbrev pub price_body : (number n : ℕ) → (ℕ → ℕ) → ℕ → ℕ → ℕ
price_body number n price b =
    let count = min 126 (n - 126 * b) in
    body_of (4 ∷ count ∷ bytes16 number) 4 count (λ r. bytes_of (bytes32 (price (126 * b + r))))

-- Price block x of the additional lists, from block `first` of the file on; the prices of n offers stand list after list, the first list's in front.
abbrev pub list_body : (first n : ℕ) → List ℕ → ℕ → ℕ → ℕ
list_body first n price x =
    price_body (first + x) n (λ i. get_or price (suc (x / list_blocks n) * n + i) 0) (x % list_blocks n)

-- Blocks one after the other, each with its sums behind its first 508 bytes.
abbrev pub blocks_of : (ℕ → ℕ → ℕ) → ℕ → ℕ
blocks_of body = rows_of 512 (λ b. block_byte (body b))

-- The first n words of a list are bytes.
pub record Small (l : List ℕ) (n : ℕ) : Type 0 where
  pub small : (i : ℕ) → i < n → get_or l i 0 < 256
