-- A job's file, and the job that a file says.
use Rattle.std.specs.Prelude.{cond, List, ◌∷◌, ◌++◌, ℕ, ◌+◌, ◌*◌, ◌-◌, ◌/◌, ◌%◌, ltb, get_or}
use Rattle.std.specs.Int.{w32}
use Rattle.std.proofs.Common.{to_z}
use Rattle.laws.specs.Tables.{tabulate}
use Rattle.format.specs.Bytes.{from, after, word16, word32, bytes16}
use Rattle.format.specs.Codes.{read_code}
use Rattle.format.specs.Job.{Head, FileJob, Offer, Tally}
use Rattle.format.specs.Blocks.{BlockKind, blocks, offers_at, grocers_at, list_at, tallies_at, kind_at, block_kind_number, records}
use Rattle.format.specs.Blocks.{record_size, record_bytes, spare, first_sum, second_sum}

-- Byte 4 + s of a block: a byte of a record's field, or a spare 0.
unfoldable pub record_byte : FileJob → BlockKind → ℕ → ℕ
record_byte j b s = cond (spare j.head b s) 0 (get_or (record_bytes j b (s / record_size b)) (s % record_size b) 0)

-- Byte p of block k, below 508: "Byte 0 kind, byte 1 number of records, bytes 2–3 block number, bytes 4–507 records".
unfoldable pub body_byte : FileJob → ℕ → ℕ → ℕ
body_byte j k p =
    let b = kind_at j.head k in
    cond (ltb p 4) (get_or (block_kind_number b ∷ records j.head b ∷ bytes16 k) p 0) (record_byte j b (p - 4))

-- Byte p of a block whose first 508 are g: "508–509 first sum, 510–511 second sum".
unfoldable pub block_byte : (ℕ → ℕ) → ℕ → ℕ
block_byte g p = cond (ltb p 508) (g p) (get_or (bytes16 (first_sum g) ++ bytes16 (second_sum g)) (p - 508) 0)

-- The file of a job. "Block numbers count from 0 through the whole file."
unfoldable pub encode : FileJob → List ℕ
encode j = tabulate (512 * blocks j) (λ p. block_byte (body_byte j (p / 512)) (p % 512))

-- The offer that a record's bytes say: offerBytes the other way round.
unfoldable pub read_offer : (ℕ → ℕ) → Offer
read_offer g = record { price = word32 g; owner = g 4; code = read_code (after g 5); issuer = word16 (after g 16) }

-- The tally that a record's bytes say: tallyBytes the other way round.
unfoldable pub read_tally : (ℕ → ℕ) → Tally
read_tally g =
    record {
      grocer = word16 g;
      box = g 2;
      code = read_code (after g 3);
      count = to_z w32 (word32 (after g 14));
      issuer = word16 (after g 18);
      bag = word16 (after g 20);
      revision = word16 (after g 22);
    }

-- Where record i stands, of the records of 24 bytes whose first block is block k.
abbrev pub record_at : ℕ → ℕ → ℕ
record_at k i = 512 * (k + i / 21) + 4 + 24 * (i % 21)

-- Where the price of offer i stands, of the list whose first block is block k.
abbrev pub price_at : ℕ → ℕ → ℕ
price_at k i = 512 * (k + i / 126) + 4 + 4 * (i % 126)

-- The numbers that a file's header says: headerBytes the other way round.
unfoldable pub read_head : List ℕ → Head
read_head f =
    record {
      boxes = get_or f 4 0;
      grocers = word16 (from f 6);
      offers = word16 (from f 8);
      tallies = word16 (from f 10);
      cycle = word16 (from f 12);
      lists = get_or f 14 0;
    }

-- The job that a file says, whatever its bytes are.
unfoldable pub decode : List ℕ → FileJob
decode f =
    let h = read_head f in
    record {
      head = h;
      offer = λ i. read_offer (from f (record_at offers_at i));
      grocer_owner = from f (512 * grocers_at h + 4);
      list_price = λ q i. word32 (from f (price_at (list_at h q) i));
      tally = λ i. read_tally (from f (record_at (tallies_at h) i));
    }
