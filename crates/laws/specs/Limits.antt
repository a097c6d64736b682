-- The largest numbers of a job, "Terms and sizes" of 01.
use Rattle.std.specs.Prelude.{ℕ}

-- Boxes, K: 1 to 16.
abbrev pub max_boxes : ℕ
max_boxes = 16

-- Grocers, M: 1 to 255.
abbrev pub max_grocers : ℕ
max_grocers = 255

-- Offers, N: 1 to 500.
abbrev pub max_offers : ℕ
max_offers = 500

-- Tallies, T: 0 to 1,000.
abbrev pub max_tallies : ℕ
max_tallies = 1_000

-- Additional price lists: 0 to 7 (02 §9).
abbrev pub max_lists : ℕ
max_lists = 7

-- A price, in tenths of a cent.
abbrev pub max_price : ℕ
max_price = 9_999_999

-- A count is within ±99,999.
abbrev pub max_count : ℕ
max_count = 99_999

-- Amounts are within ±10^15.
abbrev pub max_amount : ℕ
max_amount = 1_000_000_000_000_000

-- The count of words sent is 0 to 1,000,000.
abbrev pub max_sent : ℕ
max_sent = 1_000_000
