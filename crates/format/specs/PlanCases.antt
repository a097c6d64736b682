-- Small examples of the plan of blocks with additional price lists (02 §9).
use Rattle.std.specs.Prelude.{◌≡◌, true, false}
use Rattle.format.specs.Job.{head_of, bad_sizes}
use Rattle.format.specs.Blocks.{header, grocer_block, price_block, tally_block, list_blocks, list_at, block_count, kind_at, block_kind_number, records, spare}
use Rattle.format.specs.File.{price_at}

-- Blocks, records and spare bytes of files with additional lists and without.
pub record PlanCases : Type 0 where
  -- "The longest file now has 102 blocks"; without additional lists it has 74.
  pub longest : block_count (head_of 16 255 500 1_000 0 7) ≡ 102
  pub before : block_count (head_of 16 255 500 1_000 0 0) ≡ 74
  -- The longest file: block 25 grocers, 26 the first price block, 53 the last one, 54 to 101 tallies.
  pub longest_grocers : kind_at (head_of 16 255 500 1_000 0 7) 25 ≡ grocer_block
  pub longest_first : kind_at (head_of 16 255 500 1_000 0 7) 26 ≡ price_block 0 0
  pub longest_next : kind_at (head_of 16 255 500 1_000 0 7) 30 ≡ price_block 1 0
  pub longest_last : kind_at (head_of 16 255 500 1_000 0 7) 53 ≡ price_block 6 3
  pub longest_tallies : kind_at (head_of 16 255 500 1_000 0 7) 54 ≡ tally_block 0
  pub longest_end : kind_at (head_of 16 255 500 1_000 0 7) 101 ≡ tally_block 47
  -- 127 offers and two additional lists: blocks 1 to 7 offers, 8 grocers, 9 and 10 the first list, 11 and 12 the second, 13 tallies.
  pub grocers : kind_at (head_of 1 1 127 1 0 2) 8 ≡ grocer_block
  pub first : kind_at (head_of 1 1 127 1 0 2) 9 ≡ price_block 0 0
  pub first_end : kind_at (head_of 1 1 127 1 0 2) 10 ≡ price_block 0 1
  pub second : kind_at (head_of 1 1 127 1 0 2) 11 ≡ price_block 1 0
  pub tallies : kind_at (head_of 1 1 127 1 0 2) 13 ≡ tally_block 0
  pub count : block_count (head_of 1 1 127 1 0 2) ≡ 14
  -- "A new block kind 4"; 126 prices, then one: bytes 4 to 7 of its block, and byte 8 is spare.
  pub number : block_kind_number (price_block 1 0) ≡ 4
  pub full : records (head_of 1 1 127 1 0 2) (price_block 0 0) ≡ 126
  pub last : records (head_of 1 1 127 1 0 2) (price_block 0 1) ≡ 1
  pub field : spare (head_of 1 1 127 1 0 2) (price_block 0 1) 3 ≡ false
  pub after : spare (head_of 1 1 127 1 0 2) (price_block 0 1) 4 ≡ true
  -- 126 offers need one block a list, 127 two, 500 four, of which the last has 122 prices. Without additional lists tallies follow the grocers.
  pub one_block : block_count (head_of 1 1 126 0 0 1) ≡ 9
  pub two_blocks : block_count (head_of 1 1 127 0 0 1) ≡ 11
  pub seven_blocks : block_count (head_of 1 1 126 0 0 7) ≡ 15
  pub whole_block : records (head_of 1 1 126 0 0 1) (price_block 0 0) ≡ 126
  pub four_blocks : list_blocks 500 ≡ 4
  pub rest : records (head_of 1 1 500 0 0 1) (price_block 0 3) ≡ 122
  pub no_lists : kind_at (head_of 1 1 127 1 0 0) 9 ≡ tally_block 0
  -- Header byte 14 is a field, byte 15 is spare. "Byte 14 above 7 is condition 4."
  pub byte_14 : spare (head_of 1 1 1 0 0 0) header 10 ≡ false
  pub byte_15 : spare (head_of 1 1 1 0 0 0) header 11 ≡ true
  pub seven : bad_sizes (head_of 1 1 1 0 0 7) ≡ false
  pub eight : bad_sizes (head_of 1 1 1 0 0 8) ≡ true
  -- The price of offer 126 on the second additional list: the first record of block 12.
  pub place : price_at (list_at (head_of 1 1 127 1 0 2) 1) 126 ≡ 6_148
