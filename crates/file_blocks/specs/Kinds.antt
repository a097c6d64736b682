-- The kinds of block as code names them.
use Rattle.std.specs.Prelude.{ℕ}
use Rattle.file_blocks.specs.declared.kinds.BlockKind.{BlockKind}
use Rattle.file_blocks.specs.declared.kinds.BlockKind.TheVariants.{Header, Offers, Grocers, Tallies, Prices}

-- The number of a kind, which is `block_kind_number` of a block of that kind: "0 header, 1 offers, 2 grocers, 3 tallies", and 4 prices.
abbrev pub kind_number : BlockKind → ℕ
kind_number Header = 0
kind_number Offers = 1
kind_number Grocers = 2
kind_number Tallies = 3
kind_number Prices = 4
