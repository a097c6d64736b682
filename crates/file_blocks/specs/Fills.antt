-- A file that is as long as its header says, and places that are kept.
use Rattle.std.specs.Prelude.{◌≡◌, List, ℕ, ◌*◌, ◌<◌, length, get_or}
use Rattle.format.specs.Job.{Head, FileJob, place_of}
use Rattle.format.specs.Blocks.{block_count}
use Rattle.format.specs.File.{decode}
use Rattle.file_blocks.specs.Due.{Most}

-- These are the numbers that the file's header says, none is above its largest, and the file has the blocks that they ask for.
pub record Whole (f : List ℕ) (h : Head) : Type 0 where
  pub says : h ≡ (decode f).head
  pub most : Most h
  pub long : length f ≡ 512 * block_count h

-- The first t words are the places of the offers that the first t tallies name.
pub record Placed (j : FileJob) (places : List ℕ) (t : ℕ) : Type 0 where
  pub at : (i : ℕ) → i < t → get_or places i 0 ≡ place_of j i
