-- What the writer's checks leave where none refuses, for the functions that put the file.
use Rattle.std.specs.Prelude.{List, ℕ, ◌*◌, ◌≤◌, length}
use Rattle.format.specs.Job.{Head}
use Rattle.format.specs.Blocks.{block_count}
use Rattle.format.specs.Tables.{FileTables, Long}
use Rattle.file_blocks.specs.Due.{Most}
use Rattle.writer.specs.Bodies.{Small}

-- K, M, N, T and the number of additional lists are in range, each table and the buffer are long enough, and each word that takes one byte fits it.
pub record Ready (h : Head) (l : FileTables) (out : List ℕ) : Type 0 where
  pub most : Most h
  pub offers : 1 ≤ h.offers
  pub long : Long h l
  pub room : 512 * block_count h ≤ length out
  pub offer_owner : Small l.offers.owner h.offers
  pub grocer_owner : Small l.grocer_owner h.grocers
  pub tally_box : Small l.tallies.box h.tallies
