-- The numbers of a header as code holds them, and what is due in a block.
use Rattle.std.specs.Prelude.{ℕ, ◌≤◌, ◌≡◌}
use Rattle.laws.specs.Limits.{max_boxes, max_grocers, max_offers, max_tallies, max_lists}
use Rattle.format.specs.Job.{Head, head_of}
use Rattle.format.specs.Blocks.{kind_at, block_kind_number, records}
use Rattle.file_blocks.specs.declared.plan.Head.{Head as HeadWords}
use Rattle.file_blocks.specs.declared.kinds.BlockKind.{BlockKind}
use Rattle.file_blocks.specs.Kinds.{kind_number}

-- The numbers that code holds, in the format's words.
abbrev pub as_head : HeadWords → Head
as_head w = head_of w.sizes.boxes w.sizes.grocers w.sizes.offers w.sizes.tallies w.cycle w.sizes.lists

-- Each number is at most the largest one: "Boxes K: 1 to 16. Grocers M: 1 to 255. Offers N: 1 to 500. Tallies T: 0 to 1,000";
-- "the number of additional lists, 0 to 7" (02 §9).
pub record Most (h : Head) : Type 0 where
  pub boxes : h.boxes ≤ max_boxes
  pub grocers : h.grocers ≤ max_grocers
  pub offers : h.offers ≤ max_offers
  pub tallies : h.tallies ≤ max_tallies
  pub lists : h.lists ≤ max_lists

-- Block k is due to be of kind x and to have n records, which are at most 255.
pub record Due (h : Head) (k : ℕ) (x : BlockKind) (n : ℕ) : Type 0 where
  pub kind : kind_number x ≡ block_kind_number (kind_at h k)
  pub count : n ≡ records h (kind_at h k)
  pub few : n ≤ 255
