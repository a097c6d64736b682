-- The job's tables as inner calls are handed them: without bags, a superseded tally with the box `nobody`.
use Rattle.std.specs.Prelude.{◌≡◌, Bool, true, cond, ◌&&◌, List, [], ◌∷◌, ℕ, ◌<◌, ◌≤◌, get_or, length}
use Rattle.laws.specs.Checks.{all_of}
use Rattle.laws.specs.Lists.{list_words}
use Rattle.laws.specs.Limits.{max_price, max_count}
use Rattle.recount.specs.Recount.{stands}
use Rattle.model.specs.Tables.{JobTables, job_tables, counted_of, nobody}
use Rattle.model.specs.Ranges.{up_to, under, around, sizes_in_range}

-- The job's tables with other boxes, without bags.
abbrev pub handed_tables : JobTables → List ℕ → JobTables
handed_tables f boxes =
    job_tables f.boxes f.grocers f.offers f.tallies f.lists f.price f.offer_owner f.grocer_owner
    f.tally_grocer boxes f.tally_offer f.tally_count

-- The boxes that inner calls are handed: as lent where the tally stands, else `nobody`.
pub record Standing (f : JobTables) (boxes : List ℕ) : Type 0 where
  pub long : f.tallies ≤ length boxes
  pub each : (t : ℕ) → t < f.tallies → get_or boxes t 0 ≡ cond (stands (counted_of f) t) (get_or f.tally_box t 0) nobody

-- The ranges of tables so handed: those of 21, but that a tally's box may be `nobody`.
unfoldable pub handed_in_range : JobTables → Bool
handed_in_range f =
    sizes_in_range f
    && all_of (
    up_to max_price (list_words f.lists f.offers) f.price
    ∷ under f.boxes f.offers f.offer_owner
    ∷ under f.boxes f.grocers f.grocer_owner
    ∷ under f.grocers f.tallies f.tally_grocer
    ∷ up_to nobody f.tallies f.tally_box
    ∷ under f.offers f.tallies f.tally_offer
    ∷ around max_count f.tallies f.tally_count
    ∷ [])

-- Tables as inner calls are handed them: without bags, and in range.
pub record Handed (f : JobTables) : Type 0 where
  pub bare : f.tally_bag ≡ []
  pub inside : handed_in_range f ≡ true
