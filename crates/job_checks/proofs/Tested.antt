-- The tests of the words of the job's tables. Assumes nothing.
use mathlib.Core.Path.{◌≡◌}
use mathlib.Core.Bool.{Bool, ◌&&◌}
use mathlib.Core.List.{[], ◌∷◌}
use Rattle.laws.specs.Checks.{all_of}
use Rattle.laws.specs.Lists.{list_words}
use Rattle.laws.specs.Limits.{max_price, max_count}
use Rattle.model.specs.Tables.{JobTables}
use Rattle.model.specs.Ranges.{up_to, under, around, sizes_in_range, job_words_in_range, job_in_range}

-- The tests of the job's sizes and tables.
pub job_tested : (f : JobTables) (z a b c d e g h : Bool) → z ≡ sizes_in_range f → a ≡ up_to max_price (list_words f.lists f.offers) f.price → b ≡ under f.boxes f.offers f.offer_owner →
    c ≡ under f.boxes f.grocers f.grocer_owner → d ≡ under f.grocers f.tallies f.tally_grocer → e ≡ under f.boxes f.tallies f.tally_box →
    g ≡ under f.offers f.tallies f.tally_offer → h ≡ around max_count f.tallies f.tally_count → (z && all_of (a ∷ b ∷ c ∷ d ∷ e ∷ g ∷ h ∷ [])) ≡ job_in_range f
unfolding job_in_range job_words_in_range
job_tested f z a b c d e g h z-is a-is b-is c-is d-is e-is g-is h-is = rw (z-is, a-is, b-is, c-is, d-is, e-is, g-is, h-is)
