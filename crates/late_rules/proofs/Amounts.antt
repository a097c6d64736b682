-- What a tally brings its grocer on a price list, in two jobs with the same prices. Assumes nothing.
use mathlib.Core.Path.{◌≡◌, sym}
use mathlib.Core.Bool.{true, ◌&&◌}
use Prim.Native.Nat.{ℕ, suc, ◌+◌, ◌*◌, ◌<◌}
use lib.Dec.{eqb}
use lib.ListN.{get_or}
use lib.IntN.{ℤ, pos, ◌*ℤ◌}
use borrow.Author.Tests.{eqb-true, ne_eqb}
use Rattle.laws.specs.Below.{integers, sum, only}
use Rattle.laws.proofs.Bools.{split, and_false}
use Rattle.model.specs.Job.{plain_sum}
use Rattle.model.specs.Tables.{JobTables, counted_of, evening_of}
use Rattle.model.specs.Ranges.{job_in_range}
use Rattle.recount.specs.Recount.{stands}
use Rattle.model.proofs.Standing.{standing_count}

-- What tally t brings grocer g on list q: count × price where it stands and is the grocer's.
unfoldable pub brings_on : JobTables → ℕ → ℕ → ℕ → ℤ
brings_on f g q t =
    only integers (stands (counted_of f) t && eqb (get_or f.tally_grocer t 0) g)
    (get_or f.tally_count t (pos 0) *ℤ pos (get_or f.price (q * f.offers + get_or f.tally_offer t 0) 0))

-- The plain sums of list q are made of these.
pub brings-sum : (f : JobTables) → job_in_range f ≡ true → (g q : ℕ) → q < suc f.lists →
    plain_sum (evening_of f) (g * suc f.lists + q) ≡ sum integers f.tallies (brings_on f g q)
unfolding brings_on
brings-sum f ok g q l = (standing_count f ok).list_sums g q l

-- To another grocer it brings nothing.
pub brings_none : (f : JobTables) (g q t : ℕ) → (g ≡ get_or f.tally_grocer t 0 → ⊥) → brings_on f g q t ≡ pos 0
unfolding brings_on only integers
brings_none f g q t ne = rw (ne_eqb (get_or f.tally_grocer t 0) g (λ e. ne (sym e)), and_false (stands (counted_of f) t))

-- Tally t of one job brings what tally u of another does: the same words, and it stands where that does.
pub brings_same : (a b : JobTables) (g q t u : ℕ) → a.price ≡ b.price → a.offers ≡ b.offers → get_or a.tally_grocer t 0 ≡ get_or b.tally_grocer u 0 →
    get_or a.tally_count t (pos 0) ≡ get_or b.tally_count u (pos 0) → get_or a.tally_offer t 0 ≡ get_or b.tally_offer u 0 →
    (get_or b.tally_grocer u 0 ≡ g → stands (counted_of a) t ≡ stands (counted_of b) u) → brings_on a g q t ≡ brings_on b g q u
unfolding brings_on only
brings_same a b g q t u ep eo eg ec ef st =
    split (eqb (get_or b.tally_grocer u 0) g)
    (λ e. rw (st (eqb-true (get_or b.tally_grocer u 0) g e), ep, eo, eg, ec, ef))
    (λ e. rw (eg, e, and_false (stands (counted_of a) t), and_false (stands (counted_of b) u)))
