-- What a job in range gives the functions that make words of its tables. Assumes nothing.
use mathlib.Core.Path.{◌≡◌}
use mathlib.Core.List.{List}
use Prim.Native.Nat.{ℕ, ◌≤◌}
use native.Mathlib.Omega.{arith}
use borrow.Author.Tests.{leb-true}
use Rattle.laws.specs.Tables.{tabulate}
use Rattle.laws.proofs.Bools.{and_l, and_r}
use Rattle.laws.proofs.Tables.{length_tabulate, word_in_lem}
use Rattle.model.specs.Tables.{JobTables, job_of}
use Rattle.model.specs.Ranges.{sizes_in_range}
use Rattle.model.specs.Handed.{handed_in_range, Handed}
use Rattle.job_masks.specs.Masks.{Placed, Owned}
use Rattle.model.proofs.Step.{range, limits}
use Rattle.model.proofs.Whole.{JobWhole}

-- Tables that are whole and in range are what the functions ask for.
module _ (f : JobTables) (ok : Handed f) (w : JobWhole f) where
  pub placed_offers : Placed f.boxes f.tallies 500 f.tally_box f.tally_offer
  unfolding job_of
  placed_offers = record {
    boxes≤ = (range f ok.inside).boxes≤;
    box_long = w.tally_box;
    place_long = w.tally_offer;
    place< = λ t l. omega (arith, rw (word_in_lem f.tallies f.tally_offer 0 t l) at ((range f ok.inside).offer< t l), (limits f ok.inside).offers≤);
  }

  pub placed_grocers : Placed f.boxes f.tallies 255 f.tally_box f.tally_grocer
  unfolding job_of
  placed_grocers = record {
    boxes≤ = (range f ok.inside).boxes≤;
    box_long = w.tally_box;
    place_long = w.tally_grocer;
    place< = λ t l. omega (arith, rw (word_in_lem f.tallies f.tally_grocer 0 t l) at ((range f ok.inside).grocer< t l), (limits f ok.inside).grocers≤);
  }

  pub owned_offers : (masks : List ℕ) (g : ℕ → ℕ) → masks ≡ tabulate 500 g → Owned f.offers f.offer_owner masks
  unfolding job_of
  owned_offers masks g e = record {
    owner_long = w.offer_owner;
    mask_long = rw (e, length_tabulate 500 g) (limits f ok.inside).offers≤;
    owner< = λ o l. omega (arith, rw (word_in_lem f.offers f.offer_owner 0 o l) at ((range f ok.inside).owner< o l), (range f ok.inside).boxes≤);
  }

  pub owned_grocers : (masks : List ℕ) (g : ℕ → ℕ) → masks ≡ tabulate 255 g → Owned f.grocers f.grocer_owner masks
  unfolding job_of
  owned_grocers masks h e = record {
    owner_long = w.grocer_owner;
    mask_long = rw (e, length_tabulate 255 h) (limits f ok.inside).grocers≤;
    owner< = λ g l. omega (arith, rw (word_in_lem f.grocers f.grocer_owner 0 g l) at ((range f ok.inside).grocerOwner< g l), (range f ok.inside).boxes≤);
  }

-- There is a box.
pub some_box : (f : JobTables) → Handed f → 1 ≤ f.boxes
unfolding handed_in_range sizes_in_range
some_box f ok = leb-true 1 f.boxes (let h = and_l (sizes_in_range f) _ ok.inside in search (and_l, and_r) depth 12)

-- As many offers and grocers as there is room for.
module _ (f : JobTables) (ok : Handed f) where
  pub offers_room : f.offers ≤ 500
  unfolding job_of
  offers_room = (limits f ok.inside).offers≤

  pub grocers_room : f.grocers ≤ 255
  unfolding job_of
  grocers_room = (limits f ok.inside).grocers≤
