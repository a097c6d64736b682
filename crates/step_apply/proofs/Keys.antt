-- What linking the entries of a job asks: a job that is lent whole and in range gives it. Assumes nothing.
use mathlib.Core.Path.{◌≡◌}
use mathlib.Core.Bool.{false}
use mathlib.Core.List.{List}
use Prim.Native.Nat.{ℕ, ◌<◌}
use native.Mathlib.Nat.{le_trans}
use native.Mathlib.Omega.{arith}
use lib.ListN.{get_or, length}
use Rattle.step_links.specs.Links.{PairsKeyed}
use Rattle.model.specs.Tables.{JobTables, nobody, job_lengths, job_short}
use Rattle.model.specs.Handed.{Handed}
use Rattle.model.proofs.Lent.{job_long}
use Rattle.model.proofs.Step.{JobIn, job_in_lem, under_at, up_at}

module _ (f : JobTables) (ok : Handed f) (whole : job_short f (job_lengths f) ≡ false) (links : List ℕ) where
  words : JobIn f
  words = job_in_lem f ok.inside

  -- Tallies by box, which is 16 for superseded ones, and the owner of their offer.
  pub tallies_keyed : length links ≡ 1_272 → PairsKeyed f.tallies f.tally_box f.tally_offer f.offer_owner links
  unfolding job_lengths
  tallies_keyed e =
      let long = job_long f (job_lengths f) whole in
      record {
        few = words.tallies≤;
        boxes_long = long.tally_box;
        places_long = long.tally_offer;
        links_long = omega (arith, words.tallies≤);
        box_in = λ i l. up_at nobody f.tallies f.tally_box i words.tally_box l;
        place_in = λ i l. le_trans (offer_in i l) long.offer_owner;
        owner_in = λ i l. le_trans (under_at f.boxes f.offers f.offer_owner (get_or f.tally_offer i 0) words.offer_owner (offer_in i l)) words.boxes≤;
      }
    where
      offer_in : (i : ℕ) → i < f.tallies → get_or f.tally_offer i 0 < f.offers
      offer_in i l = under_at f.offers f.tallies f.tally_offer i words.tally_offer l
