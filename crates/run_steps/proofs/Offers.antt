-- The offers that all boxes have are at most as many as the job has offers and tallies. Assumes nothing.
use mathlib.Core.Path.{◌≡◌, refl, sym, ap, ap₂, ◌∙◌}
use mathlib.Core.Bool.{Bool, ◌||◌}
use mathlib.Core.List.{List}
use Prim.Native.Nat.{ℕ, ◌+◌, ◌<◌, ◌≤◌}
use native.Mathlib.Omega.{arith}
use lib.Dec.{eqb}
use lib.ListN.{length, get_or}
use Rattle.laws.specs.Below.{naturals, sum}
use Rattle.laws.specs.Masks.{bit}
use Rattle.laws.specs.Tables.{tabulate}
use Rattle.laws.proofs.Below.{count_cong}
use Rattle.laws.proofs.Masks.{bit_mask}
use Rattle.laws.proofs.Sums.{sum_cong}
use Rattle.laws.proofs.Tables.{get_d_tabulate, word_in_lem}
use Rattle.model.specs.Job.{Job, held_by, needs, shares, need_word}
use Rattle.model.specs.LocalLists.{local_grocers}
use Rattle.model.specs.PackedTotals.{totals_start, totals_length}
use Rattle.model.specs.Tables.{JobTables, job_of}
use Rattle.book_places.specs.Spots.{total_by, count_by, start_by}
use Rattle.model.proofs.Range.{InRange}
use Rattle.model.proofs.Spans.{local_count, length_most}

-- A job whose grocers are the offers of another.
abbrev by_offers : Job → Job
by_offers j = record {
  boxes = j.boxes;
  grocers = j.offers;
  offers = j.offers;
  tallies = j.tallies;
  price = j.price;
  offer_owner = j.offer_owner;
  grocer_owner = j.offer_owner;
  tally_grocer = j.tally_offer;
  tally_box = j.tally_box;
  tally_offer = j.tally_offer;
  tally_count = j.tally_count;
}

offers_range : (j : Job) → InRange j → InRange (by_offers j)
offers_range j r = record { owner< = r.owner<; grocerOwner< = r.owner<; grocer< = r.offer<; offer< = r.offer<; no_price = r.no_price; boxes≤ = r.boxes≤ }

-- The boxes that need an offer are those that share it as a grocer.
needs_shared : (j : Job) (o b : ℕ) → needs j o b ≡ shares (by_offers j) o b
unfolding needs shares held_by
needs_shared j o b = refl

module _ (f : JobTables) (r : InRange (job_of f)) (few : f.offers ≤ 500) (words : List ℕ) (ew : words ≡ tabulate 500 (need_word (job_of f))) where
  boxes_in : f.boxes ≤ 16
  unfolding job_of
  boxes_in = r.boxes≤

  -- A bit of a word tells whether the box needs the offer.
  word_needs : (b o : ℕ) → b < f.boxes → o < f.offers → bit b (get_or words o 0) ≡ needs (job_of f) o b
  unfolding need_word
  word_needs b o lb lo =
      ap (λ (l : List ℕ). bit b (get_or l o 0)) ew
      ∙ ap (bit b) (get_d_tabulate 500 (need_word (job_of f)) o 0 (omega arith))
      ∙ bit_mask 16 b (needs (job_of f) o) (omega (arith, boxes_in))

  owner_is : (o : ℕ) → o < f.offers → get_or f.offer_owner o 0 ≡ (job_of f).offer_owner o
  unfolding job_of
  owner_is o l = sym (word_in_lem f.offers f.offer_owner 0 o l)

  count_is : (b : ℕ) → b < f.boxes → count_by f.offers f.offer_owner words b ≡ length (local_grocers (by_offers (job_of f)) b)
  unfolding count_by total_by job_of
  count_is b lb =
      count_cong f.offers (λ o. eqb (get_or f.offer_owner o 0) b || bit b (get_or words o 0)) (λ o. eqb ((job_of f).offer_owner o) b || shares (by_offers (job_of f)) o b)
      (λ o lo. ap₂ (λ (x : ℕ) (y : Bool). eqb x b || y) (owner_is o lo) (word_needs b o lb lo ∙ needs_shared (job_of f) o b))
      ∙ sym (local_count (by_offers (job_of f)) (offers_range (job_of f) r) b)

  pub offers_few : start_by f.offers f.offer_owner words f.boxes ≤ f.offers + f.tallies
  unfolding start_by totals_length totals_start job_of
  offers_few =
      let same = sum_cong naturals f.boxes (count_by f.offers f.offer_owner words) (λ c. length (local_grocers (by_offers (job_of f)) c)) count_is in
      let most : sum naturals f.boxes (λ c. length (local_grocers (by_offers (job_of f)) c)) ≤ f.offers + f.tallies = length_most (by_offers (job_of f)) (offers_range (job_of f) r) in
      omega (arith, same, most)
