-- Records in another order: the same refusal, and the same tallies stand. Assumes nothing.
use mathlib.Core.Path.{◌≡◌, refl, sym, ap, ◌∙◌}
use mathlib.Core.Bool.{true, false, not}
use Prim.Native.Nat.{ℕ, ◌<◌}
use lib.Dec.{eqb}
use borrow.Author.Tests.{not-false, eqb-true, eq-eqb}
use Rattle.laws.specs.Below.{any, Order}
use Rattle.laws.proofs.Bools.{same_test}
use Rattle.laws.proofs.Below.{any_cong, any_none, any_moved, pairs_moved}
use Rattle.recount.specs.Recount.{stands, counted_twice, Reordered}
use Rattle.format.specs.Codes.{same_offer}
use Rattle.format.specs.Job.{FileJob, bad_sizes, bad_offer, bad_price, bad_tally, bad_records, offer_name, names, place_of, shared, unnamed, counted_tallies}
use Rattle.format.specs.Rearranged.{in_order, Rearranged, Named}
use Rattle.format.specs.File.{encode, decode}
use Rattle.format.specs.Refusals.{job_refusal}
use Rattle.recount.proofs.Recount.{recount_laws}
use Rattle.format.proofs.Codes.{same_turn}
use Rattle.format.proofs.Range.{named_place, only_place}
use Rattle.format.proofs.Same.{refused_alike, records_same, shared_same, unnamed_same, twice_same, stands_same, words_back, words_on}
use Rattle.format.proofs.Write.{read_back}

-- The job itself, in another order.
module _ (j : FileJob) (p q r s : ℕ → ℕ) (tallies : Order j.head.tallies p q) (offers : Order j.head.offers r s) where
  -- The job with its records in that order.
  abbrev moved : FileJob
  moved = in_order p r j

  -- 6 is met alike,
  records_moved : bad_records moved ≡ bad_records j
  unfolding bad_records
  records_moved =
      rw (
        any_moved j.head.offers r s offers (λ i. bad_offer j.head (j.offer i)),
        any_cong j.head.lists (λ q. any j.head.offers (λ i. bad_price (j.list_price q (r i)))) (λ q. any j.head.offers (λ i. bad_price (j.list_price q i)))
            (λ q l. any_moved j.head.offers r s offers (λ i. bad_price (j.list_price q i))),
        any_moved j.head.tallies p q tallies (λ t. bad_tally j.head (j.tally t)),
      )

  -- and so is 7.
  shared_moved : shared moved ≡ shared j
  unfolding shared
  shared_moved =
      pairs_moved j.head.offers r s offers (λ k i. same_offer (offer_name j k) (offer_name j i)) (λ k i. same_turn (offer_name j k) (offer_name j i))

  -- A tally names some offer where it did.
  some_moved : (t : ℕ) → any j.head.offers (names moved t) ≡ any j.head.offers (names j (p t))
  unfolding names
  some_moved t = any_moved j.head.offers r s offers (names j (p t))

  -- So 8 is met alike.
  unnamed_moved : unnamed moved ≡ unnamed j
  unfolding unnamed
  unnamed_moved =
      any_cong j.head.tallies (λ t. not (any j.head.offers (names moved t))) (λ t. not (any j.head.offers (names j (p t)))) (λ t l. ap not (some_moved t))
      ∙ any_moved j.head.tallies p q tallies (λ t. not (any j.head.offers (names j t)))

  module _ (apart : shared j ≡ false) (named : unnamed j ≡ false) where
    -- Each tally names an offer,
    has_moved : (t : ℕ) → t < j.head.tallies → any j.head.offers (names moved t) ≡ true
    unfolding unnamed
    has_moved t l =
        some_moved t
        ∙ not-false _ (any_none j.head.tallies (λ t. not (any j.head.offers (names j t))) (p t) (tallies.inside t l) named)

    -- whose place is below N,
    pub place_in : (t : ℕ) → t < j.head.tallies → place_of moved t < j.head.offers
    place_in t l = (named_place moved t (has_moved t l)).0

    -- and which is the one that it named.
    pub place_moved : (t : ℕ) → t < j.head.tallies → r (place_of moved t) ≡ place_of j (p t)
    place_moved t l =
        sym (only_place j (p t) apart (r (place_of moved t)) (offers.inside (place_of moved t) (place_in t l)) (named_place moved t (has_moved t l)).1)

    -- Two tallies are of one offer where they were.
    same_place : (t u : ℕ) → t < j.head.tallies → u < j.head.tallies → eqb (place_of moved t) (place_of moved u) ≡ eqb (place_of j (p t)) (place_of j (p u))
    same_place t u l m =
        same_test (eqb (place_of moved t) (place_of moved u)) (eqb (place_of j (p t)) (place_of j (p u)))
        (λ h. eq-eqb (place_of j (p t)) (place_of j (p u)) (sym (place_moved t l) ∙ ap r (eqb-true (place_of moved t) (place_of moved u) h) ∙ place_moved u m))
        (λ h. eq-eqb (place_of moved t) (place_of moved u)
        (sym (offers.here (place_of moved t) (place_in t l))
        ∙ ap s (place_moved t l ∙ eqb-true (place_of j (p t)) (place_of j (p u)) h ∙ sym (place_moved u m))
        ∙ offers.here (place_of moved u) (place_in u m)))

    -- So the rule looks at the same counts in another order:
    reordered : Reordered (counted_tallies j) (counted_tallies moved) p q
    unfolding counted_tallies
    reordered = record {
      size = refl;
      places = tallies;
      grocer = λ t l. refl;
      offer = same_place;
      bag = λ t l. refl;
      revision = λ t l. refl;
    }

    -- the same tallies stand,
    pub stands_moved : (t : ℕ) → t < j.head.tallies → stands (counted_tallies moved) t ≡ stands (counted_tallies j) (p t)
    unfolding counted_tallies
    stands_moved = recount_laws.order (counted_tallies j) (counted_tallies moved) p q reordered

    -- and 9 is met alike.
    twice_moved : counted_twice (counted_tallies moved) ≡ counted_twice (counted_tallies j)
    twice_moved = recount_laws.order_twice (counted_tallies j) (counted_tallies moved) p q reordered

-- A job with the words of another in another order.
module _ (j j' : FileJob) (p q r s : ℕ → ℕ) (x : Rearranged j j' p q r s) where
  -- The job that it has the words of.
  abbrev other : FileJob
  other = in_order p r j

  -- 6 is met by that job where j meets it,
  records_other : bad_records other ≡ bad_records j
  records_other = records_moved j p q r s x.tallies x.offers

  -- and none of 6, 7 and 8 where j meets none.
  pub named_other : Named j → Named other
  named_other n = record {
    codes = records_other ∙ n.codes;
    apart = shared_moved j p q r s x.tallies x.offers ∙ n.apart;
    named = unnamed_moved j p q r s x.tallies x.offers ∙ n.named;
  }

  -- So 6 is met alike by j and j',
  pub order_six : bad_records j' ≡ bad_records j
  order_six = records_same j' other x.words ∙ records_other

  -- 7 and 8 where 6 is not met,
  pub order_seven : bad_records j ≡ false → shared j' ≡ shared j
  order_seven h = shared_same j' other x.words (records_other ∙ h) ∙ shared_moved j p q r s x.tallies x.offers

  pub order_eight : bad_records j ≡ false → unnamed j' ≡ unnamed j
  order_eight h = unnamed_same j' other x.words (records_other ∙ h) ∙ unnamed_moved j p q r s x.tallies x.offers

  -- 9 where none of these is met, and the same tallies stand.
  pub order_nine : Named j → counted_twice (counted_tallies j') ≡ counted_twice (counted_tallies j)
  order_nine n = twice_same j' other x.words (records_other ∙ n.codes) ∙ twice_moved j p q r s x.tallies x.offers n.apart n.named

  pub order_stands : Named j → (t : ℕ) → t < j.head.tallies → stands (counted_tallies j') t ≡ stands (counted_tallies j) (p t)
  order_stands n t l =
      stands_same j' other x.words (records_other ∙ n.codes) t l ∙ stands_moved j p q r s x.tallies x.offers n.apart n.named t l

  -- The refusal is the same.
  pub order_refusal : job_refusal j' ≡ job_refusal j
  order_refusal = refused_alike j' j (ap bad_sizes x.words.head) order_six order_seven order_eight order_nine

  -- Their files say the same records in that order.
  pub order_read_lem : job_refusal j ≡ 0 → Rearranged (decode (encode j)) (decode (encode j')) p q r s
  order_read_lem ok =
      let back = read_back j ok in record {
        tallies = rw back.head x.tallies;
        offers = rw back.head x.offers;
        words =
            words_on (decode (encode j')) j' (in_order p r (decode (encode j))) (read_back j' (order_refusal ∙ ok))
            (words_on j' other (in_order p r (decode (encode j))) x.words
            (words_back (in_order p r (decode (encode j))) other (record {
              head = back.head;
              offer = λ i l. back.offer (r i) (x.offers.inside i l);
              grocer_owner = back.grocer_owner;
              list_price = λ q i m l. back.list_price q (r i) m (x.offers.inside i l);
              tally = λ t l. back.tally (p t) (x.tallies.inside t l);
            })));
      }
