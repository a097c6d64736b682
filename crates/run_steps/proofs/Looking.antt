-- What the steps of a run look up: the places, spans and offers of all boxes, told once, and links. Assumes nothing.
use mathlib.Core.Path.{◌≡◌, refl, sym, ap, ◌∙◌, subst}
use mathlib.Core.Bool.{Bool, false}
use mathlib.Core.List.{List}
use Prim.Native.Nat.{ℕ, suc, ◌+◌, ◌*◌, ◌<◌, ◌≤◌}
use native.Mathlib.Decide.{ℕ_discrete}
use native.Mathlib.Omega.{arith}
use lib.ListN.{length, get_or}
use borrow.Author.Tests.{ne_eqb}
use Rattle.laws.specs.Listed.{Listed}
use Rattle.laws.specs.Tables.{tabulate}
use Rattle.laws.proofs.Below.{count_cong}
use Rattle.laws.proofs.Tables.{length_tabulate}
use Rattle.model.specs.Job.{need_word, price_word, sharer_word}
use Rattle.model.specs.PackedTotals.{totals_length}
use Rattle.model.specs.Tables.{JobTables, job_of, evening_of, job_lengths, job_short}
use Rattle.model.specs.Handed.{Handed}
use Rattle.book_places.specs.Spots.{CountIn, start_by}
use Rattle.book_places.specs.Boxes.{AllIn, AllPlaces, ListsIn, HeadsTold}
use Rattle.step_places.specs.Message.{word_in}
use Rattle.step_links.specs.Links.{LinkedPairs}
use Rattle.step_apply.specs.Apply.{span_box, span_group, prices_of}
use Rattle.run_steps.specs.All.{head_of, Looked}
use Rattle.step_totals.specs.Row.{TalliesLinked}
use Rattle.model.proofs.Lent.{job_long}
use Rattle.model.proofs.ListTotals.{list_totals_lem}
use Rattle.model.proofs.Range.{InRange}
use Rattle.model.proofs.Spans.{length_most}
use Rattle.model.proofs.Step.{JobIn, job_in_lem, range, under_at}
use Rattle.book_places.proofs.Joined.{length_model}
use Rattle.book_places.proofs.Messages.{message_listed}
use Rattle.step_places.proofs.Message.{price_word_lem}
use Rattle.step_totals.proofs.Effect.{tallies_of}
use Rattle.step_totals.proofs.Given.{tallies_given}
use Rattle.step_totals.proofs.Rows.{pairs_linked}
use Rattle.step_apply.proofs.Found.{spots_told, span_told}
use Rattle.run_steps.proofs.Offers.{offers_few}

-- Listed numbers by another test that passes the same.
listed_same : (n : ℕ) (p q : ℕ → Bool) (from to : ℕ) (table : List ℕ) → ((x : ℕ) → x < n → p x ≡ q x) → Listed n p from to table → Listed n q from to table
listed_same n p q from to table e l = record {
  long = l.long;
  many = omega (arith, l.many, count_cong n p q e);
  each = λ x h y. ap (λ (c : ℕ). get_or table (from + c) 0) (sym (count_cong x p q (λ i k. e i (omega (arith, h))))) ∙ l.each x h (e x h ∙ y);
}

module _ (f : JobTables) (ok : Handed f) (whole : job_short f (job_lengths f) ≡ false) where
  words : JobIn f
  words = job_in_lem f ok.inside

  in_range_lem : InRange (job_of f)
  in_range_lem = range f ok.inside

  -- The links of tallies by pairs are those of the tallies.
  pub tallies_of_lem : (places tlinks : List ℕ) → LinkedPairs f.tallies f.tally_box f.tally_offer f.offer_owner tlinks → TalliesLinked f.tallies f.offer_owner f.tally_box f.tally_offer tlinks
  tallies_of_lem places tlinks l = pairs_linked (tallies_of f places) f.tally_box tlinks (tallies_given f places (job_long f (job_lengths f) whole) ok.inside) l

  -- ---- Grocers, with the sharer words.
  module _ (sharers : List ℕ) (es : sharers ≡ tabulate 255 (sharer_word (job_of f))) where
    owners_long : f.grocers ≤ length f.grocer_owner
    unfolding job_lengths
    owners_long = (job_long f (job_lengths f) whole).grocer_owner

    sharers_long : f.grocers ≤ length sharers
    sharers_long = omega (arith, words.grocers≤, ap length es ∙ length_tabulate 255 (sharer_word (job_of f)))

    owner_in : (g : ℕ) → g < f.grocers → get_or f.grocer_owner g 0 < f.boxes
    owner_in g l = under_at f.boxes f.grocers f.grocer_owner g words.grocer_owner l

    -- The packed length, counted by the sharer words.
    pub count_ready : (CountIn f.grocers f.grocer_owner sharers) × ((f.boxes ≤ 16) × (f.lists ≤ 7))
    count_ready = (
      record { m_in = omega (arith, words.grocers≤); owners_long = owners_long; words_long = sharers_long; owner_in = λ g l. omega (arith, owner_in g l, words.boxes≤) },
      (words.boxes≤, words.lists≤),
    )

    packed_places : start_by f.grocers f.grocer_owner sharers f.boxes ≡ totals_length (job_of f)
    packed_places = length_model f ok.bare in_range_lem words.grocers≤ sharers es

    pub packed_words : start_by f.grocers f.grocer_owner sharers f.boxes * suc f.lists ≡ totals_length (evening_of f)
    packed_words = ap (λ (n : ℕ). n * suc f.lists) packed_places ∙ sym (list_totals_lem f).packed_length

    packed_few : totals_length (job_of f) ≤ 1_255
    unfolding job_of
    packed_few = omega (arith, length_most (job_of f) in_range_lem, words.grocers≤, words.tallies≤)

    -- What telling all boxes requires.
    pub boxes_ready : (m n : ℕ) → m ≡ f.grocers → n ≡ f.tallies → AllIn f.boxes m n f.grocer_owner sharers f.tally_box f.tally_grocer 288 1_255 1_000
    unfolding job_lengths
    boxes_ready m n em en =
        let long = job_long f (job_lengths f) whole in
        rw (em, en) (record {
          room = record {
            owners_in = record { k_in = words.boxes≤; n_in = omega (arith, words.grocers≤); owners_long = owners_long; owner_in = owner_in };
            m_in = words.grocers≤;
            words_long = sharers_long;
            heads_long = omega (arith, words.boxes≤);
            grocers_long = omega (arith, packed_places, packed_few);
            table_long = omega arith;
          };
          boxes_long = long.tally_box;
          items_long = long.tally_grocer;
          item_in = λ t l. under_at f.grocers f.tallies f.tally_grocer t words.tally_grocer l;
          places_long = words.tallies≤;
        })

  -- ---- Offers, with the need words.
  module _ (needs : List ℕ) (en : needs ≡ tabulate 500 (need_word (job_of f))) where
    -- What listing the offers of all boxes requires.
    listed_few : start_by f.offers f.offer_owner needs f.boxes ≤ 1_500
    listed_few = omega (arith, offers_few f in_range_lem words.offers≤ needs en, words.offers≤, words.tallies≤)

    pub lists_ready : (n : ℕ) → n ≡ f.offers → ListsIn f.boxes n f.offer_owner needs 288 1_500
    unfolding job_lengths
    lists_ready n e =
        rw e (record {
          owners_in = record {
            k_in = words.boxes≤;
            n_in = words.offers≤;
            owners_long = (job_long f (job_lengths f) whole).offer_owner;
            owner_in = λ o l. under_at f.boxes f.offers f.offer_owner o words.offer_owner l;
          };
          words_long = omega (arith, words.offers≤, ap length en ∙ length_tabulate 500 (need_word (job_of f)));
          heads_long = omega (arith, words.boxes≤);
          out_long = listed_few;
        })

    -- The offers of a message, once they are listed.
    module _ (offer_heads offers : List ℕ) (told : HeadsTold f.boxes f.offers f.offer_owner needs f.boxes offer_heads offers) (lo : length offers ≡ 1_500) where
      message_told : (a b : ℕ) → a < f.boxes → b < f.boxes →
          Listed f.offers (price_word (job_of f) a b) (get_or offer_heads (b * 18 + suc a) 0) (get_or offer_heads (b * 18 + suc a + 1) 0) offers
      message_told a b la lb =
          subst (λ (x : ℕ). Listed f.offers (price_word (job_of f) a b) (get_or offer_heads (b * 18 + suc a) 0) (get_or offer_heads x 0) offers) (next (b * 18) a)
          (listed_same f.offers (word_in f.offer_owner needs a b) (price_word (job_of f) a b) _ _ offers (λ o l. price_word_lem f needs a b o (omega (arith, lb, words.boxes≤)) l words.offers≤ en)
          (message_listed f.boxes f.offers f.offer_owner needs a b la lb offer_heads offers (lists_ready f.offers refl).owners_in told (omega (arith, listed_few))))
        where
          next : (x d : ℕ) → x + suc (suc d) ≡ x + suc d + 1
          next x d = omega arith

      pub offers_told : (kind a b : ℕ) → a < f.boxes → b < f.boxes → kind ≤ 3 → (kind ≡ 2 → ⊥) →
          Listed f.offers (prices_of (job_of f) kind a b) (get_or offer_heads (head_of kind a b) 0) (get_or offer_heads (head_of kind a b + 1) 0) offers
      unfolding head_of span_box span_group prices_of
      offers_told kind a b la lb small other = go (ℕ_discrete kind 1)
        where
          go : Dec (kind ≡ 1) → Listed f.offers (prices_of (job_of f) kind a b) (get_or offer_heads (head_of kind a b) 0) (get_or offer_heads (head_of kind a b + 1) 0) offers
          go (yes e) = rw e (message_told a b la lb)
          go (no n) = rw (ne_eqb kind 1 n, ne_eqb kind 6 (λ e. omega (arith, e)), ne_eqb kind 2 other, ne_eqb kind 5 (λ e. omega (arith, e))) (message_told b a lb la)

  -- What the steps look up, once it is told.
  pub looked : (sharers needs : List ℕ) → sharers ≡ tabulate 255 (sharer_word (job_of f)) → needs ≡ tabulate 500 (need_word (job_of f)) →
      (m t n : ℕ) (tlinks places offer_heads offers heads grocers : List ℕ) → m ≡ f.grocers → t ≡ f.tallies → n ≡ f.offers →
      length offer_heads ≡ 288 → length offers ≡ 1_500 → length heads ≡ 288 → length grocers ≡ 1_255 → length places ≡ 1_000 →
      AllPlaces f.boxes m t f.grocer_owner sharers f.tally_box f.tally_grocer heads grocers places →
      HeadsTold f.boxes n f.offer_owner needs f.boxes offer_heads offers →
      LinkedPairs f.tallies f.tally_box f.tally_offer f.offer_owner tlinks → Looked f tlinks places offer_heads offers heads grocers
  unfolding head_of
  looked sharers needs es en m t n tlinks places offer_heads offers heads grocers em et eo loh lo lh lg lp told listed lt =
      let spots : AllPlaces f.boxes f.grocers f.tallies f.grocer_owner sharers f.tally_box f.tally_grocer heads grocers places = rw (em, et) at told in
      let messages : HeadsTold f.boxes f.offers f.offer_owner needs f.boxes offer_heads offers = rw eo at listed in
      record {
        tallies_linked = lt;
        spots_are = λ a l. spots_told f ok.bare in_range_lem words.grocers≤ sharers es heads grocers places spots (omega (arith, words.tallies≤)) a l;
        offer_heads_long = omega (arith, words.boxes≤);
        offers_are = offers_told needs en offer_heads offers messages lo;
        heads_long = omega (arith, words.boxes≤);
        spans_are = λ kind a b la lb _. span_told f ok.bare in_range_lem words.grocers≤ sharers es heads grocers places spots kind a b la lb (omega (arith, packed_few sharers es));
      }
