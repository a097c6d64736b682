-- A job that the writer does not refuse is not refused without one of its tallies. Assumes nothing.
use mathlib.Core.Path.{◌≡◌, refl, ap, ◌∙◌}
use mathlib.Core.Bool.{false, not}
use mathlib.Core.List.{[], ◌∷◌}
use Prim.Native.Nat.{ℕ, ◌-◌, ◌<◌}
use native.Mathlib.Omega.{arith}
use borrow.Author.Tests.{le-ltb}
use Rattle.laws.specs.Below.{any}
use Rattle.laws.specs.Limits.{max_boxes, max_grocers, max_offers, max_tallies, max_lists}
use Rattle.laws.proofs.Below.{any_cong, any_false, any_none, find_cong}
use Rattle.laws.proofs.Checks.{any_each}
use Rattle.format.specs.Codes.{code_number, same_offer}
use Rattle.format.specs.Job.{Head, FileJob, bad_sizes, bad_offer, bad_owner, bad_tally, names, place_of, shared, unnamed, counted_tallies, bad_price}
use Rattle.format.specs.Refusals.{job_refusal}
use Rattle.format.specs.Tables.{ReaderTables, file_job_of}
use Rattle.late_rules.specs.Edit.{place_before, store_entries, withdrawn_head, withdrawn_tables}
use Rattle.format.proofs.Codes.{number_cong}
use Rattle.format.proofs.Range.{Fine, fine, fine_job, tally_in, sizes_in}
use Rattle.format.proofs.Same.{tally_same}
use Rattle.late_rules.proofs.Counts.{Without, before_in, without_once}
use Rattle.late_rules.proofs.Withdraw.{moved}

module _ (h : Head) (l : ReaderTables) (p : ℕ) (inside : p < h.tallies) (ok : job_refusal (file_job_of h l.job) ≡ 0) where
  -- The job of before, and the edited one.
  abbrev j : FileJob
  j = file_job_of h l.job

  abbrev j' : FileJob
  j' = file_job_of (withdrawn_head h) (withdrawn_tables h l p).job

  were : Fine j
  were = fine j ok

  sizes_fine : bad_sizes (withdrawn_head h) ≡ false
  unfolding bad_sizes file_job_of
  sizes_fine =
      let s = sizes_in h were.sizes in
      any_each (_ ∷ _ ∷ _ ∷ _ ∷ _ ∷ _ ∷ _ ∷ _ ∷ []) (
        le-ltb h.boxes 1 s.boxes_some,
        (
          le-ltb max_boxes h.boxes s.boxes_most,
          (
            le-ltb h.grocers 1 s.grocers_some,
            (
              le-ltb max_grocers h.grocers s.grocers_most,
              (
                le-ltb h.offers 1 s.offers_some,
                (
                  le-ltb max_offers h.offers s.offers_most,
                  (le-ltb max_tallies (h.tallies - 1) (omega (arith, s.tallies_most)), (le-ltb max_lists h.lists s.lists_most, tt)),
                ),
              ),
            ),
          ),
        ),
      )

  offer_fine : (i : ℕ) → i < h.offers → bad_offer (withdrawn_head h) (j'.offer i) ≡ false
  unfolding bad_offer file_job_of withdrawn_tables store_entries
  offer_fine i q = were.offer i q

  owner_fine : (i : ℕ) → i < h.grocers → bad_owner (withdrawn_head h) (j'.grocer_owner i) ≡ false
  unfolding bad_owner file_job_of withdrawn_tables store_entries
  owner_fine i q = were.grocer_owner i q

  price_fine : (q i : ℕ) → q < h.lists → i < h.offers → bad_price (j'.list_price q i) ≡ false
  unfolding bad_price file_job_of withdrawn_tables store_entries
  price_fine q i k m = were.list_price q i k m

  same_tally : (t : ℕ) → t < h.tallies - 1 → bad_tally (withdrawn_head h) (j'.tally t) ≡ bad_tally (withdrawn_head h) (j.tally (place_before p t))
  unfolding file_job_of
  same_tally t q = tally_same (withdrawn_head h) _ _ (moved h l p inside t q).tally

  tally_fine : (t : ℕ) → t < h.tallies - 1 → bad_tally (withdrawn_head h) (j'.tally t) ≡ false
  unfolding bad_tally file_job_of
  tally_fine t q = same_tally t q ∙ were.tally (place_before p t) (before_in p h.tallies t q)

  shared_fine : shared j' ≡ false
  unfolding shared file_job_of withdrawn_tables store_entries
  shared_fine = were.shared

  number_fine : (t : ℕ) → t < h.tallies - 1 → code_number (j'.tally t).code ≡ code_number (j.tally (place_before p t)).code
  unfolding file_job_of
  number_fine t q =
      let c = (moved h l p inside t q).tally.code in
      number_cong _ _ (tally_in h (j.tally (place_before p t)) (were.tally (place_before p t) (before_in p h.tallies t q))).code c.size c.digit

  names_fine : (t i : ℕ) → t < h.tallies - 1 → names j' t i ≡ names j (place_before p t) i
  unfolding names same_offer file_job_of withdrawn_tables store_entries
  names_fine t i q = rw (number_fine t q, (moved h l p inside t q).tally.issuer)

  place_fine : (t : ℕ) → t < h.tallies - 1 → place_of j' t ≡ place_of j (place_before p t)
  unfolding place_of file_job_of
  place_fine t q = find_cong h.offers (names j' t) (names j (place_before p t)) (λ i m. names_fine t i q)

  unnamed_fine : unnamed j' ≡ false
  unfolding unnamed file_job_of
  unnamed_fine =
      any_false (h.tallies - 1) (λ t. not (any h.offers (names j' t))) (λ t q.
      ap not (any_cong h.offers (names j' t) (names j (place_before p t)) (λ i m. names_fine t i q))
      ∙ any_none h.tallies (λ t. not (any h.offers (names j t))) (place_before p t) (before_in p h.tallies t q) were.unnamed)

  counts_fine : Without p (counted_tallies j) (counted_tallies j')
  unfolding counted_tallies file_job_of
  counts_fine = record {
    inside = inside;
    size = refl;
    grocer = λ t q. (moved h l p inside t q).tally.grocer;
    offer = place_fine;
    bag = λ t q. (moved h l p inside t q).tally.bag;
    revision = λ t q. (moved h l p inside t q).tally.revision;
  }

  pub less_fine : job_refusal j' ≡ 0
  unfolding file_job_of
  less_fine =
      fine_job j' (record {
        sizes = sizes_fine;
        offer = offer_fine;
        grocer_owner = owner_fine;
        list_price = price_fine;
        tally = tally_fine;
        shared = shared_fine;
        unnamed = unnamed_fine;
        once = without_once p (counted_tallies j) (counted_tallies j') counts_fine were.once;
      })
