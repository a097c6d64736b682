-- What the checks so far say, for those that follow. Assumes nothing.
use mathlib.Core.Path.{◌≡◌, refl, ap₂}
use mathlib.Core.Bool.{Bool, false, ◌||◌}
use mathlib.Core.List.{List, [], ◌∷◌}
use Prim.Native.Nat.{ℕ, suc, ◌+◌, ◌*◌}
use lib.ListN.{get_or}
use Rattle.laws.specs.Below.{any}
use Rattle.laws.specs.Checks.{first_met}
use Rattle.laws.proofs.Below.{any_none}
use Rattle.laws.proofs.Bools.{or_off}
use Rattle.recount.specs.Recount.{counted_twice}
use Rattle.format.specs.Job.{Head, FileJob, bad_sizes, bad_offer, bad_owner, bad_price, bad_tally, bad_records, shared, unnamed, counted_tallies}
use Rattle.format.specs.Refusals.{job_refusal}
use Rattle.format.specs.Tables.{FileTables, Long, offer_of, tally_of, file_job_of, short_tables, short_writer}
use Rattle.file_blocks.specs.Due.{Most}
use Rattle.writer_checks.specs.Rows.{Codes, NamesIn, HasNames, HasBags}
use Rattle.format.proofs.Range.{sizes_in, offer_in, tally_in}
use Rattle.format.proofs.Tables.{long_tables}

-- Where 20 is not met no table is short.
pub long_enough : (h : Head) (l : FileTables) (out : List ℕ) → short_writer h l out ≡ false → Long h l
unfolding short_writer
long_enough h l out e = long_tables h l (or_off (short_tables h l) _ e).0

-- Where 4 and 6 are not met, 7, 8 and 9 decide.
pub job_rest : (j : FileJob) → bad_sizes j.head ≡ false → bad_records j ≡ false → job_refusal j ≡ first_met ((shared j, 7) ∷ (unnamed j, 8) ∷ (counted_twice (counted_tallies j), 9) ∷ [])
unfolding job_refusal first_met
job_rest j a b = rw (a, b)

-- Where 4 is not met each number is at most its largest.
most : (h : Head) → bad_sizes h ≡ false → Most h
most h e = let z = sizes_in h e in record { boxes = z.boxes_most; grocers = z.grocers_most; offers = z.offers_most; tallies = z.tallies_most; lists = z.lists_most }

module _ (h : Head) (l : FileTables) where
  -- The tables hold the job's names.
  pub has_names : HasNames (file_job_of h l) l.offers.code l.offers.issuer l.tallies.code l.tallies.issuer h
  unfolding file_job_of
  has_names = record { head = refl; offer = λ i. refl; tally = λ i. refl }

  -- They hold its tallies' grocers, bags and revisions.
  pub has_bags : HasBags (file_job_of h l) l.tallies.grocer l.tallies.bag l.tallies.revision
  unfolding file_job_of
  has_bags = record { grocer = λ i. refl; bag = λ i. refl; revision = λ i. refl }

  -- Where 6 is not met each code is one.
  offer_codes : bad_records (file_job_of h l) ≡ false → Codes l.offers.code h.offers
  unfolding bad_records file_job_of
  offer_codes e =
      let j = file_job_of h l in
      let p = any h.offers (λ i. bad_offer h (j.offer i)) in
      let q = any h.grocers (λ i. bad_owner h (j.grocer_owner i)) in
      let v = any h.lists (λ q. any h.offers (λ i. bad_price (j.list_price q i))) in
      let r = any h.tallies (λ i. bad_tally h (j.tally i)) in
      record { code = λ i a. (offer_in h (j.offer i) (any_none h.offers (λ i. bad_offer h (j.offer i)) i a (or_off p q (or_off (p || q) v (or_off (p || q || v) r e).0).0).0)).code }

  tally_codes : bad_records (file_job_of h l) ≡ false → Codes l.tallies.code h.tallies
  unfolding bad_records file_job_of
  tally_codes e =
      let j = file_job_of h l in
      let p = any h.offers (λ i. bad_offer h (j.offer i)) in
      let q = any h.grocers (λ i. bad_owner h (j.grocer_owner i)) in
      let v = any h.lists (λ q. any h.offers (λ i. bad_price (j.list_price q i))) in
      let r = any h.tallies (λ i. bad_tally h (j.tally i)) in
      record { code = λ i a. (tally_in h (j.tally i) (any_none h.tallies (λ i. bad_tally h (j.tally i)) i a (or_off (p || q || v) r e).1)).code }

  -- Where 20, 4 and 6 are not met, names can be looked up.
  pub names_in : Long h l → bad_sizes h ≡ false → bad_records (file_job_of h l) ≡ false →
      NamesIn h l.offers.code l.offers.issuer l.tallies.code l.tallies.issuer
  names_in w z r =
      record {
        most = most h z;
        offer_code = w.offers.code;
        offer_issuer = w.offers.issuer;
        tally_code = w.tallies.code;
        tally_issuer = w.tallies.issuer;
        offers = offer_codes r;
        tallies = tally_codes r;
      }

  -- 6 of the whole job is that of its offers, its grocers, its prices on additional lists and its tallies.
  pub record_tests : {x y v z : Bool} →
      x ≡ any h.offers (λ i. bad_offer h (offer_of l.offers i)) →
      y ≡ any h.grocers (λ i. bad_owner h (get_or l.grocer_owner i 0)) →
      v ≡ any h.lists (λ q. any h.offers (λ i. bad_price (get_or l.offers.price (suc q * h.offers + i) 0))) →
      z ≡ any h.tallies (λ i. bad_tally h (tally_of l.tallies i)) →
      (x || y || v || z) ≡ bad_records (file_job_of h l)
  unfolding bad_records file_job_of
  record_tests e f p g = ap₂ ◌||◌ (ap₂ ◌||◌ (ap₂ ◌||◌ e f) p) g
