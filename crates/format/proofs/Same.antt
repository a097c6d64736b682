-- Two jobs with the same words are refused alike. Assumes nothing.
use mathlib.Core.Path.{◌≡◌, sym, ◌∙◌, ap}
use mathlib.Core.Bool.{true, false, not, ◌||◌}
use Prim.Native.Nat.{ℕ, ◌<◌}
use native.Mathlib.Omega.{arith}
use Rattle.laws.specs.Below.{any, find}
use Rattle.laws.specs.Checks.{first_met}
use Rattle.laws.proofs.Bools.{split}
use Rattle.laws.proofs.Below.{any_cong, find_cong}
use Rattle.recount.specs.Recount.{Counted, stands, counted_twice, Reordered}
use Rattle.format.specs.Codes.{Code, Name, is_code, code_number, same_offer}
use Rattle.format.specs.Job.{Head, FileJob, Offer, Tally, bad_sizes, bad_offer, bad_owner, bad_price, bad_tally, bad_records, offer_name, tally_name, names, place_of, shared, unnamed, counted_tallies}
use Rattle.format.specs.Same.{SameCode, OfferWords, TallyWords, SameWords}
use Rattle.format.specs.Rearranged.{Named}
use Rattle.format.specs.Refusals.{job_refusal}
use Rattle.recount.proofs.Recount.{recount_laws, same_order}
use Rattle.format.proofs.Codes.{code_cong, number_cong}
use Rattle.format.proofs.Range.{fine_records, named_job, offer_in, tally_in}

-- The same words both ways round,
code_back : (a b : Code) → SameCode a b → SameCode b a
code_back a b s = record { size = sym s.size; digit = λ k l. sym (s.digit k l) }

pub words_back : (a b : FileJob) → SameWords a b → SameWords b a
words_back a b s = record {
  head = sym s.head;
  offer = λ i l. let o = s.offer i (rw s.head at l) in
      record { price = sym o.price; owner = sym o.owner; code = code_back _ _ o.code; issuer = sym o.issuer };
  grocer_owner = λ i l. sym (s.grocer_owner i (rw s.head at l));
  list_price = λ q i m l. sym (s.list_price q i (rw s.head at m) (rw s.head at l));
  tally = λ i l. let t = s.tally i (rw s.head at l) in record {
    grocer = sym t.grocer;
    box = sym t.box;
    code = code_back _ _ t.code;
    count = sym t.count;
    issuer = sym t.issuer;
    bag = sym t.bag;
    revision = sym t.revision;
  };
}

-- and on to a third job.
code_on : (a b c : Code) → SameCode a b → SameCode b c → SameCode a c
code_on a b c s r = record { size = s.size ∙ r.size; digit = λ k l. s.digit k l ∙ r.digit k l }

pub words_on : (a b c : FileJob) → SameWords a b → SameWords b c → SameWords a c
words_on a b c s r = record {
  head = s.head ∙ r.head;
  offer = λ i l.
      let x = s.offer i (rw r.head l) in
      let y = r.offer i l in
      record { price = x.price ∙ y.price; owner = x.owner ∙ y.owner; code = code_on _ _ _ x.code y.code; issuer = x.issuer ∙ y.issuer };
  grocer_owner = λ i l. s.grocer_owner i (rw r.head l) ∙ r.grocer_owner i l;
  list_price = λ q i m l. s.list_price q i (rw r.head m) (rw r.head l) ∙ r.list_price q i m l;
  tally = λ i l.
      let x = s.tally i (rw r.head l) in
      let y = r.tally i l in
      record {
        grocer = x.grocer ∙ y.grocer;
        box = x.box ∙ y.box;
        code = code_on _ _ _ x.code y.code;
        count = x.count ∙ y.count;
        issuer = x.issuer ∙ y.issuer;
        bag = x.bag ∙ y.bag;
        revision = x.revision ∙ y.revision;
      };
}

-- Fields with the same bytes are codes alike, and have one number.
same_code : (a b : Code) → SameCode a b → is_code a ≡ is_code b
same_code a b s = code_cong a b s.size s.digit

same_number : (a b : Code) → SameCode a b → is_code b ≡ true → code_number a ≡ code_number b
same_number a b s h = number_cong a b h s.size s.digit

-- Names with the same issuers and the same codes are one offer alike.
name_cong : (a a' b b' : Name) → a.issuer ≡ b.issuer → code_number a.code ≡ code_number b.code →
    a'.issuer ≡ b'.issuer → code_number a'.code ≡ code_number b'.code → same_offer a a' ≡ same_offer b b'
unfolding same_offer
name_cong a a' b b' p q p' q' = rw (p, q, p', q')

-- A record's refusal goes by the head and the record: 6 of an offer,
pub offer_same : (h : Head) (o p : Offer) → OfferWords o p → bad_offer h o ≡ bad_offer h p
unfolding bad_offer
offer_same h o p w = rw (w.price, w.owner, same_code o.code p.code w.code)

-- and of a tally.
pub tally_same : (h : Head) (o p : Tally) → TallyWords o p → bad_tally h o ≡ bad_tally h p
unfolding bad_tally
tally_same h o p w = rw (w.grocer, w.box, w.count, same_code o.code p.code w.code)

-- Counts with the same words meet 9 alike.
pub twice_cong : (a b : Counted) → a.size ≡ b.size → ((t : ℕ) → t < b.size → a.grocer t ≡ b.grocer t) → ((t : ℕ) → t < b.size → a.offer t ≡ b.offer t) →
    ((t : ℕ) → t < b.size → a.bag t ≡ b.bag t) → ((t : ℕ) → t < b.size → a.revision t ≡ b.revision t) → counted_twice a ≡ counted_twice b
twice_cong a b e grocer offer bag revision = recount_laws.order_twice b a (λ t. t) (λ t. t) (same_order a b e grocer offer bag revision)

-- Jobs that meet 4 and 6 alike, 7 and 8 where 6 is not met, and 9 where 8 is not met either, are refused alike.
pub refused_alike : (a b : FileJob) → bad_sizes a.head ≡ bad_sizes b.head → bad_records a ≡ bad_records b →
    (bad_records b ≡ false → shared a ≡ shared b) → (bad_records b ≡ false → unnamed a ≡ unnamed b) →
    (Named b → counted_twice (counted_tallies a) ≡ counted_twice (counted_tallies b)) → job_refusal a ≡ job_refusal b
unfolding job_refusal first_met
refused_alike a b four six seven eight nine =
    split (bad_records b)
    (λ e. rw (four, six, e))
    (λ e. split (shared b)
    (λ f. rw (four, six, e, seven e, f))
    (λ f. split (unnamed b)
    (λ g. rw (four, six, e, seven e, f, eight e, g))
    (λ g. rw (four, six, seven e, eight e, nine (record { codes = e; apart = f; named = g })))))

-- The same words: 6 is met alike,
pub records_same : (a b : FileJob) → SameWords a b → bad_records a ≡ bad_records b
unfolding bad_records
records_same a b s =
    ap (λ (h : Head).
    any h.offers (λ i. bad_offer h (a.offer i)) || any h.grocers (λ i. bad_owner h (a.grocer_owner i))
    || any h.lists (λ q. any h.offers (λ i. bad_price (a.list_price q i))) || any h.tallies (λ i. bad_tally h (a.tally i))) s.head
    ∙ rw (
      any_cong b.head.offers (λ i. bad_offer b.head (a.offer i)) (λ i. bad_offer b.head (b.offer i)) (λ i l. offer_same b.head (a.offer i) (b.offer i) (s.offer i l)),
      any_cong b.head.grocers (λ i. bad_owner b.head (a.grocer_owner i)) (λ i. bad_owner b.head (b.grocer_owner i)) (λ i l. ap (bad_owner b.head) (s.grocer_owner i l)),
      any_cong b.head.lists (λ q. any b.head.offers (λ i. bad_price (a.list_price q i))) (λ q. any b.head.offers (λ i. bad_price (b.list_price q i)))
          (λ q m. any_cong b.head.offers (λ i. bad_price (a.list_price q i)) (λ i. bad_price (b.list_price q i)) (λ i l. ap bad_price (s.list_price q i m l))),
      any_cong b.head.tallies (λ i. bad_tally b.head (a.tally i)) (λ i. bad_tally b.head (b.tally i)) (λ i l. tally_same b.head (a.tally i) (b.tally i) (s.tally i l)),
    )

-- and where codes are codes, so are 7, 8 and 9.
module _ (a b : FileJob) (s : SameWords a b) (codes : bad_records b ≡ false) where
  offer_number : (i : ℕ) → i < b.head.offers → code_number (a.offer i).code ≡ code_number (b.offer i).code
  offer_number i h = same_number _ _ (s.offer i h).code (offer_in b.head (b.offer i) ((fine_records b codes).offer i h)).code

  tally_number : (i : ℕ) → i < b.head.tallies → code_number (a.tally i).code ≡ code_number (b.tally i).code
  tally_number i h = same_number _ _ (s.tally i h).code (tally_in b.head (b.tally i) ((fine_records b codes).tally i h)).code

  names_same : (t : ℕ) → t < b.head.tallies → (i : ℕ) → i < b.head.offers → names a t i ≡ names b t i
  unfolding names
  names_same t h i l =
      name_cong (offer_name a i) (tally_name a t) (offer_name b i) (tally_name b t) (s.offer i l).issuer (offer_number i l) (s.tally t h).issuer (tally_number t h)

  -- Each tally's place is the same.
  pub places_same : (t : ℕ) → t < b.head.tallies → place_of a t ≡ place_of b t
  unfolding place_of
  places_same t h = ap (λ (h : Head). find h.offers (names a t)) s.head ∙ find_cong b.head.offers (names a t) (names b t) (names_same t h)

  offers_same : (k i : ℕ) → k < b.head.offers → i < b.head.offers → same_offer (offer_name a k) (offer_name a i) ≡ same_offer (offer_name b k) (offer_name b i)
  offers_same k i p q =
      name_cong (offer_name a k) (offer_name a i) (offer_name b k) (offer_name b i) (s.offer k p).issuer (offer_number k p) (s.offer i q).issuer (offer_number i q)

  pub shared_same : shared a ≡ shared b
  unfolding shared
  shared_same =
      ap (λ (h : Head). any h.offers (λ i. any i (λ k. same_offer (offer_name a k) (offer_name a i)))) s.head
      ∙ any_cong b.head.offers _ _ (λ i l. any_cong i _ _ (λ k m. offers_same k i (omega arith) l))

  pub unnamed_same : unnamed a ≡ unnamed b
  unfolding unnamed
  unnamed_same =
      ap (λ (h : Head). any h.tallies (λ t. not (any h.offers (names a t)))) s.head
      ∙ any_cong b.head.tallies _ _ (λ t l. ap not (any_cong b.head.offers (names a t) (names b t) (names_same t l)))

  -- What the recount rule looks at is the same,
  counted_same : Reordered (counted_tallies b) (counted_tallies a) (λ t. t) (λ t. t)
  unfolding counted_tallies
  counted_same =
      same_order (counted_tallies a) (counted_tallies b) (ap (λ (h : Head). h.tallies) s.head)
      (λ t h. (s.tally t h).grocer) places_same (λ t h. (s.tally t h).bag) (λ t h. (s.tally t h).revision)

  -- so 9 is met alike, and the same tallies stand.
  pub twice_same : counted_twice (counted_tallies a) ≡ counted_twice (counted_tallies b)
  twice_same = recount_laws.order_twice (counted_tallies b) (counted_tallies a) (λ t. t) (λ t. t) counted_same

  pub stands_same : (t : ℕ) → t < b.head.tallies → stands (counted_tallies a) t ≡ stands (counted_tallies b) t
  unfolding counted_tallies
  stands_same t l =
      recount_laws.order (counted_tallies b) (counted_tallies a) (λ t. t) (λ t. t) counted_same t (rw s.head l)

module _ (a b : FileJob) (s : SameWords a b) where
  -- Two jobs with the same words are refused alike,
  refusal_same : job_refusal a ≡ job_refusal b
  refusal_same =
      refused_alike a b (ap bad_sizes s.head) (records_same a b s) (shared_same a b s) (unnamed_same a b s) (λ n. twice_same a b s n.codes)

  -- so that one with the words of one that is not refused is not refused,
  pub same_fine : job_refusal b ≡ 0 → job_refusal a ≡ 0
  same_fine ok = refusal_same ∙ ok

  -- and each tally's place is the same.
  pub place_same : job_refusal b ≡ 0 → (t : ℕ) → t < b.head.tallies → place_of a t ≡ place_of b t
  place_same ok = places_same a b s (named_job b ok).codes
