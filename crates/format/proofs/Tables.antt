-- Reader and writer over lent tables: writing what was read gives the file, and reading what was written gives the words. Assumes nothing.
use mathlib.Core.Path.{◌≡◌, refl, sym, ◌∙◌, ap}
use mathlib.Core.Bool.{false}
use mathlib.Core.List.{List, [], ◌∷◌, ◌++◌}
use Prim.Native.Nat.{ℕ, zero, suc, ◌+◌, ◌*◌, ◌/◌, ◌%◌, ◌≤◌, ◌<◌}
use native.Mathlib.Nat.{mul_comm}
use native.Mathlib.Omega.{arith}
use native.Mathlib.Decide.{ℕ_discrete}
use lib.Dec.{ltb}
use lib.ListN.{get_or, length, drop, take}
use lib.Seq.{take_at}
use lib.IntN.{pos}
use borrow.Author.Tests.{ltb-false, le-ltb, ne_eqb}
use Rattle.laws.specs.Tables.{tabulate, overwrite, recell}
use Rattle.laws.proofs.Tables.{get_d_overwrite, get_d_tabulate, long_overwrite, overwrite_same, overwrite_as, overwrite_cong, recell_same, recell_as, get_d_recell}
use Rattle.laws.proofs.Checks.{none_of, unmet}
use Rattle.laws.proofs.Bools.{or_off}
use Rattle.format.specs.Bytes.{from}
use Rattle.format.specs.Codes.{Code, code_bytes, read_code}
use Rattle.format.specs.Job.{Head, FileJob, Offer, Tally, Words16, price_on, place_of}
use Rattle.format.specs.Blocks.{block_count}
use Rattle.format.specs.File.{encode, decode}
use Rattle.format.specs.Refusals.{file_refusal, job_refusal}
use Rattle.format.specs.Tables.{OfferTables, TallyTables, FileTables, ReaderTables, short_offers, short_tallies, short_tables, LongOffers, LongTallies, Long, offer_of, tally_of, store_offers, store_tallies, file_job_of, store_codes}
use Rattle.format.specs.Tables.{store, store_read, sizes, refused, ReadOutcome, short_reader, read_refusal, read_result, wrote, not_written, short_writer, write_refusal, write_result}
use Rattle.format.proofs.Firsts.{each}
use Rattle.format.proofs.Order.{reader_file, writer_job}
use Rattle.format.proofs.Range.{InRange, in_range_lem}
use Rattle.format.specs.Same.{SameCode, OfferWords, TallyWords, SameWords}
use Rattle.format.proofs.Same.{place_same, same_fine}
use Rattle.format.proofs.Encode.{code_bytes_lem, encode_same}
use Rattle.format.proofs.Accept.{long, accepted, job_accepted}
use Rattle.format.proofs.Small.{encode-small}
use Rattle.format.proofs.Write.{read_back, long_is, written_accepted}

-- ---- codes in a table

-- The byte of a code's eleven at a place: the digit count, then the digits.
code_digit : (c : Code) (k : ℕ) → k < 10 → get_or (code_bytes c) (1 + k) 0 ≡ c.digit k
unfolding code_bytes
code_digit c k h =
    let e : 1 + k ≡ suc k = omega arith in
    rw e (get_d_tabulate 10 c.digit k 0 h)

-- Codes that were stored are read back.
code-stored : (n : ℕ) (code : ℕ → Code) (l : List ℕ) (i : ℕ) → i < n → SameCode (read_code (from (store_codes n code l) (i * 11))) (code i)
unfolding store_codes
code-stored n code l i h =
    record {
      size = get_d_recell n 11 (λ i p. get_or (code_bytes (code i)) p 0) l i 0 0 h (omega arith) ∙ unfold code_bytes in refl;
      digit = λ k q. get_d_recell n 11 (λ i p. get_or (code_bytes (code i)) p 0) l i (1 + k) 0 h (omega arith) ∙ code_digit (code i) k q;
    }

-- Codes that are the same are stored alike.
codes_same : (n : ℕ) (c d : ℕ → Code) (l : List ℕ) → ((i : ℕ) → i < n → SameCode (c i) (d i)) → store_codes n c l ≡ store_codes n d l
unfolding store_codes
codes_same n c d l h = recell_as n n 11 _ _ l refl (λ i p q r. ap (λ (x : List ℕ). get_or x p 0) (code_bytes_lem (c i) (d i) (h i q)))

-- Codes stored where they were read change no word.
codes_own : (n : ℕ) (l : List ℕ) → n * 11 ≤ length l → store_codes n (λ i. read_code (from l (i * 11))) l ≡ l
unfolding store_codes
codes_own n l h = recell_same n 11 _ l 0 h (λ i p q r. ap (λ (x : List ℕ). get_or x p 0) (eleven (from l (i * 11))) ∙ get_d_tabulate 11 (from l (i * 11)) p 0 r)
  where
    eleven : (g : ℕ → ℕ) → code_bytes (read_code g) ≡ tabulate 11 g
    eleven g = unfold code_bytes tabulate in refl

-- ---- a job stored into tables

module _ (v n : ℕ) (l : OfferTables) where
  -- Prices that were stored are read back, of each list,
  prices_stored : (price : ℕ → ℕ → ℕ) (offer : ℕ → Offer) (q i : ℕ) → q < suc v → i < n → get_or (store_offers v n price offer l).price (q * n + i) 0 ≡ price q i
  unfolding store_offers
  prices_stored price offer q i h k = get_d_recell (suc v) n price l.price q i 0 h k

  -- Offers that were stored are read back.
  offers_stored : (price : ℕ → ℕ → ℕ) (offer : ℕ → Offer) → ((i : ℕ) → i < n → price 0 i ≡ (offer i).price) → (i : ℕ) → i < n →
      OfferWords (offer_of (store_offers v n price offer l) i) (offer i)
  unfolding store_offers
  offers_stored price offer first i h =
      record {
        price = ap (λ (p : ℕ). get_or (recell (suc v) n price l.price) p 0) (omega arith) ∙ get_d_recell (suc v) n price l.price 0 i 0 (omega arith) h ∙ first i h;
        owner = get_d_overwrite _ _ _ i 0 h;
        code = code-stored _ _ _ i h;
        issuer = get_d_overwrite _ _ _ i 0 h;
      }

  -- Offers with the same words are stored alike.
  offers_same : (a b : ℕ → ℕ → ℕ) (p q : ℕ → Offer) → ((x i : ℕ) → x < suc v → i < n → a x i ≡ b x i) → ((i : ℕ) → i < n → OfferWords (p i) (q i)) →
      store_offers v n a p l ≡ store_offers v n b q l
  unfolding store_offers
  offers_same a b p q same w =
      let e₀ = recell_as (suc v) (suc v) n a b l.price refl same in
      let e₁ = overwrite_cong n (λ i. (p i).owner) (λ i. (q i).owner) l.owner (λ i h. (w i h).owner) in
      let e₂ = codes_same n (λ i. (p i).code) (λ i. (q i).code) l.code (λ i h. (w i h).code) in
      let e₃ = overwrite_cong n (λ i. (p i).issuer) (λ i. (q i).issuer) l.issuer (λ i h. (w i h).issuer) in
      λ i. record { price = e₀ i; owner = e₁ i; code = e₂ i; issuer = e₃ i }

  -- Their tables are long enough for them,
  offers_long : (price : ℕ → ℕ → ℕ) (offer : ℕ → Offer) → LongOffers v n (store_offers v n price offer l)
  unfolding store_offers store_codes recell
  offers_long price offer =
      record {
        price = omega (arith, mul_comm n (suc v), long_overwrite (suc v * n) (λ i. price (i / n) (i % n)) l.price);
        owner = long_overwrite _ _ l.owner;
        code = long_overwrite _ _ l.code;
        issuer = long_overwrite _ _ l.issuer;
      }

  -- and stored where they were read, they change no word.
  offers_own : (price : ℕ → ℕ → ℕ) → ((q i : ℕ) → q < suc v → i < n → price q i ≡ get_or l.price (q * n + i) 0) → LongOffers v n l →
      store_offers v n price (offer_of l) l ≡ l
  unfolding store_offers
  offers_own price same h =
      let e₀ = recell_same (suc v) n price l.price 0 (omega (arith, mul_comm n (suc v), h.price)) same in
      let e₁ = overwrite_same n (λ i. get_or l.owner i 0) l.owner 0 h.owner (λ i q. refl) in
      let e₂ = codes_own n l.code h.code in
      let e₃ = overwrite_same n (λ i. get_or l.issuer i 0) l.issuer 0 h.issuer (λ i q. refl) in
      λ i. record { price = e₀ i; owner = e₁ i; code = e₂ i; issuer = e₃ i }

  -- No table of theirs is short,
  long_offers : short_offers v n l ≡ false → LongOffers v n l
  unfolding short_offers
  long_offers e =
      let r = none_of (ltb (length l.price) (n * suc v) ∷ ltb (length l.owner) n ∷ ltb (length l.code) (n * 11) ∷ ltb (length l.issuer) n ∷ []) e in
      record { price = ltb-false _ _ r.0; owner = ltb-false _ _ r.1.0; code = ltb-false _ _ r.1.1.0; issuer = ltb-false _ _ r.1.1.1.0 }

  -- and the other way round.
  pub enough_offers : LongOffers v n l → short_offers v n l ≡ false
  unfolding short_offers
  enough_offers h = rw (le-ltb _ _ h.price, le-ltb _ _ h.owner, le-ltb _ _ h.code, le-ltb _ _ h.issuer)

-- The same of tallies.
module _ (t : ℕ) (l : TallyTables) where
  pub tallies-stored : (tally : ℕ → Tally) (i : ℕ) → i < t → TallyWords (tally_of (store_tallies t tally l) i) (tally i)
  unfolding store_tallies
  tallies-stored tally i h =
      record {
        grocer = get_d_overwrite _ _ _ i 0 h;
        box = get_d_overwrite _ _ _ i 0 h;
        code = code-stored _ _ _ i h;
        count = get_d_overwrite _ _ _ i (pos 0) h;
        issuer = get_d_overwrite _ _ _ i 0 h;
        bag = get_d_overwrite _ _ _ i 0 h;
        revision = get_d_overwrite _ _ _ i 0 h;
      }

  pub tallies_same : (p q : ℕ → Tally) → ((i : ℕ) → i < t → TallyWords (p i) (q i)) → store_tallies t p l ≡ store_tallies t q l
  unfolding store_tallies
  tallies_same p q w =
      let e₀ = overwrite_cong t (λ i. (p i).grocer) (λ i. (q i).grocer) l.grocer (λ i h. (w i h).grocer) in
      let e₁ = overwrite_cong t (λ i. (p i).box) (λ i. (q i).box) l.box (λ i h. (w i h).box) in
      let e₂ = codes_same t (λ i. (p i).code) (λ i. (q i).code) l.code (λ i h. (w i h).code) in
      let e₃ = overwrite_cong t (λ i. (p i).count) (λ i. (q i).count) l.count (λ i h. (w i h).count) in
      let e₄ = overwrite_cong t (λ i. (p i).issuer) (λ i. (q i).issuer) l.issuer (λ i h. (w i h).issuer) in
      let e₅ = overwrite_cong t (λ i. (p i).bag) (λ i. (q i).bag) l.bag (λ i h. (w i h).bag) in
      let e₆ = overwrite_cong t (λ i. (p i).revision) (λ i. (q i).revision) l.revision (λ i h. (w i h).revision) in
      λ i. record { grocer = e₀ i; box = e₁ i; code = e₂ i; count = e₃ i; issuer = e₄ i; bag = e₅ i; revision = e₆ i }

  tallies_long : (tally : ℕ → Tally) → LongTallies t (store_tallies t tally l)
  unfolding store_tallies store_codes recell
  tallies_long tally =
      record {
        grocer = long_overwrite _ _ l.grocer;
        box = long_overwrite _ _ l.box;
        code = long_overwrite _ _ l.code;
        count = long_overwrite _ _ l.count;
        issuer = long_overwrite _ _ l.issuer;
        bag = long_overwrite _ _ l.bag;
        revision = long_overwrite _ _ l.revision;
      }

  pub tallies_own : LongTallies t l → store_tallies t (tally_of l) l ≡ l
  unfolding store_tallies
  tallies_own h =
      let e₀ = overwrite_same t (λ i. get_or l.grocer i 0) l.grocer 0 h.grocer (λ i q. refl) in
      let e₁ = overwrite_same t (λ i. get_or l.box i 0) l.box 0 h.box (λ i q. refl) in
      let e₂ = codes_own t l.code h.code in
      let e₃ = overwrite_same t (λ i. get_or l.count i (pos 0)) l.count (pos 0) h.count (λ i q. refl) in
      let e₄ = overwrite_same t (λ i. get_or l.issuer i 0) l.issuer 0 h.issuer (λ i q. refl) in
      let e₅ = overwrite_same t (λ i. get_or l.bag i 0) l.bag 0 h.bag (λ i q. refl) in
      let e₆ = overwrite_same t (λ i. get_or l.revision i 0) l.revision 0 h.revision (λ i q. refl) in
      λ i. record { grocer = e₀ i; box = e₁ i; code = e₂ i; count = e₃ i; issuer = e₄ i; bag = e₅ i; revision = e₆ i }

  pub long_tallies : short_tallies t l ≡ false → LongTallies t l
  unfolding short_tallies
  long_tallies e =
      let r =
      none_of (
      ltb (length l.grocer) t ∷ ltb (length l.box) t ∷ ltb (length l.code) (t * 11) ∷ ltb (length l.count) t ∷ ltb (length l.issuer) t ∷
      ltb (length l.bag) t ∷ ltb (length l.revision) t ∷ []) e in
      record {
        grocer = ltb-false _ _ r.0;
        box = ltb-false _ _ r.1.0;
        code = ltb-false _ _ r.1.1.0;
        count = ltb-false _ _ r.1.1.1.0;
        issuer = ltb-false _ _ r.1.1.1.1.0;
        bag = ltb-false _ _ r.1.1.1.1.1.0;
        revision = ltb-false _ _ r.1.1.1.1.1.1.0;
      }

  pub enough_tallies : LongTallies t l → short_tallies t l ≡ false
  unfolding short_tallies
  enough_tallies h =
      rw (le-ltb _ _ h.grocer, le-ltb _ _ h.box, le-ltb _ _ h.code, le-ltb _ _ h.count, le-ltb _ _ h.issuer, le-ltb _ _ h.bag, le-ltb _ _ h.revision)

module _ (j : FileJob) (l : FileTables) where
  -- The job that tables hold once a job is stored there is that job, digits as written.
  pub store_job : SameWords (file_job_of j.head (store j l)) j
  unfolding file_job_of store price_on
  store_job =
      record {
        head = refl;
        offer = offers_stored j.head.lists j.head.offers l.offers (price_on j.offer j.list_price) j.offer (λ i h. refl);
        grocer_owner = λ i h. get_d_overwrite _ _ _ i 0 h;
        list_price = λ q i m h. prices_stored j.head.lists j.head.offers l.offers (price_on j.offer j.list_price) j.offer (suc q) i (omega arith) h;
        tally = tallies-stored _ l.tallies j.tally;
      }

module _ (a b : FileJob) (s : SameWords a b) where
  pub price_same : (q i : ℕ) → q < suc b.head.lists → i < b.head.offers → price_on a.offer a.list_price q i ≡ price_on b.offer b.list_price q i
  unfolding price_on
  price_same zero i m h = (s.offer i h).price
  price_same (suc q) i m h = s.list_price q i (omega arith) h

  -- Jobs with the same words: the same tables come of both,
  pub store_same : (l : FileTables) → store a l ≡ store b l
  unfolding store
  store_same l =
      let e₀ = offers_same b.head.lists b.head.offers l.offers (price_on a.offer a.list_price) (price_on b.offer b.list_price) a.offer b.offer price_same s.offer in
      let e₁ = overwrite_cong b.head.grocers a.grocer_owner b.grocer_owner l.grocer_owner s.grocer_owner in
      let e₂ = tallies_same b.head.tallies l.tallies a.tally b.tally s.tally in
      rw s.head (λ i. record { offers = e₀ i; grocer_owner = e₁ i; tallies = e₂ i })

  -- the places too.
  pub store_read_same : job_refusal b ≡ 0 → (l : ReaderTables) → store_read a l ≡ store_read b l
  unfolding store_read
  store_read_same ok l =
      let e₀ = store_same l.job in
      let e₁ = overwrite_as a.head.tallies b.head.tallies (place_of a) (place_of b) l.tally_offer (ap (λ (h : Head). h.tallies) s.head) (place_same a b s ok) in
      λ i. record { job = e₀ i; tally_offer = e₁ i }

-- ---- what the calls give, by their refusal

module _ (f : List ℕ) (l : ReaderTables) where
  -- No refusal: the sizes, and the job stored.
  pub read_accepted : read_refusal f l ≡ 0 → read_result f l ≡ record { answer = sizes (decode f).head; tables = store_read (decode f) l }
  unfolding read_result
  read_accepted e = rw e

  -- A refusal: its number, and every word as it was.
  pub read_refused : (read_refusal f l ≡ 0 → ⊥) → read_result f l ≡ record { answer = refused (read_refusal f l); tables = l }
  unfolding read_result
  read_refused n = rw (ne_eqb (read_refusal f l) 0 n)

  -- An answer with sizes is no refusal, and the sizes are the file's.
  pub read_sizes : (h : Head) → (read_result f l).answer ≡ sizes h → (read_refusal f l ≡ 0) × ((decode f).head ≡ h)
  read_sizes h a =
      elim (ℕ_discrete (read_refusal f l) 0) [
        | yes e ↦ let q = rw (read_accepted e) at a in (e, cc)
        | no d ↦ let q = rw (read_refused d) at a in let z : ◌≡◌ {A = ℕ} 0 1 = cc in absurd (omega arith)
      ]

module _ (h : Head) (l : FileTables) (out : List ℕ) where
  -- No refusal: the file's length, and the file in front of the rest.
  pub write_accepted : write_refusal h l out ≡ 0 →
      write_result h l out ≡ record { answer = wrote (length (encode (file_job_of h l))); out = encode (file_job_of h l) ++ drop (length (encode (file_job_of h l))) out }
  unfolding write_result
  write_accepted e = rw e

  -- A refusal: its number, and the buffer as it was.
  pub write_refused : (write_refusal h l out ≡ 0 → ⊥) → write_result h l out ≡ record { answer = not_written (write_refusal h l out); out = out }
  unfolding write_result
  write_refused e = rw (ne_eqb (write_refusal h l out) 0 e)

-- ---- lengths

module _ (h : Head) (l : FileTables) where
  -- No table is short.
  pub long_tables : short_tables h l ≡ false → Long h l
  unfolding short_tables
  long_tables e =
      let r = none_of (short_offers h.lists h.offers l.offers ∷ ltb (length l.grocer_owner) h.grocers ∷ short_tallies h.tallies l.tallies ∷ []) e in
      record { offers = long_offers _ _ _ r.0; grocer_owner = ltb-false _ _ r.1.0; tallies = long_tallies _ _ r.1.1.0 }

  -- And the other way round.
  pub tables_long : Long h l → short_tables h l ≡ false
  unfolding short_tables
  tables_long e = rw (enough_offers _ _ _ e.offers, le-ltb _ _ e.grocer_owner, enough_tallies _ _ e.tallies)

-- Tables that a job was stored into are long enough for it.
stored_long : (j : FileJob) (l : FileTables) → Long j.head (store j l)
unfolding store
stored_long j l =
    record { offers = offers_long _ _ l.offers (price_on j.offer j.list_price) j.offer; grocer_owner = long_overwrite _ _ l.grocer_owner; tallies = tallies_long _ l.tallies j.tally }

-- Tables that are long enough stay as they are where the job that they hold is stored into them.
own_prices_lem : (h : Head) (l : FileTables) (q i : ℕ) → price_on (file_job_of h l).offer (file_job_of h l).list_price q i ≡ get_or l.offers.price (q * h.offers + i) 0
unfolding price_on file_job_of
own_prices_lem h l zero i = ap (λ (p : ℕ). get_or l.offers.price p 0) (omega arith)
own_prices_lem h l (suc q) i = refl

pub store_own : (h : Head) (l : FileTables) → Long h l → store (file_job_of h l) l ≡ l
unfolding store file_job_of
store_own h l e =
    let e₀ = offers_own h.lists h.offers l.offers (price_on (file_job_of h l).offer (file_job_of h l).list_price) (λ q i m k. own_prices_lem h l q i) e.offers in
    let e₁ = overwrite_same h.grocers (λ i. get_or l.grocer_owner i 0) l.grocer_owner 0 e.grocer_owner (λ i q. refl) in
    let e₂ = tallies_own h.tallies l.tallies e.tallies in
    λ i. record { offers = e₀ i; grocer_owner = e₁ i; tallies = e₂ i }

-- ---- reading what was written

-- Where no table and no buffer is short the job's refusal is the writer's.
job_written : (h : Head) (l : FileTables) (out : List ℕ) → short_tables h l ≡ false → 512 * block_count h ≤ length out → job_refusal (file_job_of h l) ≡ 0 → write_refusal h l out ≡ 0
unfolding short_writer
job_written h l out s r e = writer_job h l out (rw (s, le-ltb (length out) (512 * block_count h) r)) ∙ e

-- A writer that wrote was lent no short table.
writer_long : (h : Head) (l : FileTables) (out : List ℕ) → write_refusal h l out ≡ 0 → short_tables h l ≡ false
unfolding write_refusal short_writer
writer_long h l out ok = (or_off (short_tables h l) (ltb (length out) (512 * block_count h)) (unmet _ refl (each _ ok 0)).0).0

module _ (h : Head) (l : FileTables) (out : List ℕ) (ok : write_refusal h l out ≡ 0) where
  written_job : job_refusal (file_job_of h l) ≡ 0
  unfolding write_refusal
  written_job = each _ ok 1

  -- The writer's file is the front of its buffer.
  pub written_file : take (length (encode (file_job_of h l))) (write_result h l out).out ≡ encode (file_job_of h l)
  written_file = rw (write_accepted h l out ok) (take_at _ _ _ refl)

  -- Its length is the one that the writer answers,
  pub buffer_file : take (512 * block_count h) (write_result h l out).out ≡ encode (file_job_of h l)
  unfolding file_job_of
  buffer_file = ap (λ (x : ℕ). take x (write_result h l out).out) (sym (long_is (file_job_of h l) written_job)) ∙ written_file

  -- and each of its words is a byte, where the cycle and the issuers are 16-bit numbers.
  pub written_bytes_lem : Words16 (file_job_of h l) → (p : ℕ) → get_or (take (512 * block_count h) (write_result h l out).out) p 0 < 256
  unfolding file_job_of
  written_bytes_lem c p = rw buffer_file (encode-small (file_job_of h l) written_job c p)

  -- The reader accepts the writer's file, answers the writer's K, M, N and T with its cycle, and writes the writer's words, with each tally's place.
  pub read_written : (r : ReaderTables) → short_reader r ≡ false → read_result (encode (file_job_of h l)) r ≡ record { answer = sizes h; tables = store_read (file_job_of h l) r }
  unfolding file_job_of
  read_written r s =
      let j = file_job_of h l in
      let b = read_back j written_job in
      let z = b.head in
      let e = store_read_same (decode (encode j)) j b written_job r in
      read_accepted (encode j) r (reader_file (encode j) r s ∙ written_accepted j written_job)
      ∙ (λ i. record { answer = sizes (z i); tables = e i })

  -- The same of the writer's buffer itself, as far as its answer says.
  pub read_buffer : (r : ReaderTables) → short_reader r ≡ false →
      read_result (take (512 * block_count h) (write_result h l out).out) r ≡ record { answer = sizes h; tables = store_read (file_job_of h l) r }
  read_buffer r s = ap (λ (f : List ℕ). read_result f r) buffer_file ∙ read_written r s

-- Read back into the tables that were written from, no word of theirs changes.
pub read_own_lem : (h : Head) (r : ReaderTables) (out : List ℕ) → write_refusal h r.job out ≡ 0 → short_reader r ≡ false →
    read_result (encode (file_job_of h r.job)) r ≡
    record { answer = sizes h; tables = record { job = r.job; tally_offer = overwrite h.tallies (place_of (file_job_of h r.job)) r.tally_offer } }
unfolding store_read file_job_of
read_own_lem h r out ok s =
    let e = store_own h r.job (long_tables h r.job (writer_long h r.job out ok)) in
    read_written h r.job out ok r s
    ∙ (λ i. record { answer = sizes h; tables = record { job = e i; tally_offer = overwrite h.tallies (place_of (file_job_of h r.job)) r.tally_offer } })

-- ---- writing what was read

module _ (f : List ℕ) (l : ReaderTables) (ok : read_refusal f l ≡ 0) where
  pub read_file : file_refusal f ≡ 0
  unfolding read_refusal
  read_file = each _ ok 1

  -- The tables that the reader filled hold the file's job, which the writer takes, and which is in range.
  pub read_job : SameWords (file_job_of (decode f).head (read_result f l).tables.job) (decode f)
  unfolding store_read
  read_job = rw (read_accepted f l ok) (store_job (decode f) l.job)

  -- The writer takes the job that the tables hold.
  pub read_writable : job_refusal (file_job_of (decode f).head (read_result f l).tables.job) ≡ 0
  read_writable = same_fine _ (decode f) read_job (job_accepted f read_file)

  -- It is in range.
  pub read_range : InRange (file_job_of (decode f).head (read_result f l).tables.job)
  read_range = in_range_lem _ read_writable

  -- Beside the digits, the place of each tally's offer.
  pub read_place : (t : ℕ) → t < (decode f).head.tallies → get_or (read_result f l).tables.tally_offer t 0 ≡ place_of (file_job_of (decode f).head (read_result f l).tables.job) t
  unfolding store_read
  read_place t h =
      ap (λ (o : ReadOutcome). get_or o.tables.tally_offer t 0) (read_accepted f l ok)
      ∙ get_d_overwrite (decode f).head.tallies (place_of (decode f)) l.tally_offer t 0 h
      ∙ sym (place_same _ (decode f) read_job (job_accepted f read_file) t h)

  pub read_long : short_tables (decode f).head (read_result f l).tables.job ≡ false
  unfolding store_read
  read_long = rw (read_accepted f l ok) (tables_long _ _ (stored_long (decode f) l.job))

  -- The writer gives back the file, byte for byte, in front of the rest of its buffer.
  pub write_read_lem : ((p : ℕ) → get_or f p 0 < 256) → (out : List ℕ) → length f ≤ length out →
      write_result (decode f).head (read_result f l).tables.job out ≡
      record { answer = wrote (length f); out = f ++ drop (length f) out }
  write_read_lem bytes out room =
      let h = (decode f).head in
      let w = (read_result f l).tables.job in
      let e : encode (file_job_of h w) ≡ f = encode_same _ (decode f) read_job ∙ accepted f bytes read_file in
      let r : 512 * block_count h ≤ length out = omega (arith, long f read_file) in
      write_accepted h w out (job_written h w out read_long r read_writable)
      ∙ ap (λ (x : List ℕ). record { answer = wrote (length x); out = x ++ drop (length x) out }) e
