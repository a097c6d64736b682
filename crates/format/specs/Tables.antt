-- The lent tables of the reader and of the writer, and what each call gives: answer and tables, for every input.
use Rattle.std.specs.Prelude.{Bool, cond, ◌||◌, List, [], ◌∷◌, ◌++◌, ℕ, suc, ◌+◌, ◌*◌, ◌≤◌, ltb, eqb, ℤ, pos, get_or, length, drop}
use Rattle.laws.specs.Checks.{any_of, first_met}
use Rattle.laws.specs.Tables.{overwrite, recell}
use Rattle.laws.specs.Lists.{list_words}
use Rattle.laws.specs.Limits.{max_boxes, max_grocers, max_offers, max_tallies, max_lists}
use Rattle.format.specs.First.{first_of}
use Rattle.format.specs.Bytes.{from}
use Rattle.format.specs.Codes.{Code, Name, name_of, read_code, code_bytes}
use Rattle.format.specs.Job.{Head, head_of, FileJob, Offer, Tally, price_on, place_of}
use Rattle.format.specs.Blocks.{block_count}
use Rattle.format.specs.File.{encode, decode}
use Rattle.format.specs.Refusals.{file_refusal, job_refusal}

-- The offers' tables: prices list after list, N words each; a code takes eleven bytes, as in the file.
pub record OfferTables : Type 0 where
  pub price : List ℕ
  pub owner : List ℕ
  pub code : List ℕ
  pub issuer : List ℕ

-- The tallies' tables.
pub record TallyTables : Type 0 where
  pub grocer : List ℕ
  pub box : List ℕ
  pub code : List ℕ
  pub count : List ℤ
  pub issuer : List ℕ
  pub bag : List ℕ
  pub revision : List ℕ

-- The job's tables with its codes.
pub record FileTables : Type 0 where
  pub offers : OfferTables
  pub grocer_owner : List ℕ
  pub tallies : TallyTables

-- What the reader is lent: these tables, and one for "the place of its offer as the reader found it".
pub record ReaderTables : Type 0 where
  pub job : FileTables
  pub tally_offer : List ℕ

-- The offers' lent lists as tables.
abbrev pub offer_tables : (price owner code issuer : List ℕ) → OfferTables
offer_tables p o c i = record { price = p; owner = o; code = c; issuer = i }

-- The tallies' lent lists as tables.
abbrev pub tally_tables : (grocer box code : List ℕ) → (count : List ℤ) → (issuer bag revision : List ℕ) → TallyTables
tally_tables g b c n i s r = record { grocer = g; box = b; code = c; count = n; issuer = i; bag = s; revision = r }

-- The lent lists as tables.
abbrev pub file_tables : OfferTables → (grocer_owner : List ℕ) → TallyTables → FileTables
file_tables o g t = record { offers = o; grocer_owner = g; tallies = t }

-- The reader's lent lists as tables.
abbrev pub reader_tables : FileTables → (tally_offer : List ℕ) → ReaderTables
reader_tables j p = record { job = j; tally_offer = p }

-- 20 of the tables of n offers, with additional price lists: one is shorter than they need.
unfoldable pub short_offers : (lists n : ℕ) → OfferTables → Bool
short_offers q n l =
    any_of (
    ltb (length l.price) (list_words q n) ∷ ltb (length l.owner) n ∷ ltb (length l.code) (n * 11) ∷ ltb (length l.issuer) n ∷ [])

-- 20 of the tables of t tallies.
unfoldable pub short_tallies : ℕ → TallyTables → Bool
short_tallies t l =
    any_of (
    ltb (length l.grocer) t ∷ ltb (length l.box) t ∷ ltb (length l.code) (t * 11) ∷
    ltb (length l.count) t ∷ ltb (length l.issuer) t ∷ ltb (length l.bag) t ∷ ltb (length l.revision) t ∷ [])

-- 20: a table "shorter than K, M, N and T as given need", "The number of lists joins K, M, N and T" (02 §9).
unfoldable pub short_tables : Head → FileTables → Bool
short_tables h l =
    any_of (
    short_offers h.lists h.offers l.offers ∷ ltb (length l.grocer_owner) h.grocers ∷ short_tallies h.tallies l.tallies ∷ [])

-- Each of the offers' tables has the words that n offers with additional price lists need.
pub record LongOffers (q n : ℕ) (l : OfferTables) : Type 0 where
  pub price : list_words q n ≤ length l.price
  pub owner : n ≤ length l.owner
  pub code : n * 11 ≤ length l.code
  pub issuer : n ≤ length l.issuer

-- Each of the tallies' tables has the words that t tallies need.
pub record LongTallies (t : ℕ) (l : TallyTables) : Type 0 where
  pub grocer : t ≤ length l.grocer
  pub box : t ≤ length l.box
  pub code : t * 11 ≤ length l.code
  pub count : t ≤ length l.count
  pub issuer : t ≤ length l.issuer
  pub bag : t ≤ length l.bag
  pub revision : t ≤ length l.revision

-- Each table has the words that K, M, N and T need.
pub record Long (h : Head) (l : FileTables) : Type 0 where
  pub offers : LongOffers h.lists h.offers l.offers
  pub grocer_owner : h.grocers ≤ length l.grocer_owner
  pub tallies : LongTallies h.tallies l.tallies

-- Code i of a table of eleven bytes each.
abbrev pub code_of : List ℕ → ℕ → Code
code_of l i = read_code (from l (i * 11))

-- Name i of a table of codes and one of issuers.
abbrev pub name_in : (code issuer : List ℕ) → ℕ → Name
name_in c s i = name_of (get_or s i 0) (code_of c i)

-- Offer i of the offers' tables.
abbrev pub offer_of : OfferTables → ℕ → Offer
offer_of l i =
    record { price = get_or l.price i 0; owner = get_or l.owner i 0; code = code_of l.code i; issuer = get_or l.issuer i 0 }

-- Tally i of the tallies' tables.
abbrev pub tally_of : TallyTables → ℕ → Tally
tally_of l i =
    record {
      grocer = get_or l.grocer i 0;
      box = get_or l.box i 0;
      code = code_of l.code i;
      count = get_or l.count i (pos 0);
      issuer = get_or l.issuer i 0;
      bag = get_or l.bag i 0;
      revision = get_or l.revision i 0;
    }

-- The job that tables hold, for K, M, N and T as given: digits as written, "and not the place".
unfoldable pub file_job_of : Head → FileTables → FileJob
file_job_of h l =
    record {
      head = h;
      offer = offer_of l.offers;
      grocer_owner = λ i. get_or l.grocer_owner i 0;
      list_price = λ q i. get_or l.offers.price (suc q * h.offers + i) 0;
      tally = tally_of l.tallies;
    }

-- n codes written into a table of eleven bytes each.
unfoldable pub store_codes : ℕ → (ℕ → Code) → List ℕ → List ℕ
store_codes n code l = recell n 11 (λ i p. get_or (code_bytes (code i)) p 0) l

-- n offers written into their tables, with the prices of all lists, list after list.
unfoldable pub store_offers : (lists n : ℕ) → (ℕ → ℕ → ℕ) → (ℕ → Offer) → OfferTables → OfferTables
store_offers q n price offer l =
    record {
      price = recell (suc q) n price l.price;
      owner = overwrite n (λ i. (offer i).owner) l.owner;
      code = store_codes n (λ i. (offer i).code) l.code;
      issuer = overwrite n (λ i. (offer i).issuer) l.issuer;
    }

-- t tallies written into their tables.
unfoldable pub store_tallies : ℕ → (ℕ → Tally) → TallyTables → TallyTables
store_tallies t tally l =
    record {
      grocer = overwrite t (λ i. (tally i).grocer) l.grocer;
      box = overwrite t (λ i. (tally i).box) l.box;
      code = store_codes t (λ i. (tally i).code) l.code;
      count = overwrite t (λ i. (tally i).count) l.count;
      issuer = overwrite t (λ i. (tally i).issuer) l.issuer;
      bag = overwrite t (λ i. (tally i).bag) l.bag;
      revision = overwrite t (λ i. (tally i).revision) l.revision;
    }

-- A job written into tables; "Words past the needed length are not touched."
unfoldable pub store : FileJob → FileTables → FileTables
store j l =
    record {
      offers = store_offers j.head.lists j.head.offers (price_on j.offer j.list_price) j.offer l.offers;
      grocer_owner = overwrite j.head.grocers j.grocer_owner l.grocer_owner;
      tallies = store_tallies j.head.tallies j.tally l.tallies;
    }

-- The reader's tables once it has accepted a job: its words, and for each tally the place of its offer.
unfoldable pub store_read : FileJob → ReaderTables → ReaderTables
store_read j l = record { job = store j l.job; tally_offer = overwrite j.head.tallies (place_of j) l.tally_offer }

-- What the reader answers: K, M, N and T with the cycle and the number of additional lists, or a refusal's number.
pub data ReadAnswer : Type 0 where
  sizes : (head : Head) → ReadAnswer
  refused : (number : ℕ) → ReadAnswer

-- The reader's answer with its tables as they are afterwards.
pub record ReadOutcome : Type 0 where
  pub answer : ReadAnswer
  pub tables : ReaderTables

-- The head of the largest job: 16 boxes, 255 grocers, 500 offers, 1,000 tallies and 7 additional lists. No table goes by the cycle.
abbrev pub largest : Head
largest = head_of max_boxes max_grocers max_offers max_tallies 0 max_lists

-- 20 of the reader: a table "shorter than the largest job needs".
unfoldable pub short_reader : ReaderTables → Bool
short_reader l = short_tables largest l.job || ltb (length l.tally_offer) max_tallies

-- The reader's refusal: 20 before the file is looked at, then the file's.
unfoldable pub read_refusal : List ℕ → ReaderTables → ℕ
read_refusal f l = first_of (first_met ((short_reader l, 20) ∷ []) ∷ file_refusal f ∷ [])

-- What the reader gives: a refusal leaves every word as it was.
unfoldable pub read_result : List ℕ → ReaderTables → ReadOutcome
read_result f l =
    let j = decode f in
    let r = read_refusal f l in
    cond (eqb r 0)
    (record { answer = sizes j.head; tables = store_read j l })
    (record { answer = refused r; tables = l })

-- What the writer answers: the file's length, or a refusal's number.
pub data WriteAnswer : Type 0 where
  wrote : (bytes : ℕ) → WriteAnswer
  not_written : (number : ℕ) → WriteAnswer

-- The writer's answer with the buffer for the file as it is afterwards.
pub record WriteOutcome : Type 0 where
  pub answer : WriteAnswer
  pub out : List ℕ

-- 20 of the writer: a table, or the buffer for the file, shorter than K, M, N and T as given need.
unfoldable pub short_writer : Head → FileTables → List ℕ → Bool
short_writer h l out = short_tables h l || ltb (length out) (512 * block_count h)

-- The writer's refusal: 20, then the job's.
unfoldable pub write_refusal : Head → FileTables → List ℕ → ℕ
write_refusal h l out = first_of (first_met ((short_writer h l out, 20) ∷ []) ∷ job_refusal (file_job_of h l) ∷ [])

-- What the writer gives: the file in front of the rest of the buffer, or the buffer as it was.
unfoldable pub write_result : Head → FileTables → List ℕ → WriteOutcome
write_result h l out =
    let file = encode (file_job_of h l) in
    let r = write_refusal h l out in
    cond (eqb r 0)
    (record { answer = wrote (length file); out = file ++ drop (length file) out })
    (record { answer = not_written r; out = out })
