-- The file of a job that the writer takes is accepted, and says that job. Assumes nothing.
use mathlib.Core.Path.{◌≡◌, refl, sym, ◌∙◌, ap}
use mathlib.Core.Bool.{false, not, ◌&&◌}
use mathlib.Core.List.{List, [], ◌∷◌, ◌++◌}
use Prim.Native.Nat.{ℕ, ◌+◌, ◌*◌, ◌-◌, ◌/◌, ◌%◌, ◌≤◌, ◌<◌}
use native.Mathlib.Omega.{arith}
use native.Mathlib.Nat.{mul-le-mul}
use lib.Dec.{eqb}
use lib.ListN.{get_or, length, length-append, get_or-append}
use lib.Seq.{get_or-append-add}
use lib.Arith.{digits_div, digits_mod}
use mir.Syntax.{w32}
use mir.Val.{of_z}
use borrow.Author.Tests.{lt-ltb, le-ltb, lt-leb, eq-eqb, ne_eqb}
use Rattle.laws.specs.Tables.{tabulate}
use Rattle.laws.proofs.Bools.{split}
use Rattle.laws.proofs.Signed.{read32_abs}
use Rattle.laws.proofs.Tables.{get_d_tabulate, length_tabulate}
use Rattle.laws.proofs.Checks.{none_met}
use Rattle.laws.proofs.Below.{any_false}
use Rattle.format.specs.First.{first_below}
use Rattle.format.specs.Bytes.{from, after, word16, word32, bytes16, bytes32}
use Rattle.format.specs.Codes.{code_bytes}
use Rattle.format.specs.Job.{Head, FileJob, Offer, Tally}
use Rattle.format.specs.Blocks.{BlockKind, header, offer_block, grocer_block, price_block, tally_block, list_blocks, block_count, blocks}
use Rattle.format.specs.Blocks.{offers_at, grocers_at, prices_at, tallies_at, kind_at, block_kind_number, records, record_size, list_at}
use Rattle.format.specs.Blocks.{field_size, header_bytes, offer_bytes, tally_bytes, record_bytes, spare, first_sum, second_sum}
use Rattle.format.specs.File.{record_byte, body_byte, block_byte, encode, read_offer, read_tally, record_at, price_at, read_head, decode}
use Rattle.format.specs.Refusals.{bad_length, bad_count, sums_differ, not_due, bad_header, spare_used, bad_record, header_refusal, block_refusal, file_refusal, job_refusal}
use Rattle.format.proofs.Firsts.{below_none}
use Rattle.format.proofs.Order.{file_accepted}
use Rattle.format.proofs.Words.{word_bytes16, word_bytes32, first_cong, second_cong}
use Rattle.format.proofs.Plan.{At, at_prices, kind_at_lem, kind_header, kind_offers, kind_grocers, kind_prices, prices_in, kind_tallies, list_few}
use Rattle.format.proofs.Range.{Fine, fine, in_range_lem}
use Rattle.format.specs.Same.{OfferWords, TallyWords, SameWords}
use Rattle.format.proofs.Same.{same_fine}

-- A record's fields are within the record.
pub fields_fit : (b : BlockKind) → field_size b ≤ record_size b
fields_fit header = omega arith
fields_fit (offer_block b) = omega arith
fields_fit grocer_block = omega arith
fields_fit (price_block q b) = omega arith
fields_fit (tally_block b) = omega arith

-- A byte of a record's field is not spare.
not_spare : (h : Head) (b : BlockKind) (r c : ℕ) → r < records h b → c < field_size b → spare h b (r * record_size b + c) ≡ false
unfolding spare
not_spare h b r c hr hc =
    let l : c < record_size b = omega (arith, fields_fit b) in
    rw (digits_div r l, digits_mod r l, lt-leb (records h b) r hr, lt-leb (field_size b) c hc)

-- ---- a job's file, byte by byte

module _ (j : FileJob) where
  -- A byte of block k,
  pub block_at : (k q : ℕ) → k < blocks j → q < 512 → from (encode j) (512 * k) q ≡ block_byte (body_byte j k) q
  unfolding encode
  block_at k q hk hq =
      let d : (512 * k + q) / 512 ≡ k = omega arith in
      let r : (512 * k + q) % 512 ≡ q = omega arith in
      get_d_tabulate _ _ (512 * k + q) 0 (omega arith) ∙ rw (d, r)

  -- before the sums,
  pub body_at : (k q : ℕ) → k < blocks j → q < 508 → from (encode j) (512 * k) q ≡ body_byte j k q
  unfolding block_byte
  body_at k q hk hq = block_at k q hk (omega arith) ∙ rw (lt-ltb q 508 hq)

  -- and among the records.
  pub record_at_lem : (k s : ℕ) → k < blocks j → s < 504 → from (encode j) (512 * k) (4 + s) ≡ record_byte j (kind_at j.head k) s
  unfolding body_byte
  record_at_lem k s hk hs =
      let m : (4 + s) - 4 ≡ s = omega arith in
      body_at k (4 + s) hk (omega arith) ∙ rw (le-ltb (4 + s) 4 (omega arith), m)

  -- Byte c of record r of block k.
  field_at : (k : ℕ) (b : BlockKind) (r c : ℕ) → k < blocks j → kind_at j.head k ≡ b → r < records j.head b → c < field_size b → r * record_size b + c < 504 → from (encode j) (512 * k)
      (4 + (r * record_size b + c)) ≡ get_or (record_bytes j b r) c 0
  unfolding record_byte
  field_at k b r c hk e hr hc h =
      let l : c < record_size b = omega (arith, fields_fit b) in
      record_at_lem k (r * record_size b + c) hk h ∙ rw (e, not_spare j.head b r c hr hc, digits_div r l, digits_mod r l)

  -- The bytes of each kind of record, where the reader looks for them.
  header_at : (c : ℕ) → c < 11 → from (encode j) 4 c ≡ get_or (header_bytes j.head) c 0
  unfolding record_bytes
  header_at c h = ap (λ (p : ℕ). get_or (encode j) p 0) (omega arith) ∙ field_at 0 header 0 c (omega arith) (kind_header j.head) (omega arith) h (omega arith)

  offer_at : (i : ℕ) → i < j.head.offers → (c : ℕ) → c < 18 → from (encode j) (record_at offers_at i) c ≡ get_or (offer_bytes (j.offer i)) c 0
  unfolding record_bytes
  offer_at i hi c hc =
      let e : 21 * (i / 21) + i % 21 ≡ i = omega arith in
      ap (λ (p : ℕ). get_or (encode j) p 0) (omega arith) ∙
      field_at (offers_at + i / 21) (offer_block (i / 21)) (i % 21) c (omega arith) (kind_offers j.head (i / 21) (omega arith)) (omega arith) hc (omega arith) ∙
      ap (λ (n : ℕ). get_or (offer_bytes (j.offer n)) c 0) e

  price_at_lem : (q i : ℕ) → q < j.head.lists → i < j.head.offers → (c : ℕ) → c < 4 → from (encode j) (price_at (list_at j.head q) i) c ≡ get_or (bytes32 (j.list_price q i)) c 0
  unfolding record_bytes
  price_at_lem q i hq hi c hc =
      let e : 126 * (i / 126) + i % 126 ≡ i = omega arith in
      let m : i / 126 < list_blocks j.head.offers = omega arith in
      ap (λ (p : ℕ). get_or (encode j) p 0) (omega arith) ∙
      field_at (prices_at j.head + (q * list_blocks j.head.offers + i / 126)) (price_block q (i / 126)) (i % 126) c (omega (arith, prices_in j.head q (i / 126) hq m))
      (kind_prices j.head q (i / 126) hq m) (omega arith) hc (omega arith) ∙
      ap (λ (n : ℕ). get_or (bytes32 (j.list_price q n)) c 0) e

  tally_at : (i : ℕ) → i < j.head.tallies → (c : ℕ) → c < 24 → from (encode j) (record_at (tallies_at j.head) i) c ≡ get_or (tally_bytes (j.tally i)) c 0
  unfolding record_bytes
  tally_at i hi c hc =
      let e : 21 * (i / 21) + i % 21 ≡ i = omega arith in
      ap (λ (p : ℕ). get_or (encode j) p 0) (omega arith) ∙
      field_at (tallies_at j.head + i / 21) (tally_block (i / 21)) (i % 21) c (omega arith) (kind_tallies j.head (i / 21)) (omega arith) hc (omega arith) ∙
      ap (λ (n : ℕ). get_or (tally_bytes (j.tally n)) c 0) e

  owner_at : j.head.grocers ≤ 255 → (i : ℕ) → i < j.head.grocers → from (encode j) (512 * grocers_at j.head + 4) i ≡ j.grocer_owner i
  unfolding record_bytes
  owner_at m i hi =
      ap (λ (p : ℕ). get_or (encode j) p 0) (omega arith) ∙
      field_at (grocers_at j.head) grocer_block i 0 (omega arith) (kind_grocers j.head) hi (omega arith) (omega arith)

-- The digits of a code within its record's bytes.
offer_digit : (o : Offer) (k : ℕ) → k < 10 → get_or (offer_bytes o) (6 + k) 0 ≡ o.code.digit k
unfolding offer_bytes code_bytes
offer_digit o k l =
    let v = o.price in
    let d = tabulate 10 o.code.digit in
    get_or-append-add (v % 256 ∷ v / 256 % 256 ∷ v / 65536 % 256 ∷ v / 16777216 ∷ o.owner ∷ o.code.size ∷ []) (d ++ bytes16 o.issuer) k 0 ∙
    get_or-append d (bytes16 o.issuer) 0 k (rw length_tabulate l) ∙ get_d_tabulate 10 o.code.digit k 0 l

-- A place of a list is one of the list with more behind it.
longer : (l r : List ℕ) (k : ℕ) → k < length l → k < length (l ++ r)
longer l r k h = rw length-append (omega arith)

tally_digit : (t : Tally) (k : ℕ) → k < 10 → get_or (tally_bytes t) (4 + k) 0 ≡ t.code.digit k
unfolding tally_bytes code_bytes
tally_digit t k l =
    let v = t.grocer in
    let d = tabulate 10 t.code.digit in
    let b = d ++ bytes32 (of_z w32 t.count) in
    let c = b ++ bytes16 t.issuer in
    let e = c ++ bytes16 t.bag in
    let in-d : k < length d = rw length_tabulate l in
    let in_b = longer d (bytes32 (of_z w32 t.count)) k in-d in
    let in_c = longer b (bytes16 t.issuer) k in_b in
    let in_e = longer c (bytes16 t.bag) k in_c in
    get_or-append-add (v % 256 ∷ v / 256 ∷ t.box ∷ t.code.size ∷ []) (e ++ bytes16 t.revision) k 0 ∙
    get_or-append e (bytes16 t.revision) 0 k in_e ∙ get_or-append c (bytes16 t.bag) 0 k in_c ∙
    get_or-append b (bytes16 t.issuer) 0 k in_b ∙ get_or-append d (bytes32 (of_z w32 t.count)) 0 k in-d ∙ get_d_tabulate 10 t.code.digit k 0 l

module _ (j : FileJob) (ok : job_refusal j ≡ 0) where
  size_grocers : word16 (from (encode j) 6) ≡ j.head.grocers
  unfolding header_bytes
  size_grocers = rw (header_at j 2 (omega arith), header_at j 3 (omega arith)) (word_bytes16 j.head.grocers)

  size_offers : word16 (from (encode j) 8) ≡ j.head.offers
  unfolding header_bytes
  size_offers = rw (header_at j 4 (omega arith), header_at j 5 (omega arith)) (word_bytes16 j.head.offers)

  size_tallies : word16 (from (encode j) 10) ≡ j.head.tallies
  unfolding header_bytes
  size_tallies = rw (header_at j 6 (omega arith), header_at j 7 (omega arith)) (word_bytes16 j.head.tallies)

  size_cycle : word16 (from (encode j) 12) ≡ j.head.cycle
  unfolding header_bytes
  size_cycle = rw (header_at j 8 (omega arith), header_at j 9 (omega arith)) (word_bytes16 j.head.cycle)

  offer_read : (i : ℕ) → i < j.head.offers → OfferWords (read_offer (from (encode j) (record_at offers_at i))) (j.offer i)
  unfolding read_offer offer_bytes code_bytes tabulate
  offer_read i h =
      let o = j.offer i in
      let at = offer_at j i h in
      record {
        price = rw (at 0 (omega arith), at 1 (omega arith), at 2 (omega arith), at 3 (omega arith)) (word_bytes32 o.price);
        owner = at 4 (omega arith);
        code = record { size = at 5 (omega arith); digit = λ k l. ap (from (encode j) (record_at offers_at i)) (omega arith) ∙ at (6 + k) (omega arith) ∙ offer_digit o k l };
        issuer = rw (at 16 (omega arith), at 17 (omega arith)) (word_bytes16 o.issuer);
      }

  price_read : (q i : ℕ) → q < j.head.lists → i < j.head.offers → word32 (from (encode j) (price_at (list_at j.head q) i)) ≡ j.list_price q i
  price_read q i hq hi =
      let at = price_at_lem j q i hq hi in
      rw (at 0 (omega arith), at 1 (omega arith), at 2 (omega arith), at 3 (omega arith)) (word_bytes32 (j.list_price q i))

  tally_read : (i : ℕ) → i < j.head.tallies → TallyWords (read_tally (from (encode j) (record_at (tallies_at j.head) i))) (j.tally i)
  unfolding read_tally tally_bytes code_bytes tabulate
  tally_read i h =
      let t = j.tally i in
      let at = tally_at j i h in
      record {
        grocer = rw (at 0 (omega arith), at 1 (omega arith)) (word_bytes16 t.grocer);
        box = at 2 (omega arith);
        code = record { size = at 3 (omega arith); digit = λ k l. ap (from (encode j) (record_at (tallies_at j.head) i)) (omega arith) ∙ at (4 + k) (omega arith) ∙ tally_digit t k l };
        count =
            rw (at 14 (omega arith), at 15 (omega arith), at 16 (omega arith), at 17 (omega arith), word_bytes32 (of_z w32 t.count))
            (read32_abs t.count (let b = ((in_range_lem j ok).tally i h).count in omega arith));
        issuer = rw (at 18 (omega arith), at 19 (omega arith)) (word_bytes16 t.issuer);
        bag = rw (at 20 (omega arith), at 21 (omega arith)) (word_bytes16 t.bag);
        revision = rw (at 22 (omega arith), at 23 (omega arith)) (word_bytes16 t.revision);
      }

  head_read : read_head (encode j) ≡ j.head
  unfolding read_head header_bytes
  head_read =
      let b = header_at j 0 (omega arith) in
      let l = header_at j 10 (omega arith) in
      λ i. record { boxes = b i; grocers = size_grocers i; offers = size_offers i; tallies = size_tallies i; cycle = size_cycle i; lists = l i }

  -- The job that a written job's file says has the job's words, digits as written.
  pub read_back : SameWords (decode (encode j)) j
  unfolding decode
  read_back =
      record {
        head = head_read;
        offer = offer_read;
        grocer_owner = λ i h. rw head_read (owner_at j (in_range_lem j ok).sizes.grocers_most i h);
        list_price = λ q i m h. rw head_read (price_read q i m h);
        tally = λ i h. rw head_read (tally_read i h);
      }

  -- ---- the checks

  first_is : (k : ℕ) → k < blocks j → first_sum (from (encode j) (512 * k)) ≡ word16 (after (from (encode j) (512 * k)) 508)
  unfolding block_byte
  first_is k h =
      rw (block_at j k 508 h (omega arith), block_at j k 509 h (omega arith))
      (first_cong _ (body_byte j k) (λ q l. body_at j k q h l) ∙ sym (word_bytes16 (first_sum (body_byte j k))))

  second_is : (k : ℕ) → k < blocks j → second_sum (from (encode j) (512 * k)) ≡ word16 (after (from (encode j) (512 * k)) 510)
  unfolding block_byte
  second_is k h =
      rw (block_at j k 510 h (omega arith), block_at j k 511 h (omega arith))
      (second_cong _ (body_byte j k) (λ q l. body_at j k q h l) ∙ sym (word_bytes16 (second_sum (body_byte j k))))

  sums_fine : (k : ℕ) → k < blocks j → sums_differ (from (encode j) (512 * k)) ≡ false
  unfolding sums_differ
  sums_fine k h = rw (eq-eqb _ _ (first_is k h), eq-eqb _ _ (second_is k h))

  head_is : (decode (encode j)).head ≡ j.head
  head_is = read_back.head

  due_fine : (k : ℕ) → k < blocks j → not_due (decode (encode j)).head k (from (encode j) (512 * k)) ≡ false
  unfolding not_due body_byte
  due_fine k h = rw (head_is, eq-eqb _ _ kind_due, eq-eqb _ _ number_due, eq-eqb _ _ count_due)
    where
      kind_due : from (encode j) (512 * k) 0 ≡ block_kind_number (kind_at j.head k)
      kind_due = body_at j k 0 h (omega arith)

      number_due : word16 (after (from (encode j) (512 * k)) 2) ≡ k
      number_due = rw (body_at j k 2 h (omega arith), body_at j k 3 h (omega arith)) (word_bytes16 k)

      count_due : from (encode j) (512 * k) 1 ≡ records j.head (kind_at j.head k)
      count_due = body_at j k 1 h (omega arith)

  -- A spare byte is written 0.
  spare_clear : (k s : ℕ) → k < blocks j → s < 504 → (spare j.head (kind_at j.head k) s && not (eqb (from (encode j) (512 * k) (4 + s)) 0)) ≡ false
  unfolding record_byte
  spare_clear k s hk hs =
      split (spare j.head (kind_at j.head k) s)
      (λ e. let z : from (encode j) (512 * k) (4 + s) ≡ 0 = record_at_lem j k s hk hs ∙ rw e in rw (e, z))
      (λ e. rw e)

  spare_fine : (k : ℕ) → k < blocks j → spare_used (decode (encode j)).head k (from (encode j) (512 * k)) ≡ false
  unfolding spare_used
  spare_fine k h =
      any_false _ _ (λ s l. rw head_is (spare_clear k s h l))

  -- The job that the file says is not refused.
  read_fine : Fine (decode (encode j))
  read_fine = fine (decode (encode j)) (same_fine (decode (encode j)) j read_back ok)

  record_fine : (n : ℕ) (b : BlockKind) → At (decode (encode j)).head n b → (r : ℕ) → r < records (decode (encode j)).head b → bad_record (decode (encode j)) b r ≡ false
  unfolding bad_record
  record_fine n header at r h = refl
  record_fine n (offer_block b) at r h = read_fine.offer (21 * b + r) (omega arith)
  record_fine n grocer_block at r h = read_fine.grocer_owner r h
  record_fine n (price_block q b) (at_prices _ _ e l m) r h = read_fine.list_price q (126 * b + r) l (omega arith)
  record_fine n (tally_block b) at r h = read_fine.tally (21 * b + r) (omega arith)

  block_fine : (k : ℕ) → k < blocks j → block_refusal (encode j) k ≡ 0
  unfolding block_refusal
  block_fine k h =
      none_met _ (sums_fine k h, (due_fine k h, (spare_fine k h, (any_false _ _ (record_fine k (kind_at (decode (encode j)).head k) (kind_at_lem (decode (encode j)).head k)), tt))))

  mark_is : get_or (encode j) 5 0 ≡ 1
  unfolding header_bytes
  mark_is = header_at j 1 (omega arith)

  header_fine : header_refusal (encode j) ≡ 0
  unfolding header_refusal bad_header
  header_fine = none_met _ (sums_fine 0 (omega arith), (due_fine 0 (omega arith), (rw (mark_is, read_fine.sizes), (spare_fine 0 (omega arith), tt))))

  -- The length of a job's file.
  pub long_is : length (encode j) ≡ 512 * blocks j
  unfolding encode
  long_is = length_tabulate _ _

  length_fine : bad_length (encode j) ≡ false
  unfolding bad_length
  length_fine =
      let l = long_is in
      let s = (in_range_lem j ok).sizes in
      let z : length (encode j) % 512 ≡ 0 = omega arith in
      rw (ne_eqb (length (encode j)) 0 (omega arith), z, le-ltb (512 * 102) (length (encode j)) (omega (arith, mul-le-mul s.lists_most (list_few s.offers_most))))

  blocks_is : blocks (decode (encode j)) ≡ blocks j
  blocks_is = ap block_count head_is

  count_fine : bad_count (encode j) ≡ false
  unfolding bad_count
  count_fine = rw (eq-eqb _ _ (long_is ∙ ap (λ (n : ℕ). 512 * n) (sym blocks_is)))

  rest_fine : first_below (blocks (decode (encode j)) - 1) (λ k. block_refusal (encode j) (1 + k)) ≡ 0
  rest_fine = below_none _ _ (λ k h. let e = blocks_is in block_fine (1 + k) (omega arith))

  -- A written job's file is accepted.
  pub written_accepted : file_refusal (encode j) ≡ 0
  written_accepted = file_accepted (encode j) length_fine header_fine count_fine rest_fine read_fine.shared read_fine.unnamed read_fine.once
