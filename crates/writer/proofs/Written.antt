-- The blocks put one after the other are the file of the tables' job. Assumes nothing.
use mathlib.Core.Path.{◌≡◌, refl, sym, ap, ap₂, ◌∙◌}
use mathlib.Core.Bool.{false}
use mathlib.Core.List.{List, [], ◌∷◌, ◌++◌}
use Prim.Native.Nat.{ℕ, zero, suc, ◌+◌, ◌*◌, ◌/◌, ◌%◌, ◌≤◌, ◌<◌}
use native.Mathlib.Omega.{arith}
use native.Mathlib.Nat.{div-lt_iff_lt-mul, mod-lt, div-add-mod'}
use lib.ListN.{length, get_or, drop}
use borrow.Author.Tests.{ltb-false}
use Rattle.laws.specs.Tables.{tabulate}
use Rattle.laws.proofs.Tables.{length_tabulate}
use Rattle.laws.proofs.Bools.{or_off}
use Rattle.laws.proofs.Checks.{unmet}
use Rattle.format.specs.Bytes.{bytes16}
use Rattle.format.specs.Job.{Head, FileJob}
use Rattle.format.specs.Blocks.{BlockKind, header, offer_block, grocer_block, price_block, tally_block, blocks_for, list_blocks, block_count, grocers_at, prices_at}
use Rattle.format.specs.Blocks.{tallies_at, kind_at, block_kind_number, records, record_size, header_bytes, offer_bytes, tally_bytes, record_bytes}
use Rattle.format.specs.File.{body_byte, block_byte, encode}
use Rattle.format.specs.Refusals.{job_refusal}
use Rattle.format.specs.Tables.{FileTables, offer_of, tally_of, file_job_of, wrote, not_written, short_tables, short_writer, write_refusal, write_result}
use Rattle.writer_bytes.specs.Puts.{put, bytes_of}
use Rattle.writer.specs.Bodies.{body_of, record_body, list_body, blocks_of}
use Rattle.writer.specs.Ready.{Ready}
use Rattle.format.proofs.Firsts.{each}
use Rattle.format.proofs.Plan.{kind_header, kind_offers, kind_grocers, kind_prices, kind_tallies}
use Rattle.format.proofs.Range.{in_range_lem}
use Rattle.format.proofs.Tables.{long_tables, write_accepted, write_refused}
use Rattle.writer_bytes.proofs.Puts.{put_none, put_front}
use Rattle.writer.proofs.Blocks.{body_is, blocks_behind, block_behind}

-- The body of a block whose kind is known.
kind_body : (j : FileJob) (k p : ℕ) (b : BlockKind) → kind_at j.head k ≡ b → body_byte j k p ≡ body_of (block_kind_number b ∷ records j.head b ∷ bytes16 k) (record_size b) (records j.head b) (λ r. bytes_of (record_bytes j b r)) p
kind_body j k p b e = body_is j k p ∙ ap (λ (b : BlockKind). body_of (block_kind_number b ∷ records j.head b ∷ bytes16 k) (record_size b) (records j.head b) (λ r. bytes_of (record_bytes j b r)) p) e

-- Where there is a price block, a list has one.
some_blocks : (lists each x : ℕ) → x < lists * each → 0 < each
some_blocks lists zero x m = absurd (omega arith)
some_blocks lists (suc n) x m = omega arith

module _ (h : Head) (l : FileTables) where
  header_body : (p : ℕ) → body_of (0 ∷ 1 ∷ bytes16 0) 504 1 (λ _. bytes_of (header_bytes h)) p ≡ body_byte (file_job_of h l) 0 p
  unfolding file_job_of record_bytes
  header_body p = sym (kind_body (file_job_of h l) 0 p header (kind_header h))

  offer_body : (b p : ℕ) → b < blocks_for h.offers → record_body 1 1 h.offers (λ i. offer_bytes (offer_of l.offers i)) b p ≡ body_byte (file_job_of h l) (1 + b) p
  unfolding file_job_of record_bytes
  offer_body b p q = sym (kind_body (file_job_of h l) (1 + b) p (offer_block b) (kind_offers h b q))

  grocer_body : (p : ℕ) → body_of (2 ∷ h.grocers ∷ bytes16 (grocers_at h)) 1 h.grocers (λ r. bytes_of (get_or l.grocer_owner r 0 ∷ [])) p ≡ body_byte (file_job_of h l) (grocers_at h) p
  unfolding file_job_of record_bytes
  grocer_body p = sym (kind_body (file_job_of h l) (grocers_at h) p grocer_block (kind_grocers h))

  price_body_lem : (x p : ℕ) → x < h.lists * list_blocks h.offers → list_body (prices_at h) h.offers l.offers.price x p ≡ body_byte (file_job_of h l) (prices_at h + x) p
  unfolding file_job_of record_bytes
  price_body_lem x p m =
      let each = list_blocks h.offers in
      let some = some_blocks h.lists each x m in
      sym (kind_body (file_job_of h l) (prices_at h + x) p (price_block (x / each) (x % each))
      (ap (λ (y : ℕ). kind_at h (prices_at h + y)) (sym (div-add-mod' x each)) ∙ kind_prices h (x / each) (x % each) ((div-lt_iff_lt-mul some).1 m) (mod-lt x some)))

  tally_body : (b p : ℕ) → record_body 3 (tallies_at h) h.tallies (λ i. tally_bytes (tally_of l.tallies i)) b p ≡ body_byte (file_job_of h l) (tallies_at h + b) p
  unfolding file_job_of record_bytes
  tally_body b p = sym (kind_body (file_job_of h l) (tallies_at h + b) p (tally_block b) (kind_tallies h b))

  -- All blocks from the front on are the file.
  file_front : (d : List ℕ) → put 0 (512 * block_count h) (blocks_of (body_byte (file_job_of h l))) d ≡ encode (file_job_of h l) ++ drop (length (encode (file_job_of h l))) d
  unfolding encode file_job_of
  file_front d =
      let f = blocks_of (body_byte (file_job_of h l)) in
      put_front (512 * block_count h) f d
      ∙ ap (λ (x : ℕ). tabulate (512 * block_count h) f ++ drop x d) (sym (length_tabulate (512 * block_count h) f))

  -- Header, offer blocks, grocer block, price blocks and tally blocks.
  pub file_put : (d d₁ d₂ d₃ d₄ d₅ : List ℕ) → 512 * block_count h ≤ length d →
      d₁ ≡ put 0 512 (block_byte (body_of (0 ∷ 1 ∷ bytes16 0) 504 1 (λ _. bytes_of (header_bytes h)))) d →
      d₂ ≡ put 512 (blocks_for h.offers * 512) (blocks_of (record_body 1 1 h.offers (λ i. offer_bytes (offer_of l.offers i)))) d₁ →
      d₃ ≡ put (512 * grocers_at h) 512 (block_byte (body_of (2 ∷ h.grocers ∷ bytes16 (grocers_at h)) 1 h.grocers (λ r. bytes_of (get_or l.grocer_owner r 0 ∷ [])))) d₂ →
      d₄ ≡ put (512 * prices_at h) (h.lists * list_blocks h.offers * 512) (blocks_of (list_body (prices_at h) h.offers l.offers.price)) d₃ →
      d₅ ≡ put (512 * tallies_at h) (blocks_for h.tallies * 512) (blocks_of (record_body 3 (tallies_at h) h.tallies (λ i. tally_bytes (tally_of l.tallies i)))) d₄ →
      d₅ ≡ encode (file_job_of h l) ++ drop (length (encode (file_job_of h l))) d
  file_put d d₁ d₂ d₃ d₄ d₅ room e₁ e₂ e₃ e₄ e₅ =
      let body = body_byte (file_job_of h l) in
      let prices = h.lists * list_blocks h.offers in
      let q₁ : d₁ ≡ put 0 512 (blocks_of body) d = e₁ ∙ ap (put 0 512 (block_byte _)) (put_none 0 (blocks_of body) d) ∙ block_behind body _ 0 d (omega arith) header_body in
      let q₂ : d₂ ≡ put 0 (512 * grocers_at h) (blocks_of body) d = e₂ ∙ ap (put 512 (blocks_for h.offers * 512) _) q₁ ∙ blocks_behind body _ 1 (blocks_for h.offers) d (omega arith) offer_body in
      let q₃ : d₃ ≡ put 0 (512 * prices_at h) (blocks_of body) d = e₃ ∙ ap (put (512 * grocers_at h) 512 _) q₂ ∙ block_behind body _ (grocers_at h) d (omega arith) grocer_body in
      let q₄ : d₄ ≡ put 0 (512 * tallies_at h) (blocks_of body) d = e₄ ∙ ap (put (512 * prices_at h) (prices * 512) _) q₃ ∙ blocks_behind body _ (prices_at h) prices d (omega arith) price_body_lem in
      e₅ ∙ ap (put (512 * tallies_at h) (blocks_for h.tallies * 512) _) q₄ ∙ blocks_behind body _ (tallies_at h) (blocks_for h.tallies) d (omega arith) (λ b p q. tally_body b p) ∙ file_front d

-- ---- where nothing is refused

module _ (h : Head) (l : FileTables) (out : List ℕ) (ok : write_refusal h l out ≡ 0) where
  not_short : short_writer h l out ≡ false
  unfolding write_refusal
  not_short = (unmet _ refl (each _ ok 0)).0

  taken : job_refusal (file_job_of h l) ≡ 0
  unfolding write_refusal
  taken = each _ ok 1

  -- The file can be put.
  pub ready : Ready h l out
  unfolding short_writer file_job_of
  ready =
      let s = or_off (short_tables h l) _ not_short in
      let r = in_range_lem (file_job_of h l) taken in
      let z = r.sizes in
      record {
        most = record { boxes = z.boxes_most; grocers = z.grocers_most; offers = z.offers_most; tallies = z.tallies_most; lists = z.lists_most };
        offers = z.offers_some;
        long = long_tables h l s.0;
        room = ltb-false _ _ s.1;
        offer_owner = record { small = λ i q. omega (arith, (r.offer i q).owner, z.boxes_most) };
        grocer_owner = record { small = λ i q. omega (arith, r.grocer_owner i q, z.boxes_most) };
        tally_box = record { small = λ i q. omega (arith, (r.tally i q).box, z.boxes_most) };
      }

-- ---- what the writer gives

module _ (h : Head) (l : FileTables) (out : List ℕ) where
  -- A refusal, and the buffer as it was.
  pub refused_is : (r : ℕ) → r ≡ write_refusal h l out → (r ≡ 0 → ⊥) → record { answer = not_written r; out = out } ≡ write_result h l out
  refused_is r e q =
      ap (λ (x : ℕ). record { answer = not_written x; out = out }) e
      ∙ sym (write_refused h l out (λ z. q (e ∙ z)))

  file_length : length (encode (file_job_of h l)) ≡ 512 * block_count h
  unfolding encode file_job_of
  file_length = length_tabulate _ _

  -- The file's length, and the file in front of the rest.
  pub written_is : write_refusal h l out ≡ 0 → (x : ℕ) (d : List ℕ) → x ≡ 512 * block_count h → d ≡ encode (file_job_of h l) ++ drop (length (encode (file_job_of h l))) out → record
      { answer = wrote x; out = d } ≡ write_result h l out
  written_is ok x d e q =
      ap₂ (λ (x : ℕ) (d : List ℕ). record { answer = wrote x; out = d }) (e ∙ sym file_length) q
      ∙ sym (write_accepted h l out ok)
