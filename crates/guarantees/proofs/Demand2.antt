-- Demand 2 holds. Assumes nothing.
use mathlib.Core.Path.{◌≡◌, refl, sym, ap, ap₂, ◌∙◌}
use mathlib.Core.List.{List, [], ◌∷◌, ◌++◌}
use mathlib.Core.Bool.{true, false, not}
use Prim.Native.Nat.{ℕ, ◌+◌, ◌*◌, ◌<◌, ◌≤◌}
use native.Mathlib.Omega.{arith}
use lib.Dec.{eqb}
use lib.ListN.{take, drop, length, get_or, length-append}
use borrow.Author.Tests.{eq-eqb}
use Rattle.laws.specs.Tables.{overwrite}
use Rattle.laws.proofs.Below.{any_cong, any_false, find_cong}
use Rattle.laws.proofs.Bools.{no_true}
use Rattle.recount.specs.Recount.{loose, stands, counted_twice}
use Rattle.model.specs.Steps.{effect_of}
use Rattle.model.specs.Tables.{JobTables, StateTables, evening_of, view, store}
use Rattle.model.specs.Step.{Asked, step_of, accepted, step_answer, is_accepted, stepped, step_refusal, step_tables, moved}
use Rattle.format.specs.Job.{Head, FileJob, bad_sizes, bad_offer, bad_owner, bad_tally, bad_records, names, place_of, shared, unnamed, counted_tallies, Words16}
use Rattle.format.specs.Rearranged.{Rearranged}
use Rattle.format.specs.Codes.{Name, same_offer}
use Rattle.format.specs.Blocks.{block_count}
use Rattle.format.specs.File.{read_head, read_offer, read_tally, decode}
use Rattle.format.specs.Refusals.{job_refusal, file_refusal}
use Rattle.format.specs.Tables.{ReaderTables, FileTables, ReadAnswer, ReadOutcome, WriteAnswer, WriteOutcome, wrote, not_written, file_job_of, short_reader, read_refusal, read_result, sizes, refused, write_refusal, write_result}
use Rattle.guarantees.specs.Demand2.{Bytes, same_number, named_before, NoIssuers, AsBefore, NoBags, in_cycle, with_words, SameInOrder, Demand2}
use Rattle.recount.proofs.Recount.{recount_laws, loose_stands_lem}
use Rattle.model.proofs.Refusal.{accepted_zero}
use Rattle.format.proofs.Codes.{same_offer_lem}
use Rattle.format.proofs.Range.{named_job}
use Rattle.format.proofs.Accept.{job_accepted}
use Rattle.format.proofs.Write.{written_accepted, read_back}
use Rattle.format.proofs.Small.{encode-small}
use Rattle.format.proofs.Rearranged.{order_six, order_seven, order_eight, order_nine, order_stands, order_refusal, order_read_lem}
use Rattle.printing.proofs.Owed.{order_owed}
use Rattle.format.proofs.Damage.{damaged}
use Rattle.format.proofs.Order.{reader_20, reader_file}
use Rattle.format.proofs.Tables.{read_buffer, read_own_lem, read_written, read_file, read_accepted, read_refused, write_read_lem, written_bytes_lem}

-- An answer that accepts is that of no condition met.
step_zero : (n : ℕ) → step_answer n ≡ accepted → eqb n 0 ≡ true
unfolding is_accepted
step_zero n h = sym (accepted_zero n) ∙ ap is_accepted h

step_does : (f : JobTables) (t : StateTables) (q : Asked) → (stepped f t q).answer ≡ accepted → (stepped f t q).tables ≡ store (evening_of f) (effect_of (evening_of f) (view (evening_of f) t) (step_of q)) t
unfolding stepped step_tables moved step_of
step_does f t q h = rw (step_zero (step_refusal f t q) h)

read_own_buffer : (x : Head) (r : ReaderTables) (out : List ℕ) → write_refusal x r.job out ≡ 0 → short_reader r ≡ false →
    read_result (take (512 * block_count x) (write_result x r.job out).out) r
    ≡ record { answer = sizes x; tables = record { job = r.job; tally_offer = overwrite x.tallies (place_of (file_job_of x r.job)) r.tally_offer } }
read_own_buffer x r out ok h =
    read_buffer x r.job out ok r h
    ∙ sym (read_written x r.job out ok r h)
    ∙ read_own_lem x r out ok h

-- A reader that accepts a file was lent no short table.
reader_whole : (f : List ℕ) (l : ReaderTables) → read_refusal f l ≡ 0 → short_reader l ≡ false
reader_whole f l ok = no_true (short_reader l) (λ e. let z : ◌≡◌ {A = ℕ} 20 0 = sym (reader_20 f l e) ∙ ok in omega arith)

-- A file that is refused with 2 is read as the reader's contract says.
read_two : (f : List ℕ) (l : ReaderTables) → short_reader l ≡ false → file_refusal f ≡ 2 → read_result f l ≡ record { answer = refused 2; tables = l }
read_two f l h e =
    let r : read_refusal f l ≡ 2 = reader_file f l h ∙ e in
    read_refused f l (λ z. let w : ◌≡◌ {A = ℕ} 2 0 = sym r ∙ z in omega arith) ∙ ap (λ (n : ℕ). record { answer = refused n; tables = l }) r

-- Writing what an outcome of the reader holds.
abbrev again : ReadAnswer → FileTables → List ℕ → WriteOutcome
again (sizes x) j out = write_result x j out
again (refused r) j out = record { answer = not_written r; out = out }

-- The length that the writer answers.
abbrev long_of : WriteAnswer → ℕ
long_of (wrote n) = n
long_of (not_written n) = n

take_front : (a b : List ℕ) → take (length a) (a ++ b) ≡ a
take_front [] b = refl
take_front (x ∷ a) b = ap {B = List ℕ} (λ r. x ∷ r) (take_front a b)

again_read : (f : List ℕ) (l : ReaderTables) → ((p : ℕ) → get_or f p 0 < 256) → read_refusal f l ≡ 0 → (out : List ℕ) → length f ≤ length out →
    again (read_result f l).answer (read_result f l).tables.job out ≡ record { answer = wrote (length f); out = f ++ drop (length f) out }
again_read f l bytes ok out room =
    ap (λ (a : ReadAnswer). again a (read_result f l).tables.job out) (ap (λ (o : ReadOutcome). o.answer) (read_accepted f l ok))
    ∙ write_read_lem f l ok bytes out room

one_file_lem : (f f' : List ℕ) (l : ReaderTables) → ((p : ℕ) → get_or f p 0 < 256) → ((p : ℕ) → get_or f' p 0 < 256) → read_refusal f l ≡ 0 → read_refusal f' l ≡ 0 →
    read_result f l ≡ read_result f' l → f ≡ f'
one_file_lem f f' l bytes bytes' ok ok' same =
    let out : List ℕ = f ++ f' in
    let same_write = sym (again_read f l bytes ok out (omega (arith, length-append f f')))
    ∙ ap (λ (o : ReadOutcome). again o.answer o.tables.job out) same
    ∙ again_read f' l bytes' ok' out (omega (arith, length-append f f')) in
    let long : length f ≡ length f' = ap (λ (w : WriteOutcome). long_of w.answer) same_write in
    sym (take_front f (drop (length f) out))
    ∙ ap₂ (λ (n : ℕ) (r : List ℕ). take n r) long (ap (λ (w : WriteOutcome). w.out) same_write)
    ∙ take_front f' (drop (length f') out)

-- A word that two bytes say.
word_small : (a b : ℕ) → a < 256 → b < 256 → a + 256 * b < 65536
word_small a b h k = omega arith

words_read_lem : (f : List ℕ) → ((p : ℕ) → get_or f p 0 < 256) → Words16 (decode f)
unfolding decode read_head read_offer read_tally
words_read_lem f bytes =
    record {
      cycle = word_small _ _ (bytes 12) (bytes 13);
      offer_issuer = λ i h. word_small _ _ (bytes _) (bytes _);
      tally_issuer = λ t h. word_small _ _ (bytes _) (bytes _);
      tally_bag = λ t h. word_small _ _ (bytes _) (bytes _);
      tally_revision = λ t h. word_small _ _ (bytes _) (bytes _);
    }

-- Names of issuer 0 are one offer where their numbers agree.
zero_same : (a b : Name) → a.issuer ≡ 0 → b.issuer ≡ 0 → same_offer a b ≡ same_number a.code b.code
unfolding same_offer same_number
zero_same a b p q = rw (p, q)

module _ (j : FileJob) (z : NoIssuers j) where
  names_before : (t : ℕ) → t < j.head.tallies → (i : ℕ) → i < j.head.offers → names j t i ≡ named_before j t i
  unfolding names
  names_before t h i l = zero_same _ _ (z.offer i l) (z.tally t h)

  as_before : AsBefore j
  unfolding place_of shared unnamed
  as_before =
      record {
        place = λ t h. find_cong j.head.offers (names j t) (named_before j t) (names_before t h);
        seven = any_cong j.head.offers _ _ (λ i l. any_cong i _ _ (λ k m. zero_same _ _ (z.offer k (omega arith)) (z.offer i l)));
        eight = any_cong j.head.tallies _ _ (λ t h. ap not (any_cong j.head.offers (names j t) (named_before j t) (names_before t h)));
      }

-- Without bags all tallies stand, and none is there twice.
all_loose : (j : FileJob) → NoBags j → (t : ℕ) → t < j.head.tallies → loose (counted_tallies j) t ≡ true
unfolding loose counted_tallies
all_loose j n t l = eq-eqb (j.tally t).bag 0 (n.tally t l)

old_tallies_lem : (j : FileJob) → NoBags j → (counted_twice (counted_tallies j) ≡ false) × ((t : ℕ) → t < j.head.tallies → stands (counted_tallies j) t ≡ true)
unfolding counted_twice counted_tallies
old_tallies_lem j n = (
  any_false j.head.tallies _ (λ t l. any_false t _ (λ u m. rw (all_loose j n t l))),
  λ t l. loose_stands_lem (counted_tallies j) t (all_loose j n t l),
)

-- Nothing that is checked of a whole job looks at the cycle,
any_cycle_lem : (j : FileJob) (c : ℕ) → job_refusal (in_cycle c j) ≡ job_refusal j
unfolding job_refusal bad_sizes bad_records bad_offer bad_owner bad_tally shared unnamed counted_tallies place_of names
any_cycle_lem j c = refl

-- and 4 and 6 at no issuer, bag or revision.
any_words_lem : (j : FileJob) (cycle : ℕ) (offer_issuer tally_issuer bag revision : ℕ → ℕ) →
    (bad_sizes (with_words cycle offer_issuer tally_issuer bag revision j).head ≡ bad_sizes j.head) ×
    (bad_records (with_words cycle offer_issuer tally_issuer bag revision j) ≡ bad_records j)
unfolding bad_sizes bad_records bad_offer bad_owner bad_tally
any_words_lem j cycle offer_issuer tally_issuer bag revision = (refl, refl)

-- Records in another order.
same_in_order : (j j' : FileJob) (p q r s : ℕ → ℕ) → Rearranged j j' p q r s → SameInOrder j j' p
same_in_order j j' p q r s x = record {
  six = order_six j j' p q r s x;
  seven = order_seven j j' p q r s x;
  eight = order_eight j j' p q r s x;
  nine = order_nine j j' p q r s x;
  standing = order_stands j j' p q r s x;
  owed = order_owed j j' p q r s x;
  refusal = order_refusal j j' p q r s x;
  files = λ ok. (written_accepted j ok, written_accepted j' (order_refusal j j' p q r s x ∙ ok));
}

pub demand2 : Demand2
unfolding Bytes
demand2 = record {
  write_read = λ file l bytes ok out room. write_read_lem file l ok bytes out room;
  one_file = one_file_lem;
  read_write = read_buffer;
  read_own = read_own_buffer;
  written_bytes = λ x l out c ok. written_bytes_lem x l out ok c;
  words_read = words_read_lem;
  any_cycle = any_cycle_lem;
  any_words = any_words_lem;
  any_accepted = λ j words ok. (encode-small j ok words, written_accepted j ok, read_back j ok);
  names = same_offer_lem;
  recount = recount_laws;
  order = same_in_order;
  order_named = λ file ok. named_job (decode file) (job_accepted file ok);
  order_read = order_read_lem;
  old_tallies = old_tallies_lem;
  old_names = as_before;
  damage = λ f f' l bytes bytes' ok k i j hk hi hj long same differs. read_two f' l (reader_whole f l ok) (damaged f f' bytes bytes' (read_file f l ok) k i j hk hi hj long same differs);
  step = step_does;
}
