-- The tables of messages and the local book, told in lent words. Assumes nothing.
use mathlib.Core.Path.{◌≡◌, refl, sym, ap, ◌∙◌}
use mathlib.Core.Bool.{true, false}
use mathlib.Core.List.{List, [], ◌∷◌}
use Prim.Native.Nat.{ℕ, ◌<◌, ◌≤◌}
use native.Mathlib.Omega.{arith}
use lib.Dec.{ltb}
use lib.ListN.{length, set, replicate}
use borrow.Author.Tests.{lt-ltb, le-ltb, ltb-false}
use Rattle.laws.specs.Tables.{tabulate, overwrite, recell, cell_at}
use Rattle.laws.proofs.Bools.{cond_yes, cond_no}
use Rattle.laws.proofs.Checks.{none_of}
use Rattle.model.specs.Tables.{JobTables, StateTables}
use Rattle.message_tables.specs.Answers.{said as said_messages, TablesGiven, tables_given, message_tables}
use Rattle.std.specs.Prelude.{Result, Ok, Err}
use Rattle.refusals.specs.declared.Refusal.{Refusal}
use Rattle.refusals.specs.Numbers.{number_of, number}
use Rattle.book_sort.specs.Sort.{in_front}
use Rattle.book.specs.Book.{said as said_book, BookTables, BookOutcome, given, booked}
use Rattle.book.specs.declared.BookSizes.{BookSizes}
use Rattle.cycle_store.specs.Answer.{answer_of as store_answer_of}
use Rattle.cycle_history.specs.Store.{Store, StoreOutcome, store_outcome}
use Rattle.test_calls.specs.EntryStore.{store_number, store_told, store_as}
use Rattle.test_calls.specs.EntryTables.{messages_told, messages_for, messages_as, messages_short, no_words, messages_by}
use Rattle.trial_rules.specs.Trial.{TrialAnswer, TrialOutcome, trial_outcome}
use Rattle.test_calls.specs.EntryTrial.{rounds_number, trial_told, trial_told_as}
use Rattle.test_calls.specs.EntryBook.{NumbersTold, numbers_told, numbers_as, book_told, booked_as, booked_by}

-- One word written in front of a buffer.
pub put_one_word : (l : List ℕ) (a : ℕ) → 1 ≤ length l → set l 0 a ≡ in_front (a ∷ []) l
unfolding in_front overwrite tabulate
put_one_word [] a h = absurd (omega (arith, h))
put_one_word (x ∷ l) a h = refl

-- Tables of no words are all zeros.
pub no_words_lem : replicate 16 (replicate 16 0) ≡ no_words
unfolding no_words tabulate
no_words_lem = refl

module _ (a : Result ℕ Refusal) (prices totals : List (List ℕ)) (p t w : List ℕ) where
  -- Tables that are made, told.
  pub told_made : (n : ℕ) (p' t' : List ℕ) → a ≡ Ok n → 1 ≤ length w → p' ≡ recell 16 16 (cell_at prices) p → t' ≡ recell 16 16 (cell_at totals) t →
      messages_told 0 p' t' (set w 0 n) ≡ messages_as (tables_given (said_messages a) prices totals) p t w
  unfolding messages_for said_messages
  told_made n p' t' e h ep et = rw (e, ep, et, put_one_word w n h)

  -- A refusal, told.
  pub told_not_made : (r : Refusal) (n : ℕ) → a ≡ Err r → n ≡ number_of r → messages_told n p t w ≡ messages_as (tables_given (said_messages a) prices totals) p t w
  unfolding messages_for said_messages
  told_not_made r n e h = rw (e, h)

module _ (f : JobTables) (p t w : List ℕ) where
  -- 20: a buffer is short.
  pub messages_short_lem : messages_short p t w ≡ true → messages_told 20 p t w ≡ messages_by f p t w
  unfolding messages_by
  messages_short_lem e = sym (cond_yes _ _ _ e)

  -- Else what the call of the tables gives, told.
  pub messages_told_lem : (m : TablesGiven) (r : ℕ) (p' t' w' : List ℕ) → messages_short p t w ≡ false → m ≡ message_tables f no_words no_words →
      messages_told r p' t' w' ≡ messages_as m p t w → messages_told r p' t' w' ≡ messages_by f p t w
  unfolding messages_by
  messages_told_lem m r p' t' w' e is told = told ∙ ap (λ (o : TablesGiven). messages_as o p t w) is ∙ sym (cond_no _ _ _ e)

-- What 20 leaves.
pub messages_room : (p t w : List ℕ) → messages_short p t w ≡ false → (256 ≤ length p) × (256 ≤ length t) × (1 ≤ length w)
unfolding messages_short
messages_room p t w e =
    let each = none_of (ltb (length p) 256 ∷ ltb (length t) 256 ∷ ltb (length w) 1 ∷ []) e in
    (ltb-false _ _ each.0, ltb-false _ _ each.1.0, ltb-false _ _ each.1.1.0)

module _ (f : JobTables) (b : ℕ) (before : BookTables) (l : List ℕ) where
  -- 20: the buffer for the numbers is short.
  pub booked_short : length l < 3 → book_told 20 before l ≡ booked_by f b before l
  unfolding booked_by
  booked_short h = sym (cond_yes _ _ _ (lt-ltb _ _ h))

  -- Else what the book gives, told.
  pub booked-told : (a : Result BookSizes Refusal) (after : BookTables) (r : ℕ) (l' : List ℕ) → 3 ≤ length l → numbers_told r l' ≡ numbers_as (said_book a) l →
      given (said_book a) after ≡ booked f b before → book_told r after l' ≡ booked_by f b before l
  unfolding booked_by booked_as
  booked-told a after r l' h e g =
      ap (λ (o : NumbersTold). book_told o.answer after o.numbers) e
      ∙ ap (λ (o : BookOutcome). booked_as o l) g
      ∙ sym (cond_no _ _ _ (le-ltb _ _ h))

-- What a trial gives, told.
pub trial_told_lem : (a : TrialAnswer) (t : StateTables) (idle picked : List ℕ) (o : TrialOutcome) (r : ℕ) → r ≡ rounds_number a → trial_outcome a t idle picked ≡ o → trial_told r t idle picked ≡ trial_told_as o
unfolding trial_told_as
trial_told_lem a t idle picked o r e g = ap (λ (n : ℕ). trial_told n t idle picked) e ∙ ap trial_told_as g

-- The store's answer as a number, and its words.
pub store_told_lem : (n : ℕ) (a : Result (Unit {0}) Refusal) (s : Store) (o : StoreOutcome) → n ≡ number a → store_outcome (store_answer_of a) s ≡ o → store_told n s ≡ store_as o
unfolding store_as store_number store_answer_of
store_told_lem n (Ok x) s o e h = ap (λ (x : ℕ). store_told x s) e ∙ ap store_as h
store_told_lem n (Err x) s o e h = ap (λ (x : ℕ). store_told x s) e ∙ ap store_as h
