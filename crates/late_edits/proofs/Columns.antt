-- What the edited columns come to: the tables of the edited job. Assumes nothing.
use mathlib.Core.Path.{◌≡◌, refl, sym, ap, ◌∙◌}
use mathlib.Core.Bool.{cond}
use mathlib.Core.List.{List}
use Prim.Native.Nat.{ℕ, suc, ◌+◌, ◌-◌, ◌*◌, ◌/◌, ◌%◌, ◌<◌, ◌≤◌}
use native.Mathlib.Nat.{div-add-mod', mod-lt}
use native.Mathlib.Omega.{arith}
use lib.Dec.{ltb}
use lib.IntN.{pos}
use lib.ListN.{get_or}
use borrow.Author.Tests.{lt-ltb, le-ltb, ltb-true, ltb-false}
use Rattle.laws.specs.Tables.{tabulate, overwrite, recell}
use Rattle.laws.proofs.Bools.{split}
use Rattle.laws.proofs.Tables.{overwrite_as, overwrite_cong, recell_as, recell_cong, get_d_tabulate}
use Rattle.format.specs.Bytes.{from}
use Rattle.format.specs.Codes.{Code, read_code, code_bytes}
use Rattle.format.specs.Job.{Head, Tally}
use Rattle.format.specs.Tables.{ReaderTables, store_codes, store_tallies}
use Rattle.late_rules.specs.Edit.{Entry, entry_of, freed, followed, place_before, removed, store_entries, place_found, added_tables, withdrawn_tables}
use Rattle.late_edits.specs.Columns.{edit_entries, edit_tallies, edit_tables}
use Rattle.late_rules.proofs.Counts.{before_low, before_high, before_in}

-- A byte of the code that eleven bytes say.
pub byte_of : (g : ℕ → ℕ) (q : ℕ) → q < 11 → get_or (code_bytes (read_code g)) q 0 ≡ g q
byte_of g q m = ap (λ (x : List ℕ). get_or x q 0) eleven ∙ get_d_tabulate 11 g q 0 m
  where
    eleven : code_bytes (read_code g) ≡ tabulate 11 g
    eleven = unfold code_bytes tabulate in refl

-- A table edited with words that agree.
pub edit_cong : {A : Type 0} (w p n : ℕ) (z : A) (x y : ℕ → A) (l : List A) → ((k : ℕ) → k < w → x k ≡ y k) → edit_entries w p n z x l ≡ edit_entries w p n z y l
unfolding edit_entries
edit_cong w p n z x y l e = recell_cong (suc n) w _ _ l (λ i k li lk. split (ltb i n) (λ b. rw b) (λ b. rw b (e k lk)))

-- The entries of the edited list.
abbrev entries : (p n : ℕ) → Entry → ReaderTables → ℕ → Entry
entries p n x l = followed n (removed p (entry_of l)) x

module _ {A : Type 0} (p n : ℕ) (x : Entry) (l : ReaderTables) (f : Entry → A) where
  -- A field of the entry chosen is the field chosen.
  pick : (i : ℕ) → f (entries p n x l i) ≡ cond (ltb i n) (f (entry_of l (place_before p i))) (f x)
  pick i = split (ltb i n) (λ b. rw b) (λ b. rw b)

  -- A column of words.
  column : (m : ℕ) (z : A) (s : List A) → m ≡ suc n → ((i : ℕ) → f (entry_of l i) ≡ get_or s i z) →
      overwrite m (λ t. f (entries p n x l t)) s ≡ edit_entries 1 p n z (λ k. f x) s
  unfolding edit_entries recell
  column m z s e read =
      overwrite_as m (suc n * 1) _ _ s (omega arith) (λ i q.
      pick i ∙ split (ltb i n)
      (λ b. rw (b, whole i, b) (read (place_before p i) ∙ ap (λ (j : ℕ). get_or s j z) (at (place_before p i) (i % 1) (mod-lt i (omega arith)))))
      (λ b. rw (b, whole i, b)))
    where
      whole : (i : ℕ) → i / 1 ≡ i
      whole i = let d = div-add-mod' i 1 in let r : i % 1 < 1 = mod-lt i (omega arith) in omega arith

      at : (j r : ℕ) → r < 1 → j ≡ j * 1 + r
      at j r q = omega arith

-- The column of codes: a byte of a code in a table is a byte of the table.
codes : (p n m : ℕ) (x : Entry) (l : ReaderTables) → m ≡ suc n →
    store_codes m (λ t. (entries p n x l t).tally.code) l.job.tallies.code ≡ edit_entries 11 p n 0 (λ k. get_or (code_bytes x.tally.code) k 0) l.job.tallies.code
unfolding store_codes edit_entries
codes p n m x l e =
    recell_as m (suc n) 11 _ _ l.job.tallies.code e (λ i k li lk.
    ap (λ (c : Code). get_or (code_bytes c) k 0) (pick p n x l (λ (y : Entry). y.tally.code) i)
    ∙ split (ltb i n)
    (λ b. rw b (byte_of (from l.job.tallies.code (place_before p i * 11)) k lk))
    (λ b. rw b))

-- The entries of the edited list, stored, are the tables edited column by column.
pub stored_is : (p n m : ℕ) (x : Entry) (l : ReaderTables) → m ≡ suc n → store_entries m (entries p n x l) l ≡ edit_tables p n x l
unfolding store_entries store_tallies edit_tallies edit_tables
stored_is p n m x l e =
    let y = l.job.tallies in
    let e₀ = column p n x l (λ (y : Entry). y.tally.grocer) m 0 y.grocer e (λ i. refl) in
    let e₁ = column p n x l (λ (y : Entry). y.tally.box) m 0 y.box e (λ i. refl) in
    let e₂ = codes p n m x l e in
    let e₃ = column p n x l (λ (y : Entry). y.tally.count) m (pos 0) y.count e (λ i. refl) in
    let e₄ = column p n x l (λ (y : Entry). y.tally.issuer) m 0 y.issuer e (λ i. refl) in
    let e₅ = column p n x l (λ (y : Entry). y.tally.bag) m 0 y.bag e (λ i. refl) in
    let e₆ = column p n x l (λ (y : Entry). y.tally.revision) m 0 y.revision e (λ i. refl) in
    let e₇ = column p n x l (λ (y : Entry). y.place) m 0 l.tally_offer e (λ i. refl) in
    λ i. record {
      job = record {
        offers = l.job.offers;
        grocer_owner = l.job.grocer_owner;
        tallies = record { grocer = e₀ i; box = e₁ i; code = e₂ i; count = e₃ i; issuer = e₄ i; bag = e₅ i; revision = e₆ i };
      };
      tally_offer = e₇ i;
    }

-- Entries that agree up to m are stored alike.
pub stored-alike : (m : ℕ) (a b : ℕ → Entry) (l : ReaderTables) → ((t : ℕ) → t < m → a t ≡ b t) → store_entries m a l ≡ store_entries m b l
unfolding store_entries store_tallies store_codes
stored-alike m a b l e =
    let y = l.job.tallies in
    let e₀ = on (λ (y : Entry). y.tally.grocer) y.grocer in
    let e₁ = on (λ (y : Entry). y.tally.box) y.box in
    let e₂ = recell_cong m 11 _ _ y.code (λ t k q r. ap (λ (y : Entry). get_or (code_bytes y.tally.code) k 0) (e t q)) in
    let e₃ = on (λ (y : Entry). y.tally.count) y.count in
    let e₄ = on (λ (y : Entry). y.tally.issuer) y.issuer in
    let e₅ = on (λ (y : Entry). y.tally.bag) y.bag in
    let e₆ = on (λ (y : Entry). y.tally.revision) y.revision in
    let e₇ = on (λ (y : Entry). y.place) l.tally_offer in
    λ i. record {
      job = record {
        offers = l.job.offers;
        grocer_owner = l.job.grocer_owner;
        tallies = record { grocer = e₀ i; box = e₁ i; code = e₂ i; count = e₃ i; issuer = e₄ i; bag = e₅ i; revision = e₆ i };
      };
      tally_offer = e₇ i;
    }
  where
    on : {A : Type 0} (f : Entry → A) (s : List A) → overwrite m (λ t. f (a t)) s ≡ overwrite m (λ t. f (b t)) s
    on f s = overwrite_cong m _ _ s (λ t q. ap f (e t q))

-- The tables once tally x is added: nothing moves.
pub added_is : (h : Head) (l : ReaderTables) (x : Tally) →
    added_tables h l x ≡ edit_tables h.tallies h.tallies (record { tally = x; place = place_found h l x }) l
unfolding added_tables
added_is h l x =
    stored-alike (h.tallies + 1) _ _ l (λ t q. split (ltb t h.tallies)
    (λ b. rw b (ap (entry_of l) (sym (before_low h.tallies t (ltb-true t h.tallies b)))))
    (λ b. rw b))
    ∙ stored_is h.tallies h.tallies (h.tallies + 1) (record { tally = x; place = place_found h l x }) l (omega arith)

-- The tables once the tally at place p is withdrawn: the words of the last one are freed.
pub withdrawn_is : (h : Head) (l : ReaderTables) (p : ℕ) → p < h.tallies → withdrawn_tables h l p ≡ edit_tables p (h.tallies - 1) freed l
unfolding withdrawn_tables
withdrawn_is h l p here =
    stored-alike h.tallies _ _ l (λ t q. split (ltb t (h.tallies - 1))
    (λ b. let lo = ltb-true t (h.tallies - 1) b in rw (b, lt-ltb (place_before p t) h.tallies (before_in p h.tallies t lo)))
    (λ b. let hi = ltb-false t (h.tallies - 1) b in rw (b, le-ltb (place_before p t) h.tallies (past t q hi))))
    ∙ stored_is p (h.tallies - 1) h.tallies freed l (omega arith)
  where
    past : (t : ℕ) → t < h.tallies → h.tallies - 1 ≤ t → h.tallies ≤ place_before p t
    past t q hi = rw (before_high p t (omega arith)) (omega arith)
