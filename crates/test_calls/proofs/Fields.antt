-- Records made of fields that are lent apart. Assumes nothing.
use mathlib.Core.Path.{◌≡◌, refl, sym, ap, ◌∙◌, subst}
use mathlib.Core.List.{List, [], ◌∷◌}
use mathlib.Core.Bool.{true, false, cond, ◌&&◌}
use Prim.Native.Nat.{ℕ, zero, suc, ◌<◌, ◌≤◌, ◌+◌}
use native.Mathlib.Omega.{arith}
use native.Mathlib.Decide.{ℕ_discrete}
use lib.IntN.{ℤ, pos}
use lib.Dec.{ltb, leb}
use lib.ListN.{length, get_or, take, set}
use lib.Seq.{length-take-le, get_or-take, get_or-set_same, get_or-set_other}
use borrow.Author.Tests.{ltb-true, ltb-false, lt-leb}
use Rattle.laws.specs.Tables.{tabulate, overwrite}
use Rattle.laws.specs.Checks.{first_met}
use Rattle.laws.specs.Limits.{max_grocers, max_offers, max_price}
use Rattle.laws.proofs.Bools.{split, and_false}
use Rattle.laws.proofs.Checks.{none_of}
use Rattle.laws.proofs.Tables.{is_tabulate, length_tabulate}
use Rattle.model.specs.Ranges.{up_to}
use Rattle.model.specs.Reconcile.{TallyRecord, DeskAnswer, refused, desk_refusals, desk_answer, reconciled}
use Rattle.desk.specs.Records.{record_of, records_of, answer_of}
use Rattle.std.specs.Prelude.{Result, Ok}
use Rattle.refusals.specs.declared.Refusal.{Refusal}
use Rattle.desk.specs.Records.{Tally}
use Rattle.test_calls.specs.Entries.{Fields, lent_tally, lent_records, short_fields, told, told_as, told_by}

-- A record of zeros.
abbrev pub blank : Tally
blank = record { grocer = 0; tally_box = 0; place = 0; count = pos 0; bag = 0; revision = 0 }

-- The first i records of a list are those of f.
abbrev pub Filled : (ℕ → Tally) → List Tally → ℕ → Type 0
Filled f l i = (p : ℕ) → p < i → get_or l p blank ≡ f p

-- One record more.
pub filled_more : (f : ℕ → Tally) (l : List Tally) (i : ℕ) (t : Tally) → i < length l → t ≡ f i → Filled f l i → Filled f (set l i t) (i + 1)
filled_more f l i t h e inv p q = go (ℕ_discrete p i)
  where
    go : Dec (p ≡ i) → get_or (set l i t) p blank ≡ f p
    go (yes s) = subst (λ (k : ℕ). get_or (set l i t) k blank ≡ f k) (sym s) (get_or-set_same l i t blank h ∙ e)
    go (no d) = get_or-set_other l i p t blank d ∙ inv p (omega (arith, q, d))

records_tabulate : (n : ℕ) (f : ℕ → Tally) → records_of (tabulate n f) ≡ tabulate n (λ i. record_of (f i))
unfolding tabulate records_of
records_tabulate zero f = refl
records_tabulate (suc n) f = ap (λ (l : List TallyRecord). record_of (f 0) ∷ l) (records_tabulate n (λ i. f (suc i)))

-- A list that is filled holds the records lent.
pub filled_all : (gs bs ps : List ℕ) (cs : List ℤ) (ss vs : List ℕ) (n : ℕ) (l : List Tally) → n ≤ length l → Filled (lent_tally gs bs ps cs ss vs) l n → records_of (take n l) ≡ lent_records n gs bs ps cs ss vs
unfolding lent_tally lent_records
filled_all gs bs ps cs ss vs n l h inv =
    ap records_of (is_tabulate (take n l) n (lent_tally gs bs ps cs ss vs) blank (length-take-le n l h) (λ i q. get_or-take n l i blank q ∙ inv i q))
    ∙ records_tabulate n (lent_tally gs bs ps cs ss vs)

-- One amount put in front of the lent words.
pub put_one : (l : List ℤ) (z z' : ℤ) → 1 ≤ length l → z' ≡ z → set l 0 z' ≡ overwrite 1 (λ i. z) l
unfolding overwrite tabulate
put_one [] z z' h e = absurd (omega (arith, h))
put_one (x ∷ l) z z' h e = ap (λ (y : ℤ). y ∷ l) e

-- Where a field is short the words stay.
pub told_short : (m n g : ℕ) (prices gs bs ps : List ℕ) (cs : List ℤ) (ss vs : List ℕ) (out : List ℤ) → short_fields gs bs ps cs ss vs out ≡ true → told 20 out ≡ told_by m n g prices gs bs ps cs ss vs out
unfolding told_by
told_short m n g prices gs bs ps cs ss vs out e = rw e

-- More than 1,000 records are refused whatever they are: with 20 by the prices, else with 21.
too_many : (m n g : ℕ) (prices : List ℕ) (rs : List TallyRecord) → 1_000 < length rs → reconciled m n g prices rs ≡ cond (ltb (length prices) n) (refused 20) (refused 21)
unfolding reconciled desk_refusals first_met desk_answer
too_many m n g prices rs h =
    let sizes = (leb 1 m && leb m max_grocers) && (leb 1 n && leb n max_offers) && up_to max_price n prices in
    split (ltb (length prices) n)
    (λ e. rw e)
    (λ e. rw (e, lt-leb (length rs) 1_000 h, and_false sizes))

-- So the first k of n records are enough, where k is n or above 1,000.
enough : (m n g : ℕ) (prices gs bs ps : List ℕ) (cs : List ℤ) (ss vs : List ℕ) (k l : ℕ) → k ≤ l → (k < l → 1_000 < k) →
    reconciled m n g prices (lent_records k gs bs ps cs ss vs) ≡ reconciled m n g prices (lent_records l gs bs ps cs ss vs)
unfolding lent_records
enough m n g prices gs bs ps cs ss vs k l h many =
    split (ltb k l)
    (λ e.
    let some = many (ltb-true k l e) in
    too_many m n g prices (lent_records k gs bs ps cs ss vs) (rw (length_tabulate k _) some)
    ∙ sym (too_many m n g prices (lent_records l gs bs ps cs ss vs) (rw (length_tabulate l _) (omega arith))))
    (λ e. let same : k ≡ l = omega (arith, ltb-false k l e) in rw same)

-- Where none is, the answer is the desk's.
pub told-whole : (m n g : ℕ) (prices gs bs ps : List ℕ) (cs : List ℤ) (ss vs : List ℕ) (out out' : List ℤ) (r k : ℕ) (a : DeskAnswer) (l : List TallyRecord) → short_fields gs bs ps cs ss vs out ≡ false →
    (k ≤ length gs) × ((k ≤ 1_024) × (k < length gs → 1_000 < k)) → told r out' ≡ told_as a out → a ≡ reconciled m n g prices l → l ≡ lent_records k gs bs ps cs ss vs →
    told r out' ≡ told_by m n g prices gs bs ps cs ss vs out
unfolding told_by
told-whole m n g prices gs bs ps cs ss vs out out' r k a l e h t q z =
    t
    ∙ ap (λ (x : DeskAnswer). told_as x out) (q ∙ ap (reconciled m n g prices) z ∙ enough m n g prices gs bs ps cs ss vs k (length gs) h.0 h.1.1)
    ∙ rw e

-- Each field has the words of fewer records too.
pub fields_fewer : {n m : ℕ} {gs bs ps : List ℕ} {cs : List ℤ} {ss vs : List ℕ} → Fields n gs bs ps cs ss vs → m ≤ n → Fields m gs bs ps cs ss vs
fields_fewer f h = record {
  grocers = omega (arith, f.grocers);
  boxes = omega (arith, f.boxes);
  places = omega (arith, f.places);
  counts = omega (arith, f.counts);
  bags = omega (arith, f.bags);
  revisions = omega (arith, f.revisions);
}

-- What 20 leaves.
pub fields_whole : (gs bs ps : List ℕ) (cs : List ℤ) (ss vs : List ℕ) (out : List ℤ) → short_fields gs bs ps cs ss vs out ≡ false → Fields (length gs) gs bs ps cs ss vs × (1 ≤ length out)
unfolding short_fields
fields_whole gs bs ps cs ss vs out e =
    let n = length gs in
    let each = none_of (ltb (length bs) n ∷ ltb (length ps) n ∷ ltb (length cs) n ∷ ltb (length ss) n ∷ ltb (length vs) n ∷ ltb (length out) 1 ∷ []) e in (
      record {
        grocers = omega arith;
        boxes = ltb-false (length bs) n each.0;
        places = ltb-false (length ps) n each.1.0;
        counts = ltb-false (length cs) n each.1.1.0;
        bags = ltb-false (length ss) n each.1.1.1.0;
        revisions = ltb-false (length vs) n each.1.1.1.1.0;
      },
      ltb-false (length out) 1 each.1.1.1.1.1.0,
    )

-- An amount that is told.
pub told_amount : (a : Result ℤ Refusal) (z : ℤ) (out out' : List ℤ) → a ≡ Ok z → out' ≡ overwrite 1 (λ i. z) out → told 0 out' ≡ told_as (answer_of a) out
unfolding told_as answer_of
told_amount a z out out' e h = rw (e, h)
