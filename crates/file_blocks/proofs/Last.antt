-- What 7, 8 and 9 come to, and 9 told from the tallies' keys. Assumes nothing.
use mathlib.Core.Path.{◌≡◌, refl, sym, ap, ◌∙◌}
use mathlib.Core.Bool.{true, false, not, cond}
use mathlib.Core.List.{List}
use Prim.Native.Nat.{ℕ, ◌+◌, ◌*◌, ◌≤◌, ◌<◌}
use native.Mathlib.Omega.{arith}
use lib.Dec.{eqb}
use borrow.Author.Tests.{not-false}
use Rattle.laws.specs.Below.{any}
use Rattle.laws.specs.Checks.{first_met}
use Rattle.laws.specs.Tables.{overwrite}
use Rattle.laws.proofs.Below.{any_none}
use Rattle.laws.proofs.Tables.{filled_right}
use Rattle.recount.specs.Recount.{loose, counted_twice}
use Rattle.recount.specs.Keys.{bag_key, count_key}
use Rattle.index.specs.Bags.{KeysOf}
use Rattle.format.specs.Bytes.{from, word16}
use Rattle.format.specs.Job.{Head, FileJob, place_of, shared, unnamed, counted_tallies}
use Rattle.format.specs.Blocks.{tallies_at}
use Rattle.format.specs.File.{record_at, decode}
use Rattle.file_blocks.specs.Fills.{Whole}
use Rattle.file_blocks.specs.Sound.{names_refusal, last_refusal}
use Rattle.index.proofs.Loose.{loose_once}
use Rattle.format.proofs.Order.{before_9, then_9, not_9}
use Rattle.file_blocks.proofs.RecordWords.{tally_grocer_lem, tally_bag_lem, tally_revision_lem}
use Rattle.file_blocks.proofs.Looked.{place_most}

-- ---- 7 and 8

-- Two offers share a name: 7.
pub names_7 : (j : FileJob) → shared j ≡ true → 7 ≡ names_refusal j
unfolding names_refusal first_met
names_7 j h = rw h

-- None do, and the tallies decide: 8 where one names no offer.
pub names_rest : (j : FileJob) (n : ℕ) → shared j ≡ false → n ≡ cond (unnamed j) 8 0 → n ≡ names_refusal j
unfolding names_refusal first_met
names_rest j n h e = rw h e

-- ---- 9

-- One of the two is met.
pub last_names : (j : FileJob) (r : ℕ) → r ≡ names_refusal j → (r ≡ 0 → ⊥) → r ≡ last_refusal j
unfolding names_refusal last_refusal
last_names j r e n = before_9 _ _ _ r e n

-- Neither is, and a bag and revision stands twice: 9.
pub last_9 : (j : FileJob) (r : ℕ) → r ≡ names_refusal j → r ≡ 0 → counted_twice (counted_tallies j) ≡ true → 9 ≡ last_refusal j
unfolding names_refusal last_refusal
last_9 j r e z h = then_9 _ _ _ (sym e ∙ z) h

-- None is met.
pub last_0 : (j : FileJob) (r : ℕ) → r ≡ names_refusal j → r ≡ 0 → counted_twice (counted_tallies j) ≡ false → 0 ≡ last_refusal j
unfolding names_refusal last_refusal
last_0 j r e z h = not_9 _ _ _ (sym e ∙ z) h

-- Where every bag is 0 all tallies are loose coupons,
pub all_loose : (j : FileJob) → any j.head.tallies (λ t. not (eqb (j.tally t).bag 0)) ≡ false → (t : ℕ) → t < j.head.tallies → loose (counted_tallies j) t ≡ true
unfolding counted_tallies loose
all_loose j h t l = not-false _ (any_none j.head.tallies (λ t. not (eqb (j.tally t).bag 0)) t l h)

-- and none stands twice.
pub no_bags : (j : FileJob) → any j.head.tallies (λ t. not (eqb (j.tally t).bag 0)) ≡ false → counted_twice (counted_tallies j) ≡ false
unfolding counted_tallies
no_bags j h = loose_once (counted_tallies j) (all_loose j h)

-- The key of tally i, from its record and the place of its offer.
pub key_at_lem : (f : List ℕ) {h : Head} (i : ℕ) {at p : ℕ} → Whole f h → at ≡ record_at (tallies_at h) i → p ≡ place_of (decode f) i →
    ((word16 (from f at) * 512 + p) * 65_536 + word16 (from f (at + 20))) * 65_536 + word16 (from f (at + 22)) ≡ count_key (counted_tallies (decode f)) i
unfolding count_key bag_key counted_tallies
key_at_lem f i {at} w e q = rw (tally_grocer_lem f i w e, tally_bag_lem f i w e, tally_revision_lem f i w e, q)

-- All keys are there.
pub keys_of : (f old keys : List ℕ) {h : Head} → Whole f h →
    ((i : ℕ) → i < h.tallies → let at = record_at (tallies_at h) i in (word16 (from f (at + 20)) ≤ 65_535) × (word16 (from f (at + 22)) ≤ 65_535)) →
    keys ≡ overwrite h.tallies (count_key (counted_tallies (decode f))) old →
    KeysOf (counted_tallies (decode f)) keys h.tallies
unfolding counted_tallies
keys_of f old keys {h} w fits e =
    record {
      size = ap (λ (x : Head). x.tallies) (sym w.says);
      inside = record {
        offer = λ t l. let n : h.offers ≡ (decode f).head.offers = ap (λ (x : Head). x.offers) w.says in omega (arith, place_most (decode f) t, n, w.most.offers);
        bag = λ t l. omega (arith, (fits t (inside t l)).0, tally_bag_lem f t w refl);
        revision = λ t l. omega (arith, (fits t (inside t l)).1, tally_revision_lem f t w refl);
      };
      key = filled_right 0 (count_key (counted_tallies (decode f))) old keys h.tallies e;
    }
  where
    inside : (t : ℕ) → t < (decode f).head.tallies → t < h.tallies
    inside t l = let n : h.tallies ≡ (decode f).head.tallies = ap (λ (x : Head). x.tallies) w.says in omega arith
