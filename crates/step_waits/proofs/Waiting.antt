-- The words that a pass makes are those of waits. Assumes nothing.
use mathlib.Core.Path.{◌≡◌, refl, sym, ap, ◌∙◌}
use mathlib.Core.Bool.{true, false, ◌&&◌, ◌||◌}
use mathlib.Core.List.{List, []}
use Prim.Native.Nat.{ℕ, ◌+◌, ◌^◌, ◌<◌, ◌≤◌}
use native.Mathlib.Omega.{arith}
use lib.ListN.{get_or, set, replicate}
use lib.Dec.{eqb, ltb}
use lib.Bits.{bit_or}
use borrow.Author.Tests.{ltb-true, eqb-true, ne_eqb}
use Rattle.laws.specs.Below.{any, only, naturals}
use Rattle.laws.specs.Masks.{mask_of}
use Rattle.laws.specs.Tables.{tabulate, cell_at}
use Rattle.laws.proofs.Bools.{split, eqb_same, and_false, or_false}
use Rattle.laws.proofs.Below.{any_next}
use Rattle.laws.proofs.Masks.{mask_cong, mask_or}
use Rattle.step_waits.specs.Waits.{TallyLists, grocer_box, offer_box, waits_on, wait_table, waited}
use Rattle.laws.proofs.Rows.{rows_cong, rows_at, rows_set}
use Rattle.job_masks.proofs.Holders.{held_in, held_out}

-- No tally yet.
pub waits_none : (k : ℕ) (l : TallyLists) → replicate 16 (replicate 16 0) ≡ wait_table k l 0
unfolding wait_table waits_on any tabulate mask_of only naturals
waits_none k l = refl

-- One tally more.
module _ (k : ℕ) (l : TallyLists) (n : ℕ) (lk : k ≤ 16) (lg : grocer_box l n < 16) (lo : offer_box l n < 16) where
  abbrev box : ℕ
  box = get_or l.box n 0

  abbrev to : ℕ
  to = grocer_box l n

  abbrev from : ℕ
  from = offer_box l n

  waits_next : (x y o : ℕ) → waits_on k l (n + 1) x y o ≡ (waits_on k l n x y o || ((eqb box x && ltb x k) && (eqb to y && eqb from o)))
  unfolding waits_on
  waits_next x y o = any_next n (λ t. (eqb (get_or l.box t 0) x && ltb x k) && (eqb (grocer_box l t) y && eqb (offer_box l t) o))

  abbrev word : ℕ → ℕ → ℕ → ℕ
  word m x y = mask_of 16 (waits_on k l m x y)

  -- A word that stays.
  stays : (x y : ℕ) → ((o : ℕ) → ((eqb box x && ltb x k) && (eqb to y && eqb from o)) ≡ false) → word (n + 1) x y ≡ word n x y
  stays x y h = mask_cong 16 _ (waits_on k l n x y) (λ o m. waits_next x y o ∙ rw (h o) (or_false (waits_on k l n x y o)))

  other : (x y : ℕ) → (x ≡ box → y ≡ to → ⊥) → (o : ℕ) → ((eqb box x && ltb x k) && (eqb to y && eqb from o)) ≡ false
  other x y ne o =
      split (eqb box x)
      (λ e. rw (ne_eqb to y (λ q. ne (sym (eqb-true box x e)) (sym q))) (and_false (eqb box x && ltb x k)))
      (λ e. rw e)

  module _ (e : ltb box k ≡ true) where
    small : box < 16
    small = let m : box < k = ltb-true box k e in omega arith

    set_one : bit_or (word n box to) (2 ^ from) ≡ word (n + 1) box to
    set_one =
        mask_or 16 from (waits_on k l n box to) lo
        ∙ mask_cong 16 _ (waits_on k l (n + 1) box to) (λ o m. sym (waits_next box to o ∙ rw (held_in k box box e, eqb_same box, eqb_same to)))

    pub waits_set : set (wait_table k l n) box (set (get_or (wait_table k l n) box []) to (bit_or (cell_at (wait_table k l n) box to) (2 ^ from))) ≡ wait_table k l (n + 1)
    unfolding wait_table
    waits_set =
        rows_set 16 16 (word n) (word (n + 1)) 0 box to _ small lg
        (ap (λ (x : ℕ). bit_or x (2 ^ from)) (rows_at 16 16 (word n) 0 box to small lg) ∙ set_one)
        (λ x y ne. stays x y (other x y ne))

  unheld : ltb box k ≡ false → wait_table k l n ≡ wait_table k l (n + 1)
  unfolding wait_table
  unheld e = rows_cong 16 16 (word n) (word (n + 1)) (λ x y lx ly. sym (stays x y (λ o. rw (held_out k box x e))))

  pub waits_more : waited k box to from (wait_table k l n) ≡ wait_table k l (n + 1)
  unfolding waited
  waits_more = split (ltb box k) (λ e. rw e (waits_set e)) (λ e. rw e (unheld e))

  -- The same, by words that are told to be these.
  pub waits_told : (words : List (List ℕ)) (a b o : ℕ) → words ≡ wait_table k l n → a ≡ get_or l.box n 0 → b ≡ grocer_box l n → o ≡ offer_box l n →
      waited k a b o words ≡ wait_table k l (n + 1)
  waits_told words a b o ew ea eb eo = rw (ew, ea, eb, eo) waits_more
