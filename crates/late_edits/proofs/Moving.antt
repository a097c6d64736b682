-- Words that move up, one after the other, and the entry behind them. Assumes nothing.
use mathlib.Core.Path.{◌≡◌, ap, ◌∙◌}
use mathlib.Core.List.{List}
use Prim.Native.Nat.{ℕ, suc, ◌+◌, ◌-◌, ◌*◌, ◌<◌, ◌≤◌}
use native.Mathlib.Nat.{mul-le-mul_right}
use native.Mathlib.Omega.{arith}
use lib.Dec.{ltb}
use lib.ListN.{get_or, set, length, length-set}
use lib.Seq.{get_or-set_same, get_or-set_other}
use borrow.Author.Tests.{lt-ltb, le-ltb, ltb-true, ltb-false}
use Rattle.laws.proofs.Bools.{split}
use Rattle.laws.proofs.Tables.{is_recell, cell_in}
use Rattle.late_edits.specs.Columns.{edit_entries, moving}
use Rattle.late_rules.proofs.Counts.{before_low, before_high}

-- What stands at each place once the words from a on, up to e, take those w behind: three parts.
pub moved_by : {A : Type 0} (a w e : ℕ) (z : A) (l s : List A) → a ≤ e → let n = e + w - (a + w) in
    ((k : ℕ) → a ≤ k → k < a + n → get_or s k z ≡ get_or l (a + w + (k - a)) z) → ((k : ℕ) → k < a → get_or s k z ≡ get_or l k z) →
    ((k : ℕ) → a + n ≤ k → get_or s k z ≡ get_or l k z) → (k : ℕ) → get_or s k z ≡ moving a w e z l k
unfolding moving
moved_by a w e z l s h inside before past k =
    split (ltb k a)
    (λ b. rw b (before k (ltb-true k a b)))
    (λ b. let lo = ltb-false k a b in split (ltb k e)
    (λ d. let hi = ltb-true k e d in rw (b, d) (inside k lo (omega arith) ∙ ap (λ (j : ℕ). get_or l j z) (omega arith)))
    (λ d. let hi = ltb-false k e d in rw (b, d) (past k (omega arith))))

-- Entries moved up, m, and the words of x put behind them, s: the table is edited.
pub edit_end : {A : Type 0} (w p n a e : ℕ) (z : A) (x : ℕ → A) (l m s : List A) → a ≡ p * w → e ≡ n * w → p ≤ n → n * w + w ≤ length l → length s ≡ length l →
    ((k : ℕ) → get_or m k z ≡ moving a w e z l k) → ((k : ℕ) → k < w → get_or s (e + k) z ≡ x k) → ((k : ℕ) → k < e → get_or s k z ≡ get_or m k z) →
    ((k : ℕ) → e + w ≤ k → get_or s k z ≡ get_or m k z) → s ≡ edit_entries w p n z x l
unfolding edit_entries moving
edit_end w p n a e z x l m s ea ee q long same moved inside before past =
    is_recell (suc n) w _ l s z (omega arith) same
    (λ i k li lk. split (ltb i n)
    (λ b. let lo : i < n = ltb-true i n b in
    let here : i * w + k < n * w = cell_in i n w k lo lk in
    rw b (before (i * w + k) (omega arith) ∙ moved (i * w + k)
    ∙ split (ltb i p)
    (λ d. let ip : i < p = ltb-true i p d in
    rw (before_low p i ip, lt-ltb (i * w + k) a (omega (arith, cell_in i p w k ip lk))))
    (λ d. let pi : p ≤ i = ltb-false i p d in
    rw (before_high p i pi, le-ltb (i * w + k) a (omega (arith, mul-le-mul_right w pi)), lt-ltb (i * w + k) e (omega arith))
    (ap (λ (j : ℕ). get_or l j z) (omega arith)))))
    (λ b. let hi : n ≤ i = ltb-false i n b in
    let last : i ≡ n = omega arith in
    rw b (ap (λ (j : ℕ). get_or s j z) (at i k last) ∙ inside k lk)))
    (λ k h. past k (omega arith) ∙ moved k ∙ rw (le-ltb k a (omega (arith, mul-le-mul_right w q)), le-ltb k e (omega arith)))
  where
    at : (i k : ℕ) → i ≡ n → i * w + k ≡ e + k
    at i k last = rw last (omega arith)

-- Words of one each: the last one is written anew.
pub edit_one : {A : Type 0} (p n : ℕ) (z v : A) (l s : List A) → p ≤ n → n < length l → length s ≡ length l → ((k : ℕ) → get_or s k z ≡ moving p 1 n z l k) →
    set s n v ≡ edit_entries 1 p n z (λ k. v) l
edit_one p n z v l s q long same moved =
    edit_end 1 p n p n z (λ k. v) l s (set s n v) (omega arith) (omega arith) q (omega arith) (length-set s n v ∙ same) moved
    (λ k h. ap (λ (j : ℕ). get_or (set s n v) j z) (omega arith) ∙ get_or-set_same s n v z (omega arith))
    (λ k h. get_or-set_other s n k v z (λ b. omega arith))
    (λ k h. get_or-set_other s n k v z (λ b. omega arith))
