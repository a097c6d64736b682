-- One grocer: what is held by age, before and after a cycle is stored. Assumes nothing.
use mathlib.Core.Path.{◌≡◌, refl, sym, ap, ap₂, ◌∙◌}
use mathlib.Core.Bool.{true, false, cond, ◌&&◌}
use Prim.Native.Nat.{ℕ, zero, suc, ◌+◌, ◌-◌, ◌<◌, ◌≤◌, min}
use native.Mathlib.Omega.{arith}
use native.Mathlib.Decide.{dec_lt}
use lib.Dec.{ltb, eqb}
use lib.IntN.{ℤ, pos, ◌+ℤ◌, ◌-ℤ◌, +ℤ_idr, +ℤ_idl, +ℤ_comm, +ℤ-neg_ℤ_cancel}
use borrow.Author.Tests.{lt-ltb, le-ltb, eq-eqb, ne_eqb}
use Rattle.laws.specs.Below.{sum, only, integers}
use Rattle.laws.proofs.Sums.{sum_cong, sum_pick, only_yes, only_no}
use Rattle.cycle_history.specs.Store.{cycles}
use Rattle.cycle_history.proofs.Split.{sum_split}

-- One grocer: what is held by age, what is given, and how far the new cycle is on.
module _ (held : ℕ → ℤ) (a : ℤ) (k : ℕ) (some : 0 < k) (few : k ≤ cycles) where
  abbrev pub next : ℕ → ℤ
  next i = cond (eqb i 0) a (cond (ltb i k) (pos 0) (held (i - k)))

  front : sum integers k next ≡ a
  unfolding only integers
  front = sum_cong integers k next (λ i. only integers (eqb 0 i && true) a) first ∙ sum_pick integers k 0 true a some
    where
      first : (i : ℕ) → i < k → next i ≡ only integers (eqb 0 i && true) a
      first zero l = refl
      first (suc i) l = rw (lt-ltb (suc i) k l, ne_eqb (suc i) 0 (λ z. omega arith), ne_eqb 0 (suc i) (λ z. omega arith))

  back : (i : ℕ) → next (k + i) ≡ held i
  back i =
      let e : k + i - k ≡ i = omega arith in
      rw (ne_eqb (k + i) 0 (λ z. omega arith), le-ltb (k + i) k (omega arith), e)

  -- What is kept is the sum of what is held.
  pub kept_up : (sum integers cycles held -ℤ sum integers k (λ i. held ((cycles - k) + i))) +ℤ a ≡ sum integers cycles next
  unfolding integers
  kept_up =
      ap (λ (x : ℤ). (x -ℤ sum integers k (λ i. held ((cycles - k) + i))) +ℤ a) whole
      ∙ ap (λ (x : ℤ). x +ℤ a) (+ℤ-neg_ℤ_cancel (sum integers (cycles - k) held) (sum integers k (λ i. held ((cycles - k) + i))))
      ∙ +ℤ_comm (sum integers (cycles - k) held) a
      ∙ sym parts
    where
      one : (cycles - k) + k ≡ cycles
      one = omega arith

      other : k + (cycles - k) ≡ cycles
      other = omega arith

      whole : sum integers cycles held ≡ sum integers (cycles - k) held +ℤ sum integers k (λ i. held ((cycles - k) + i))
      whole = ap (λ (n : ℕ). sum integers n held) (sym one) ∙ sum_split integers (cycles - k) k held

      parts : sum integers cycles next ≡ a +ℤ sum integers (cycles - k) held
      parts =
          ap (λ (n : ℕ). sum integers n next) (sym other)
          ∙ sum_split integers k (cycles - k) next
          ∙ ap₂ (λ (x y : ℤ). x +ℤ y) front (sum_cong integers (cycles - k) (λ i. next (k + i)) held (λ i l. back i))

-- The history with one cycle more: what is held by age afterwards.
module _ (h : ℕ → ℤ) (a : ℤ) (n c : ℕ) (on : n ≤ c) (later : (d : ℕ) → n ≤ d → h d ≡ pos 0) where
  abbrev more : ℕ → ℤ
  more d = h d +ℤ only integers (eqb c d) a

  abbrev k : ℕ
  k = min cycles (suc c - n)

  -- A number before c is as it was.
  before : (d : ℕ) → d < c → more d ≡ h d
  unfolding integers
  before d l = ap (λ (x : ℤ). h d +ℤ x) (only_no integers (eqb c d) a (ne_eqb c d (λ z. omega arith))) ∙ +ℤ_idr (h d)

  pub aged : (i : ℕ) → i < cycles →
      cond (eqb i 0) a (cond (ltb i k) (pos 0) (only integers (ltb (i - k) n) (h (n - suc (i - k))))) ≡ only integers (ltb i (suc c)) (more (suc c - suc i))
  unfolding only integers
  aged zero l =
      let e : suc c - 1 ≡ c = omega arith in
      rw (lt-ltb 0 (suc c) (omega arith), e, eq-eqb c c refl, later c on) (sym (+ℤ_idl a))
  aged (suc i) l =
      elim (dec_lt (suc i) k) [
        | yes q ↦ rw (none, lt-ltb (suc i) k q) (sym (gone q))
        | no q ↦ rw (none, le-ltb (suc i) k (omega (arith, q))) (kept (omega (arith, q)))
      ]
    where
      none : eqb (suc i) 0 ≡ false
      none = ne_eqb (suc i) 0 (λ z. omega arith)

      gone : suc i < k → only integers (ltb (suc i) (suc c)) (more (suc c - suc (suc i))) ≡ pos 0
      gone q =
          let e : suc i < suc c = omega arith in
          only_yes integers (ltb (suc i) (suc c)) (more (suc c - suc (suc i))) (lt-ltb (suc i) (suc c) e)
          ∙ before (suc c - suc (suc i)) (omega arith) ∙ later (suc c - suc (suc i)) (omega arith)

      kept : k ≤ suc i → only integers (ltb (suc i - k) n) (h (n - suc (suc i - k))) ≡ only integers (ltb (suc i) (suc c)) (more (suc c - suc (suc i)))
      kept q =
          elim (dec_lt (suc i) (suc c)) [
            | yes p ↦
                let e : n - suc (suc i - k) ≡ suc c - suc (suc i) = omega arith in
                only_yes integers (ltb (suc i - k) n) (h (n - suc (suc i - k))) (lt-ltb (suc i - k) n (omega arith)) ∙ ap h e
                ∙ sym (only_yes integers (ltb (suc i) (suc c)) (more (suc c - suc (suc i))) (lt-ltb (suc i) (suc c) p) ∙ before (suc c - suc (suc i)) (omega arith))
            | no p ↦
                only_no integers (ltb (suc i - k) n) (h (n - suc (suc i - k))) (le-ltb (suc i - k) n (omega (arith, p)))
                ∙ sym (only_no integers (ltb (suc i) (suc c)) (more (suc c - suc (suc i))) (le-ltb (suc i) (suc c) (omega (arith, p))))
          ]
