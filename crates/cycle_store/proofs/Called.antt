-- What the call finds in lists is what the store's definitions say. Assumes nothing.
use mathlib.Core.Path.{◌≡◌, refl, sym, ap, ◌∙◌}
use mathlib.Core.Bool.{Bool, true, cond, ◌&&◌, not}
use mathlib.Core.List.{List, [], ◌∷◌}
use Prim.Native.Nat.{ℕ, zero, suc, ◌+◌, ◌-◌, ◌*◌, ◌/◌, ◌%◌, ◌≤◌, ◌<◌, min}
use native.Mathlib.Omega.{arith}
use native.Mathlib.Decide.{dec_lt}
use native.Mathlib.Nat.{mod-lt, div-lt_iff_lt-mul, div-add-mod, le-div_iff_mul-le, mul_comm, add-mul}
use lib.Dec.{ltb, leb, eqb, leb-suc-suc}
use lib.IntN.{ℤ, pos, negsuc, nat_abs}
use lib.Signed.{le_z}
use lib.ListN.{get_or, length, set}
use borrow.Author.Tests.{lt-ltb, le-ltb, ne_eqb, ltb-false, leb-true, not-false}
use Rattle.laws.specs.Below.{integers, all}
use Rattle.laws.specs.Tables.{overwrite, recell, word, cell}
use Rattle.laws.specs.Checks.{first_met}
use Rattle.laws.specs.Limits.{max_grocers}
use Rattle.laws.proofs.Bools.{and_l, and_r, and_one}
use Rattle.laws.proofs.Checks.{unmet, none_of, each_of}
use Rattle.laws.proofs.Below.{all_cong}
use Rattle.laws.proofs.Sums.{sum_cong}
use Rattle.laws.proofs.Tables.{get_d_overwrite, overwrite_cong, overwrite_one, word_in_lem, cell_at}
use Rattle.model.specs.Ranges.{around}
use Rattle.cycle_history.specs.Store.{cycles, max_held, max_kept, max_next, Store, store, Given, given, next_of, held_of, sum_of}
use Rattle.cycle_history.specs.Store.{gap, amount_of, leaving, held_after, sum_after, store_after, store_short, store_in_range, store_refusals, store_refusal, kept, refused, store_answer, stored, store_outcome}
use Rattle.cycle_store.specs.Moved.{rows_leaving, sum_next, word_moved}

-- The limits, less one.
abbrev pub under_held : ℕ
under_held = 99_999_999_999_999

abbrev pub under_kept : ℕ
under_kept = 1_299_999_999_999_999

-- Both tests at once, −l − 1 ≤ x and x ≤ l + 1.
pub within_by : (l : ℕ) (z : ℤ) → (le_z (negsuc l) z && le_z z (pos (suc l))) ≡ leb (nat_abs z) (suc l)
within_by l (pos n) = refl
within_by l (negsuc n) = and_one (leb n l) ∙ sym (leb-suc-suc n l)

module _ (m cycle : ℕ) (next : List ℕ) (held sums amounts : List ℤ) where
  abbrev pub stored_in : Store
  stored_in = store next held sums

  abbrev pub asked_of : Given
  asked_of = given cycle amounts

  -- The first condition met, by what each test says.
  pub refusal_is : (a b c d e : Bool) → store_short m stored_in asked_of ≡ a → store_in_range m stored_in ≡ b → ltb cycle (get_or next 0 0) ≡ c →
      around max_held m amounts ≡ d → around max_kept m (store_after m stored_in asked_of).sums ≡ e →
      store_refusal m stored_in asked_of ≡ cond a 20 (cond (not b) 21 (cond c 35 (cond (not d) 36 (cond (not e) 21 0))))
  unfolding store_refusal store_refusals first_met next_of word
  refusal_is a b c d e p q r s t = rw (p, q, r, s, t)

  -- How far on the cycle is.
  pub gap_is : (k : ℕ) → k ≡ min cycles (1 + cycle - get_or next 0 0) → k ≡ gap stored_in asked_of
  unfolding gap next_of word
  gap_is k e = e ∙ omega arith

  module _ (few : gap stored_in asked_of ≤ 13) where
    abbrev k : ℕ
    k = gap stored_in asked_of

    leaving_is : (g : ℕ) → g < m → leaving m stored_in asked_of g ≡ rows_leaving m k held g
    unfolding leaving rows_leaving held_of
    leaving_is g lg =
        sum_cong integers k _ (λ i. get_or held (((cycles - k) + i) * m + g) (pos 0)) (λ i l. cell_at cycles m held (pos 0) ((cycles - k) + i) g (omega (arith, few)) lg)

    pub sum_is : (g : ℕ) → g < m → sum_after m stored_in asked_of g ≡ sum_next m k amounts held sums g
    unfolding sum_after sum_next sum_of amount_of
    sum_is g lg = rw (word_in_lem m sums (pos 0) g lg, word_in_lem m amounts (pos 0) g lg, leaving_is g lg)

    -- The late 21.
    pub late_is : around max_kept m (store_after m stored_in asked_of).sums ≡ all m (λ g. leb (nat_abs (sum_next m k amounts held sums g)) max_kept)
    unfolding around store_after
    late_is =
        all_cong m (λ i. leb (nat_abs (get_or (overwrite m (sum_after m stored_in asked_of) sums) i (pos 0))) max_kept) (λ g. leb (nat_abs (sum_next m k amounts held sums g)) max_kept)
        (λ g lg. rw (get_d_overwrite m (sum_after m stored_in asked_of) sums g (pos 0) lg ∙ sum_is g lg))

    pub sums_are : overwrite m (sum_next m k amounts held sums) sums ≡ (store_after m stored_in asked_of).sums
    unfolding store_after
    sums_are = overwrite_cong m (sum_next m k amounts held sums) (sum_after m stored_in asked_of) sums (λ g lg. sym (sum_is g lg))

    -- The rows afterwards, word by word.
    moved_is : 1 ≤ m → (p : ℕ) → p < cycles * m → word_moved m (k * m) amounts held p ≡ held_after m stored_in asked_of (p / m) (p % m)
    unfolding word_moved held_after held_of amount_of
    moved_is some p l =
        let whole : m * (p / m) + p % m ≡ p = div-add-mod p m in
        let rest : p % m < m = mod-lt p some in
        let row : p / m < cycles = (div-lt_iff_lt-mul some).1 l in
        elim (dec_lt p m) [
          | yes u ↦
              let one : p / m < 1 = (div-lt_iff_lt-mul some).1 (omega arith) in
              let z : p / m ≡ 0 = omega arith in
              let e : p % m ≡ p = omega (arith, whole, ap (λ (x : ℕ). m * x) z) in
              rw (lt-ltb p m u, z, e) (sym (word_in_lem m amounts (pos 0) p u))
          | no u ↦
              let n : p / m ≡ 0 → ⊥ = λ z. omega (arith, u, whole, rest, ap (λ (x : ℕ). m * x) z) in
              elim (dec_lt p (k * m)) [
                | yes v ↦ rw (le-ltb p m (omega (arith, u)), lt-ltb p (k * m) v, ne_eqb (p / m) 0 n, lt-ltb (p / m) k ((div-lt_iff_lt-mul some).1 v))
                | no v ↦ later some p whole rest row (omega (arith, u)) n (omega (arith, v))
              ]
        ]
      where
        later : 1 ≤ m → (p : ℕ) → m * (p / m) + p % m ≡ p → p % m < m → p / m < cycles → m ≤ p → (p / m ≡ 0 → ⊥) → k * m ≤ p →
            cond (ltb p m) (get_or amounts p (pos 0)) (cond (ltb p (k * m)) (pos 0) (get_or held (p - k * m) (pos 0)))
            ≡ cond (eqb (p / m) 0) (word m amounts (pos 0) (p % m)) (cond (ltb (p / m) k) (pos 0) (cell cycles m held (pos 0) (p / m - k) (p % m)))
        later some p whole rest row h n v =
            let up : k ≤ p / m = (le-div_iff_mul-le some).1 v in
            let back : p / m - k + k ≡ p / m = omega arith in
            let at : (p / m - k) * m + p % m ≡ p - k * m = omega (arith, whole, mul_comm m (p / m), add-mul (p / m - k) k m, ap (λ (x : ℕ). x * m) back) in
            rw (le-ltb p m h, le-ltb p (k * m) v, ne_eqb (p / m) 0 n, le-ltb (p / m) k up)
            (sym (cell_at cycles m held (pos 0) (p / m - k) (p % m) (omega (arith, row)) rest ∙ ap (λ (x : ℕ). get_or held x (pos 0)) at))

    pub held_are : 1 ≤ m → overwrite (13 * m) (word_moved m (k * m) amounts held) held ≡ (store_after m stored_in asked_of).held
    unfolding store_after recell
    held_are some = overwrite_cong (13 * m) (word_moved m (k * m) amounts held) (λ i. held_after m stored_in asked_of (i / m) (i % m)) held (moved_is some)

  pub next_are : 1 ≤ length next → set next 0 (cycle + 1) ≡ (store_after m stored_in asked_of).next
  unfolding store_after
  next_are l = let e : cycle + 1 ≡ suc cycle = omega arith in rw e (sym (overwrite_one (suc cycle) next l))

  -- A call that is not refused.
  pub record Taken : Type 0 where
    pub next_long_lem : 1 ≤ length next
    pub held_long_lem : cycles * m ≤ length held
    pub sums_long_lem : m ≤ length sums
    pub amounts_long : m ≤ length amounts
    pub some : 1 ≤ m
    pub few_grocers_lem : m ≤ max_grocers
    pub held_in : around max_held (cycles * m) held ≡ true
    pub sums_in : around max_kept m sums ≡ true
    pub on : get_or next 0 0 ≤ cycle
    pub given_in : around max_held m amounts ≡ true

  pub taken : store_refusal m stored_in asked_of ≡ 0 → Taken
  unfolding store_refusal store_refusals store_short store_in_range next_of word
  taken ok =
      let u = unmet (store_refusals m stored_in asked_of) refl ok in
      let l = none_of (ltb (length next) 1 ∷ ltb (length held) (cycles * m) ∷ ltb (length sums) m ∷ ltb (length amounts) m ∷ []) u.0 in
      let r = each_of ((leb 1 m && leb m max_grocers) ∷ leb (get_or next 0 0) max_next ∷ around max_held (cycles * m) held ∷ around max_kept m sums ∷ []) (not-false _ u.1.0) in
      record {
        next_long_lem = ltb-false _ _ l.0;
        held_long_lem = ltb-false _ _ l.1.0;
        sums_long_lem = ltb-false _ _ l.1.1.0;
        amounts_long = ltb-false _ _ l.1.1.1.0;
        some = leb-true 1 m (and_l (leb 1 m) _ r.0);
        few_grocers_lem = leb-true m max_grocers (and_r (leb 1 m) _ r.0);
        held_in = r.1.1.0;
        sums_in = r.1.1.1.0;
        on = ltb-false cycle (get_or next 0 0) u.1.1.0;
        given_in = not-false (around max_held m amounts) u.1.1.1.0;
      }

-- A call that is refused says the number and leaves the store as it was,
pub refused_stored : (m : ℕ) (s : Store) (q : Given) (n : ℕ) → 0 < n → n ≡ store_refusal m s q → store_outcome (refused n) s ≡ stored m s q
unfolding stored store_answer
refused_stored m s q zero some e = absurd (omega arith)
refused_stored m s q (suc n) some e = rw (← e, ne_eqb (suc n) 0 (λ z. omega arith))

-- and one that is not leaves what is due.
pub kept_stored : (m : ℕ) (s : Store) (q : Given) → 0 ≡ store_refusal m s q → store_outcome kept (store_after m s q) ≡ stored m s q
unfolding stored store_answer
kept_stored m s q e = rw (← e)
