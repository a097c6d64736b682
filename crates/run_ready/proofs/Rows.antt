-- Counts of rows added up. Assumes nothing.
use mathlib.Core.Path.{◌≡◌, refl, ap, ◌∙◌}
use mathlib.Core.List.{[], ◌∷◌, ◌++◌}
use mathlib.Core.Bool.{Bool}
use Prim.Native.Nat.{ℕ, zero, suc, ◌+◌, ◌*◌, ◌≤◌, ◌<◌}
use native.Mathlib.Omega.{arith}
use native.Mathlib.Nat.{add-zero}
use lib.ListN.{length, get_or, take, drop, length-drop}
use lib.Seq.{take-suc, get_or-drop}
use Rattle.std.proofs.lemmas.List.Sums.{fold_push}
use Rattle.std.specs.List.{sum as list_sum}
use Rattle.laws.specs.Below.{naturals, sum}
use Rattle.laws.proofs.Sums.{sum_next_lem, sum_max}
use Rattle.laws.proofs.Masks.{mask_cong}
use Rattle.laws.proofs.Below.{count_cong}
use Rattle.run_ready.specs.declared.ReadyRows.{ReadyRows}
use Rattle.run_ready.specs.Rows.{rows_total, FewRows, HasRow}

-- Few rows add up to little.
pub rows_little : (k : ℕ) (rows : ReadyRows) (r : ℕ) → FewRows k rows → r ≤ 6 * k → rows_total rows r ≤ r * 16
unfolding rows_total
rows_little k rows r w l = sum_max r 16 (λ i. get_or rows.counts i 0) (λ i h. w.few i (omega arith))

pub rows_more : (rows : ReadyRows) (r : ℕ) → rows_total rows (r + 1) ≡ rows_total rows r + get_or rows.counts r 0
unfolding rows_total naturals
rows_more rows r = sum_next_lem naturals r (λ i. get_or rows.counts i 0)

pub rows_none : (rows : ReadyRows) → rows_total rows 0 ≡ 0
unfolding rows_total sum naturals
rows_none rows = refl

-- The counts of n rows from one on, added up as std does.
pub span_total : (rows : ReadyRows) (from n : ℕ) → from + n ≤ length rows.counts → list_sum (take n (drop from rows.counts)) + rows_total rows from ≡ rows_total rows (from + n)
span_total rows from zero h = omega (arith, ap (rows_total rows) (add-zero from))
span_total rows from (suc n) h =
    let next : take (suc n) (drop from rows.counts) ≡ take n (drop from rows.counts) ++ (get_or (drop from rows.counts) n 0 ∷ []) =
    take-suc (drop from rows.counts) n 0 (rw length-drop (omega arith)) in
    let last : get_or (drop from rows.counts) n 0 ≡ get_or rows.counts (from + n) 0 =
    get_or-drop from rows.counts n 0 in
    let place : from + suc n ≡ from + n + 1 = omega arith in
    rw (next, place)
    (omega (arith, fold_push (λ (a x : ℕ). a + x) 0 (take n (drop from rows.counts)) (get_or (drop from rows.counts) n 0), last, span_total rows from n (omega arith), rows_more rows (from + n)))

-- A row by tests that agree.
pub has_cong : (k : ℕ) (f g : ℕ → Bool) (r : ℕ) (rows : ReadyRows) → ((b : ℕ) → b < k → f b ≡ g b) → HasRow k f r rows → HasRow k g r rows
has_cong k f g r rows e h = record { word_is = h.word_is ∙ mask_cong k f g e; count_is = h.count_is ∙ count_cong k f g e }
