-- A copy of a table, edited, holds the words of the table edited. Assumes nothing.
use mathlib.Core.Path.{◌≡◌, sym, ap, ◌∙◌}
use mathlib.Core.Bool.{cond}
use mathlib.Core.List.{List}
use Prim.Native.Nat.{ℕ, suc, ◌-◌, ◌+◌, ◌*◌, ◌/◌, ◌%◌, ◌<◌, ◌≤◌}
use native.Mathlib.Nat.{div-add-mod', mod-lt, div-lt_iff_lt-mul}
use lib.Dec.{ltb}
use native.Mathlib.Omega.{arith}
use lib.ListN.{get_or, length, take, drop}
use Rattle.std.proofs.Common.{◌++◌}
use Rattle.std.proofs.lemmas.List.{length-take-le, length-drop, length-append, get_or_append_left, get_or-append_right, get_or-take, get_or-drop}
use borrow.Author.Tests.{ltb-true}
use Rattle.laws.specs.Tables.{overwrite, recell}
use Rattle.laws.proofs.Bools.{split}
use Rattle.laws.proofs.Tables.{get_d_recell, get_d_overwrite, cell_in, pos_right, long_overwrite, is_overwrite}
use Rattle.late_rules.specs.Edit.{place_before}
use Rattle.late_edits.specs.Columns.{edit_entries}
use Rattle.late_checks.specs.Held.{Shaped, Holds}

module _ {A : Type 0} (w p n : ℕ) (z : A) (x : ℕ → A) where
  -- Word k of entry i of an edited table.
  pub edit_at : (l : List A) (i k : ℕ) → i < suc n → k < w →
      get_or (edit_entries w p n z x l) (i * w + k) z ≡ cond (ltb i n) (get_or l (place_before p i * w + k) z) (x k)
  unfolding edit_entries
  edit_at l i k li lk = get_d_recell (suc n) w _ l i k z li lk

  -- Where the first t entries are copied, the words moved are those of the table.
  alike : (t : ℕ) (l c : List A) → Shaped t p n → ((j : ℕ) → j < t * w → get_or c j z ≡ get_or l j z) →
      (i k : ℕ) → i < suc n → k < w → get_or (edit_entries w p n z x c) (i * w + k) z ≡ get_or (edit_entries w p n z x l) (i * w + k) z
  alike t l c s same i k li lk =
      edit_at c i k li lk
      ∙ split (ltb i n)
      (λ b. rw b (same (place_before p i * w + k) (cell_in (place_before p i) t w k (s.read i (ltb-true i n b)) lk)))
      (λ b. rw b)
      ∙ sym (edit_at l i k li lk)

  edit_long : (l : List A) → suc n * w ≤ length (edit_entries w p n z x l)
  unfolding edit_entries recell
  edit_long l = long_overwrite (suc n * w) _ l

  -- So a copy of the first t entries, edited, holds the table edited.
  pub copy_holds : (t b : ℕ) (l l₀ c r : List A) → b ≡ t * w → Shaped t p n → c ≡ overwrite b (λ i. get_or l i z) l₀ → r ≡ edit_entries w p n z x c → Holds w p n z x l r
  copy_holds t b l l₀ c r eb s e m = record {
    long = rw m (edit_long c);
    words = λ j q.
        let some : 0 < w = pos_right (suc n) w j q in
        let whole : j / w * w + j % w ≡ j = div-add-mod' j w in
        ap (λ (y : List A). get_or y j z) m
        ∙ ap (λ (i : ℕ). get_or (edit_entries w p n z x c) i z) (sym whole)
        ∙ alike t l c s (λ i h. ap (λ (y : List A). get_or y i z) e ∙ get_d_overwrite b (λ i. get_or l i z) l₀ i z (rw eb h)) (j / w) (j % w) ((div-lt_iff_lt-mul some).1 q) (mod-lt j some)
        ∙ ap (λ (i : ℕ). get_or (edit_entries w p n z x l) i z) whole;
  }

-- The first n words of a table, copied over those of another.
pub copied_part : {A : Type 0} (n : ℕ) (z : A) (l l₀ r : List A) → n ≤ length l → n ≤ length l₀ → r ≡ take n l → r ++ drop n l₀ ≡ overwrite n (λ i. get_or l i z) l₀
copied_part n z l l₀ r long room e =
    let many : length r ≡ n = rw e (length-take-le n l long) in
    is_overwrite n (λ i. get_or l i z) l₀ (r ++ drop n l₀) z room
    (omega (arith, length-append r (drop n l₀), length-drop n l₀, many))
    (λ i h. get_or_append_left r (drop n l₀) z i (omega (arith, many, h)) ∙ rw e (get_or-take n l i z h))
    (λ i h. get_or-append_right r (drop n l₀) n i z many h ∙ get_or-drop n l₀ (i - n) z ∙ ap (λ (j : ℕ). get_or l₀ j z) (omega (arith, h)))
