-- What a box likes best of the steps that rows have, one kind of its preferences after the other. Assumes nothing.
use mathlib.Core.Path.{◌≡◌, refl, sym, ap, ◌∙◌}
use mathlib.Core.Bool.{Bool, true, false, not}
use mathlib.Core.List.{List}
use Prim.Native.Nat.{ℕ, ◌+◌, ◌-◌, ◌*◌, ◌≤◌, ◌<◌}
use native.Mathlib.Omega.{arith}
use lib.Arith.{digits_div, digits_mod, digits_lt}
use lib.Dec.{ltb}
use lib.ListN.{get_or}
use borrow.Author.Tests.{eq-eqb, ne_eqb, ltb-true, ltb-false, not-true, not-false}
use Rattle.laws.specs.Below.{any, all, count, find}
use Rattle.laws.specs.Masks.{bit, mask_of}
use Rattle.laws.proofs.Bools.{split}
use Rattle.laws.proofs.Below.{any_at, any_none, any_false, all_at, all_find, count_zero, count_at}
use Rattle.laws.proofs.Masks.{bit_mask, mask_empty}
use Rattle.laws.proofs.Tables.{cell_in, row_next}
use Rattle.run_ready.specs.declared.ReadyRows.{ReadyRows}
use Rattle.run_ready.specs.Rows.{row_of, IsRows}
use Rattle.trial_rounds.specs.Taken.{Liking, likes, First}
use Rattle.trial_rules.proofs.Preferences.{find_first, kind_in}

-- Kind i of the preferences, counted from 0, of box a, and the word of its row.
module _ (k a : ℕ) (list : List ℕ) (w : Liking k list) (la : a < k) (i : ℕ) (li : i < 6) (f : ℕ → Bool) (rows : ReadyRows) (h : IsRows k f rows) (r : ℕ) (er : r ≡ row_of k (get_or list i 0) a) where
  abbrev kind : ℕ
  kind = get_or list i 0

  row_in : row_of k kind a < 6 * k
  row_in = digits_lt {q = kind - 1} {m = 6} (omega (arith, kind_in list w.is_list i li)) la

  -- The places of this row.
  abbrev places : ℕ → Bool
  places b = f (row_of k kind a * k + b)

  word_is : get_or rows.words r 0 ≡ mask_of k places
  word_is = ap (λ (x : ℕ). get_or rows.words x 0) er ∙ (h.right (row_of k kind a) row_in).word_is

  likes_at : (b : ℕ) → b < k → likes k list f a (i * k + b) ≡ places b
  likes_at b lb = rw (digits_div i lb, digits_mod i lb)

  bit_is : (b : ℕ) → b < k → bit b (get_or rows.words r 0) ≡ places b
  bit_is b lb = rw word_is (bit_mask k b places lb)

  -- A place before row i is passed, and one behind it is one of the row.
  before : any (i * k) (likes k list f a) ≡ false → (m x : ℕ) → x < i * k + m → ((b : ℕ) → b < m → likes k list f a (i * k + b) ≡ false) → likes k list f a x ≡ false
  before e m x l row =
      split (ltb x (i * k))
      (λ q. any_none (i * k) (likes k list f a) x (ltb-true x (i * k) q) e)
      (λ q. let g : i * k ≤ x = ltb-false x (i * k) q in
      let same : i * k + (x - i * k) ≡ x = omega arith in
      rw same at (row (x - i * k) (omega arith)))

  -- The row is empty: none of this kind is liked either.
  pub none_more : any (i * k) (likes k list f a) ≡ false → get_or rows.words r 0 ≡ 0 → any ((i + 1) * k) (likes k list f a) ≡ false
  none_more e z = any_false ((i + 1) * k) (likes k list f a) (λ x l. before e k x (omega (arith, l, row_next i k)) (λ b lb. likes_at b lb ∙ off b lb))
    where
      empty : all k (λ b. not (places b)) ≡ true
      empty = sym (mask_empty k places) ∙ eq-eqb (mask_of k places) 0 (sym word_is ∙ z)

      off : (b : ℕ) → b < k → places b ≡ false
      off b lb = not-true (places b) (all_at k (λ b. not (places b)) b lb empty)

  -- It is not: it has a bit.
  pub word_some : (get_or rows.words r 0 ≡ 0 → ⊥) → 0 < count k (λ b. bit b (get_or rows.words r 0))
  word_some ne =
      let (b, lb, e) = all_find k (λ b. not (places b)) (sym (mask_empty k places) ∙ ne_eqb (mask_of k places) 0 (λ z. ne (word_is ∙ z))) in
      count_at k (λ b. bit b (get_or rows.words r 0)) b lb (bit_is b lb ∙ not-false (places b) e)

  -- The first bit is the step that the box likes best.
  module _ (e : any (i * k) (likes k list f a) ≡ false) (b : ℕ) (lb : b < k) (on : bit b (get_or rows.words r 0) ≡ true) (none : count b (λ x. bit x (get_or rows.words r 0)) ≡ 0) where
    liked : likes k list f a (i * k + b) ≡ true
    liked = likes_at b lb ∙ sym (bit_is b lb) ∙ on

    at_first : find (6 * k) (likes k list f a) ≡ i * k + b
    at_first =
        find_first (6 * k) (likes k list f a) (i * k + b) (cell_in i 6 k b li lb) liked
        (λ x l. before e b x l (λ y ly. likes_at y (omega arith) ∙ sym (bit_is y (omega arith)) ∙ count_zero b (λ x. bit x (get_or rows.words r 0)) y ly none))

    pub first_liked : First k list f a kind a b
    first_liked = record {
      place_in = record { boxes_in = w.boxes_in; kind_from = (kind_in list w.is_list i li).0; kind_to = (kind_in list w.is_list i li).1; a_in = la; b_in = lb };
      first_is = refl;
      likes_one = any_at (6 * k) (likes k list f a) (i * k + b) (cell_in i 6 k b li lb) liked;
      kind_is = rw (at_first, digits_div i lb);
      second_is = rw at_first (digits_mod i lb);
    }
