-- A table of messages while the words of one owner more are added to it, box by box. Assumes nothing.
use mathlib.Core.Path.{◌≡◌, refl, sym, ap, ap₂, ◌∙◌}
use mathlib.Core.Bool.{Bool, true, false, cond, ◌&&◌, not}
use mathlib.Core.List.{List, []}
use Prim.Native.Nat.{ℕ, ◌+◌, ◌^◌, ◌<◌, ◌≤◌}
use native.Mathlib.Nat.{add-zero}
use native.Mathlib.Omega.{arith}
use lib.ListN.{get_or, set, replicate}
use lib.Dec.{eqb, ltb}
use borrow.Author.Tests.{lt-ltb, le-ltb, ltb-true, ltb-false, ne_eqb, eqb-true, eqb-false}
use Rattle.laws.specs.Below.{naturals, only, sum, count}
use Rattle.laws.specs.Masks.{bit, without}
use Rattle.laws.specs.Tables.{tabulate, cell_at}
use Rattle.laws.proofs.Bools.{split, eqb_same, and_false}
use Rattle.laws.proofs.Below.{count_next, count_le, only_le}
use Rattle.message_words.specs.Messages.{between, sends, sent_table}
use Rattle.laws.proofs.Rows.{bit_without, rows_cong, rows_at, rows_set}

-- The side of a cell that holds, and the side that owns.
abbrev pub holder : Bool → ℕ → ℕ → ℕ
holder back a b = cond back a b

pub side : (t : Bool) (a b : ℕ) → a < 16 → b < 16 → cond t a b < 16
side true a b l k = l
side false a b l k = k

module _ (back : Bool) (n : ℕ) (owners masks : List ℕ) where
  -- The words of the first n owners.
  abbrev before : ℕ → ℕ → ℕ
  before a b = count n (λ k. sends back (get_or owners k 0) (get_or masks k 0) a b)

  -- Those, and the words of owner n with the boxes below i.
  unfoldable pub passing : ℕ → ℕ → ℕ → ℕ
  passing i a b = before a b + only naturals (ltb (holder back a b) i && sends back (get_or owners n 0) (get_or masks n 0) a b) 1

  abbrev pub passing_table : ℕ → List (List ℕ)
  passing_table i = tabulate 16 (λ a. tabulate 16 (passing i a))

  -- No box yet.
  pub passing_none : sent_table back n owners masks ≡ passing_table 0
  unfolding sent_table passing only naturals
  passing_none = rows_cong 16 16 _ _ (λ a b l k. sym (rw (le-ltb (holder back a b) 0 (omega arith)) (add-zero (before a b))))

  -- All sixteen.
  pub passing_all : passing_table 16 ≡ sent_table back (n + 1) owners masks
  unfolding sent_table passing
  passing_all = rows_cong 16 16 _ _ (λ a b l k.
      rw (lt-ltb (holder back a b) 16 (side back a b l k)) (sym (count_next n (λ k. sends back (get_or owners k 0) (get_or masks k 0) a b))))

-- The words of one owner o whose word is w, at a cell whose owning side is x and whose holding side is y, in the turn of box i.
module _ (o w i : ℕ) (lo : o < 16) (hw : w < 2 ^ 16) (li : i < 16) where
  cell_here : (m x y : ℕ) → x ≡ o → y ≡ i →
      m + only naturals (ltb y i && between o w x y) 1 + only naturals (bit i (without o w)) 1 ≡ m + only naturals (ltb y (i + 1) && between o w x y) 1
  unfolding between only naturals
  cell_here m x y ex ey =
      rw (ex, ey, le-ltb i i (omega arith), lt-ltb i (i + 1) (omega arith), eqb_same o, bit_without o w lo hw i li, and_comm (bit i w) (not (eqb o i)))
      (ap (λ (z : ℕ). z + cond (not (eqb o i) && bit i w) 1 0) (add-zero m))
    where
      and_comm : (x y : Bool) → (x && y) ≡ (y && x)
      and_comm true true = refl
      and_comm true false = refl
      and_comm false true = refl
      and_comm false false = refl

  cell_else : (m x y : ℕ) → (x ≡ o → y ≡ i → ⊥) → m + only naturals (ltb y (i + 1) && between o w x y) 1 ≡ m + only naturals (ltb y i && between o w x y) 1
  unfolding between
  cell_else m x y h =
      ap (λ (t : Bool). m + only naturals t 1)
      (split (eqb y i)
      (λ e. rw (ne_eqb o x (λ q. h (sym q) (eqb-true y i e))) (and_false (ltb y (i + 1)) ∙ sym (and_false (ltb y i))))
      (λ e. ap (λ (t : Bool). t && between o w x y) (same_test y (eqb-false y i e))))
    where
      same_test : (y : ℕ) → (y ≡ i → ⊥) → ltb y (i + 1) ≡ ltb y i
      same_test y ne =
          split (ltb y i)
          (λ e. let l : y < i = ltb-true y i e in lt-ltb y (i + 1) (omega arith) ∙ sym e)
          (λ e. let l : i ≤ y = ltb-false y i e in le-ltb y (i + 1) (omega arith) ∙ sym e)

-- The cell of the turn: its holding side is i, its owning side is o, and no other cell has them.
side_holds : (t : Bool) (o i : ℕ) → cond t (cond t i o) (cond t o i) ≡ i
side_holds true o i = refl
side_holds false o i = refl

side_owns : (t : Bool) (o i : ℕ) → cond t (cond t o i) (cond t i o) ≡ o
side_owns true o i = refl
side_owns false o i = refl

side_else : (t : Bool) (o i a b : ℕ) → (a ≡ cond t i o → b ≡ cond t o i → ⊥) → cond t b a ≡ o → cond t a b ≡ i → ⊥
side_else true o i a b h p q = h q p
side_else false o i a b h p q = h p q

module _ (back : Bool) (n : ℕ) (owners masks : List ℕ) (lo : get_or owners n 0 < 16) (hw : get_or masks n 0 < 2 ^ 16) (i : ℕ) (li : i < 16) where
  abbrev from : ℕ
  from = cond back i (get_or owners n 0)

  abbrev to : ℕ
  to = cond back (get_or owners n 0) i

  pub passing_here : passing back n owners masks i from to + only naturals (bit i (without (get_or owners n 0) (get_or masks n 0))) 1 ≡ passing back n owners masks (i + 1) from to
  unfolding passing sends
  passing_here =
      cell_here (get_or owners n 0) (get_or masks n 0) i lo hw li (before back n owners masks from to) (cond back to from) (cond back from to)
      (side_owns back (get_or owners n 0) i) (side_holds back (get_or owners n 0) i)

  pub passing_else : (a b : ℕ) → (a ≡ from → b ≡ to → ⊥) → passing back n owners masks (i + 1) a b ≡ passing back n owners masks i a b
  unfolding passing sends
  passing_else a b h =
      cell_else (get_or owners n 0) (get_or masks n 0) i lo hw li (before back n owners masks a b) (cond back b a) (cond back a b)
      (side_else back (get_or owners n 0) i a b h)

  -- Both sides are boxes.
  pub from_in : from < 16
  from_in = side back i (get_or owners n 0) li lo

  pub to_in : to < 16
  to_in = side back (get_or owners n 0) i lo li

  -- The turn as code makes it.
  pub passing_more : (m : ℕ) → m ≡ only naturals (bit i (without (get_or owners n 0) (get_or masks n 0))) 1 →
      set (passing_table back n owners masks i) from (set (get_or (passing_table back n owners masks i) from []) to (cell_at (passing_table back n owners masks i) from to + m)) ≡ passing_table back n owners masks (i + 1)
  passing_more m e =
      rows_set 16 16 (passing back n owners masks i) (passing back n owners masks (i + 1)) 0 from to (cell_at (passing_table back n owners masks i) from to + m) from_in to_in
      (ap₂ (λ (x y : ℕ). x + y) (rows_at 16 16 (passing back n owners masks i) 0 from to from_in to_in) e ∙ passing_here)
      passing_else

  -- A word that is raised was at most n.
  pub passing_max : cell_at (passing_table back n owners masks i) from to + only naturals (bit i (without (get_or owners n 0) (get_or masks n 0))) 1 ≤ n + 1
  unfolding passing
  passing_max =
      rw (rows_at 16 16 (passing back n owners masks i) 0 from to from_in to_in, passing_here)
      (omega (arith, count_le n (λ k. sends back (get_or owners k 0) (get_or masks k 0) from to), only_le (ltb (holder back from to) (i + 1) && sends back (get_or owners n 0) (get_or masks n 0) from to) 1))

-- No owner yet.
pub sent_none : (back : Bool) (owners masks : List ℕ) → replicate 16 (replicate 16 0) ≡ sent_table back 0 owners masks
unfolding sent_table tabulate count sum naturals
sent_none back owners masks = refl
