-- Loops over places, of a body that is passed to them. Assumes nothing.
use mathlib.Core.Path.{◌≡◌, refl, sym, ap, ◌∙◌}
use mathlib.Core.Bool.{Bool, true, false}
use mathlib.Core.List.{List, ◌++◌}
use Prim.Native.Nat.{ℕ, ◌+◌, ◌-◌, ◌<◌, ◌≤◌}
use native.Mathlib.Omega.{arith}
use lib.ListN.{length, get_or, take, drop}
use lib.Seq.{get_or-drop}
use borrow.Rule.Slice.PartMut.{mid_of, post_of, put_mid}
use Rattle.std.proofs.lemmas.List.{get_or_append_left, get_or-append_right, get_or-take, length-take, length-drop}
use Rattle.laws.specs.Below.{any}
use Rattle.laws.specs.Tables.{overwrite}
use Rattle.laws.proofs.Below.{any_at, any_false}
use Rattle.laws.proofs.Tables.{is_overwrite}
use Rattle.file_blocks.specs.Copied.{Copied}
use Rattle.file_blocks.specs.ByPlace.{FilledBy, AnyBy}

-- A table filled by readings, each of which gives what f says.
pub filled_by : {A : Type 0} {reads : ℕ → A → Type 0} (z : A) (f : ℕ → A) {n : ℕ} {l l' : List A} → FilledBy reads n l l' → n ≤ length l → length l' ≡ length l →
    ((i : ℕ) (v : A) → i < n → reads i v → v ≡ f i) → l' ≡ overwrite n f l
filled_by z f {n} {l} {l'} c long same told = is_overwrite n f l l' z long same (λ i h. told i _ h (c.read z i h)) (λ i h. c.past z i h)

-- The n words of a table from word `to` on filled so, as a part of it.
pub filled_part : {reads : ℕ → ℕ → Type 0} (g : ℕ → ℕ) {to n : ℕ} (l : List ℕ) {part : List ℕ} → FilledBy reads n (mid_of to (to + n - to) l) part → to + n ≤ length l →
    length part ≡ length (mid_of to (to + n - to) l) → ((i v : ℕ) → i < n → reads i v → v ≡ g i) → Copied g to n l (put_mid to (to + n - to) l part)
filled_part g {to} {n} l {part} c long same told =
    record {
      inside = λ k h.
          get_or-append_right (take to l) (part ++ rest) to (to + k) 0 front (omega arith)
          ∙ ap (λ (i : ℕ). get_or (part ++ rest) i 0) (omega arith)
          ∙ get_or_append_left part rest 0 k (omega (arith, size))
          ∙ told k _ h (c.read 0 k h);
      before = λ k h. get_or_append_left (take to l) (part ++ rest) 0 k (omega (arith, front)) ∙ get_or-take to l k 0 h;
      past = λ k h.
          get_or-append_right (take to l) (part ++ rest) to k 0 front (omega arith)
          ∙ get_or-append_right part rest n (k - to) 0 size (omega arith)
          ∙ get_or-drop (to + n - to) (drop to l) (k - to - n) 0
          ∙ get_or-drop to l (to + n - to + (k - to - n)) 0
          ∙ ap (λ (i : ℕ). get_or l i 0) (omega arith);
    }
  where
    rest : List ℕ
    rest = post_of to (to + n - to) l

    front : length (take to l) ≡ to
    front = length-take to l ∙ omega arith

    size : length part ≡ n
    size = same ∙ simp (length-take, length-drop) (omega arith)

-- What is found where each test says what p says.
pub tested_by : {says : ℕ → Bool → Type 0} (p : ℕ → Bool) {n : ℕ} (a : Bool) → AnyBy says n a → ((i : ℕ) (b : Bool) → i < n → says i b → b ≡ p i) → a ≡ any n p
tested_by p {n} true c told = let (i, l, x) = c.some refl in sym (any_at n p i l (sym (told i true l x)))
tested_by p {n} false c told = sym (any_false n p (λ i h. sym (told i false h (c.none refl i h))))
