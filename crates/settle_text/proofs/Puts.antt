-- Laws of text that is put into a buffer. Assumes nothing.
use mathlib.Core.Path.{◌≡◌, refl, sym, ap, ◌∙◌}
use mathlib.Core.List.{List, [], ◌∷◌, ◌++◌}
use Prim.Native.Nat.{ℕ, suc, ◌+◌, ◌-◌, ◌≤◌, ◌<◌}
use native.Mathlib.Omega.{arith}
use native.Mathlib.Nat.{add-zero}
use native.Mathlib.Numerals.{add-one}
use lib.ListN.{length, get_or, take, drop, set, length-append}
use lib.Seq.{sets, sets-eq, length-sets, length-take-le, take-suc, take-append_seam, drop-append_seam, take_all}
use borrow.Rule.Slice.PartMut.{put_mid}
use Rattle.std.proofs.lemmas.Slice.{put_mid-paste}
use Rattle.io.specs.Counts.{IsPrefixLen}
use Rattle.settle_text.specs.Puts.{put, Put}

-- The buffer keeps its length.
pub length_put : (at : ℕ) (s d : List ℕ) → length (put at s d) ≡ length d
unfolding put
length_put at s d = length-sets d at s

-- One text and then another behind it are both together.
pub put_append : (at : ℕ) (s t d : List ℕ) → put (at + length s) t (put at s d) ≡ put at (s ++ t) d
unfolding put
put_append at [] t d = ap (λ (k : ℕ). sets d k t) (add-zero at)
put_append at (b ∷ s) t d =
    ap (λ (k : ℕ). sets (sets (set d at b) (suc at) s) k t) (omega arith)
    ∙ put_append (suc at) s t (set d at b)

-- A call that puts a text, and one that puts another behind it.
pub behind : {at r q : ℕ} {s t d e f : List ℕ} → Put at s d e r → Put r t e f q → Put at (s ++ t) d f q
behind {at} {r} {q} {s} {t} {d} {e} {f} a b = record {
  next = omega (arith, a.next, b.next, length-append s t);
  room = omega (arith, b.room, ap length a.bytes, length_put at s d);
  bytes =
      b.bytes
      ∙ ap (λ (k : ℕ). put k t e) a.next
      ∙ ap (put (at + length s) t) a.bytes
      ∙ put_append at s t d;
}

-- A buffer that text was put into is as long as before.
pub same_long : {at r : ℕ} {s d e : List ℕ} → Put at s d e r → length e ≡ length d
same_long {at} {r} {s} {d} {e} p = ap length p.bytes ∙ length_put at s d

-- The text is known by another description.
pub reworded : {at r : ℕ} {s t d e : List ℕ} → s ≡ t → Put at s d e r → Put at t d e r
reworded h p = rw h at p

-- One byte more of a list that is copied.
pub copy_more : (at j : ℕ) (s d : List ℕ) → j < length s → set (put at (take j s) d) (at + j) (get_or s j 0) ≡ put at (take (j + 1) s) d
unfolding put
copy_more at j s d h =
    ap (λ (k : ℕ). set (sets d at (take j s)) (at + k) (get_or s j 0)) (sym (length-take-le j s (omega arith)))
    ∙ put_append at (take j s) (get_or s j 0 ∷ []) d
    ∙ ap (λ (l : List ℕ). put at l d) (sym (take-suc s j 0 h) ∙ ap (λ (k : ℕ). take k s) (sym (add-one j)))

-- A text put in front: it is what the first bytes are, and the others stay.
module _ {r : ℕ} {s d e : List ℕ} (p : Put 0 s d e r) where
  long : r ≡ length s
  long = omega (arith, p.next)

  whole : e ≡ s ++ drop (length s) d
  unfolding put
  whole = let e : 0 + length s ≡ length s = omega arith in p.bytes ∙ sets-eq s d 0 (omega (arith, p.next, p.room)) ∙ ap (λ (k : ℕ). s ++ drop k d) e

  front : take r e ≡ s
  front = ap (λ (k : ℕ). take k e) long ∙ ap (take (length s)) whole ∙ take-append_seam s (drop (length s) d)

  rest : drop r e ≡ drop r d
  rest =
      ap (λ (k : ℕ). drop k e) long
      ∙ ap (drop (length s)) whole
      ∙ drop-append_seam s (drop (length s) d)
      ∙ ap (λ (k : ℕ). drop k d) (sym long)

  -- So much a caller is told that shows the first bytes.
  pub shown : IsPrefixLen r e × ((take r e ≡ s) × (drop r e ≡ drop r d))
  shown =
      let room : r ≤ length e = omega (arith, p.room, same_long p) in
      ((room, sym (length-take-le r e room)), (front, rest))

-- A text copied over as many bytes of the buffer is put there.
pub put_by_copy : (at : ℕ) (s d new : List ℕ) → new ≡ s → at + length s ≤ length d → put_mid at (at + length s - at) d new ≡ put at s d
unfolding put
put_by_copy at s d new copied fits =
    put_mid-paste at (at + length s - at) d new s (length s) copied (omega arith) refl
    ∙ ap (λ (l : List ℕ). (take at d ++ l) ++ drop (at + length s) d) (take_all (length s) s (omega arith))
    ∙ sym (sets-eq s d at fits)
