-- Laws of bytes that are put into a buffer. Assumes nothing.
use mathlib.Core.Path.{◌≡◌, refl, sym, ap, ◌∙◌}
use mathlib.Core.List.{List, [], ◌∷◌, ◌++◌, append-nil}
use Prim.Native.Nat.{ℕ, zero, suc, ◌+◌, ◌-◌, ◌≤◌, ◌<◌, ◌/◌, ◌%◌}
use native.Mathlib.Omega.{arith}
use native.Mathlib.Nat.{add-zero}
use native.Mathlib.Decide.{dec_lt}
use lib.ListN.{length, get_or, take, drop, set, length-append, length-drop, get_or-append, take-append-drop}
use native.Mathlib.Nat.{le_refl}
use lib.Seq.{take_all, ext_get_or, get_or-append-add, get_or-drop, get_or-take, length-take-le, sets, sets-eq}
use borrow.Rule.Slice.PartMut.{put_mid}
use Rattle.std.proofs.lemmas.Slice.{put_mid-paste}
use Rattle.laws.specs.Tables.{tabulate}
use Rattle.laws.proofs.Tables.{length_tabulate, get_d_tabulate, is_tabulate, tabulate_cong}
use Rattle.format.specs.Bytes.{from, bytes16}
use Rattle.writer_bytes.specs.Puts.{put, bytes_of}

module _ (at n : ℕ) (g : ℕ → ℕ) (d : List ℕ) (room : at + n ≤ length d) where
  front : length (take at d ++ tabulate n g) ≡ at + n
  front = length-append (take at d) (tabulate n g) ∙ rw (length-take-le at d (omega arith), length_tabulate n g)

  -- The buffer keeps its length.
  pub length_put : length (put at n g d) ≡ length d
  unfolding put
  length_put = length-append (take at d ++ tabulate n g) (drop (at + n) d) ∙ rw (front, length-drop (at + n) d) (omega arith)

  -- What stands before stays,
  pub put_before : (p : ℕ) → p < at → get_or (put at n g d) p 0 ≡ get_or d p 0
  unfolding put
  put_before p h =
      get_or-append (take at d ++ tabulate n g) (drop (at + n) d) 0 p (rw front (omega arith))
      ∙ get_or-append (take at d) (tabulate n g) 0 p (rw (length-take-le at d (omega arith)) h)
      ∙ get_or-take at d p 0 h

  -- the bytes are there,
  pub put_in : (k : ℕ) → k < n → get_or (put at n g d) (at + k) 0 ≡ g k
  unfolding put
  put_in k h =
      get_or-append (take at d ++ tabulate n g) (drop (at + n) d) 0 (at + k) (rw front (omega arith))
      ∙ ap (λ (m : ℕ). get_or (take at d ++ tabulate n g) (m + k) 0) (sym (length-take-le at d (omega arith)))
      ∙ get_or-append-add (take at d) (tabulate n g) k 0
      ∙ get_d_tabulate n g k 0 h

  -- and what stands behind stays.
  pub put_behind : (p : ℕ) → at + n ≤ p → get_or (put at n g d) p 0 ≡ get_or d p 0
  unfolding put
  put_behind p h =
      ap (λ (k : ℕ). get_or (take at d ++ tabulate n g ++ drop (at + n) d) k 0) (rw front (omega arith))
      ∙ get_or-append-add (take at d ++ tabulate n g) (drop (at + n) d) (p - (at + n)) 0
      ∙ get_or-drop (at + n) d (p - (at + n)) 0
      ∙ ap (λ (k : ℕ). get_or d k 0) (omega arith)

  -- A list with these words is that buffer.
  pub is_put : (d' : List ℕ) → length d' ≡ length d → ((p : ℕ) → p < at → get_or d' p 0 ≡ get_or d p 0) →
      ((k : ℕ) → k < n → get_or d' (at + k) 0 ≡ g k) → ((p : ℕ) → at + n ≤ p → get_or d' p 0 ≡ get_or d p 0) → d' ≡ put at n g d
  is_put d' e before inside behind = ext_get_or 0 d' (put at n g d) (e ∙ sym length_put) (λ p h. go p (dec_lt p at) (dec_lt p (at + n)))
    where
      go : (p : ℕ) → Dec (p < at) → Dec (p < at + n) → get_or d' p 0 ≡ get_or (put at n g d) p 0
      go p (yes a) b = before p a ∙ sym (put_before p a)
      go p (no a) (yes b) =
          ap (λ (k : ℕ). get_or d' k 0) (omega arith)
          ∙ inside (p - at) (omega arith)
          ∙ sym (put_in (p - at) (omega arith))
          ∙ ap (λ (k : ℕ). get_or (put at n g d) k 0) (omega arith)
      go p (no a) (no b) = behind p (omega arith) ∙ sym (put_behind p (omega arith))

-- Nothing is put.
pub put_none : (at : ℕ) (g : ℕ → ℕ) (d : List ℕ) → d ≡ put at 0 g d
unfolding put tabulate
put_none at g d =
    sym (ap (λ (k : ℕ). take at d ++ [] ++ drop k d) (add-zero at) ∙ ap (λ (r : List ℕ). r ++ drop at d) (append-nil (take at d)) ∙ take-append-drop at d)

-- The bytes alone count.
pub put_cong : (at n : ℕ) (g h : ℕ → ℕ) (d : List ℕ) → ((k : ℕ) → k < n → g k ≡ h k) → put at n g d ≡ put at n h d
unfolding put
put_cong at n g h d e = ap (λ (l : List ℕ). take at d ++ l ++ drop (at + n) d) (tabulate_cong n g h e)

module _ (at n : ℕ) (g : ℕ → ℕ) (d : List ℕ) where
  -- M bytes more are put behind the first n.
  pub put_next : (m : ℕ) (h : ℕ → ℕ) → at + n + m ≤ length d → ((k : ℕ) → k < m → h k ≡ g (n + k)) → put (at + n) m h (put at n g d) ≡ put at (n + m) g d
  put_next m h room e =
      is_put at (n + m) g d (omega arith) (put (at + n) m h (put at n g d))
      (length_put (at + n) m h (put at n g d) room' ∙ length_put at n g d (omega arith))
      (λ p l. put_before (at + n) m h (put at n g d) room' p (omega arith) ∙ put_before at n g d (omega arith) p l)
      (λ k l. inside k l (dec_lt k n))
      (λ p l. put_behind (at + n) m h (put at n g d) room' p (omega arith) ∙ put_behind at n g d (omega arith) p (omega arith))
    where
      room' : at + n + m ≤ length (put at n g d)
      room' = rw (length_put at n g d (omega arith)) room

      inside : (k : ℕ) → k < n + m → Dec (k < n) → get_or (put (at + n) m h (put at n g d)) (at + k) 0 ≡ g k
      inside k l (yes a) = put_before (at + n) m h (put at n g d) room' (at + k) (omega arith) ∙ put_in at n g d (omega arith) k a
      inside k l (no a) =
          ap (λ (p : ℕ). get_or (put (at + n) m h (put at n g d)) p 0) (omega arith)
          ∙ put_in (at + n) m h (put at n g d) room' (k - n) (omega arith)
          ∙ e (k - n) (omega arith)
          ∙ ap g (omega arith)

-- Bytes stored one after the other are put there.
pub stores_put : (l : List ℕ) (at : ℕ) (d : List ℕ) → at + length l ≤ length d → sets d at l ≡ put at (length l) (λ k. get_or l k 0) d
unfolding put
stores_put l at d h = sets-eq l d at h ∙ ap (λ (x : List ℕ). take at d ++ x ++ drop (at + length l) d) (is_tabulate l (length l) (λ k. get_or l k 0) 0 refl (λ i q. refl))

-- One byte stored.
pub store_put : (at : ℕ) (v : ℕ) (g : ℕ → ℕ) (d : List ℕ) → at < length d → v ≡ g 0 → set d at v ≡ put at 1 g d
store_put at v g d h e = stores_put (v ∷ []) at d (omega arith) ∙ put_cong at 1 (λ k. get_or (v ∷ []) k 0) g d (λ k l. one k l)
  where
    one : (k : ℕ) → k < 1 → get_or (v ∷ []) k 0 ≡ g k
    one zero l = e
    one (suc k) l = absurd (omega arith)

-- One byte more is stored behind the first n.
pub store_next : (at n : ℕ) (g : ℕ → ℕ) (d : List ℕ) (v : ℕ) → at + n < length d → v ≡ g n → set (put at n g d) (at + n) v ≡ put at (n + 1) g d
store_next at n g d v h e =
    store_put (at + n) v (λ k. g (n + k)) (put at n g d) (rw (length_put at n g d (omega arith)) h) (e ∙ ap g (sym (add-zero n)))
    ∙ put_next at n g d 1 (λ k. g (n + k)) (omega arith) (λ k l. refl)

-- A part that is written over whole is put there.
pub mid_put : (at k : ℕ) (d l l' : List ℕ) → at + length l ≤ length d → k ≡ length l → l' ≡ l → put_mid at k d l' ≡ put at (length l) (λ i. get_or l i 0) d
unfolding put
mid_put at k d l l' room e q =
    put_mid-paste at k d l' l (length l) q (sym e) refl
    ∙ ap (λ (x : List ℕ). take at d ++ x ++ drop (at + length l) d) (take_all (length l) l (le_refl (length l)) ∙ is_tabulate l (length l) (λ i. get_or l i 0) 0 refl (λ i q. refl))

-- From the front on, what is put is written over.
pub put_front : (n : ℕ) (g : ℕ → ℕ) (d : List ℕ) → put 0 n g d ≡ tabulate n g ++ drop n d
unfolding put
put_front n g d = let e : 0 + n ≡ n = omega arith in ap (λ (k : ℕ). tabulate n g ++ drop k d) e

-- What is put where it stands already changes nothing.
pub put_keep : (at n : ℕ) (d : List ℕ) → at + n ≤ length d → put at n (from d at) d ≡ d
put_keep at n d room = sym (is_put at n (from d at) d room d refl (λ p h. refl) (λ k h. refl) (λ p h. refl))

-- The last bytes put count.
pub put_over : (at n m : ℕ) (g h : ℕ → ℕ) (d : List ℕ) → n ≤ m → at + m ≤ length d → put at m h (put at n g d) ≡ put at m h d
put_over at n m g h d l room =
    is_put at m h d room (put at m h (put at n g d))
    (length_put at m h (put at n g d) room' ∙ length_put at n g d (omega arith))
    (λ p q. put_before at m h (put at n g d) room' p q ∙ put_before at n g d (omega arith) p q)
    (λ k q. put_in at m h (put at n g d) room' k q)
    (λ p q. put_behind at m h (put at n g d) room' p q ∙ put_behind at n g d (omega arith) p (omega arith))
  where
    room' : at + m ≤ length (put at n g d)
    room' = rw (length_put at n g d (omega arith)) room

-- ---- bytes and words one after the other

-- Two bytes in a list, behind others.
two : (x y : ℕ) (l r : List ℕ) (k : ℕ) → k < 2 → get_or (x ∷ y ∷ []) k 0 ≡ get_or (l ++ (x ∷ y ∷ r)) (length l + k) 0
two x y l r k h = sym (get_or-append-add l (x ∷ y ∷ r) k 0 ∙ get_or-append (x ∷ y ∷ []) r 0 k h)

-- Two bytes stored one behind the other.
stored_two : (at x y : ℕ) (f : ℕ → ℕ) (d : List ℕ) → at + 2 ≤ length d → x ≡ f 0 → y ≡ f 1 → set (set d at x) (at + 1) y ≡ put at 2 f d
stored_two at x y f d room e₀ e₁ = rw (store_put at x f d (omega arith) e₀) (store_next at 1 f d y (omega arith) e₁)

-- Two bytes and a word are four bytes.
pub four_put : (at first second word : ℕ) (d d₁ d₂ d₃ : List ℕ) → at + 4 ≤ length d → d₁ ≡ set d at first → d₂ ≡ set d₁ (at + 1) second → d₃ ≡ put (at + 2) 2 (bytes_of (bytes16 word)) d₂ →
    d₃ ≡ put at 4 (bytes_of (first ∷ second ∷ bytes16 word)) d
four_put at first second word d d₁ d₂ d₃ room e₁ e₂ e₃ =
    let f = bytes_of (first ∷ second ∷ bytes16 word) in
    e₃ ∙ ap (put (at + 2) 2 (bytes_of (bytes16 word))) (e₂ ∙ ap (λ (l : List ℕ). set l (at + 1) second) e₁ ∙ stored_two at first second f d (omega arith) refl refl)
    ∙ put_next at 2 f d 2 (bytes_of (bytes16 word)) (omega arith) (two (word % 256) (word / 256) (first ∷ second ∷ []) [])

-- Three words are six bytes.
pub words_put : (s a r at : ℕ) (d d₁ d₂ d₃ : List ℕ) → at + 6 ≤ length d → d₁ ≡ put at 2 (bytes_of (bytes16 s)) d → d₂ ≡ put (at + 2) 2 (bytes_of (bytes16 a)) d₁ →
    d₃ ≡ put (at + 4) 2 (bytes_of (bytes16 r)) d₂ → d₃ ≡ put at 6 (bytes_of (bytes16 s ++ bytes16 a ++ bytes16 r)) d
words_put s a r at d d₁ d₂ d₃ room e₁ e₂ e₃ =
    let f = bytes_of (bytes16 s ++ bytes16 a ++ bytes16 r) in
    let q₁ : d₁ ≡ put at 2 f d = e₁ ∙ put_cong at 2 (bytes_of (bytes16 s)) f d (λ k h. sym (get_or-append (bytes16 s) (bytes16 a ++ bytes16 r) 0 k h)) in
    let q₂ : d₂ ≡ put at 4 f d = e₂ ∙ ap (put (at + 2) 2 (bytes_of (bytes16 a))) q₁ ∙ put_next at 2 f d 2 (bytes_of (bytes16 a)) (omega arith) (two (a % 256) (a / 256) (bytes16 s) (bytes16 r)) in
    e₃ ∙ ap (put (at + 4) 2 (bytes_of (bytes16 r))) q₂ ∙ put_next at 4 f d 2 (bytes_of (bytes16 r)) (omega arith) (two (r % 256) (r / 256) (bytes16 s ++ bytes16 a) [])
