-- Each kind of block as it is made: its head and its records are put, and it is closed. Assumes nothing.
use mathlib.Core.Path.{◌≡◌, refl, sym, ap, ◌∙◌}
use mathlib.Core.List.{List, [], ◌∷◌, ◌++◌}
use Prim.Native.Nat.{ℕ, ◌+◌, ◌-◌, ◌*◌, ◌/◌, ◌%◌, ◌≤◌, min}
use native.Mathlib.Omega.{arith}
use lib.ListN.{length, get_or, set, get_or-append, get_or-eq_default}
use lib.Seq.{get_or-append-add}
use Rattle.format.specs.Bytes.{from, bytes16, bytes32}
use Rattle.format.specs.Job.{head_of}
use Rattle.format.specs.Blocks.{header_bytes}
use Rattle.format.specs.File.{block_byte}
use Rattle.writer_bytes.specs.Puts.{put, bytes_of}
use Rattle.writer.specs.Bodies.{rows_of, body_of, keep_of, record_body, price_body}
use Rattle.writer_bytes.proofs.Puts.{put_cong, put_next, store_next}
use Rattle.writer.proofs.Blocks.{block_made, body_head, body_row, body_rest}

-- K, 1, M, N, T, the cycle and the number of additional lists are the header's record.
pub sizes_put : (k m n t c v : ℕ) (d d₁ d₂ d₃ : List ℕ) → 15 ≤ length d → d₁ ≡ put 4 4 (bytes_of (k ∷ 1 ∷ bytes16 m)) d → d₂ ≡ put 8 6 (bytes_of (bytes16 n ++ bytes16 t ++ bytes16 c)) d₁ →
    d₃ ≡ set d₂ 14 v → d₃ ≡ put 4 11 (bytes_of (header_bytes (head_of k m n t c v))) d
unfolding header_bytes
sizes_put k m n t c v d d₁ d₂ d₃ room e₁ e₂ e₃ =
    let l = bytes16 n ++ bytes16 t ++ bytes16 c in
    let f = bytes_of (header_bytes (head_of k m n t c v)) in
    let q : d₂ ≡ put 4 10 f d =
    e₂ ∙ ap (put 8 6 (bytes_of l)) (e₁ ∙ put_cong 4 4 (bytes_of (k ∷ 1 ∷ bytes16 m)) f d (λ i h. sym (get_or-append (k ∷ 1 ∷ bytes16 m) (l ++ (v ∷ [])) 0 i h)))
    ∙ put_next 4 4 f d 6 (bytes_of l) (omega arith) (λ i h. sym (get_or-append-add (k ∷ 1 ∷ bytes16 m) (l ++ (v ∷ [])) i 0 ∙ get_or-append l (v ∷ []) 0 i h)) in
    e₃ ∙ ap (λ (x : List ℕ). set x 14 v) q ∙ store_next 4 10 f d v (omega arith) refl

-- The header, of eleven bytes x.
pub header_made : (x : List ℕ) (d d₁ d₂ d₃ : List ℕ) → length x ≡ 11 → 512 ≤ length d → d₁ ≡ put 0 4 (bytes_of (0 ∷ 1 ∷ bytes16 0)) d → d₂ ≡ put 4 11 (bytes_of x) d₁ →
    d₃ ≡ put 0 512 (block_byte (keep_of 15 (from d₂ 0))) d₂ → d₃ ≡ put 0 512 (block_byte (body_of (0 ∷ 1 ∷ bytes16 0) 504 1 (λ _. bytes_of x))) d
header_made x d d₁ d₂ d₃ eleven room e₁ e₂ e₃ =
    block_made f 0 11 (bytes_of (0 ∷ 1 ∷ bytes16 0)) (bytes_of x) d d₁ d₂ d₃ room (omega arith) e₁ e₂ e₃
    (λ k h. sym (body_head _ 504 1 _ k h))
    (λ k h. let e : k % 504 ≡ k = omega arith in sym (body_row _ 504 1 _ k (omega arith) ∙ ap (bytes_of x) e))
    (λ p l h.
    let e : 4 + (p - 4) ≡ p = omega arith in
    let g : 11 ≤ (p - 4) % 504 = omega arith in
    ap f (sym e) ∙ body_row _ 504 1 _ (p - 4) (omega arith) ∙ get_or-eq_default x 0 {n = (p - 4) % 504} (omega arith))
  where
    f : ℕ → ℕ
    f = body_of (0 ∷ 1 ∷ bytes16 0) 504 1 (λ _. bytes_of x)

-- A block of records of 24 bytes.
pub records_made : (kind first n b c : ℕ) (fields : ℕ → List ℕ) (d d₁ d₂ d₃ : List ℕ) → c ≡ min 21 (n - 21 * b) → 512 * (first + b) + 512 ≤ length d →
    d₁ ≡ put (512 * (first + b)) 4 (bytes_of (kind ∷ c ∷ bytes16 (first + b))) d → d₂ ≡ put (512 * (first + b) + 4) (c * 24) (rows_of 24 (λ r. bytes_of (fields (21 * b + r)))) d₁ →
    d₃ ≡ put (512 * (first + b)) 512 (block_byte (keep_of (4 + c * 24) (from d₂ (512 * (first + b))))) d₂ →
    d₃ ≡ put (512 * (first + b)) 512 (block_byte (record_body kind first n fields b)) d
records_made kind first n b c fields d d₁ d₂ d₃ e room e₁ e₂ e₃ =
    block_made (body_of (kind ∷ c ∷ bytes16 (first + b)) 24 c row) (512 * (first + b)) (c * 24) _ _ d d₁ d₂ d₃ room (omega arith) e₁ e₂ e₃
    (λ k h. sym (body_head _ 24 c row k h))
    (λ k h. sym (body_row _ 24 c row k h))
    (λ p l h. body_rest _ 24 c row p l)
    ∙ ap (λ (c : ℕ). put (512 * (first + b)) 512 (block_byte (body_of (kind ∷ c ∷ bytes16 (first + b)) 24 c row)) d) e
  where
    row : ℕ → ℕ → ℕ
    row r = bytes_of (fields (21 * b + r))

-- The grocer block.
pub grocers_made : (k m : ℕ) (g : List ℕ) (d d₁ d₂ d₃ : List ℕ) → m ≤ 255 → 512 * k + 512 ≤ length d →
    d₁ ≡ put (512 * k) 4 (bytes_of (2 ∷ m ∷ bytes16 k)) d → d₂ ≡ put (512 * k + 4) m (bytes_of g) d₁ → d₃ ≡ put (512 * k) 512 (block_byte (keep_of (4 + m) (from d₂ (512 * k)))) d₂ →
    d₃ ≡ put (512 * k) 512 (block_byte (body_of (2 ∷ m ∷ bytes16 k) 1 m (λ r. bytes_of (get_or g r 0 ∷ [])))) d
grocers_made k m g d d₁ d₂ d₃ few room e₁ e₂ e₃ =
    block_made (body_of (2 ∷ m ∷ bytes16 k) 1 m row) (512 * k) m _ _ d d₁ d₂ d₃ room (omega arith) e₁ e₂ e₃
    (λ j h. sym (body_head _ 1 m row j h))
    (λ j h.
    let a : j / 1 ≡ j = omega arith in
    let z : j % 1 ≡ 0 = omega arith in
    sym (body_row _ 1 m row j (omega arith) ∙ rw (a, z)))
    (λ p l h. body_rest _ 1 m row p (omega arith))
  where
    row : ℕ → ℕ → ℕ
    row r = bytes_of (get_or g r 0 ∷ [])

-- A price block of a list whose prices begin at a place.
pub prices_made : (number n b c place : ℕ) (price d d₁ d₂ d₃ : List ℕ) → c ≡ min 126 (n - 126 * b) → 512 * number + 512 ≤ length d →
    d₁ ≡ put (512 * number) 4 (bytes_of (4 ∷ c ∷ bytes16 number)) d → d₂ ≡ put (512 * number + 4) (c * 4) (rows_of 4 (λ r. bytes_of (bytes32 (get_or price (place + 126 * b + r) 0)))) d₁ →
    d₃ ≡ put (512 * number) 512 (block_byte (keep_of (4 + c * 4) (from d₂ (512 * number)))) d₂ →
    d₃ ≡ put (512 * number) 512 (block_byte (price_body number n (λ i. get_or price (place + i) 0) b)) d
prices_made number n b c place price d d₁ d₂ d₃ e room e₁ e₂ e₃ =
    block_made (body_of (4 ∷ c ∷ bytes16 number) 4 c row) (512 * number) (c * 4) _ _ d d₁ d₂ d₃ room (omega arith) e₁ e₂ e₃
    (λ k h. sym (body_head _ 4 c row k h))
    (λ k h. ap (λ (x : ℕ). bytes_of (bytes32 (get_or price x 0)) (k % 4)) (omega arith) ∙ sym (body_row _ 4 c row k h))
    (λ p l h. body_rest _ 4 c row p l)
    ∙ ap (λ (c : ℕ). put (512 * number) 512 (block_byte (body_of (4 ∷ c ∷ bytes16 number) 4 c row)) d) e
  where
    row : ℕ → ℕ → ℕ
    row r = bytes_of (bytes32 (get_or price (place + (126 * b + r)) 0))
