-- A block's spare bytes, found by walking its records. Assumes nothing.
use mathlib.Core.Path.{◌≡◌, ap, ◌∙◌}
use mathlib.Core.Bool.{Bool, true, ◌&&◌, ◌||◌}
use mathlib.Core.List.{List}
use Prim.Native.Nat.{ℕ, ◌+◌, ◌*◌, ◌-◌, ◌/◌, ◌%◌, ◌≤◌, ◌<◌}
use native.Mathlib.Omega.{arith}
use native.Mathlib.Nat.{mod-lt, div-add-mod', le-div_iff_mul-le}
use lib.Dec.{leb}
use lib.Arith.{digits_mod}
use borrow.Author.Tests.{le-leb, leb-true, leb-false}
use Rattle.laws.specs.Below.{any}
use Rattle.laws.proofs.Bools.{split, and_true, and_l, and_r, same_test, or_l, or_r}
use Rattle.laws.proofs.Below.{any_at, any_find}
use Rattle.laws.proofs.Tables.{row_in}
use Rattle.format.specs.Bytes.{from, after}
use Rattle.format.specs.Job.{Head}
use Rattle.format.specs.Blocks.{BlockKind, kind_at, records, record_size, field_size, spare}
use Rattle.format.specs.Refusals.{spare_used}
use Rattle.file_blocks.specs.declared.kinds.BlockKind.{BlockKind as KindWord}
use Rattle.file_blocks.specs.Due.{Due}
use Rattle.file_blocks.specs.Shape.{used, spare_in}
use Rattle.file_bytes.proofs.After.{from-after}

module _ (n z w : ℕ) (g : ℕ → ℕ) (room : n * z ≤ 504) (within : w ≤ z) (some : 0 < z) where
  -- Byte s is spare and used.
  abbrev marked : ℕ → Bool
  marked s = (leb n (s / z) || leb w (s % z)) && used (g s)

  -- A used byte behind the fields of one of the records.
  abbrev inside : Bool
  inside = any n (λ r. any (z - w) (λ i. used (after g (r * z + w) i)))

  -- A used byte behind the records.
  abbrev behind : Bool
  behind = any (504 - n * z) (λ i. used (after g (n * z) i))

  -- A spare byte that is used is met on the walk.
  met : any 504 marked ≡ true → (inside || behind) ≡ true
  met h =
      let (s, l, e) = any_find 504 marked h in
      let u = and_r (leb n (s / z) || leb w (s % z)) (used (g s)) e in
      let p = and_l (leb n (s / z) || leb w (s % z)) (used (g s)) e in
      split (leb n (s / z))
      (λ a. or_r inside behind (last s l u (leb-true n (s / z) a)))
      (λ a. or_l inside behind (early s u (leb-false n (s / z) a) (leb-true w (s % z) (rw a at p))))
    where
      last : (s : ℕ) → s < 504 → used (g s) ≡ true → n ≤ s / z → behind ≡ true
      last s l u a =
          let b = (le-div_iff_mul-le some).0 a in
          let q : n * z + (s - n * z) ≡ s = omega arith in
          any_at (504 - n * z) (λ i. used (after g (n * z) i)) (s - n * z) (omega arith) (ap (λ (t : ℕ). used (g t)) q ∙ u)

      early : (s : ℕ) → used (g s) ≡ true → s / z < n → w ≤ s % z → inside ≡ true
      early s u a b =
          let m = mod-lt s some in
          let d = div-add-mod' s z in
          let q : s / z * z + w + (s % z - w) ≡ s = omega arith in
          any_at n (λ r. any (z - w) (λ i. used (after g (r * z + w) i))) (s / z) a
          (any_at (z - w) (λ i. used (after g (s / z * z + w) i)) (s % z - w) (omega arith) (ap (λ (t : ℕ). used (g t)) q ∙ u))

  -- And what the walk meets is a spare byte.
  found : (inside || behind) ≡ true → any 504 marked ≡ true
  found h = split inside early (λ a. last (rw a at h))
    where
      last : behind ≡ true → any 504 marked ≡ true
      last b =
          let (i, l, u) = any_find (504 - n * z) (λ i. used (after g (n * z) i)) b in
          any_at 504 marked (n * z + i) (omega arith)
          (and_true (or_l (leb n ((n * z + i) / z)) (leb w ((n * z + i) % z)) (le-leb n ((n * z + i) / z) ((le-div_iff_mul-le some).1 (omega arith)))) u)

      early : inside ≡ true → any 504 marked ≡ true
      early a =
          let (r, l, e) = any_find n (λ r. any (z - w) (λ i. used (after g (r * z + w) i))) a in
          let (i, m, u) = any_find (z - w) (λ i. used (after g (r * z + w) i)) e in
          let t = row_in r n z l in
          let q : r * z + w + i ≡ r * z + (w + i) = omega arith in
          let d : (r * z + w + i) % z ≡ w + i = ap (λ (x : ℕ). x % z) q ∙ digits_mod r {m = z} {r = w + i} (omega arith) in
          any_at 504 marked (r * z + w + i) (omega arith)
          (and_true (or_r (leb n ((r * z + w + i) / z)) (leb w ((r * z + w + i) % z)) (le-leb w ((r * z + w + i) % z) (omega arith))) u)

  -- The walk finds a used spare byte where there is one.
  pub spare_walk : spare_in n z w g ≡ (inside || behind)
  unfolding spare_in
  spare_walk = same_test (any 504 marked) (inside || behind) met found

spare-after : (h : Head) (f : List ℕ) (k : ℕ) (b : BlockKind) (n : ℕ) → kind_at h k ≡ b → n ≡ records h b →
    spare_in n (record_size b) (field_size b) (after (from f (512 * k)) 4) ≡ spare_used h k (from f (512 * k))
unfolding spare_in spare_used spare
spare-after h f k b n e c = rw (e, c)

-- The spare bytes of block k, whose kind is b and which is due to have n records.
pub spare_due : (h : Head) (f : List ℕ) (k : ℕ) (x : KindWord) (n : ℕ) → Due h k x n → (b : BlockKind) → kind_at h k ≡ b →
    spare_in n (record_size b) (field_size b) (from f (512 * k + 4)) ≡ spare_used h k (from f (512 * k))
spare_due h f k x n d b e =
    ap (spare_in n (record_size b) (field_size b)) (from-after f (512 * k) 4) ∙ spare-after h f k b n e (d.count ∙ ap (records h) e)
