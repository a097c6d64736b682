-- A table of codes, filled code by code, eleven bytes each. Assumes nothing.
use mathlib.Core.Path.{◌≡◌, refl, sym, ap, ◌∙◌, subst}
use mathlib.Core.List.{List}
use Prim.Native.Nat.{ℕ, ◌+◌, ◌*◌, ◌≤◌, ◌<◌}
use native.Mathlib.Omega.{arith}
use lib.ListN.{length, get_or, set}
use Rattle.laws.specs.Tables.{tabulate, recell}
use Rattle.laws.proofs.Tables.{get_d_tabulate, fill_none}
use Rattle.format.specs.Codes.{Code, read_code, code_bytes}
use Rattle.format.specs.Tables.{store_codes}
use Rattle.file_blocks.specs.Copied.{Copied}
use Rattle.file_blocks.proofs.Copies.{copied_none, copied_more, rows_more}

-- The first byte.
pub copied_first : {g : ℕ → ℕ} {to : ℕ} {l : List ℕ} (v : ℕ) → to < length l → v ≡ g 0 → Copied g to 1 l (set l to v)
copied_first {g} {to} {l} v h q =
    let e : to + 0 ≡ to = omega arith in
    subst (λ (p : ℕ). Copied g to 1 l (set l p v)) e (copied_more v (copied_none g to l) (omega arith) q)

-- The bytes of the code that eleven bytes say are those bytes.
pub code_byte : (g : ℕ → ℕ) (k : ℕ) → k < 11 → get_or (code_bytes (read_code g)) k 0 ≡ g k
code_byte g k h = ap (λ (x : List ℕ). get_or x k 0) eleven ∙ get_d_tabulate 11 g k 0 h
  where
    eleven : code_bytes (read_code g) ≡ tabulate 11 g
    eleven = unfold code_bytes tabulate in refl

-- No code is stored yet.
pub codes_none : (c : ℕ → Code) (l : List ℕ) → l ≡ store_codes 0 c l
unfolding store_codes recell
codes_none c l = fill_none _ l

-- A code's bytes are copied behind the codes stored.
pub codes_more : (c : ℕ → Code) (i : ℕ) (l m l' : List ℕ) (g : ℕ → ℕ) → m ≡ store_codes i c l → (i + 1) * 11 ≤ length l → length l' ≡ length l →
    Copied g (i * 11) 11 m l' → read_code g ≡ c i → l' ≡ store_codes (i + 1) c l
unfolding store_codes
codes_more c i l m l' g e h long w q =
    rows_more i 11 (λ i p. get_or (code_bytes (c i)) p 0) g l m l' e h long refl w (λ o lo. sym (code_byte g o lo) ∙ ap (λ (x : Code). get_or (code_bytes x) o 0) q)
