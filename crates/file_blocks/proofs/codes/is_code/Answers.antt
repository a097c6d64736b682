-- `file_blocks::codes::is_code` meets its contract. Assumes nothing.
use mathlib.Core.Bool.{cond, ◌&&◌}
use mathlib.Core.List.{List}
use mathlib.Core.Path.{sym, ap, ◌∙◌, ◌≡◌, refl}
use Prim.Native.Nat.{ℕ, ◌+◌}
use native.Mathlib.Nat.{add-zero, add_assoc}
use native.Mathlib.Omega.{arith}
use lib.Dec.{leb, ltb, eqb}
use lib.ListN.{get_or}
use Rattle.laws.specs.Below.{all}
use Rattle.laws.proofs.Below.{all_more}
use Rattle.format.specs.Bytes.{from}
use Rattle.format.specs.Codes.{is_place, is_code, read_code}
use Rattle.file_blocks.proofs.codes.is_code.Goals as goal

-- The count is the field's first byte, in the definition's words.
count_is : (f : List ℕ) (at n : ℕ) → n ≡ get_or f at 0 → n ≡ (read_code (from f at)).size
count_is f at n e = e ∙ ap (λ (p : ℕ). get_or f p 0) (sym (add-zero at))

-- The test of one byte is the definition's.
place_is : (f : List ℕ) (at i n : ℕ) → n ≡ get_or f at 0 →
    cond (ltb i n) (leb 48 (get_or f (at + 1 + i) 0) && leb (get_or f (at + 1 + i) 0) 57) (eqb (get_or f (at + 1 + i) 0) 0) ≡ is_place (read_code (from f at)) i
unfolding is_place
place_is f at i n e = rw (count_is f at n e, add_assoc at 1 i)

pub loop-i-init : goal.loop-i-init
unfolding all
loop-i-init c =
    refl

pub loop-i-preserved : goal.loop-i-preserved
loop-i-preserved c =
    let x = c.byte_at.ensures.0 in
    all_more c.loop-i.i _ _ _ c.loop-i.invariant (rw x at c.is_place-ok.ensures ∙ place_is c.args.f.now c.args.at c.loop-i.i _ c.byte_at-n.ensures.0)

pub returns : goal.returns
unfolding is_code
returns c =
    let e : c.loop-i.i ≡ 10 = omega arith in
    rw (c.loop-i.invariant, e, ← (count_is c.args.f.now c.args.at _ c.byte_at-n.ensures.0))
