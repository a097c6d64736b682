-- `file_codes::copy_code` meets its contract: eleven bytes are put, one after the other. Assumes nothing.
use mathlib.Core.Path.{refl, ap}
use Prim.Native.Nat.{ℕ}
use native.Mathlib.Omega.{arith}
use lib.ListN.{length-set, get_or}
use Rattle.file_blocks.proofs.Copies.{copied_more}
use Rattle.file_codes.proofs.Codes.{copied_first}
use Rattle.file_codes.proofs.copy_code.Goals as goal

pub returns : goal.returns
returns c =
    let h = c.requires.1 in
    copied_more _ (copied_more _ (copied_more _ (copied_more _ (copied_more _
    (copied_more _ (copied_more _ (copied_more _ (copied_more _ (copied_more _
    (copied_first _ (omega (arith, h)) (ap (λ (p : ℕ). get_or c.args.f.now p 0) (omega arith)))
    (simp length-set (omega (arith, h))) refl)
    (simp length-set (omega (arith, h))) refl)
    (simp length-set (omega (arith, h))) refl)
    (simp length-set (omega (arith, h))) refl)
    (simp length-set (omega (arith, h))) refl)
    (simp length-set (omega (arith, h))) refl)
    (simp length-set (omega (arith, h))) refl)
    (simp length-set (omega (arith, h))) refl)
    (simp length-set (omega (arith, h))) refl)
    (simp length-set (omega (arith, h))) refl
