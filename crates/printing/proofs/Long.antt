-- An input that is longer than the longest file is refused by its first bytes as it is whole. Assumes nothing.
use mathlib.Core.Path.{◌≡◌, sym, ap, ◌∙◌}
use mathlib.Core.List.{List}
use mathlib.Core.Bool.{◌||◌, not}
use Prim.Native.Nat.{ℕ, ◌%◌, ◌<◌}
use native.Mathlib.Omega.{arith}
use lib.Dec.{eqb, ltb}
use lib.ListN.{length, take}
use lib.Seq.{length-take-le, take_all}
use borrow.Author.Tests.{lt-ltb, ltb-true, ltb-false}
use Rattle.laws.proofs.Bools.{split, or_true}
use Rattle.format.specs.Refusals.{bad_length, file_refusal}
use Rattle.printing.specs.Printed.{refused_text, printed}
use Rattle.format.proofs.Order.{length_refused}
use Rattle.printing.proofs.Blank.{printed_refusal}

long_refused : (file : List ℕ) → 52_224 < length file → file_refusal file ≡ 1
unfolding bad_length
long_refused file h = length_refused file (rw (lt-ltb 52_224 (length file) h) (or_true (eqb (length file) 0 || not (eqb (length file % 512) 0))))

pub long_printed : (file : List ℕ) → 52_224 < length file → printed file ≡ refused_text 1
long_printed file h =
    printed_refusal file (λ e. let z = sym (long_refused file h) ∙ e in omega (arith, z)) ∙ ap refused_text (long_refused file h)

-- The first m bytes are enough, where those are more than a file has.
pub cut_printed : (file : List ℕ) (m : ℕ) → 52_224 < m → printed (take m file) ≡ printed file
cut_printed file m h =
    split (ltb (length file) m)
    (λ e. let l = ltb-true (length file) m e in ap printed (take_all m file (omega arith)))
    (λ e.
    let l = ltb-false (length file) m e in
    let size = length-take-le m file l in
    long_printed (take m file) (omega (arith, size)) ∙ sym (long_printed file (omega arith)))
