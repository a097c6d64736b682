-- `file_blocks::plan::records_at` meets its contract. Assumes nothing.
use Prim.Native.Nat.{ℕ, ◌*◌, ◌-◌, min}
use mathlib.Core.Path.{sym, ap, ◌∙◌}
use native.Mathlib.Omega.{arith}
use Rattle.format.specs.Blocks.{records}
use Rattle.file_blocks.specs.Kinds.{kind_number}
use Rattle.file_blocks.specs.Due.{as_head}
use Rattle.file_blocks.proofs.KindNumbers.{one_is, three_is}
use Rattle.file_blocks.proofs.plan.records_at.Goals as goal

pub overflow_sub-k : goal.overflow_sub-k
overflow_sub-k c =
    omega (arith, (one_is (as_head c.args.head) c.args.k (sym c.requires.kind_value ∙ ap kind_number c.in-Offers.is)).1)

pub returns-in-Offers : goal.returns-in-Offers
returns-in-Offers c =
    let h = as_head c.args.head in
    let e = one_is h c.args.k (sym c.requires.kind_value ∙ ap kind_number c.in-Offers.is) in
    (c.part.ensures ∙ sym (ap (records h) e.0), omega arith)

pub overflow_sub-k-in-Tallies : goal.overflow_sub-k-in-Tallies
overflow_sub-k-in-Tallies c =
    omega (arith, c.tallies_at.ensures, (three_is (as_head c.args.head) c.args.k (sym c.requires.kind_value ∙ ap kind_number c.in-Tallies.is)).1)

pub returns-in-Tallies : goal.returns-in-Tallies
returns-in-Tallies c =
    let h = as_head c.args.head in
    let k = c.args.k in
    let e = three_is h k (sym c.requires.kind_value ∙ ap kind_number c.in-Tallies.is) in
    (c.part-in-Tallies.ensures ∙ ap (λ (x : ℕ). min 21 (h.tallies - 21 * (k - x))) c.tallies_at.ensures ∙ sym (ap (records h) e.0), omega arith)
