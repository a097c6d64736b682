-- `file_blocks::plan::prices_in` meets its contract. Assumes nothing.
use Prim.Native.Nat.{ℕ, ◌+◌, ◌*◌, ◌-◌, ◌%◌, ◌<◌, min}
use mathlib.Core.Path.{◌≡◌, sym, ap, ◌∙◌}
use native.Mathlib.Omega.{arith}
use lib.Arith.{digits_mod}
use Rattle.format.specs.Blocks.{price_block, list_blocks, list_at, kind_at, records}
use Rattle.file_blocks.specs.Due.{as_head}
use Rattle.file_blocks.proofs.KindNumbers.{four_is}
use Rattle.file_blocks.proofs.plan.prices_in.Goals as goal

pub overflow_sub-b : goal.overflow_sub-b
overflow_sub-b c =
    let due : let a = c.args in
    let h = as_head a.head in
    (q : ℕ) × (b : ℕ) × (kind_at h a.k ≡ price_block q b) × (a.k ≡ list_at h q + b) × (b < list_blocks h.offers) =
    four_is (as_head c.args.head) c.args.k c.requires.2 in
    omega (arith, c.prices_at-first.ensures, due.3)

pub nonzero_rem-b : goal.nonzero_rem-b
nonzero_rem-b c =
    let due : let a = c.args in
    let h = as_head a.head in
    (q : ℕ) × (b : ℕ) × (kind_at h a.k ≡ price_block q b) × (a.k ≡ list_at h q + b) × (b < list_blocks h.offers) =
    four_is (as_head c.args.head) c.args.k c.requires.2 in
    omega (arith, c.list_blocks.ensures, due.4)

pub returns : goal.returns
returns c =
    let due : let a = c.args in
    let h = as_head a.head in
    (q : ℕ) × (b : ℕ) × (kind_at h a.k ≡ price_block q b) × (a.k ≡ list_at h q + b) × (b < list_blocks h.offers) =
    four_is (as_head c.args.head) c.args.k c.requires.2 in
    let place : (c.args.k - c.prices_at-first.result) % c.list_blocks.result ≡ due.1 =
    let (q, b, i, e, m) = due in
    let h = as_head c.args.head in
    let d : c.args.k - c.prices_at-first.result ≡ q * list_blocks h.offers + b = omega (arith, c.prices_at-first.ensures, e) in
    rw (d, c.list_blocks.ensures, c.from.ensures) (digits_mod q m) in
    let h = as_head c.args.head in
    (c.part.ensures ∙ ap (λ (b : ℕ). min 126 (h.offers - 126 * b)) place ∙ sym (ap (records h) due.2), omega (arith, c.part.ensures))
