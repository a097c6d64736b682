-- `file_blocks::shape::shape_refusal` meets its contract. Assumes nothing.
use Prim.Native.Nat.{ℕ, ◌*◌}
use mathlib.Core.Path.{◌≡◌, sym, ap, ◌∙◌}
use mathlib.Core.Bool.{false}
use mathlib.Core.List.{List}
use native.Mathlib.Omega.{arith}
use Rattle.std.proofs.lemmas.Result.{err_from_is_err_and}
use Rattle.format.specs.Job.{Head}
use Rattle.format.specs.Blocks.{blocks, block_count}
use Rattle.format.specs.File.{decode}
use Rattle.format.specs.Refusals.{bad_length, header_refusal}
use Rattle.file_blocks.proofs.ShapeOrder.{length_in, header_most, count_off, count_on, shape_length, shape_header, shape_count, shape_blocks}
use Rattle.refusals.specs.Numbers.{number_of}
use Rattle.refusals.proofs.Numbers.{number_positive}
use Rattle.file_blocks.proofs.shape.shape_refusal.Goals as goal

-- The blocks that were counted are those that the header says.
counted : (f : List ℕ) {h : Head} {n : ℕ} → n ≡ block_count h → h ≡ (decode f).head → n ≡ blocks (decode f)
counted f e says = e ∙ ap block_count says

pub returns-then-bad_length : goal.returns-then-bad_length
returns-then-bad_length c =
    sym (shape_length _ (sym c.bad_length.ensures ∙ c.if-bad_length.true))

pub header_refusal-requires : goal.header_refusal-requires
header_refusal-requires c =
    (length_in _ (sym c.bad_length.ensures ∙ c.if-bad_length.false)).0

pub returns-in_err-header_refusal : goal.returns-in_err-header_refusal
returns-in_err-header_refusal c =
    let p = err_from_is_err_and c.from_residual.result c.from_residual.ensures.1 in
    let right : bad_length c.args.f.now ≡ false = sym c.bad_length.ensures ∙ c.if-bad_length.false in
    let e : number_of c.in_err-header_refusal.field-0.0 ≡ header_refusal c.args.f.now = c.in_err-header_refusal.ensures in
    rw (p.1, p.2) (e ∙ sym (shape_header _ right (λ z. omega (arith, number_positive c.in_err-header_refusal.field-0.0, e, z))))

pub read_head-head-requires : goal.read_head-head-requires
read_head-head-requires c =
    omega (arith, (length_in _ (sym c.bad_length.ensures ∙ c.if-bad_length.false)).0)

pub returns-then-f-n : goal.returns-then-f-n
returns-then-f-n c =
    let right : bad_length c.args.f.now ≡ false = sym c.bad_length.ensures ∙ c.if-bad_length.false in
    let top : header_refusal c.args.f.now ≡ 0 = sym c.in_ok-header_refusal.ensures in
    let n = counted c.args.f.now c.block_count-n.ensures c.read_head-head.ensures in
    sym (shape_count _ right top (count_on _ (λ e. c.if-f-n.true (e ∙ ap (λ (k : ℕ). 512 * k) (sym n)))))

pub blocks_refusal-requires : goal.blocks_refusal-requires
blocks_refusal-requires c =
    let right : bad_length c.args.f.now ≡ false = sym c.bad_length.ensures ∙ c.if-bad_length.false in
    let top : header_refusal c.args.f.now ≡ 0 = sym c.in_ok-header_refusal.ensures in
    let long = length_in _ right in
    record {
      n_in_bounds = (omega (arith, c.if-f-n.false), omega (arith, c.if-f-n.false, long.1), counted c.args.f.now c.block_count-n.ensures c.read_head-head.ensures);
      head_value = (c.read_head-head.ensures, header_most _ top c.read_head-head.ensures);
    }

pub returns : goal.returns
returns c =
    let right : bad_length c.args.f.now ≡ false = sym c.bad_length.ensures ∙ c.if-bad_length.false in
    let top : header_refusal c.args.f.now ≡ 0 = sym c.in_ok-header_refusal.ensures in
    let n = counted c.args.f.now c.block_count-n.ensures c.read_head-head.ensures in
    c.blocks_refusal.ensures ∙ sym (shape_blocks _ right top (count_off _ (c.if-f-n.false ∙ ap (λ (k : ℕ). 512 * k) n)))
