-- `run_ready_renew::one_more` meets its contract. Assumes nothing.
use mathlib.Core.Path.{◌≡◌, refl, ap}
use Prim.Native.Nat.{ℕ}
use native.Mathlib.Omega.{arith}
use lib.ListN.{get_or}
use Rattle.laws.proofs.Below.{only_le}
use Rattle.run_ready.specs.Rows.{row_of}
use Rattle.run_ready.proofs.Walking.{one_of}
use Rattle.run_ready_rows.proofs.ByRow.{renewed_cong}
use Rattle.run_ready_renew.proofs.Place.{more_word, more_count}
use Rattle.run_ready_renew.proofs.one_more.Goals as goal

pub overflow_add-number : goal.overflow_add-number
overflow_add-number c =
    let at : get_or c.args.rows.now.counts c.row_at-r.result 0 ≡ get_or c.args.rows.now.counts (row_of c.args.k c.args.kind c.args.a) 0 =
    ap (λ (x : ℕ). get_or c.args.rows.now.counts x 0) c.row_at-r.ensures.0 in
    omega (arith, c.requires.few, one_of _ _ c.from.ensures, only_le c.args.test 1)

pub put_row-requires : goal.put_row-requires
put_row-requires c =
    (c.row_at-r.ensures.1, c.requires.long)

pub returns : goal.returns
returns c =
    λ f. λ h. λ off. let e = c.row_at-r.ensures.0 in
    renewed_cong c.args.k _ _ _ _ _ _ e (λ x l. refl)
    (c.put_row.ensures c.args.k _
    (more_word c.args.k c.args.b f _ _ c.args.rows.now c.requires.boxes_in c.requires.b_in e h c.args.test _ c.with_bit-word.ensures)
    (more_count c.args.k c.args.b f _ _ c.args.rows.now c.requires.boxes_in c.requires.b_in e h c.args.test _ (one_of _ _ c.from.ensures) off))
