-- `run_ready_renew::one_less` meets its contract. Assumes nothing.
use mathlib.Core.Path.{refl}
use Rattle.run_ready_rows.proofs.ByRow.{renewed_cong}
use Rattle.run_ready_renew.proofs.Place.{less_word, less-count}
use Rattle.run_ready_renew.proofs.one_less.Goals as goal

pub overflow_sub-number : goal.overflow_sub-number
overflow_sub-number c =
    rw c.row_at-r.ensures.0 c.requires.some

pub put_row-requires : goal.put_row-requires
put_row-requires c =
    (c.row_at-r.ensures.1, c.requires.long)

pub returns : goal.returns
returns c =
    λ f. λ h. λ on. let e = c.row_at-r.ensures.0 in
    renewed_cong c.args.k _ _ _ _ _ _ e (λ x l. refl)
    (c.put_row.ensures c.args.k _
    (less_word c.args.k c.args.b f _ _ c.args.rows.now c.requires.boxes_in c.requires.b_in e h _ c.clear_bit-word.ensures)
    (less-count c.args.k c.args.b f _ _ c.args.rows.now c.requires.boxes_in c.requires.b_in e h on))
