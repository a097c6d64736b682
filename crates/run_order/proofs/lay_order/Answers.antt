-- `run_order::lay_order` meets its contract: the first words are copied. Assumes nothing.
use mathlib.Core.Path.{sym, ◌∙◌}
use native.Mathlib.Omega.{arith}
use lib.ListN.{get_or, take}
use lib.Seq.{get_or-take, length-take-le}
use Rattle.laws.proofs.Fills.{overwrite_copy}
use Rattle.laws.proofs.Tables.{overwrite_cong, lay_over_lem}
use Rattle.run_order.proofs.lay_order.Goals as goal

pub returns : goal.returns
returns c =
    let m = c.min-words.result in
    let size = length-take-le c.args.n c.args.order.now (omega (arith, c.requires.0, c.requires.1)) in
    overwrite_copy m c.args.order.now c.args.picked.now _ 0 (omega (arith, c.requires)) c.copy_from_slice.ensures.after
    ∙ overwrite_cong m _ (λ i. get_or (take c.args.n c.args.order.now) i 0) c.args.picked.now (λ i l. sym (get_or-take c.args.n c.args.order.now i 0 (omega arith)))
    ∙ sym (lay_over_lem 0 (take c.args.n c.args.order.now) c.args.picked.now m (omega (arith, size)) (omega arith) (λ l. omega (arith, size, l)))
