-- `run_ready_rows::put_row` meets its contract. Assumes nothing.
use Rattle.run_ready_rows.proofs.ByRow.{written}
use Rattle.run_ready_rows.proofs.put_row.Goals as goal

pub returns : goal.returns
returns c =
    λ k. λ f. λ ew. λ en. written k f c.args.r c.args.word c.args.number c.args.rows.now c.requires.0 c.requires.1 ew en
