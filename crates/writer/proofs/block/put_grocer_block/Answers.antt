-- `writer::block::put_grocer_block` meets its contract. Assumes nothing.
use native.Mathlib.Omega.{arith}
use Rattle.writer.proofs.Made.{grocers_made}
use Rattle.writer.proofs.block.put_grocer_block.Goals as goal

pub returns : goal.returns
returns c =
    let a = c.args in
    grocers_made a.k a.m a.grocer_owner.now a.out.now _ _ _ c.requires.m_bound.0 (omega (arith, c.requires.m_bound)) (rw c.number.ensures at c.put_four.ensures) c.put_owners.ensures c.close_block.ensures
