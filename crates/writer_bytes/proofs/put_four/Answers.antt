-- `writer_bytes::put_four` meets its contract. Assumes nothing.
use Rattle.writer_bytes.proofs.Puts.{four_put}
use Rattle.writer_bytes.proofs.put_four.Goals as goal

pub returns : goal.returns
returns c =
    let g = c.args in
    four_put g.at g.first g.second g.word g.out.now _ _ _ c.requires.0 c.put_byte.ensures c.put_byte-2.ensures c.put16.ensures
