-- `writer_bytes::put_words` meets its contract. Assumes nothing.
use Rattle.writer_bytes.proofs.Puts.{words_put}
use Rattle.writer_bytes.proofs.put_words.Goals as goal

pub returns : goal.returns
returns c =
    let g = c.args in
    words_put g.first g.second g.third g.at g.out.now _ _ _ c.requires.0 c.put16.ensures c.put16-2.ensures c.put16-3.ensures
