-- `file_blocks::twice::keys_twice` meets its contract. Assumes nothing.
use Rattle.file_blocks.proofs.twice.keys_twice.Goals as goal

pub returns : goal.returns
returns c =
    (rw c.from-t.ensures at c.counted_twice.ensures) _ c.fill_keys.ensures
