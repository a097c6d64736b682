-- `writer_checks::codes::names_refusal` meets its contract. Assumes nothing.
use Rattle.file_blocks.specs.Due.{as_head}
use Rattle.writer_checks.specs.Held.{held}
use Rattle.writer_checks.proofs.Naming.{keyed}
use Rattle.writer_checks.proofs.Joining.{has_names}
use Rattle.writer_checks.proofs.codes.names_refusal.Goals as goal

pub look_refusal-requires-clause-keyed : goal.look_refusal-requires-clause-keyed
look_refusal-requires-clause-keyed c =
    let x = c.args.tables.now in
    keyed _ _ _ _ _ _ _ (as_head x.head) (has_names (as_head x.head) (held x)) (rw c.from-n.ensures at c.index_names.ensures) c.requires.names_in.offers

pub returns-clause-value : goal.returns-clause-value
returns-clause-value c = λ j h.
    c.look_refusal.ensures.value j
    (keyed j _ _ _ _ _ _ (as_head c.args.tables.now.head) h (rw c.from-n.ensures at c.index_names.ensures) c.requires.names_in.offers)

pub returns-clause-placed : goal.returns-clause-placed
returns-clause-placed c = λ j h.
    c.look_refusal.ensures.placed j
    (keyed j _ _ _ _ _ _ (as_head c.args.tables.now.head) h (rw c.from-n.ensures at c.index_names.ensures) c.requires.names_in.offers)
