-- `step_checks::state::state_short` meets its contract: the code is the definition, at the products that the sizes give. Assumes nothing.
use Rattle.model.specs.Tables.{state_lengths, state_short}
use Rattle.step_checks.proofs.state.state_short.Goals as goal

pub returns : goal.returns
unfolding state_short state_lengths
returns c =
    λ working. λ totals. rw (c.box_words-kn.ensures, c.list_words-m.ensures.0, c.marks-kk.ensures)
