-- `file_blocks::standing::strike_keys` meets its contract. Assumes nothing.
use mathlib.Core.Path.{◌∙◌}
use Rattle.file_blocks.proofs.standing.strike_keys.Goals as goal

pub returns : goal.returns
returns c =
    (rw c.from-t.ensures at c.strike.ensures.struck) _ c.fill_keys.ensures ((rw c.from-t.ensures at c.strike.ensures.value) _ c.fill_keys.ensures ∙ c.requires.f_value)
