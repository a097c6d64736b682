-- `run_fresh::fresh_totals` meets its contract: the first words of three tables are filled with 0. Assumes nothing.
use Rattle.laws.proofs.Fills.{overwrite_fill}
use Rattle.run_fresh.proofs.fresh_totals.Goals as goal

pub returns : goal.returns
returns c = (
  overwrite_fill _ _ _ _ c.requires.working_long (c.fill.ensures.after (λ y h. h)),
  overwrite_fill _ _ _ _ c.requires.transit_long (c.fill-2.ensures.after (λ y h. h)),
  overwrite_fill _ _ _ _ c.requires.statement_long (c.fill-3.ensures.after (λ y h. h)),
)
