-- `run_ready_rows::put_word` meets its contract: the bits of a word are counted. Assumes nothing.
use mathlib.Core.Path.{ap, ◌∙◌}
use native.Mathlib.Omega.{arith}
use lib.Count.{ones}
use Rattle.laws.proofs.Masks.{ones_mask}
use Rattle.run_ready_rows.proofs.ByRow.{ones_few}
use Rattle.run_ready_rows.proofs.put_word.Goals as goal

pub returns : goal.returns
returns c =
    λ k. λ f. λ e. c.put_row.ensures k f e (ap ones e ∙ ones_mask k f)

pub overflow_cast-number : goal.overflow_cast-number
overflow_cast-number c =
    omega (arith, ones_few c.args.word c.ranges.word.fits)
