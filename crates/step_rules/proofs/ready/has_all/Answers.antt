-- `step_rules::ready::has_all` meets its contract. Assumes nothing.
use mathlib.Core.Path.{◌∙◌}
use Rattle.laws.proofs.Below.{all_cong}
use Rattle.laws.proofs.Masks.{bit_mask}
use Rattle.model.specs.Tables.{steps_done}
use Rattle.step_rules.specs.Rules.{has_got, all_got}
use Rattle.step_rules.proofs.ready.has_all.Goals as goal

pub returns : goal.returns
unfolding all_got
returns c =
    c.covers.ensures
    ∙ all_cong 16 _ _ (λ o l. rw (c.word_at.ensures, c.got.ensures, bit_mask 16 o (has_got (steps_done c.args.k c.args.done.now) c.args.a) l))
