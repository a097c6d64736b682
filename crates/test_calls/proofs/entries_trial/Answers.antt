-- `test_calls::entries_trial` meets its contract: it gives what the trial gives. Assumes nothing.
use borrow.Author.Rules.{rules}
use Rattle.test_calls.proofs.Told.{trial_told_lem}
use Rattle.test_calls.proofs.entries_trial.Goals as goal

pub returns : goal.returns
returns c =
    let told = trial_told_lem _ _ _ _ _ _ c.rounds_number.ensures c.trial.ensures.tried in
    search (rules, told)

pub shape_of-idle : goal.shape_of-idle
shape_of-idle c =
    c.trial.auto.idle

pub shape_of-picked : goal.shape_of-picked
shape_of-picked c =
    c.trial.auto.picked
