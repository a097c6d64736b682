-- The answer of a trial as its contract cites it.
use Rattle.std.specs.Prelude.{ℕ, Result, Ok, Err}
use Rattle.refusals.specs.declared.Refusal.{Refusal}
use Rattle.refusals.specs.Numbers.{number_of}
use Rattle.trial_rules.specs.Trial.{TrialAnswer, tried, refused}

-- The answer: its rounds; or the number of the refusal.
unfoldable pub answer_of : Result ℕ Refusal → TrialAnswer
answer_of (Ok rounds) = tried rounds
answer_of (Err r) = refused (number_of r)
