-- What the step answers, in the model's words.
use Rattle.std.specs.Prelude.{Result, Ok, Err}
use Rattle.model.specs.Step.{StepAnswer, accepted, refused}
use Rattle.refusals.specs.declared.Refusal.{Refusal}
use Rattle.refusals.specs.Numbers.{number_of}

-- The request is accepted, or refused under a number.
unfoldable pub answer_of : Result (Unit {0}) Refusal → StepAnswer
answer_of (Ok _) = accepted
answer_of (Err r) = refused (number_of r)
