-- What the forecast's calls answer, in the model's words.
use Rattle.std.specs.Prelude.{Result, Ok, Err}
use Rattle.refusals.specs.declared.Refusal.{Refusal}
use Rattle.refusals.specs.Numbers.{number_of}
use Rattle.model.specs.Step.{StepAnswer, accepted, refused}

-- The request is accepted, or refused under the number of the condition.
unfoldable pub answer_of : Result (Unit {0}) Refusal → StepAnswer
answer_of (Ok x) = accepted
answer_of (Err r) = refused (number_of r)
