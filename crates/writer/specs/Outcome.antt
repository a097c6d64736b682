-- What the writer's answer says.
use Rattle.std.specs.Prelude.{ℕ, List, Result, Ok, Err}
use Rattle.refusals.specs.declared.Refusal.{Refusal}
use Rattle.refusals.specs.Numbers.{number_of}
use Rattle.format.specs.Tables.{WriteAnswer, wrote, not_written, WriteOutcome}

-- Each answer as the format has it: the file's length, or a refusal's number.
abbrev pub answer_of : Result ℕ Refusal → WriteAnswer
answer_of (Ok bytes) = wrote bytes
answer_of (Err refusal) = not_written (number_of refusal)

-- The answer with the buffer as it is afterwards.
abbrev pub outcome_of : Result ℕ Refusal → List ℕ → WriteOutcome
outcome_of r l = record { answer = answer_of r; out = l }
