-- What the reader answers, in the format's words.
use Rattle.std.specs.Prelude.{Result, Ok, Err}
use Rattle.format.specs.Tables.{ReadAnswer, sizes, refused, ReadOutcome, ReaderTables}
use Rattle.refusals.specs.declared.Refusal.{Refusal}
use Rattle.refusals.specs.Numbers.{number_of}
use Rattle.file_blocks.specs.declared.plan.Head.{Head}
use Rattle.file_blocks.specs.Due.{as_head}

-- K, M, N and T with the cycle and the number of additional lists of an accepted file, or a refusal's number.
abbrev pub answer_of : Result Head Refusal → ReadAnswer
answer_of (Ok head) = sizes (as_head head)
answer_of (Err refusal) = refused (number_of refusal)

-- An answer, and the tables as they are afterwards.
abbrev pub outcome : Result Head Refusal → ReaderTables → ReadOutcome
outcome a l = record { answer = answer_of a; tables = l }
