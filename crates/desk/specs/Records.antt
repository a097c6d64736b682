-- The records and answers of the call, in the model's words.
use Rattle.std.specs.Prelude.{List, [], ◌∷◌, ℤ, Result, Ok, Err}
use Rattle.refusals.specs.declared.Refusal.{Refusal}
use Rattle.refusals.specs.Numbers.{number_of}
use Rattle.model.specs.Reconcile.{TallyRecord, DeskAnswer, owed, refused}
-- A record by its fields, a lent record, and its fields are passed on.
pub use Rattle.desk_records.specs.Rows.{tally_record, record_of}
pub use Rattle.desk_records.specs.declared.Tally.{Tally}

-- The list of records that is lent.
unfoldable pub records_of : List Tally → List TallyRecord
records_of [] = []
records_of (t ∷ ts) = record_of t ∷ records_of ts

-- An amount owed, or the number of the refusal.
unfoldable pub answer_of : Result ℤ Refusal → DeskAnswer
answer_of (Ok amount) = owed amount
answer_of (Err refusal) = refused (number_of refusal)
