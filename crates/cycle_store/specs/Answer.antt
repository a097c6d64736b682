-- The answer of the call as its contract cites it.
use Rattle.std.specs.Prelude.{Result, Ok, Err}
use Rattle.refusals.specs.declared.Refusal.{Refusal}
use Rattle.refusals.specs.Numbers.{number_of}
use Rattle.cycle_history.specs.Store.{StoreAnswer, kept, refused}

-- The cycle is stored, or the number of the refusal.
unfoldable pub answer_of : {A : Type 0} → Result A Refusal → StoreAnswer
answer_of (Ok _) = kept
answer_of (Err refusal) = refused (number_of refusal)
