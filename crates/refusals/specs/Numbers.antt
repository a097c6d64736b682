-- The numbers of the conditions under which a call is refused, as the specification gives them.
use Rattle.std.specs.Prelude.{ℕ, Result, Ok, Err}
use Rattle.refusals.specs.declared.Refusal.{Refusal}
use Rattle.refusals.specs.declared.Refusal.TheVariants.{BadLength, SumsDiffer, NotDue, BadSizes, SpareUsed, BadRecord, SharedNumber, UnknownOffer, CountedTwice}
use Rattle.refusals.specs.declared.Refusal.TheVariants.{LentShort, OutOfRange, NoSuchKind, NoSuchBoxes, NoSuchStep, AlreadyDone, NotReady}
use Rattle.refusals.specs.declared.Refusal.TheVariants.{NotFinished, NoRoom, EditRefused, NoPreference, BadLine, CyclePast, AmountTooLarge}

-- The number of a condition: files 1 to 9, calls from 20 on, and those of the change requests from 30 on.
abbrev pub number_of : Refusal → ℕ
number_of BadLength = 1
number_of SumsDiffer = 2
number_of NotDue = 3
number_of BadSizes = 4
number_of SpareUsed = 5
number_of BadRecord = 6
number_of SharedNumber = 7
number_of UnknownOffer = 8
number_of CountedTwice = 9
number_of LentShort = 20
number_of OutOfRange = 21
number_of NoSuchKind = 22
number_of NoSuchBoxes = 23
number_of NoSuchStep = 24
number_of AlreadyDone = 25
number_of NotReady = 26
number_of NotFinished = 30
number_of NoRoom = 31
number_of EditRefused = 32
number_of NoPreference = 33
number_of BadLine = 34
number_of CyclePast = 35
number_of AmountTooLarge = 36

-- The number of an answer: 0 where the call is accepted, or that of the condition that refuses it.
abbrev pub number : {A : Type 0} → Result A Refusal → ℕ
number (Ok _) = 0
number (Err r) = number_of r
