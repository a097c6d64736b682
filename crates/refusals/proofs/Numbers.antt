-- No condition has the number 0, which an accepted call has. Assumes nothing.
use Prim.Native.Nat.{◌<◌}
use native.Mathlib.Omega.{arith}
use Rattle.refusals.specs.declared.Refusal.{Refusal}
use Rattle.refusals.specs.declared.Refusal.TheVariants.{BadLength, SumsDiffer, NotDue, BadSizes, SpareUsed, BadRecord, SharedNumber, UnknownOffer, CountedTwice}
use Rattle.refusals.specs.declared.Refusal.TheVariants.{LentShort, OutOfRange, NoSuchKind, NoSuchBoxes, NoSuchStep, AlreadyDone, NotReady}
use Rattle.refusals.specs.declared.Refusal.TheVariants.{NotFinished, NoRoom, EditRefused, NoPreference, BadLine, CyclePast, AmountTooLarge}
use Rattle.refusals.specs.Numbers.{number_of}

pub number_positive : (r : Refusal) → 0 < number_of r
number_positive BadLength = omega arith
number_positive SumsDiffer = omega arith
number_positive NotDue = omega arith
number_positive BadSizes = omega arith
number_positive SpareUsed = omega arith
number_positive BadRecord = omega arith
number_positive SharedNumber = omega arith
number_positive UnknownOffer = omega arith
number_positive CountedTwice = omega arith
number_positive LentShort = omega arith
number_positive OutOfRange = omega arith
number_positive NoSuchKind = omega arith
number_positive NoSuchBoxes = omega arith
number_positive NoSuchStep = omega arith
number_positive AlreadyDone = omega arith
number_positive NotReady = omega arith
number_positive NotFinished = omega arith
number_positive NoRoom = omega arith
number_positive EditRefused = omega arith
number_positive NoPreference = omega arith
number_positive BadLine = omega arith
number_positive CyclePast = omega arith
number_positive AmountTooLarge = omega arith
