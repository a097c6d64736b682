-- `step_prices::list::list_message` meets its contract: at offer o the list has the offers below o that stand in the message. Assumes nothing.
use mathlib.Core.Path.{◌≡◌}
use mathlib.Core.Bool.{true}
use Prim.Native.Nat.{ℕ, ◌<◌, ◌≤◌}
use lib.ListN.{length, get_or}
use Rattle.laws.specs.Below.{count}
use Rattle.step_places.specs.Message.{word_in}
use Rattle.step_prices.proofs.list.list_message.Given as goal

abbrev pub invariant-loop-o : goal.invariant-loop-o
invariant-loop-o l =
    (l.o ≤ l.n)
    × (length l.offers ≡ length l.initial.offers)
    × (l.l ≡ count l.o (word_in l.owners l.masks l.a l.b))
    × ((y : ℕ) → y < l.o → word_in l.owners l.masks l.a l.b y ≡ true → get_or l.offers (count y (word_in l.owners l.masks l.a l.b)) 0 ≡ y)
