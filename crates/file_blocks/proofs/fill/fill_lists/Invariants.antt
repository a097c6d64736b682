-- `file_blocks::fill::fill_lists` meets its contract. The invariant: the first list and the first q additional ones are written. Assumes nothing.
use mathlib.Core.Path.{◌≡◌}
use mathlib.Core.List.{List}
use Prim.Native.Nat.{ℕ, ◌+◌}
use Rattle.laws.specs.Tables.{recell}
use Rattle.format.specs.Job.{price_on}
use Rattle.format.specs.File.{decode}
use Rattle.file_blocks.proofs.fill.fill_lists.Given as goal

-- The prices that a file says, by list and offer.
abbrev prices : List ℕ → ℕ → ℕ → ℕ
prices f = price_on (decode f).offer (decode f).list_price

abbrev pub invariant-loop-q : goal.invariant-loop-q
invariant-loop-q l =
    l.price ≡ recell (l.q + 1) l.n (prices l.file.bytes.now) l.initial.price
