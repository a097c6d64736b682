-- What the tables of messages hold: the lengths of the messages, and no word just where no message is due. Assumes nothing.
use mathlib.Core.Path.{◌≡◌}
use mathlib.Core.Bool.{Bool, not}
use Prim.Native.Nat.{ℕ, ◌<◌}
use lib.Dec.{eqb}
use borrow.Author.Tests.{ne_eqb}
use Rattle.laws.specs.Below.{any, count}
use Rattle.laws.proofs.Bools.{split, clash}
use Rattle.laws.proofs.Below.{any_find, count_none, count_zero}
use Rattle.model.specs.Job.{Job, price_word, total_word, prices_due, totals_due}
use Rattle.model.specs.Local.{price_table, total_table}
use Rattle.laws.specs.Tables.{cell_at}
use Rattle.laws.proofs.Rows.{rows_at}

count_any : (n : ℕ) (p : ℕ → Bool) → eqb (count n p) 0 ≡ not (any n p)
count_any n p =
    split (any n p)
    (λ e. let (i, l, q) = any_find n p e in rw e (ne_eqb (count n p) 0 (λ z. clash q (count_zero n p i l z))))
    (λ e. rw (e, count_none n p e))

module _ (j : Job) (a b : ℕ) (la : a < 16) (lb : b < 16) where
  -- A count is the length of the message's list.
  pub price_cell : cell_at (price_table j) a b ≡ count j.offers (price_word j a b)
  unfolding price_table
  price_cell = rows_at 16 16 (λ a b. count j.offers (price_word j a b)) 0 a b la lb

  pub total_cell : cell_at (total_table j) a b ≡ count j.grocers (total_word j a b)
  unfolding total_table
  total_cell = rows_at 16 16 (λ a b. count j.grocers (total_word j a b)) 0 a b la lb

  -- It is 0 just where no message is due.
  pub price_due : eqb (cell_at (price_table j) a b) 0 ≡ not (prices_due j a b)
  unfolding prices_due
  price_due = rw price_cell (count_any j.offers (price_word j a b))

  pub total_due : eqb (cell_at (total_table j) a b) 0 ≡ not (totals_due j a b)
  unfolding totals_due
  total_due = rw total_cell (count_any j.grocers (total_word j a b))
