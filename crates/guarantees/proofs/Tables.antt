-- What the tables of words between boxes hold. Assumes nothing.
use mathlib.Core.Path.{◌≡◌}
use mathlib.Core.Logic.{◌⊎◌, inl, inr}
use Prim.Native.Nat.{ℕ, ◌<◌, ◌≤◌}
use native.Mathlib.Omega.{arith}
use Rattle.laws.specs.Below.{count}
use Rattle.laws.proofs.Below.{count_le}
use Rattle.laws.proofs.Rows.{rows_at}
use Rattle.laws.specs.Tables.{cell_at}
use Rattle.model.specs.Job.{Job, price_word, total_word}
use Rattle.model.specs.Local.{price_table, total_table}
use Rattle.guarantees.specs.Calls.{TableSums, MessagesInRange}
use Rattle.model.proofs.Range.{InRange}
use Rattle.model.proofs.Ranges.{Limits}
use Rattle.model.proofs.Words.{owner_most}
use Rattle.message_tables.proofs.Laws.{price_row_past, price_column_past, total_row_past, total_column_past, price_self, total_self, price_row_sum, total_column_sum, tables_sum}

module _ (j : Job) (r : InRange j) where
  -- Boxes from K on have 0 in both.
  past : (a b : ℕ) → a < 16 → b < 16 → (j.boxes ≤ a) ⊎ (j.boxes ≤ b) → (cell_at (price_table j) a b ≡ 0) × (cell_at (total_table j) a b ≡ 0)
  past a b la lb (inl h) = (price_row_past j a b la lb r h, total_row_past j a b la lb h)
  past a b la lb (inr h) = (price_column_past j a b la lb h, total_column_past j a b la lb r h)

  pub table_sums_lem : TableSums j
  table_sums_lem = record {
    past = past;
    self = λ a l. (price_self j a l, total_self j a l);
    row = price_row_sum j r;
    column = total_column_sum j r;
    whole = tables_sum j r;
  }

  -- Within the limits of 01 every word is in its range.
  module _ (v : Limits j) where
    prices : (a b : ℕ) → a < 16 → b < 16 → cell_at (price_table j) a b ≤ j.offers
    unfolding price_table
    prices a b la lb = rw (rows_at 16 16 (λ a b. count j.offers (price_word j a b)) 0 a b la lb) (count_le j.offers (price_word j a b))

    totals : (a b : ℕ) → a < 16 → b < 16 → cell_at (total_table j) a b ≤ j.grocers
    unfolding total_table
    totals a b la lb = rw (rows_at 16 16 (λ a b. count j.grocers (total_word j a b)) 0 a b la lb) (count_le j.grocers (total_word j a b))

    pub messages_in_range_lem : MessagesInRange j
    messages_in_range_lem = record {
      prices = prices;
      totals = totals;
      fits = λ a b la lb. (omega (arith, prices a b la lb, v.offers≤), omega (arith, totals a b la lb, v.grocers≤));
      words = omega (arith, owner_most j r, v.offers≤, v.grocers≤);
    }
