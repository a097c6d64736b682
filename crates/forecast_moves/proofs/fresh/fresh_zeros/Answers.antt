-- `forecast_moves::fresh::fresh_zeros` meets its contract: each table is filled. Assumes nothing.
use mathlib.Core.Path.{◌≡◌, ap, ◌∙◌}
use mathlib.Core.List.{List}
use Prim.Native.Nat.{ℕ, ◌≤◌}
use lib.ListN.{length, take, drop, replicate}
use lib.Ieee.{of_bits}
use Rattle.std.proofs.Common.{◌++◌}
use Rattle.laws.specs.Tables.{overwrite}
use Rattle.laws.proofs.Fills.{overwrite_fill}
use Rattle.forecast_moves.proofs.fresh.fresh_zeros.Goals as goal

-- The first words of a table, filled; so many as the sizes say.
zeros : {A : Type 0} (v : A) (m n : ℕ) (l l' : List A) → m ≡ n → n ≤ length l → l' ≡ replicate (length (take m l)) v → l' ++ drop m l ≡ overwrite n (λ i. v) l
zeros v m n l l' e h h' = overwrite_fill m v l l' (rw e h) h' ∙ ap (λ (k : ℕ). overwrite k (λ i. v) l) e

pub returns : goal.returns
unfolding of_bits
returns c = record {
  values_are = zeros _ _ _ _ _ c.table_words.ensures c.requires.values_long (c.fill.ensures.after (λ y h. h));
  parts_are = zeros _ _ _ _ _ c.table_words-words.ensures c.requires.part_long (c.fill-2.ensures.after (λ y h. h));
  transit_are = zeros _ _ _ _ _ c.table_words-words.ensures c.requires.transit_long (c.fill-3.ensures.after (λ y h. h));
  held_are = zeros _ _ _ _ _ c.table_words-words.ensures c.requires.held_long (c.fill-4.ensures.after (λ y h. h));
  forecasts_are = zeros _ _ _ _ _ c.from.ensures c.requires.forecast_long (c.fill-5.ensures.after (λ y h. h));
  marks_are = zeros _ _ _ _ _ c.marks.ensures c.requires.done_long (c.fill-6.ensures.after (λ y h. h));
}
