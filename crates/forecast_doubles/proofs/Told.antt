-- What the functions give is what the definitions of a forecast say. Assumes nothing.
use mathlib.Core.Path.{◌≡◌, refl, sym, ap₂}
use mathlib.Core.Bool.{Bool, true, ◌||◌}
use Prim.Native.Nat.{ℕ, zero, suc, ◌≤◌, ◌<◌}
use native.Mathlib.Omega.{arith}
use lib.Dec.{eqb}
use lib.ListN.{get_or}
use lib.Ieee.{Float}
use borrow.Author.Tests.{lt-ltb}
use Rattle.laws.proofs.Below.{any_cong}
use Rattle.laws.proofs.Bools.{and_one}
use Rattle.laws.proofs.Masks.{bit_mask}
use Rattle.laws.proofs.Tables.{word_in_lem, cell_at}
use Rattle.model.specs.Job.{held_by, shares, sharer_word}
use Rattle.model.specs.Ranges.{under}
use Rattle.forecast_rules.specs.Doubles.{zero+, add_up}
use Rattle.forecast_rules.specs.Lines.{of_part, part_at, line_outside, values_differ, bad_line}
use Rattle.forecast_rules.specs.Steps.{part_here}
use Rattle.forecast_rules.specs.Tables.{ForecastTables, forecast_of, StateTables, view}
use Rattle.forecast_doubles.specs.BadLines.{outside, pair_bad, bad_lines}
use Rattle.forecast_doubles.specs.Lines.{line_lists, line_product, row_sum}
use Rattle.forecast_doubles.specs.Parts.{owner_sum}
use Rattle.model.proofs.Step.{under_at}

-- Sums of the same terms are the same.
add_up_cong : (n : ℕ) (p q : ℕ → Bool) (f g : ℕ → Float) → ((i : ℕ) → i < n → p i ≡ q i) → ((i : ℕ) → i < n → f i ≡ g i) → add_up n p f ≡ add_up n q g
unfolding add_up
add_up_cong zero p q f g h k = refl
add_up_cong (suc n) p q f g h k = rw (h n (omega arith), k n (omega arith), add_up_cong n p q f g (λ i l. h i (omega arith)) (λ i l. k i (omega arith)))

module _ (f : ForecastTables) where
  -- 34.
  pub bad_is : bad_lines f.lines f.line_offer f.line_rate f.line_value ≡ bad_line (forecast_of f)
  unfolding bad_lines bad_line line_outside values_differ outside pair_bad forecast_of
  bad_is =
      ap₂ (λ (x y : Bool). x || y)
      (any_cong f.lines _ _ (λ i l. sym (rw (word_in_lem f.lines f.line_rate zero+ i l, word_in_lem f.lines f.line_value zero+ i l))))
      (any_cong f.lines _ _ (λ i l. any_cong i _ _ (λ h k.
      sym (rw (word_in_lem f.lines f.line_offer 0 h (omega arith), word_in_lem f.lines f.line_offer 0 i l, word_in_lem f.lines f.line_value zero+ h (omega arith), word_in_lem f.lines f.line_value zero+ i l)))))

  -- Step 3, of box a and grocer g.
  pub row_is : (t : StateTables) (a g : ℕ) → a < f.boxes → under f.offers f.lines f.line_offer ≡ true →
      row_sum (line_lists f.line_grocer f.line_offer f.line_box f.line_rate) f.offers a t.known f.lines g ≡ part_at (forecast_of f) ((view (forecast_of f) t).known a) a g
  unfolding row_sum line_product part_at of_part held_by view forecast_of
  row_is t a g la ok =
      add_up_cong f.lines _ _ _ _
      (λ i l. sym (rw (word_in_lem f.lines f.line_box 0 i l, word_in_lem f.lines f.line_grocer 0 i l, lt-ltb a f.boxes la, and_one (eqb (get_or f.line_box i 0) a))))
      (λ i l. sym (rw (
        word_in_lem f.lines f.line_rate zero+ i l,
        word_in_lem f.lines f.line_offer 0 i l,
        cell_at f.boxes f.offers t.known zero+ a (get_or f.line_offer i 0) la (under_at f.offers f.lines f.line_offer i ok l),
      )))

  -- Step 6, of box a and grocer g.
  pub owner_is : (t : StateTables) (a g : ℕ) → f.boxes ≤ 16 → g < f.grocers →
      owner_sum f.boxes f.grocers g a (sharer_word (forecast_of f).job g) t.part t.held ≡ add_up f.boxes (shares (forecast_of f).job g) (part_here (forecast_of f) (view (forecast_of f) t) a g)
  unfolding owner_sum sharer_word part_here view forecast_of
  owner_is t a g few lg =
      add_up_cong f.boxes _ _ _ _
      (λ c l. bit_mask 16 c (shares (forecast_of f).job g) (omega arith))
      (λ c l. sym (rw (cell_at f.boxes f.grocers t.part zero+ c g l lg, cell_at f.boxes f.grocers t.held zero+ c g l lg)))
