-- What is left to ask of the present job once 20, 21 and 9 are not met on all else than the packed tables (02 §7): these, and 30.
use Rattle.std.specs.Prelude.{◌≡◌, Bool, false, ◌&&◌, ◌||◌, not, List, [], ◌∷◌, ℕ, ltb, ℤ, length}
use Rattle.laws.specs.Limits.{max_amount}
use Rattle.model.specs.Tables.{JobTables, StateTables, evening_of, state_lengths, state_short, totals_short}
use Rattle.model.specs.Ranges.{Settles, around, totals_in_range}
use Rattle.model.specs.Handed.{Standing}
use Rattle.late_rules.specs.Late.{left_by_run}

-- None of 20, 21 and 9 is met on all else: the job settles, the state is lent whole, and `standing` has the boxes of the tallies that stand.
pub record PresentState (f : JobTables) (s : StateTables) (standing : List ℕ) : Type 0 where
  pub settles : Settles f
  pub long : state_short f (state_lengths s) ≡ false
  pub stands : Standing f standing

-- Both packed tables are lent, and one is shorter than so many words.
abbrev pub shorter : ℕ → (working totals : List ℤ) → Bool
shorter words working totals = ltb (length working) words || ltb (length totals) words

-- 20 and 21 of the packed tables: the job needs so many words of each, `own`, and the edited job so many, `edited`; no other words are looked at.
unfoldable pub packed_rules : (own edited : ℕ) (working totals : List ℤ) → List (Bool × ℕ)
packed_rules own edited working totals =
    (shorter own working totals || shorter edited working totals, 20)
    ∷ (not (around max_amount own working && around max_amount own totals), 21)
    ∷ []

-- These, and 30.
unfoldable pub state_rules : JobTables → (edited : ℕ) → StateTables → List (Bool × ℕ)
state_rules f edited s =
    (totals_short (evening_of f) (state_lengths s) || shorter edited s.working s.total_transit, 20)
    ∷ (not (totals_in_range (evening_of f) s), 21)
    ∷ (not (left_by_run f s), 30)
    ∷ []
