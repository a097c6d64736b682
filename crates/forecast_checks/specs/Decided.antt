-- What the refusal of a step tells: its number, and for a step that is not refused the words that it needs.
use Rattle.std.specs.Prelude.{◌≡◌, List, [], ◌∷◌, Bool, cond, ◌&&◌, not, ℕ, ◌+◌, eqb, leb, get_or, Float, Result, Ok, Err}
use Rattle.refusals.specs.declared.Refusal.{Refusal}
use Rattle.laws.specs.Below.{count}
use Rattle.laws.specs.Limits.{max_sent}
use Rattle.laws.specs.Tables.{tabulate}
use Rattle.model.specs.Job.{need_word, sharer_word}
use Rattle.model.specs.Step.{Asked}
use Rattle.step_places.specs.Message.{word_in}
use Rattle.forecast_rules.specs.Lines.{bad_line}
use Rattle.forecast_rules.specs.Steps.{Kind, send_values, receive_values, add_lines, send_parts, receive_parts, sum_own, kind_of}
use Rattle.forecast_rules.specs.Tables.{ForecastTables, forecast_of, StateTables, lent_short}
use Rattle.forecast_rules.specs.Ranges.{forecast_in_range, state_in_range}
use Rattle.forecast_rules.specs.Step.{step_refusal}
use Rattle.forecast_doubles.specs.Parts.{sums_fit}

-- 20 on all tables, and 21 on those of the forecast.
unfoldable pub lent_refusals : ForecastTables → StateTables → List (Bool × ℕ)
lent_refusals f t = (lent_short f t, 20) ∷ (not (forecast_in_range f), 21) ∷ []

-- The conditions on the tables: 20, 21 and 34.
unfoldable pub table_refusals : ForecastTables → StateTables → List (Bool × ℕ)
table_refusals f t = (lent_short f t, 20) ∷ (not (forecast_in_range f && state_in_range f t), 21) ∷ (bad_line (forecast_of f), 34) ∷ []

-- The words of a step's message: of values for kind 1, of part sums for kind 4, and none for the others.
unfoldable pub message_words : ℕ → ℕ → List ℕ → List ℕ → List ℕ → List ℕ → Kind → ℕ → ℕ → ℕ
message_words n m offer_owner grocer_owner needs sharers send_values a b = count n (word_in offer_owner needs a b)
message_words n m offer_owner grocer_owner needs sharers receive_values a b = 0
message_words n m offer_owner grocer_owner needs sharers add_lines a b = 0
message_words n m offer_owner grocer_owner needs sharers send_parts a b = count m (word_in grocer_owner sharers b a)
message_words n m offer_owner grocer_owner needs sharers receive_parts a b = 0
message_words n m offer_owner grocer_owner needs sharers sum_own a b = 0

-- The late 21 is not met: of step 6 the sums are in range, and of the others the words sent.
unfoldable pub late_fits : ℕ → ℕ → List ℕ → List ℕ → List Float → List Float → List ℕ → ℕ → ℕ → ℕ → Bool
late_fits k m owner sharers part held sent words kind a =
    cond (eqb kind 6) (sums_fit k m a owner sharers part held m) (leb (get_or sent 0 0 + words) max_sent)

-- The words that an answer gives: none where it refuses.
abbrev pub words_of : Result ℕ Refusal → ℕ
words_of (Ok n) = n
words_of (Err r) = 0

-- The number of the first condition met, and where it is 0 the need words, the sharer words and the words of the message.
pub record Decided (f : ForecastTables) (t : StateTables) (q : Asked) (needs sharers : List ℕ) (met words : ℕ) : Type 0 where
  pub number_is : met ≡ step_refusal f t q
  pub needs_are : met ≡ 0 → needs ≡ tabulate 500 (need_word (forecast_of f).job)
  pub sharers_are : met ≡ 0 → sharers ≡ tabulate 255 (sharer_word (forecast_of f).job)
  pub words_are : met ≡ 0 →
      words ≡ message_words f.offers f.grocers f.offer_owner f.grocer_owner needs sharers (kind_of q.kind) q.first q.second
