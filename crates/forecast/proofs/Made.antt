-- The call for a fresh state: its tables, and its answer by the number of the first condition met. Assumes nothing.
use mathlib.Core.Path.{◌≡◌, refl, sym, ap, ◌∙◌}
use mathlib.Core.List.{List}
use lib.Ieee.{Float}
use Prim.Native.Nat.{ℕ, zero, suc, ◌*◌, ◌≤◌, ◌<◌}
use native.Mathlib.Nat.{le_refl}
use native.Mathlib.Omega.{arith}
use lib.ListN.{length, set}
use borrow.Author.Tests.{ne_eqb}
use Rattle.laws.specs.Checks.{first_met}
use Rattle.laws.specs.Tables.{overwrite, recell}
use Rattle.laws.proofs.Tables.{recell_cong, word_in_lem, overwrite_one}
use Rattle.model.specs.Tables.{marks_of}
use Rattle.model.specs.Step.{StepAnswer, accepted, refused, step_answer}
use Rattle.model.proofs.Refusal.{refused_number}
use Rattle.forecast_rules.specs.Doubles.{zero+}
use Rattle.forecast_rules.specs.Lines.{value_in, offer_value}
use Rattle.forecast_rules.specs.Steps.{fresh}
use Rattle.forecast_rules.specs.Tables.{ForecastTables, forecast_of, StateTables, state_tables, store, to_marks}
use Rattle.forecast_rules.specs.Step.{fresh_refusals, fresh_tables, outcome, freshened}
use Rattle.forecast_rules.proofs.Served.{WordsIn, words_in}
use Rattle.forecast_moves.specs.Fresh.{FreshIn, last_value, own_values}
use Rattle.forecast_checks.proofs.Tested.{LinesWhole, lines_whole, StateWhole, state_whole}
use Rattle.forecast_checks.proofs.Refused.{whole-told, fresh_none}

-- What is met of the tables as they are seen is met of the tables.
pub fresh_met : (f : ForecastTables) (t seen : StateTables) (n : ℕ) → seen ≡ t → n ≡ first_met (fresh_refusals f seen) → n ≡ first_met (fresh_refusals f t)
fresh_met f t seen n e h = rw e at h

module _ (f : ForecastTables) (t : StateTables) where
  -- The value of an offer is that of its last line.
  last_is : (n : ℕ) → n ≤ f.lines → (o : ℕ) → last_value f.line_offer f.line_value n o ≡ value_in (forecast_of f) n o
  unfolding last_value value_in forecast_of
  last_is zero h o = refl
  last_is (suc n) h o = rw (word_in_lem f.lines f.line_offer 0 n (omega arith), word_in_lem f.lines f.line_value zero+ n (omega arith), last_is n (omega arith) o)

  value_is : (o : ℕ) → last_value f.line_offer f.line_value f.lines o ≡ offer_value (forecast_of f) o
  unfolding offer_value forecast_of
  value_is o = last_is f.lines (le_refl f.lines) o

  fresh_known : own_values f.boxes f.offers f.lines f.offer_owner f.line_offer f.line_value t.known ≡ (fresh_tables f t).known
  unfolding own_values fresh_tables store fresh forecast_of
  fresh_known = recell_cong f.boxes f.offers _ _ t.known (λ b o lb lo. rw (word_in_lem f.offers f.offer_owner 0 o lo, value_is o))

  -- All tables.
  pub fresh_is : (known value_transit part part_transit held forecast : List Float) (done : List ℕ) →
      known ≡ own_values f.boxes f.offers f.lines f.offer_owner f.line_offer f.line_value t.known →
      value_transit ≡ overwrite (f.boxes * f.offers) (λ i. zero+) t.value_transit →
      part ≡ overwrite (f.boxes * f.grocers) (λ i. zero+) t.part →
      part_transit ≡ overwrite (f.boxes * f.grocers) (λ i. zero+) t.part_transit →
      held ≡ overwrite (f.boxes * f.grocers) (λ i. zero+) t.held →
      forecast ≡ overwrite f.grocers (λ i. zero+) t.forecast →
      done ≡ overwrite (6 * f.boxes * f.boxes) (λ i. 0) t.done → 1 ≤ length t.sent →
      state_tables known value_transit part part_transit held forecast done (set t.sent 0 0) ≡ fresh_tables f t
  unfolding fresh_tables store fresh forecast_of recell to_marks marks_of
  fresh_is known value_transit part part_transit held forecast done e q r u y z x long =
      let own = e ∙ fresh_known in
      λ i. state_tables (own i) (q i) (r i) (u i) (y i) (z i) (x i) (sym (overwrite_one 0 t.sent long) i)

  -- The answer, by the number of the first condition met.
  pub fresh_refused : (n : ℕ) → n ≡ first_met (fresh_refusals f t) → 0 < n → outcome (refused n) t ≡ freshened f t
  unfolding freshened
  fresh_refused n e h =
      let ne : n ≡ 0 → ⊥ = λ z. omega (arith, h, z) in
      rw (ne_eqb (first_met (fresh_refusals f t)) 0 (λ z. ne (e ∙ z))) (ap (λ (a : StepAnswer). outcome a t) (sym (refused_number n ne) ∙ ap step_answer e))

  -- Where none is, the tables are whole, and those of the forecast in range.
  module _ (e : 0 ≡ first_met (fresh_refusals f t)) where
    pub fresh_accepted : (u : StateTables) → u ≡ fresh_tables f t → outcome accepted u ≡ freshened f t
    unfolding freshened step_answer
    fresh_accepted u eu = rw (sym e, eu)

    pub lines : LinesWhole f
    lines = lines_whole f (whole-told f t (fresh_none f t (sym e)).0).0

    pub words : StateWhole f.boxes f.grocers f.offers t
    words = state_whole f t (whole-told f t (fresh_none f t (sym e)).0).1

    inside : WordsIn f
    inside = words_in f (fresh_none f t (sym e)).1.0

    pub values_in : FreshIn f.boxes f.offers f.lines f.offer_owner f.line_offer f.line_value t.known
    values_in = record {
      boxes_in = inside.boxes≤;
      offers_in = inside.offers≤;
      owner_long_lem = lines.offer_owner;
      offer_long_lem = lines.line_offer;
      value_long = lines.line_value;
      known_long_lem = words.known;
      owners_in = inside.offer_owner;
      offers_are = inside.line_offer;
    }
