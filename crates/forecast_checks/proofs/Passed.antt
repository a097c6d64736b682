-- A step whose tables meet no condition: what its parts ask for, and what they tell together. Assumes nothing.
use mathlib.Core.Path.{◌≡◌, sym, ap, ◌∙◌}
use mathlib.Core.Bool.{Bool, true, false, cond}
use mathlib.Core.List.{List}
use Prim.Native.Nat.{ℕ, ◌*◌, ◌<◌, ◌≤◌}
use native.Mathlib.Omega.{arith}
use lib.ListN.{get_or, length}
use Rattle.laws.specs.Checks.{first_met}
use Rattle.laws.specs.Limits.{max_sent}
use Rattle.laws.specs.Tables.{tabulate}
use Rattle.model.specs.Job.{need_word, sharer_word}
use Rattle.model.specs.Step.{Asked}
use Rattle.job_masks.specs.Masks.{holder_word, Placed, Owned, by_owner}
use Rattle.forecast_rules.specs.Steps.{kind_of}
use Rattle.forecast_rules.specs.Tables.{ForecastTables, forecast_of, StateTables, from_marks, view}
use Rattle.forecast_rules.specs.Ranges.{state_in_range}
use Rattle.forecast_rules.specs.Step.{step_rules, moved}
use Rattle.forecast_rules.proofs.Served.{WordsIn, words_in, good}
use Rattle.forecast_rules.proofs.Late.{few_sent}
use Rattle.forecast_checks.specs.Decided.{table_refusals, message_words, late_fits, Decided}
use Rattle.forecast_checks.specs.Rules.{rules_by}
use Rattle.forecast_checks.proofs.Tested.{LinesWhole, lines_whole, StateWhole, state_whole}
use Rattle.forecast_checks.proofs.Asked.{kind_from, kind_to, rules_are}
use Rattle.forecast_checks.proofs.Words.{need_words, sharer_words, placed_offers, placed_grocers, owned_offers, owned_grocers, prices_reach, totals_reach}
use Rattle.forecast_checks.proofs.Late.{few, late_is}
use Rattle.forecast_checks.proofs.Refused.{Entered, entered, forecasts, AskedIn, asked_in, step_tables_lem, step_rules_lem, step_late}

-- A refusal tells no words.
pub stopped : (f : ForecastTables) (t : StateTables) (q : Asked) (needs sharers : List ℕ) (n : ℕ) → 0 < n → n ≡ Rattle.forecast_rules.specs.Step.step_refusal f t q →
    Decided f t q needs sharers n 0
stopped f t q needs sharers n h e = record {
  number_is = e;
  needs_are = λ z. absurd (omega (arith, h, z));
  sharers_are = λ z. absurd (omega (arith, h, z));
  words_are = λ z. absurd (omega (arith, h, z));
}

module _ (f : ForecastTables) (t : StateTables) where
  -- One of 20, 21 and 34.
  pub tables_met : (q : Asked) (needs sharers : List ℕ) (n : ℕ) → n ≡ first_met (table_refusals f t) → 0 < n → Decided f t q needs sharers n 0
  tables_met q needs sharers n e h = stopped f t q needs sharers n h (step_tables_lem f t q n e (λ z. omega (arith, h, z)))

  module _ (calm : 0 ≡ first_met (table_refusals f t)) where
    passed : Entered f t
    passed = entered f t (sym calm)

    inside : WordsIn f
    inside = words_in f passed.inside

    lines : LinesWhole f
    lines = lines_whole f passed.whole

    long : StateWhole f.boxes f.grocers f.offers t
    long = state_whole f t passed.long

    pub offers_placed : Placed f.boxes f.lines 500 f.line_box f.line_offer
    offers_placed = placed_offers f inside lines

    pub grocers_placed : Placed f.boxes f.lines 255 f.line_box f.line_grocer
    grocers_placed = placed_grocers f inside lines

    pub marks_bound : (f.boxes ≤ 16) × (6 * f.boxes * f.boxes ≤ length t.done)
    marks_bound = (inside.boxes≤, long.done)

    pub owners_bound : (f.boxes ≤ 16) × ((f.grocers ≤ 255) × (f.grocers ≤ length f.grocer_owner))
    owners_bound = (inside.boxes≤, (inside.grocers≤, lines.grocer_owner))

    pub sums_bound : (f.boxes * f.grocers ≤ length t.part) × (f.boxes * f.grocers ≤ length t.held)
    sums_bound = (long.part, long.held)

    module _ (needs sharers : List ℕ) (en : needs ≡ tabulate 500 (holder_word f.boxes f.lines f.line_box f.line_offer))
        (es : sharers ≡ tabulate 255 (holder_word f.boxes f.lines f.line_box f.line_grocer)) where
      needing : needs ≡ tabulate 500 (need_word (forecast_of f).job)
      needing = en ∙ need_words f

      sharing : sharers ≡ tabulate 255 (sharer_word (forecast_of f).job)
      sharing = es ∙ sharer_words f

      pub owned : Owned f.offers f.offer_owner needs × Owned f.grocers f.grocer_owner sharers
      owned = (owned_offers f inside lines _ _ needing, owned_grocers f inside lines _ _ sharing)

      -- The conditions 22 to 26, by their number.
      module _ (q : Asked) (n : ℕ) (e : n ≡ first_met (rules_by f.boxes (by_owner f.offers f.offer_owner needs) (by_owner f.grocers f.grocer_owner sharers) (from_marks f.boxes t.done) q)) where
        rules_told : n ≡ first_met (step_rules (forecast_of f) (view (forecast_of f) t).done q)
        unfolding view forecast_of
        rules_told =
            e
            ∙ rules_are (forecast_of f) (by_owner f.offers f.offer_owner needs) (by_owner f.grocers f.grocer_owner sharers)
            (prices_reach f inside lines _ needing) (totals_reach f inside lines _ sharing) (from_marks f.boxes t.done) q

        pub rules_met : 0 < n → Decided f t q needs sharers n 0
        rules_met h = stopped f t q needs sharers n h (step_rules_lem f t q (sym calm) n rules_told (λ z. omega (arith, h, z)))

        module _ (z : n ≡ 0) where
          request : AskedIn f t q
          request = asked_in f t q n rules_told z

          pub message_bound : (f.offers ≤ 500) × ((f.grocers ≤ 255) × ((q.first < 16) × (q.second < 16)))
          message_bound =
              (inside.offers≤, (inside.grocers≤, (omega (arith, request.first<, inside.boxes≤), omega (arith, request.second<, inside.boxes≤))))

          pub kind_bound : (1 ≤ q.kind) × (q.kind ≤ 6)
          kind_bound = (kind_from q.kind request.kind, kind_to q.kind request.kind)

          -- The words of the message, and whether what the step leaves is in range.
          module _ (words : ℕ) (ew : words ≡ message_words f.offers f.grocers f.offer_owner f.grocer_owner needs sharers (kind_of q.kind) q.first q.second) where
            pub sent_bound : (1 ≤ length t.sent) × ((get_or t.sent 0 0 ≤ max_sent) × (words ≤ 4_000))
            sent_bound =
                (long.sent, (few_sent f t passed.state, omega (arith, ew, few f inside t needs sharers needing sharing (kind_of q.kind) q.first q.second)))

            module _ (fits : Bool) (ef : fits ≡ late_fits f.boxes f.grocers f.grocer_owner sharers t.part t.held t.sent words q.kind q.first) where
              late_told : fits ≡ state_in_range f (moved f t q)
              unfolding moved
              late_told =
                  ef
                  ∙ ap (λ (u : ℕ). late_fits f.boxes f.grocers f.grocer_owner sharers t.part t.held t.sent u q.kind q.first) ew
                  ∙ late_is f inside t needs sharers needing sharing (good f (forecasts f t passed)) passed.state q.first q.second q.kind
                  message_bound.1.1.0 message_bound.1.1.1 kind_bound.0 kind_bound.1 request.one

              number_told : cond fits 0 21 ≡ Rattle.forecast_rules.specs.Step.step_refusal f t q
              number_told = step_late f t q (sym calm) n rules_told z fits late_told

              pub late_met : fits ≡ false → Decided f t q needs sharers 21 0
              late_met h = stopped f t q needs sharers 21 (omega arith) (rw h at number_told)

              pub none_met : fits ≡ true → Decided f t q needs sharers 0 words
              none_met h = record {
                number_is = rw h at number_told;
                needs_are = λ x. needing;
                sharers_are = λ x. sharing;
                words_are = λ x. ew;
              }
