-- What a decision that refuses nothing gives to each side of the step, and what the side leaves is the model's. Assumes nothing.
use mathlib.Core.Path.{◌≡◌, refl, sym, ap, ◌∙◌}
use mathlib.Core.Bool.{true}
use mathlib.Core.List.{List}
use Prim.Native.Nat.{ℕ, suc, ◌-◌, ◌*◌, ◌≤◌}
use native.Mathlib.Decide.{ℕ_discrete}
use native.Mathlib.Nat.{mul-le-mul}
use native.Mathlib.Omega.{arith}
use lib.ListN.{length, get_or}
use lib.IntN.{ℤ}
use Rattle.laws.specs.Limits.{max_lists, max_sent}
use Rattle.laws.specs.Listed.{Listed}
use Rattle.laws.proofs.Below.{count_le}
use Rattle.model.specs.Steps.{kind_of}
use Rattle.model.specs.Tables.{JobTables, StateTables, state_tables}
use Rattle.model.specs.Ranges.{up_to}
use Rattle.model.specs.Step.{Asked, outcome, accepted, stepped}
use Rattle.step_places.specs.Marks.{MarksIn, marked}
use Rattle.step_apply.specs.Apply.{sent_more, PriceStepOut, TotalStepIn, TotalStepOut}
use Rattle.step_refusal.specs.Late.{Decided}
use Rattle.step.specs.Lent.{PricesLent}
use Rattle.model.specs.Handed.{handed_tables}
use Rattle.model.proofs.Handed.{handed_moved}
use Rattle.step_prices.proofs.Effect.{tables_eq}
use Rattle.step_totals.proofs.Effect.{tallies_of}
use Rattle.step_apply.proofs.Keys.{tallies_keyed}
use Rattle.step_apply.proofs.Given.{Given, given, marks_in, sent_in, price_step_in, span_in, total_step_in}
use Rattle.step_apply.proofs.Sides.{words_few, words_none}
use Rattle.step_apply.proofs.Moved.{passing, prices_moved, totals_moved}
use Rattle.step.proofs.Zero.{accepted_by}

module _ (f : JobTables) (t : StateTables) (q : Asked) {places : List ℕ} {from to : ℕ} {listed standing : List ℕ} (d : Decided f t q places from to listed standing 0) where
  -- The tables with the boxes of the tallies that stand.
  abbrev h : JobTables
  h = handed_tables f standing

  -- The words of an entry.
  abbrev width : ℕ
  width = suc f.lists

  facts : Given h t places from to listed q
  facts = given h t places from to listed q (d.applies refl)

  pub lists_in : f.lists ≤ max_lists
  lists_in = facts.lists_in

  -- Marking, and counting the words sent where these are few.
  pub marking : (MarksIn f.boxes q.kind q.first q.second t.done) × (up_to 1 (6 * f.boxes * f.boxes) t.done ≡ true)
  marking = (marks_in h t places from to listed q facts, facts.words_in.done)

  pub counting : (more : ℕ) → more ≤ 4_000 → ((1 ≤ length t.sent) × (get_or t.sent 0 0 ≤ max_sent)) × (more ≤ 4_000)
  counting more few = let s = sent_in h t places from to listed q facts in ((s.long, s.word_in_lem), few)

  -- So many listed entries have few words.
  few_words : (n most : ℕ) → n ≤ most → n * width ≤ most * 8
  few_words n most l = mul-le-mul l (omega (arith, facts.lists_in))

  -- Kinds 1 to 3.
  module _ (k : q.kind ≤ 3) where
    pub prices_lent : PricesLent (tallies_of h places) width from to listed t.known t.price_transit t.working q.kind q.first q.second
    prices_lent = record {
      tallies_keyed = tallies_keyed h (d.applies refl).job_in_lem (d.applies refl).job_long;
      step_in = λ links l. price_step_in h t places from to listed q facts links l k;
    }

    -- The offers of the message are those that are listed.
    pub offers_listed : (q.kind ≡ 2 → ⊥) → Listed f.offers (passing h q) from to listed
    offers_listed other = (d.applies refl).offers_are k other

    module _ {known transit : List ℕ} {working : List ℤ} {more : ℕ}
        (o : PriceStepOut (tallies_of h places) width from to (passing h q) t.known t.price_transit t.working q.kind q.first q.second known transit working more) where
      pub few_prices : more ≤ 4_000
      few_prices = go (ℕ_discrete q.kind 1)
        where
          go : Dec (q.kind ≡ 1) → more ≤ 4_000
          go (yes e) =
              let l = offers_listed (λ two. omega (arith, e, two)) in
              let n : to - from ≤ 500 = omega (arith, l.many, count_le f.offers (passing h q), facts.offers_in) in
              omega (arith, o.sent_is, words_few 1 from to width q.kind, few_words (to - from) 500 n)
          go (no n) = omega (arith, o.sent_is, words_none 1 from to width q.kind n)

      pub prices_accepted : {totals statement : List ℤ} {done sent : List ℕ} → totals ≡ t.total_transit → statement ≡ t.statement →
          done ≡ marked f.boxes (kind_of q.kind) q.first q.second t.done → sent ≡ sent_more t.sent more →
          outcome accepted (state_tables known transit working totals statement done sent) ≡ stepped f t q
      prices_accepted x y m s =
          ap (λ (u : StateTables). outcome accepted u)
          (tables_eq _ _ o.known_is o.transit_is o.working_is x y m (s ∙ ap (sent_more t.sent) o.sent_is) ∙ sym (prices_moved h t places from to listed q facts k) ∙ handed_moved f standing (d.standing_are refl) t q)
          ∙ accepted_by f t q 0 d.number_is refl

  -- Kinds 4 to 6.
  module _ (k : 4 ≤ q.kind) where
    pub totals_lent : TotalStepIn from to width listed t.working t.total_transit t.statement q.kind
    totals_lent = total_step_in h t places from to listed q facts k

    module _ {working transit statement : List ℤ} {more : ℕ} (o : TotalStepOut from to width listed t.working t.total_transit t.statement q.kind working transit statement more) where
      pub few_totals : more ≤ 4_000
      few_totals =
          let n : to - from ≤ 255 = omega (arith, (span_in h t places from to listed q facts k).1) in
          omega (arith, o.sent_is, words_few 4 from to width q.kind, few_words (to - from) 255 n)

      pub totals_accepted : {known prices done sent : List ℕ} → known ≡ t.known → prices ≡ t.price_transit →
          done ≡ marked f.boxes (kind_of q.kind) q.first q.second t.done → sent ≡ sent_more t.sent more →
          outcome accepted (state_tables known prices working transit statement done sent) ≡ stepped f t q
      totals_accepted x y m s =
          ap (λ (u : StateTables). outcome accepted u)
          (tables_eq _ _ x y o.working_is o.transit_is o.statement_is m (s ∙ ap (sent_more t.sent) o.sent_is) ∙ sym (totals_moved h t places from to listed q facts k)
          ∙ handed_moved f standing (d.standing_are refl) t q)
          ∙ accepted_by f t q 0 d.number_is refl
