-- Need words, sharer words and the messages that they tell, of a forecast whose tables are whole and in range. Assumes nothing.
use mathlib.Core.Path.{◌≡◌, sym, ◌∙◌}
use mathlib.Core.List.{List}
use Prim.Native.Nat.{ℕ, ◌<◌}
use native.Mathlib.Omega.{arith}
use Rattle.laws.specs.Tables.{tabulate}
use Rattle.laws.proofs.Below.{any_cong}
use Rattle.laws.proofs.Masks.{mask_cong}
use Rattle.laws.proofs.Tables.{tabulate_cong, length_tabulate, word_in_lem}
use Rattle.model.specs.Job.{held_by, needs, shares, need_word, sharer_word, price_word, total_word, prices_due, totals_due}
use Rattle.model.proofs.Step.{under_at}
use Rattle.step_places.specs.Message.{reaches}
use Rattle.job_masks.specs.Masks.{holds, holder_word, Placed, Owned, by_owner}
use Rattle.job_masks.proofs.Owned.{owners_reach}
use Rattle.forecast_rules.specs.Tables.{ForecastTables, forecast_of}
use Rattle.forecast_rules.proofs.Served.{WordsIn}
use Rattle.forecast_checks.proofs.Tested.{LinesWhole}

-- The words by the tables of the lines.
module _ (f : ForecastTables) where
  need_word_lem : (o : ℕ) → holder_word f.boxes f.lines f.line_box f.line_offer o ≡ need_word (forecast_of f).job o
  unfolding holder_word holds need_word needs held_by forecast_of
  need_word_lem o = mask_cong 16 _ _ (λ b l. any_cong f.lines _ _ (λ i k. sym (rw (word_in_lem f.lines f.line_box 0 i k, word_in_lem f.lines f.line_offer 0 i k))))

  sharer_word_lem : (g : ℕ) → holder_word f.boxes f.lines f.line_box f.line_grocer g ≡ sharer_word (forecast_of f).job g
  unfolding holder_word holds sharer_word shares held_by forecast_of
  sharer_word_lem g = mask_cong 16 _ _ (λ b l. any_cong f.lines _ _ (λ i k. sym (rw (word_in_lem f.lines f.line_box 0 i k, word_in_lem f.lines f.line_grocer 0 i k))))

  pub need_words : tabulate 500 (holder_word f.boxes f.lines f.line_box f.line_offer) ≡ tabulate 500 (need_word (forecast_of f).job)
  need_words = tabulate_cong 500 _ _ (λ o l. need_word_lem o)

  pub sharer_words : tabulate 255 (holder_word f.boxes f.lines f.line_box f.line_grocer) ≡ tabulate 255 (sharer_word (forecast_of f).job)
  sharer_words = tabulate_cong 255 _ _ (λ g l. sharer_word_lem g)

module _ (f : ForecastTables) (w : WordsIn f) (z : LinesWhole f) where
  pub placed_offers : Placed f.boxes f.lines 500 f.line_box f.line_offer
  placed_offers = record {
    boxes≤ = w.boxes≤;
    box_long = z.line_box;
    place_long = z.line_offer;
    place< = λ i l. omega (arith, under_at f.offers f.lines f.line_offer i w.line_offer l, w.offers≤);
  }

  pub placed_grocers : Placed f.boxes f.lines 255 f.line_box f.line_grocer
  placed_grocers = record {
    boxes≤ = w.boxes≤;
    box_long = z.line_box;
    place_long = z.line_grocer;
    place< = λ i l. omega (arith, under_at f.grocers f.lines f.line_grocer i w.line_grocer l, w.grocers≤);
  }

  pub owned_offers : (masks : List ℕ) (g : ℕ → ℕ) → masks ≡ tabulate 500 g → Owned f.offers f.offer_owner masks
  owned_offers masks g e = record {
    owner_long = z.offer_owner;
    mask_long = rw (e, length_tabulate 500 g) w.offers≤;
    owner< = λ o l. omega (arith, under_at f.boxes f.offers f.offer_owner o w.offer_owner l, w.boxes≤);
  }

  pub owned_grocers : (masks : List ℕ) (g : ℕ → ℕ) → masks ≡ tabulate 255 g → Owned f.grocers f.grocer_owner masks
  owned_grocers masks h e = record {
    owner_long = z.grocer_owner;
    mask_long = rw (e, length_tabulate 255 h) w.grocers≤;
    owner< = λ g l. omega (arith, under_at f.boxes f.grocers f.grocer_owner g w.grocer_owner l, w.boxes≤);
  }

  -- With the need words a box reaches those to which it sends values, and with the sharer words those that send part sums to it.
  pub prices_reach : (masks : List ℕ) → masks ≡ tabulate 500 (need_word (forecast_of f).job) → (a b : ℕ) → a < f.boxes → b < f.boxes →
      reaches (by_owner f.offers f.offer_owner masks) a b ≡ prices_due (forecast_of f).job a b
  unfolding need_word prices_due price_word forecast_of
  prices_reach masks e a b la lb =
      let la' : a < 16 = omega (arith, w.boxes≤) in
      let lb' : b < 16 = omega (arith, w.boxes≤) in
      owners_reach f.offers 500 w.offers≤ f.offer_owner masks (needs (forecast_of f).job) e a b la' lb'
      ∙ any_cong f.offers _ _ (λ o l. sym (rw (word_in_lem f.offers f.offer_owner 0 o l)))

  pub totals_reach : (masks : List ℕ) → masks ≡ tabulate 255 (sharer_word (forecast_of f).job) → (a b : ℕ) → a < f.boxes → b < f.boxes →
      reaches (by_owner f.grocers f.grocer_owner masks) b a ≡ totals_due (forecast_of f).job a b
  unfolding sharer_word totals_due total_word forecast_of
  totals_reach masks e a b la lb =
      let la' : a < 16 = omega (arith, w.boxes≤) in
      let lb' : b < 16 = omega (arith, w.boxes≤) in
      owners_reach f.grocers 255 w.grocers≤ f.grocer_owner masks (shares (forecast_of f).job) e b a lb' la'
      ∙ any_cong f.grocers _ _ (λ g l. sym (rw (word_in_lem f.grocers f.grocer_owner 0 g l)))
