-- Words copied and moved are what steps 1, 2, 4 and 5 do to the state's tables, and the sums written are those of step 6. Assumes nothing.
use mathlib.Core.Path.{◌≡◌, ◌∙◌}
use mathlib.Core.Bool.{cond, ◌&&◌}
use mathlib.Core.List.{List}
use Prim.Native.Nat.{ℕ, ◌*◌, ◌<◌, ◌≤◌}
use native.Mathlib.Omega.{arith}
use lib.Dec.{eqb}
use lib.ListN.{length}
use lib.Ieee.{Float}
use borrow.Author.Tests.{eqb-true}
use Rattle.laws.specs.Tables.{tabulate, overwrite}
use Rattle.laws.proofs.Bools.{split}
use Rattle.laws.proofs.Masks.{bit_mask}
use Rattle.laws.proofs.Tables.{get_d_tabulate, word_in_lem, recell_cong, overwrite_cong}
use Rattle.model.specs.Job.{needs, shares, need_word, sharer_word, price_word, total_word}
use Rattle.step_places.specs.Message.{in_message, word_in}
use Rattle.forecast_rules.specs.Doubles.{zero+}
use Rattle.forecast_rules.specs.Steps.{send_values, receive_values, send_parts, receive_parts, sum_own, summed, effect}
use Rattle.forecast_rules.specs.Tables.{ForecastTables, forecast_of, StateTables, view, store}
use Rattle.forecast_doubles.specs.Parts.{summed_word}
use Rattle.forecast_doubles.specs.Moves.{Moved, Copied, Zeroed, summed_in}
use Rattle.forecast_doubles.proofs.Told.{owner_is}
use Rattle.forecast_doubles.proofs.MovedRows.{come_is, gone_is, copied_is, zeroed_is}

module _ (f : ForecastTables) (masks : List ℕ) (a b i : ℕ) (h : b < 16) where
  -- Values: the owner a of offer i, and another box b that needs it.
  pub value_word : i < f.offers → f.offers ≤ 500 → masks ≡ tabulate 500 (need_word (forecast_of f).job) → word_in f.offer_owner masks a b i ≡ price_word (forecast_of f).job a b i
  unfolding word_in in_message price_word need_word forecast_of
  value_word l n e = rw (e, get_d_tabulate 500 (need_word (forecast_of f).job) i 0 (omega arith), bit_mask 16 b (needs (forecast_of f).job i) h, word_in_lem f.offers f.offer_owner 0 i l)

  -- Part sums: the owner a of grocer i, and another box b that has a line for it.
  pub part_word : i < f.grocers → f.grocers ≤ 255 → masks ≡ tabulate 255 (sharer_word (forecast_of f).job) → word_in f.grocer_owner masks a b i ≡ total_word (forecast_of f).job b a i
  unfolding word_in in_message total_word sharer_word forecast_of
  part_word l n e = rw (e, get_d_tabulate 255 (sharer_word (forecast_of f).job) i 0 (omega arith), bit_mask 16 b (shares (forecast_of f).job i) h, word_in_lem f.grocers f.grocer_owner 0 i l)

module _ (f : ForecastTables) (t : StateTables) (masks : List ℕ) (a b : ℕ) (la : a < f.boxes) (lb : b < f.boxes) (few : f.boxes ≤ 16) where
  -- Values: a is their owner, b receives them.
  module _ (n : f.offers ≤ 500) (e : masks ≡ tabulate 500 (need_word (forecast_of f).job)) (known' transit' : List Float) where
    -- 1.
    pub sent_values : Copied (a * f.offers) (b * f.offers) f.offers (word_in f.offer_owner masks a b) t.known t.value_transit transit' →
        f.boxes * f.offers ≤ length t.value_transit → length transit' ≡ length t.value_transit →
        transit' ≡ (store (forecast_of f) (effect (forecast_of f) (view (forecast_of f) t) send_values a b) t).value_transit
    unfolding store effect view forecast_of
    sent_values y l s =
        copied_is f.boxes f.offers a b _ t.known t.value_transit transit' la lb y l s
        ∙ recell_cong f.boxes f.offers _ _ t.value_transit (λ c x lc lx. rw (value_word f masks a b x (omega arith) lx n e))

    -- 2.
    module _ (y : Moved (b * f.offers) f.offers (word_in f.offer_owner masks a b) t.value_transit t.known transit' known') where
      pub received_values : f.boxes * f.offers ≤ length t.known → length known' ≡ length t.known →
          known' ≡ (store (forecast_of f) (effect (forecast_of f) (view (forecast_of f) t) receive_values b a) t).known
      unfolding store effect view forecast_of
      received_values l s =
          come_is f.boxes f.offers b _ t.value_transit t.known transit' known' lb y l s
          ∙ recell_cong f.boxes f.offers _ _ t.known (λ c x lc lx. rw (value_word f masks a b x (omega arith) lx n e))

      pub taken_values : f.boxes * f.offers ≤ length t.value_transit → length transit' ≡ length t.value_transit →
          transit' ≡ (store (forecast_of f) (effect (forecast_of f) (view (forecast_of f) t) receive_values b a) t).value_transit
      unfolding store effect view forecast_of
      taken_values l s =
          gone_is f.boxes f.offers b _ t.value_transit t.known transit' known' lb y l s
          ∙ recell_cong f.boxes f.offers _ _ t.value_transit (λ c x lc lx. rw (value_word f masks a b x (omega arith) lx n e))

  -- Part sums: a owns the grocers, b sends.
  module _ (n : f.grocers ≤ 255) (e : masks ≡ tabulate 255 (sharer_word (forecast_of f).job)) where
    -- 4.
    module _ (part' transit' : List Float) (y : Moved (b * f.grocers) f.grocers (word_in f.grocer_owner masks a b) t.part t.part_transit part' transit') where
      pub sent_parts : f.boxes * f.grocers ≤ length t.part_transit → length transit' ≡ length t.part_transit →
          transit' ≡ (store (forecast_of f) (effect (forecast_of f) (view (forecast_of f) t) send_parts b a) t).part_transit
      unfolding store effect view forecast_of
      sent_parts l s =
          come_is f.boxes f.grocers b _ t.part t.part_transit part' transit' lb y l s
          ∙ recell_cong f.boxes f.grocers _ _ t.part_transit (λ c x lc lx. rw (part_word f masks a b x (omega arith) lx n e))

      pub left_parts : f.boxes * f.grocers ≤ length t.part → length part' ≡ length t.part →
          part' ≡ (store (forecast_of f) (effect (forecast_of f) (view (forecast_of f) t) send_parts b a) t).part
      unfolding store effect view forecast_of
      left_parts l s =
          gone_is f.boxes f.grocers b _ t.part t.part_transit part' transit' lb y l s
          ∙ recell_cong f.boxes f.grocers _ _ t.part (λ c x lc lx. rw (part_word f masks a b x (omega arith) lx n e))

    -- 5.
    module _ (transit' held' : List Float) (y : Moved (b * f.grocers) f.grocers (word_in f.grocer_owner masks a b) t.part_transit t.held transit' held') where
      pub received_parts : f.boxes * f.grocers ≤ length t.held → length held' ≡ length t.held →
          held' ≡ (store (forecast_of f) (effect (forecast_of f) (view (forecast_of f) t) receive_parts a b) t).held
      unfolding store effect view forecast_of
      received_parts l s =
          come_is f.boxes f.grocers b _ t.part_transit t.held transit' held' lb y l s
          ∙ recell_cong f.boxes f.grocers _ _ t.held (λ c x lc lx. rw (part_word f masks a b x (omega arith) lx n e))

      pub taken_parts : f.boxes * f.grocers ≤ length t.part_transit → length transit' ≡ length t.part_transit →
          transit' ≡ (store (forecast_of f) (effect (forecast_of f) (view (forecast_of f) t) receive_parts a b) t).part_transit
      unfolding store effect view forecast_of
      taken_parts l s =
          gone_is f.boxes f.grocers b _ t.part_transit t.held transit' held' lb y l s
          ∙ recell_cong f.boxes f.grocers _ _ t.part_transit (λ c x lc lx. rw (part_word f masks a b x (omega arith) lx n e))

-- 6, of the forecasts.
module _ (f : ForecastTables) (t : StateTables) (masks : List ℕ) (a : ℕ) (few : f.boxes ≤ 16) (n : f.grocers ≤ 255) (e : masks ≡ tabulate 255 (sharer_word (forecast_of f).job)) where
  pub summed_forecasts :
      overwrite f.grocers (summed_word f.boxes f.grocers a f.grocer_owner masks t.part t.held t.forecast) t.forecast
      ≡ (store (forecast_of f) (effect (forecast_of f) (view (forecast_of f) t) sum_own a a) t).forecast
  unfolding store effect view forecast_of summed_word
  summed_forecasts =
      overwrite_cong f.grocers _ _ t.forecast (λ g l.
      rw (e, get_d_tabulate 255 (sharer_word (forecast_of f).job) g 0 (omega arith), owner_is f t a g few l, word_in_lem f.grocers f.grocer_owner 0 g l, word_in_lem f.grocers t.forecast zero+ g l))

  -- Box c's part sum of grocer g is summed.
  pub summed_word_lem : (c g : ℕ) → c < 16 → g < f.grocers → summed_in f.grocer_owner masks a c g ≡ summed (forecast_of f) a g c
  unfolding summed_in summed sharer_word forecast_of
  summed_word_lem c g h l = rw (e, get_d_tabulate 255 (sharer_word (forecast_of f).job) g 0 (omega arith), bit_mask 16 c (shares (forecast_of f).job g) h, word_in_lem f.grocers f.grocer_owner 0 g l)

  -- In row a alone it is asked of a.
  in_row : (c g : ℕ) (v : Float) → a < f.boxes → g < f.grocers → cond (eqb c a && summed_in f.grocer_owner masks a a g) zero+ v ≡ cond (eqb c a && summed (forecast_of f) a g c) zero+ v
  in_row c g v la l = split (eqb c a) (λ h. rw (h, eqb-true c a h, summed_word_lem a g (omega arith) l)) (λ h. rw h)

  -- 6, of the part sums of the owner's own.
  pub summed_parts : (part' : List Float) → a < f.boxes → Zeroed (a * f.grocers) f.grocers (summed_in f.grocer_owner masks a a) t.part part' →
      f.boxes * f.grocers ≤ length t.part → length part' ≡ length t.part →
      part' ≡ (store (forecast_of f) (effect (forecast_of f) (view (forecast_of f) t) sum_own a a) t).part
  unfolding store effect view forecast_of
  summed_parts part' la y l s =
      zeroed_is f.boxes f.grocers a _ t.part part' la y l s
      ∙ recell_cong f.boxes f.grocers _ _ t.part (λ c x lc lx. in_row c x _ la lx)
