-- Small examples that say what the definitions of a forecast mean. Doubles stand as their bits.
use Rattle.std.specs.Prelude.{◌≡◌, true, false, List, [], ◌∷◌, ◌++◌, map, ℕ, Float}
use Rattle.std.specs.Float.{binary64}
use Rattle.std.specs.Float.Ieee.{add, of_bits, to_bits}
use Rattle.model.specs.Step.{Asked, asked, accepted, refused}
use Rattle.model.specs.Words.{owner_words, message_count, step_count}
use Rattle.forecast_rules.specs.Doubles.{is_value, is_sum, same_bits}
use Rattle.forecast_rules.specs.Lines.{offer_value, forecast_sum, bad_line}
use Rattle.forecast_rules.specs.Tables.{ForecastTables, forecast_tables, forecast_of, StateTables, state_tables}
use Rattle.forecast_rules.specs.Ranges.{forecast_in_range}
use Rattle.forecast_rules.specs.Step.{stepped, freshened, fresh_tables}
use Rattle.forecast_rules.specs.Requests.{Request, answers_in, tables_after}

-- The double of these bits.
abbrev pub d : ℕ → Float
d n = of_bits binary64 n

-- Some doubles: +0.0,
abbrev pub plus0 : Float
plus0 = d 0

-- −0.0,
abbrev pub minus0 : Float
minus0 = d 0x8000_0000_0000_0000

-- 1.0
abbrev pub one : Float
one = d 0x3ff0_0000_0000_0000

-- and −1.0,
abbrev pub minus1 : Float
minus1 = d 0xbff0_0000_0000_0000

-- 0.1,
abbrev pub tenth : Float
tenth = d 0x3fb9_9999_9999_999a

-- 0.2
abbrev pub fifth : Float
fifth = d 0x3fc9_9999_9999_999a

-- and 0.3.
abbrev pub three : Float
three = d 0x3fd3_3333_3333_3333

-- Lines of one offer and one grocer, both of box 0, of two boxes.
abbrev pub one_offer : ℕ → List ℕ → List Float → List Float → ForecastTables
one_offer l boxes rates values = forecast_tables 2 1 1 l (0 ∷ []) (0 ∷ []) (map (λ b. 0) boxes) (map (λ b. 0) boxes) boxes rates values

-- Box 1 has a line of rate 0.1, box 0 lines of rates 0.2 and 0.3; the value is 1.0.
abbrev pub small : ForecastTables
small = one_offer 3 (1 ∷ 0 ∷ 0 ∷ []) (tenth ∷ fifth ∷ three ∷ []) (one ∷ one ∷ one ∷ [])

-- The same lines, all of box 0.
abbrev pub alone : ForecastTables
alone = one_offer 3 (0 ∷ 0 ∷ 0 ∷ []) (tenth ∷ fifth ∷ three ∷ []) (one ∷ one ∷ one ∷ [])

-- Rates −1.0 and 1 + 2^-30, values 1.0 and 1 − 2^-30, of two offers.
abbrev pub two_offers : ForecastTables
two_offers =
    forecast_tables 1 2 3 2 (0 ∷ 0 ∷ 0 ∷ []) (0 ∷ 0 ∷ []) (0 ∷ 0 ∷ []) (0 ∷ 1 ∷ []) (0 ∷ 0 ∷ [])
    (minus1 ∷ d 0x3ff0_0000_0040_0000 ∷ []) (one ∷ d 0x3fef_ffff_ff80_0000 ∷ [])

-- Buffers without a word.
abbrev pub empty : StateTables
empty = state_tables [] [] [] [] [] [] [] []

-- A fresh state of the small forecast.
abbrev pub fresh_small : StateTables
fresh_small = fresh_tables small empty

-- A request that lends more than is needed.
abbrev pub whole : Asked → Request
whole q = record {
  asked = q;
  forecast = record { offer_owner = 9; grocer_owner = 9; line_grocer = 9; line_offer = 9; line_box = 9; line_rate = 9; line_value = 9 };
  state = record { known = 99; value_transit = 99; part = 99; part_transit = 99; held = 99; forecast = 99; done = 99; sent = 9 };
}

-- All steps of the small forecast in one order.
abbrev pub steps1 : List Request
steps1 = map whole (asked 1 0 1 ∷ asked 2 1 0 ∷ asked 3 0 0 ∷ asked 3 1 1 ∷ asked 4 1 0 ∷ asked 5 0 1 ∷ asked 6 0 0 ∷ asked 6 1 1 ∷ [])

-- The second order but for its last step,
abbrev pub steps3 : List Request
steps3 = map whole (asked 3 0 0 ∷ asked 1 0 1 ∷ asked 2 1 0 ∷ asked 3 1 1 ∷ asked 6 1 1 ∷ asked 4 1 0 ∷ asked 5 0 1 ∷ [])

-- and with it.
abbrev pub steps2 : List Request
steps2 = steps3 ++ map whole (asked 6 0 0 ∷ [])

-- Part sums 0.3 of box 0, the owner, 0.1 of box 1 and 0.2 of box 2.
abbrev pub three_boxes : ForecastTables
three_boxes =
    forecast_tables 3 1 1 3 (0 ∷ []) (0 ∷ []) (0 ∷ 0 ∷ 0 ∷ []) (0 ∷ 0 ∷ 0 ∷ []) (0 ∷ 1 ∷ 2 ∷ [])
    (three ∷ tenth ∷ fifth ∷ []) (one ∷ one ∷ one ∷ [])

-- Two orders of all its steps: the part sum of box 1 arrives first, or that of box 2.
abbrev pub first_one : List Request
first_one = map whole (
    asked 1 0 1 ∷ asked 1 0 2 ∷ asked 2 1 0 ∷ asked 2 2 0 ∷ asked 3 0 0 ∷ asked 3 1 1 ∷ asked 3 2 2
    ∷ asked 4 1 0 ∷ asked 5 0 1 ∷ asked 4 2 0 ∷ asked 5 0 2 ∷ asked 6 0 0 ∷ asked 6 1 1 ∷ asked 6 2 2 ∷ [])

-- Box 2 first.
abbrev pub first_two : List Request
first_two = map whole (
    asked 1 0 2 ∷ asked 2 2 0 ∷ asked 3 2 2 ∷ asked 4 2 0 ∷ asked 5 0 2 ∷ asked 6 2 2 ∷ asked 1 0 1
    ∷ asked 2 1 0 ∷ asked 3 1 1 ∷ asked 4 1 0 ∷ asked 5 0 1 ∷ asked 3 0 0 ∷ asked 6 0 0 ∷ asked 6 1 1 ∷ [])

-- The examples.
pub record Cases : Type 0 where
  -- By box (0.2 + 0.3) + 0.1 is 0.6; in list order over one box (0.1 + 0.2) + 0.3 is 0.6000000000000001.
  pub by_box : to_bits binary64 (forecast_sum (forecast_of small) 0) ≡ 0x3fe3_3333_3333_3333
  pub in_list : to_bits binary64 (forecast_sum (forecast_of alone) 0) ≡ 0x3fe3_3333_3333_3334
  -- The product is rounded before it is added: −1 + (1 − 2^-60) would not be 0.
  pub not_fused : to_bits binary64 (forecast_sum (forecast_of two_offers) 0) ≡ 0
  -- A grocer without lines, and an offer without lines: +0.0.
  pub no_lines : to_bits binary64 (forecast_sum (forecast_of two_offers) 1) ≡ 0
  pub no_value : to_bits binary64 (offer_value (forecast_of two_offers) 2) ≡ 0
  -- −1.0 × 0.0 is −0.0, and from +0.0 on the sum is +0.0.
  pub minus_zero : to_bits binary64 (forecast_sum (forecast_of (one_offer 1 (0 ∷ []) (minus1 ∷ []) (plus0 ∷ []))) 0) ≡ 0
  -- ±1,000,000 is a value, the next double is not, nor is an infinity or a NaN.
  pub value_most : is_value (d 0x412e_8480_0000_0000) ≡ true
  pub value_least : is_value (d 0xc12e_8480_0000_0000) ≡ true
  pub value_over : is_value (d 0x412e_8480_0000_0001) ≡ false
  pub value_infinite : is_value (d 0x7ff0_0000_0000_0000) ≡ false
  pub value_nan : is_value (d 0x7ff8_0000_0000_0000) ≡ false
  -- ±10^15 is a sum, the next double is not, nor is an infinity or a NaN.
  pub sum_most : is_sum (d 0x430c_6bf5_2634_0000) ≡ true
  pub sum_least : is_sum (d 0xc30c_6bf5_2634_0000) ≡ true
  pub sum_over : is_sum (d 0x430c_6bf5_2634_0001) ≡ false
  pub sum_infinite : is_sum (d 0xfff0_0000_0000_0000) ≡ false
  pub sum_nan : is_sum (d 0x7ff8_0000_0000_0000) ≡ false
  -- +0.0 and −0.0 differ in bits: 34 where both are the value of one offer, of whatever boxes; one of them alone is fine.
  pub zeros_differ : same_bits plus0 minus0 ≡ false
  pub zeros_34 : bad_line (forecast_of (one_offer 2 (0 ∷ 1 ∷ []) (one ∷ one ∷ []) (plus0 ∷ minus0 ∷ []))) ≡ true
  pub minus_zeros : bad_line (forecast_of (one_offer 2 (0 ∷ 1 ∷ []) (one ∷ one ∷ []) (minus0 ∷ minus0 ∷ []))) ≡ false
  pub values_34 : bad_line (forecast_of (one_offer 2 (0 ∷ 0 ∷ []) (one ∷ one ∷ []) (one ∷ tenth ∷ []))) ≡ true
  pub rate_34 : bad_line (forecast_of (one_offer 1 (0 ∷ []) (d 0x7ff0_0000_0000_0000 ∷ []) (one ∷ []))) ≡ true
  -- Words, messages and steps of the small forecast: 2 words, 2 messages, 2 × K + 2 × 2 steps.
  pub small_words : owner_words (forecast_of small).job ≡ 2
  pub small_messages : message_count (forecast_of small).job ≡ 2
  pub small_steps : step_count (forecast_of small).job ≡ 8
  -- Two orders: all are accepted, and the forecast is the same, with nothing left.
  pub order_1 : answers_in small empty steps1 ≡ map (λ r. accepted) steps1
  pub order_2 : answers_in small empty steps2 ≡ map (λ r. accepted) steps2
  pub ends_1 : map (to_bits binary64) (tables_after small empty steps1).forecast ≡ 0x3fe3_3333_3333_3333 ∷ []
  pub same_end : tables_after small empty steps2 ≡ tables_after small empty steps1
  -- Added in the order of arrival, (0.3 + 0.1) + 0.2 and (0.3 + 0.2) + 0.1 differ in bits;
  pub arrival_1 : to_bits binary64 (add binary64 (add binary64 three tenth) fifth) ≡ 0x3fe3_3333_3333_3334
  pub arrival_2 : to_bits binary64 (add binary64 (add binary64 three fifth) tenth) ≡ 0x3fe3_3333_3333_3333
  -- both orders are permitted, and end in the same bits.
  pub first_1 : answers_in three_boxes empty first_one ≡ map (λ r. accepted) first_one
  pub first_2 : answers_in three_boxes empty first_two ≡ map (λ r. accepted) first_two
  pub end_1 : map (to_bits binary64) (tables_after three_boxes empty first_one).forecast ≡ 0x3fe3_3333_3333_3334 ∷ []
  pub end_2 : map (to_bits binary64) (tables_after three_boxes empty first_two).forecast ≡ 0x3fe3_3333_3333_3334 ∷ []
  -- Refusals in order. A kind 9 of box 99 is 22; 3 of two boxes, and 1 of one, 23; an empty message 24; twice 25; not ready 26.
  pub kind_22 : (stepped small fresh_small (asked 9 99 99)).answer ≡ refused 22
  pub boxes_23 : (stepped small fresh_small (asked 3 0 1)).answer ≡ refused 23
  pub itself_23 : (stepped small fresh_small (asked 1 0 0)).answer ≡ refused 23
  pub empty_24 : (stepped small fresh_small (asked 1 1 0)).answer ≡ refused 24
  pub twice_25 : answers_in small empty (map whole (asked 3 0 0 ∷ asked 3 0 0 ∷ [])) ≡ accepted ∷ refused 25 ∷ []
  pub unsent_26 : (stepped small fresh_small (asked 2 1 0)).answer ≡ refused 26
  -- Box 1 adds up only once its value is in; box 0 sums only once the part sum of box 1 is in.
  pub adds_26 : (stepped small fresh_small (asked 3 1 1)).answer ≡ refused 26
  pub sums_26 : answers_in small empty (map whole (asked 3 0 0 ∷ asked 6 0 0 ∷ [])) ≡ accepted ∷ refused 26 ∷ []
  -- 34 comes after 21 and before 22; a short buffer is 20 before all.
  pub bad_34 : (stepped (one_offer 1 (0 ∷ []) (one ∷ []) (d 0x7ff8_0000_0000_0000 ∷ [])) (fresh_tables (one_offer 1 (0 ∷ []) (one ∷ []) (one ∷ [])) empty)
      (asked 9 0 0)).answer ≡ refused 34
  pub range_21 : (stepped (one_offer 1 (2 ∷ []) (one ∷ []) (d 0x7ff8_0000_0000_0000 ∷ [])) fresh_small (asked 9 0 0)).answer ≡ refused 21
  pub state_21 : (stepped small (state_tables (d 0x7ff8_0000_0000_0000 ∷ plus0 ∷ []) fresh_small.value_transit fresh_small.part fresh_small.part_transit
      fresh_small.held fresh_small.forecast fresh_small.done fresh_small.sent) (asked 9 0 0)).answer ≡ refused 21
  pub short_20 : (stepped small empty (asked 9 0 0)).answer ≡ refused 20
  -- The call for a fresh state does not look at old words.
  pub fresh_any : (freshened small (state_tables (d 0x7ff8_0000_0000_0000 ∷ plus0 ∷ []) fresh_small.value_transit fresh_small.part fresh_small.part_transit
      fresh_small.held fresh_small.forecast fresh_small.done (7 ∷ []))).tables ≡ fresh_small
  -- The late 21: part sums in range whose sum is not.
  pub late_21 : (stepped small (state_tables fresh_small.known fresh_small.value_transit (d 0x430c_6bf5_2634_0000 ∷ plus0 ∷ []) fresh_small.part_transit
      (plus0 ∷ d 0x430c_6bf5_2634_0000 ∷ []) fresh_small.forecast (tables_after small empty steps3).done fresh_small.sent)
      (asked 6 0 0)).answer ≡ refused 21
  -- More than 1,000 lines: 21.
  pub lines_21 : forecast_in_range (forecast_tables 1 1 1 1001 (0 ∷ []) (0 ∷ []) [] [] [] [] []) ≡ false
