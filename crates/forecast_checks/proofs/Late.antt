-- The late 21 as the code tests it is the forecast's. Assumes nothing.
use mathlib.Core.Path.{◌≡◌, refl, sym, ap, ◌∙◌}
use mathlib.Core.Bool.{true, ◌||◌, not}
use mathlib.Core.List.{List}
use Prim.Native.Nat.{ℕ, ◌+◌, ◌<◌, ◌≤◌}
use native.Mathlib.Nat.{add-zero}
use native.Mathlib.Omega.{arith}
use lib.Dec.{eqb, leb}
use lib.ListN.{get_or}
use borrow.Author.Tests.{le-leb}
use Rattle.laws.specs.Limits.{max_sent}
use Rattle.laws.specs.Tables.{tabulate, word}
use Rattle.laws.proofs.Below.{all_cong, count_cong, count_le}
use Rattle.laws.proofs.Bools.{split}
use Rattle.laws.proofs.Tables.{get_d_tabulate, word_in_lem}
use Rattle.model.specs.Job.{need_word, sharer_word}
use Rattle.step_places.specs.Message.{word_in}
use Rattle.forecast_rules.specs.Doubles.{is_sum}
use Rattle.forecast_rules.specs.Steps.{Kind, send_values, receive_values, add_lines, send_parts, receive_parts, sum_own, kind_of, effect}
use Rattle.forecast_rules.specs.Tables.{ForecastTables, forecast_of, StateTables, view, store}
use Rattle.forecast_rules.specs.Ranges.{state_in_range}
use Rattle.forecast_rules.proofs.Served.{WordsIn}
use Rattle.forecast_rules.proofs.Ranges.{Good}
use Rattle.forecast_rules.proofs.Late.{view_fits, few_sent, late_sent, late_sums}
use Rattle.forecast_doubles.specs.Parts.{owner_sum, sums_fit}
use Rattle.forecast_doubles.proofs.Told.{owner_is}
use Rattle.forecast_doubles.proofs.Effects.{value_word, part_word}
use Rattle.forecast_checks.specs.Decided.{message_words, late_fits}
use Rattle.forecast_checks.proofs.Asked.{by_kind}

module _ (f : ForecastTables) (w : WordsIn f) (t : StateTables) (needs sharers : List ℕ) (en : needs ≡ tabulate 500 (need_word (forecast_of f).job)) (es : sharers ≡ tabulate 255 (sharer_word (forecast_of f).job)) where
  -- The words of the step's message.
  abbrev words : Kind → ℕ → ℕ → ℕ
  words q a b = message_words f.offers f.grocers f.offer_owner f.grocer_owner needs sharers q a b

  -- They are few.
  pub few : (q : Kind) (a b : ℕ) → words q a b ≤ 4_000
  unfolding message_words
  few send_values a b = omega (arith, count_le f.offers (word_in f.offer_owner needs a b), w.offers≤)
  few receive_values a b = omega arith
  few add_lines a b = omega arith
  few send_parts a b = omega (arith, count_le f.grocers (word_in f.grocer_owner sharers b a), w.grocers≤)
  few receive_parts a b = omega arith
  few sum_own a b = omega arith

  -- The words sent with those of the message.
  pub sent_is : (q : Kind) (a b : ℕ) → a < 16 → b < 16 → get_or t.sent 0 0 + words q a b ≡ (effect (forecast_of f) (view (forecast_of f) t) q a b).sent
  unfolding message_words effect view forecast_of word
  sent_is send_values a b la lb = ap (λ (n : ℕ). get_or t.sent 0 0 + n) (count_cong f.offers _ _ (λ o l. value_word f needs a b o lb l w.offers≤ en))
  sent_is receive_values a b la lb = add-zero (get_or t.sent 0 0)
  sent_is add_lines a b la lb = add-zero (get_or t.sent 0 0)
  sent_is send_parts a b la lb = ap (λ (n : ℕ). get_or t.sent 0 0 + n) (count_cong f.grocers _ _ (λ g l. part_word f sharers b a g la l w.grocers≤ es))
  sent_is receive_parts a b la lb = add-zero (get_or t.sent 0 0)
  sent_is sum_own a b la lb = add-zero (get_or t.sent 0 0)

  module _ (y : Good (forecast_of f)) (ok : state_in_range f t ≡ true) where
    -- 1 to 5.
    fits_sent : (q : Kind) (a b : ℕ) → a < 16 → b < 16 → (effect (forecast_of f) (view (forecast_of f) t) q a b).forecast ≡ (view (forecast_of f) t).forecast →
        leb (get_or t.sent 0 0 + words q a b) max_sent ≡ state_in_range f (store (forecast_of f) (effect (forecast_of f) (view (forecast_of f) t) q a b) t)
    fits_sent q a b la lb e = ap (λ (n : ℕ). leb n max_sent) (sent_is q a b la lb) ∙ sym (late_sent f y t ok q a b e)

    -- The sum of a grocer of box a is tested, and of another's grocer its forecast is in range.
    one_sum : (a g : ℕ) → g < f.grocers →
        (not (eqb (get_or f.grocer_owner g 0) a) || is_sum (owner_sum f.boxes f.grocers g a (get_or sharers g 0) t.part t.held))
        ≡ is_sum ((effect (forecast_of f) (view (forecast_of f) t) sum_own a a).forecast g)
    unfolding effect forecast_of
    one_sum a g l =
        split (eqb (get_or f.grocer_owner g 0) a)
        (λ e. rw (e, word_in_lem f.grocers f.grocer_owner 0 g l, e, es, get_d_tabulate 255 (sharer_word (forecast_of f).job) g 0 (omega (arith, l, w.grocers≤)), owner_is f t a g w.boxes≤ l))
        (λ e. rw (e, word_in_lem f.grocers f.grocer_owner 0 g l, e) (sym ((view_fits f t ok).forecast g)))

    -- 6.
    fits_sums : (a : ℕ) →
        sums_fit f.boxes f.grocers a f.grocer_owner sharers t.part t.held f.grocers
        ≡ state_in_range f (store (forecast_of f) (effect (forecast_of f) (view (forecast_of f) t) sum_own a a) t)
    unfolding sums_fit view word
    fits_sums a = all_cong f.grocers _ _ (λ g l. one_sum a g l) ∙ sym (late_sums f y t ok a a small)
      where
        small : leb (view (forecast_of f) t).sent max_sent ≡ true
        small = le-leb (get_or t.sent 0 0) max_sent (few_sent f t ok)

    -- Any kind, where the boxes of kind 6 are one.
    pub late_is : (a b n : ℕ) → a < 16 → b < 16 → 1 ≤ n → n ≤ 6 → (n ≡ 6 → b ≡ a) →
        late_fits f.boxes f.grocers f.grocer_owner sharers t.part t.held t.sent (words (kind_of n) a b) n a
        ≡ state_in_range f (store (forecast_of f) (effect (forecast_of f) (view (forecast_of f) t) (kind_of n) a b) t)
    unfolding late_fits kind_of effect
    late_is a b n la lb h l =
        by_kind (λ n. (n ≡ 6 → b ≡ a) → late_fits f.boxes f.grocers f.grocer_owner sharers t.part t.held t.sent (words (kind_of n) a b) n a
        ≡ state_in_range f (store (forecast_of f) (effect (forecast_of f) (view (forecast_of f) t) (kind_of n) a b) t))
        (λ e. fits_sent send_values a b la lb refl)
        (λ e. fits_sent receive_values a b la lb refl)
        (λ e. fits_sent add_lines a b la lb refl)
        (λ e. fits_sent send_parts a b la lb refl)
        (λ e. fits_sent receive_parts a b la lb refl)
        (λ e. rw (e refl) (fits_sums a))
        n h l
