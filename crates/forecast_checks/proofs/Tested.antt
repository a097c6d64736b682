-- The tests of a forecast's tables and of a state's, together. Assumes nothing.
use mathlib.Core.Path.{◌≡◌, sym, ◌∙◌}
use mathlib.Core.Bool.{Bool, true, false, ◌&&◌}
use mathlib.Core.List.{List, [], ◌∷◌}
use Prim.Native.Nat.{ℕ, ◌*◌, ◌≤◌}
use native.Mathlib.Omega.{arith}
use lib.Dec.{ltb, leb}
use lib.ListN.{get_or, length}
use borrow.Author.Tests.{ltb-true, ltb-false, lt-ltb, le-leb, lt-leb}
use Rattle.laws.specs.Checks.{all_of}
use Rattle.laws.specs.Limits.{max_sent, max_boxes, max_grocers, max_offers}
use Rattle.laws.proofs.Bools.{split}
use Rattle.laws.proofs.Below.{all_at, all_of_lem, all_cong}
use Rattle.model.specs.Ranges.{up_to, under}
use Rattle.forecast_rules.specs.Doubles.{is_value, is_sum}
use Rattle.forecast_rules.specs.Tables.{ForecastTables, forecast_lengths, forecast_short, StateTables, state_lengths, state_short}
use Rattle.forecast_rules.specs.Ranges.{max_lines, each, forecast_in_range, state_in_range}
use Rattle.forecast_rules.proofs.Lent.{forecast_long, state_long}

-- The tables of a forecast, lent whole.
pub record LinesWhole (f : ForecastTables) : Type 0 where
  pub offer_owner : f.offers ≤ length f.offer_owner
  pub grocer_owner : f.grocers ≤ length f.grocer_owner
  pub line_grocer : f.lines ≤ length f.line_grocer
  pub line_offer : f.lines ≤ length f.line_offer
  pub line_box : f.lines ≤ length f.line_box
  pub line_rate : f.lines ≤ length f.line_rate
  pub line_value : f.lines ≤ length f.line_value

pub lines_whole : (f : ForecastTables) → forecast_short f (forecast_lengths f) ≡ false → LinesWhole f
unfolding forecast_lengths
lines_whole f h =
    let w = forecast_long f (forecast_lengths f) h in
    record {
      offer_owner = w.offer_owner;
      grocer_owner = w.grocer_owner;
      line_grocer = w.line_grocer;
      line_offer = w.line_offer;
      line_box = w.line_box;
      line_rate = w.line_rate;
      line_value = w.line_value;
    }

-- The tables of a state, lent whole.
pub record StateWhole (k m n : ℕ) (t : StateTables) : Type 0 where
  pub known : k * n ≤ length t.known
  pub value_transit : k * n ≤ length t.value_transit
  pub part : k * m ≤ length t.part
  pub part_transit : k * m ≤ length t.part_transit
  pub held : k * m ≤ length t.held
  pub forecast : m ≤ length t.forecast
  pub done : 6 * k * k ≤ length t.done
  pub sent : 1 ≤ length t.sent

pub state_whole : (f : ForecastTables) (t : StateTables) → state_short f (state_lengths t) ≡ false → StateWhole f.boxes f.grocers f.offers t
unfolding state_lengths
state_whole f t h =
    let w = state_long f (state_lengths t) h in
    record {
      known = w.known;
      value_transit = w.value_transit;
      part = w.part;
      part_transit = w.part_transit;
      held = w.held;
      forecast = w.forecast;
      done = w.done;
      sent = w.sent;
    }

-- Words below 2 are those up to 1.
under_two : (n : ℕ) (l : List ℕ) → under 2 n l ≡ up_to 1 n l
unfolding under up_to
under_two n l =
    all_cong n _ _ (λ i _.
    split (ltb (get_or l i 0) 2)
    (λ e. e ∙ sym (le-leb (get_or l i 0) 1 (omega (arith, ltb-true (get_or l i 0) 2 e))))
    (λ e. e ∙ sym (lt-leb (get_or l i 0) 1 (ltb-false (get_or l i 0) 2 e))))

-- Words below m are below a larger number.
pub under_more : (m k n : ℕ) (l : List ℕ) → m ≤ k → under m n l ≡ true → under k n l ≡ true
unfolding under
under_more m k n l h ok = all_of_lem n _ (λ i li. lt-ltb (get_or l i 0) k (omega (arith, h, ltb-true (get_or l i 0) m (all_at n (λ i. ltb (get_or l i 0) m) i li ok))))

-- The tests of the forecast's tables, at lengths that are M, N and the number of lines.
pub lines_tested : (f : ForecastTables) (m n l : ℕ) → m ≡ f.grocers → n ≡ f.offers → l ≡ f.lines → (a b c d e : Bool) →
    a ≡ under f.boxes n f.offer_owner → b ≡ under f.boxes m f.grocer_owner → c ≡ under f.grocers l f.line_grocer →
    d ≡ under f.offers l f.line_offer → e ≡ under f.boxes l f.line_box →
    all_of ((leb 1 f.boxes && leb f.boxes max_boxes) ∷ (leb 1 f.grocers && leb f.grocers max_grocers) ∷ (leb 1 f.offers && leb f.offers max_offers)
    ∷ leb f.lines max_lines ∷ a ∷ b ∷ c ∷ d ∷ e ∷ []) ≡ forecast_in_range f
unfolding forecast_in_range
lines_tested f m n l em en el a b c d e ea eb ec ed ee = rw (ea, eb, ec, ed, ee, em, en, el)

-- The tests of the state's tables, at lengths that are the products of K, M and N.
pub words_tested : (f : ForecastTables) (t : StateTables) (kn km m kk : ℕ) → kn ≡ f.boxes * f.offers → km ≡ f.boxes * f.grocers → m ≡ f.grocers →
    kk ≡ 6 * f.boxes * f.boxes → (a b c d e g h i : Bool) →
    a ≡ each is_value kn t.known → b ≡ each is_value kn t.value_transit → c ≡ each is_sum km t.part → d ≡ each is_sum km t.part_transit →
    e ≡ each is_sum km t.held → g ≡ each is_sum m t.forecast → h ≡ under 2 kk t.done → i ≡ up_to max_sent 1 t.sent →
    all_of (a ∷ b ∷ c ∷ d ∷ e ∷ g ∷ h ∷ i ∷ []) ≡ state_in_range f t
unfolding state_in_range
words_tested f t kn km m kk en em eg' ek a b c d e g h i ea eb ec ed ee eg eh ei =
    rw (ea, eb, ec, ed, ee, eg, eh, ei, en, em, eg', ek, under_two (6 * f.boxes * f.boxes) t.done)
