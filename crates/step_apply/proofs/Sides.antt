-- What each kind leaves on its side, by the number of the kind: prices for 1 to 3, totals for 4 to 6. Assumes nothing.
use mathlib.Core.Path.{◌≡◌, ap}
use mathlib.Core.Bool.{Bool}
use mathlib.Core.List.{List, [], ◌∷◌}
use Prim.Native.Nat.{ℕ, ◌*◌, ◌-◌, ◌≤◌}
use native.Mathlib.Omega.{arith}
use lib.Dec.{eqb}
use borrow.Author.Tests.{ne_eqb}
use lib.ListN.{length, get_or}
use lib.IntN.{ℤ, pos}
use Rattle.laws.specs.Below.{naturals, only}
use Rattle.laws.proofs.Below.{only_le}
use Rattle.step_prices.specs.Prices.{sent_transit, received_known, received_transit}
use Rattle.step_totals.specs.Row.{Tallies}
use Rattle.model.specs.Spans.{span_written}
use Rattle.step_apply.specs.Apply.{sent_more, row_words, known_after, price_transit_after, multiplied, multiplied_after, words_sent, PriceStepOut, working_after, total_transit_after, credited, statement_after, TotalStepOut}

module _ (e : Tallies) (width from to : ℕ) (passes : ℕ → Bool) (known transit : List ℕ) (working : List ℤ) (kind a b : ℕ) where
  pub prices_sent_out : kind ≡ 1 → PriceStepOut e width from to passes known transit working kind a b
      known (sent_transit e.boxes (e.offers * width) a b (row_words width passes) known transit) working ((to - from) * width)
  unfolding known_after price_transit_after multiplied_after words_sent only
  prices_sent_out q = record { known_is = rw q; transit_is = rw q; working_is = rw q; sent_is = rw q }

  pub own_multiplied_out : kind ≡ 2 → PriceStepOut e width from to passes known transit working kind a b known transit (multiplied e width known a a working) 0
  unfolding known_after price_transit_after multiplied_after words_sent only naturals
  own_multiplied_out q = record { known_is = rw q; transit_is = rw q; working_is = rw q; sent_is = rw q }

  pub prices_received_out : kind ≡ 3 → PriceStepOut e width from to passes known transit working kind a b
      (received_known e.boxes (e.offers * width) a (row_words width passes) known transit)
      (received_transit e.boxes (e.offers * width) a (row_words width passes) transit)
      (multiplied e width transit a b working) 0
  unfolding known_after price_transit_after multiplied_after words_sent only naturals
  prices_received_out q = record { known_is = rw q; transit_is = rw q; working_is = rw q; sent_is = rw q }

module _ (from to width : ℕ) (grocers : List ℕ) (working transit statement : List ℤ) (kind : ℕ) where
  pub totals_sent_out : kind ≡ 4 → TotalStepOut from to width grocers working transit statement kind
      (span_written (from * width) (to * width) (λ w. pos 0) working) (span_written (from * width) (to * width) (λ w. get_or working w (pos 0)) transit) statement ((to - from) * width)
  unfolding working_after total_transit_after statement_after words_sent only
  totals_sent_out q = record { working_is = rw q; transit_is = rw q; statement_is = rw q; sent_is = rw q }

  pub own_added_out : kind ≡ 5 → TotalStepOut from to width grocers working transit statement kind
      (span_written (from * width) (to * width) (λ w. pos 0) working) transit (credited from to width grocers kind working statement) 0
  unfolding working_after total_transit_after statement_after words_sent only naturals
  own_added_out q = record { working_is = rw q; transit_is = rw q; statement_is = rw q; sent_is = rw q }

  pub totals_received_out : kind ≡ 6 → TotalStepOut from to width grocers working transit statement kind
      working (span_written (from * width) (to * width) (λ w. pos 0) transit) (credited from to width grocers kind transit statement) 0
  unfolding working_after total_transit_after statement_after words_sent only naturals
  totals_received_out q = record { working_is = rw q; transit_is = rw q; statement_is = rw q; sent_is = rw q }

-- With no word more the count of words sent is as it was.
pub none_more : (sent : List ℕ) → 1 ≤ length sent → sent_more sent 0 ≡ sent
none_more [] h = absurd (omega arith)
none_more (x ∷ l) h = ap (λ (y : ℕ). y ∷ l) (omega arith)

-- A step sends no more words than its list has.
pub words_few : (sends from to width kind : ℕ) → words_sent sends from to width kind ≤ (to - from) * width
unfolding words_sent
words_few sends from to width kind = only_le (eqb kind sends) ((to - from) * width)

-- A step of another kind sends none.
pub words_none : (sends from to width kind : ℕ) → (kind ≡ sends → ⊥) → words_sent sends from to width kind ≡ 0
unfolding words_sent only naturals
words_none sends from to width kind n = rw (ne_eqb kind sends n)
