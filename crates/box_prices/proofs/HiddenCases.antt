-- The cases hold: each computes. Assumes nothing.
use mathlib.Core.Path.{◌≡◌, refl}
use mathlib.Core.Bool.{true, false≢true}
use mathlib.Core.List.{List, [], ◌∷◌}
use Prim.Native.Nat.{ℕ, zero, suc, ◌+◌, ◌*◌, ◌<◌}
use native.Mathlib.Omega.{arith}
use lib.ListN.{get_or}
use Rattle.laws.specs.Below.{any}
use Rattle.laws.specs.Tables.{word}
use Rattle.recount.specs.Recount.{loose, same_bag, superseded, stands}
use Rattle.model.specs.Tables.{JobTables, bag_tables, counted_of}
use Rattle.model.specs.Step.{is_accepted}
use Rattle.box_prices.specs.Learned.{OtherPrices, prices_of, totals_of, message_of, sends, messages_from, messages_in}
use Rattle.box_prices.specs.HiddenCases.{hidden_price, hidden_bag, HiddenCases}
use Rattle.model.proofs.Cases.{computed}

-- Jobs whose words but prices are the same.
abbrev Prices : ℕ → JobTables → JobTables → Type 0
Prices b f f' =
    ((q o : ℕ) → q < suc f.lists → o < f.offers → get_or f.offer_owner o 0 ≡ b → get_or f'.price (q * f.offers + o) 0 ≡ get_or f.price (q * f.offers + o) 0)
    × ((q t : ℕ) → q < suc f.lists → t < f.tallies → stands (counted_of f) t ≡ true → get_or f.tally_box t 0 ≡ b →
    get_or f'.price (q * f.offers + get_or f.tally_offer t 0) 0 ≡ get_or f.price (q * f.offers + get_or f.tally_offer t 0) 0)

hidden_prices : Prices 2 (hidden_price 30) (hidden_price 31)
hidden_prices = (own, held)
  where
    own : (q o : ℕ) → q < 2 → o < 2 → get_or (hidden_price 30).offer_owner o 0 ≡ 2 → get_or (hidden_price 31).price (q * 2 + o) 0 ≡ get_or (hidden_price 30).price (q * 2 + o) 0
    own q zero k l e = absurd (omega arith)
    own zero (suc zero) k l e = refl
    own (suc zero) (suc zero) k l e = refl
    own (suc (suc q)) (suc zero) k l e = absurd (omega arith)
    own q (suc (suc o)) k l e = absurd (omega arith)

    held : (q t : ℕ) → q < 2 → t < 2 → stands (counted_of (hidden_price 30)) t ≡ true → get_or (hidden_price 30).tally_box t 0 ≡ 2 →
        get_or (hidden_price 31).price (q * 2 + get_or (hidden_price 30).tally_offer t 0) 0 ≡ get_or (hidden_price 30).price (q * 2 + get_or (hidden_price 30).tally_offer t 0) 0
    held q zero k l s e = absurd (omega arith)
    held zero (suc zero) k l s e = refl
    held (suc zero) (suc zero) k l s e = refl
    held (suc (suc q)) (suc zero) k l s e = absurd (omega arith)
    held q (suc (suc t)) k l s e = absurd (omega arith)

superseded_prices : Prices 2 (hidden_bag 7 10) (hidden_bag 7 11)
unfolding stands superseded loose same_bag counted_of any word
superseded_prices = (own, held)
  where
    own : (q o : ℕ) → q < 1 → o < 2 → get_or (hidden_bag 7 10).offer_owner o 0 ≡ 2 → get_or (hidden_bag 7 11).price (q * 2 + o) 0 ≡ get_or (hidden_bag 7 10).price (q * 2 + o) 0
    own (suc q) o k l e = absurd (omega arith)
    own zero zero k l e = absurd (omega arith)
    own zero (suc zero) k l e = refl
    own zero (suc (suc o)) k l e = absurd (omega arith)

    held : (q t : ℕ) → q < 1 → t < 3 → stands (counted_of (hidden_bag 7 10)) t ≡ true → get_or (hidden_bag 7 10).tally_box t 0 ≡ 2 →
        get_or (hidden_bag 7 11).price (q * 2 + get_or (hidden_bag 7 10).tally_offer t 0) 0 ≡ get_or (hidden_bag 7 10).price (q * 2 + get_or (hidden_bag 7 10).tally_offer t 0) 0
    held (suc q) t k l s e = absurd (omega arith)
    held zero zero k l s e = absurd (omega arith)
    held zero (suc zero) k l s e = absurd (false≢true s)
    held zero (suc (suc zero)) k l s e = refl
    held zero (suc (suc (suc t))) k l s e = absurd (omega arith)

-- A job with other prices.
abbrev priced : JobTables → List ℕ → JobTables
priced f p =
    bag_tables f.boxes f.grocers f.offers f.tallies f.lists p f.offer_owner f.grocer_owner
    f.tally_grocer f.tally_box f.tally_offer f.tally_count f.tally_bag f.tally_revision

other_is : (b : ℕ) (f : JobTables) (p : List ℕ) → Prices b f (priced f p) → OtherPrices b f (priced f p)
other_is b f p h = record {
  boxes = refl;
  grocers = refl;
  offers = refl;
  tallies = refl;
  lists = refl;
  offer_owner = λ o l. refl;
  grocer_owner = λ g l. refl;
  tally_grocer = λ t l. refl;
  tally_box = λ t l. refl;
  tally_offer = λ t l. refl;
  tally_count = λ t l. refl;
  tally_bag = λ t l. refl;
  tally_revision = λ t l. refl;
  own_price = h.0;
  held_price = h.1;
}

-- Tallies that stand: box 1's of offer 0, and box 2's of another bag.
holder_stands : stands (counted_of (hidden_price 30)) 0 ≡ true
unfolding stands superseded loose same_bag counted_of any word
holder_stands = refl

other_stands : stands (counted_of (hidden_bag 8 10)) 1 ≡ true
unfolding stands superseded loose same_bag counted_of any word
other_stands = refl

pub hidden_cases : HiddenCases
unfolding computed messages_in messages_from message_of prices_of totals_of sends is_accepted
hidden_cases = record {
  hidden = other_is 2 (hidden_price 30) (10 ∷ 20 ∷ 31 ∷ 40 ∷ []) hidden_prices;
  prices_30 = refl;
  prices_31 = refl;
  working_30 = refl;
  working_31 = refl;
  totals_30 = refl;
  totals_31 = refl;
  before_30 = refl;
  before_31 = refl;
  after_30 = refl;
  after_31 = refl;
  owner = λ u. differ (u.own_price 1 0 (omega arith) (omega arith) refl);
  holder = λ u. differ (u.held_price 1 0 (omega arith) (omega arith) holder_stands refl);
  superseded = other_is 2 (hidden_bag 7 10) (11 ∷ 20 ∷ []) superseded_prices;
  no_message = refl;
  standing = λ u. near (u.held_price 0 1 (omega arith) (omega arith) other_stands refl);
  learns = refl;
}
  where
    differ : ◌≡◌ {A = ℕ} 31 30 → ⊥
    differ e = omega arith

    near : ◌≡◌ {A = ℕ} 11 10 → ⊥
    near e = omega arith
