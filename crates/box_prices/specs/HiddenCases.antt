-- Two evenings that differ in one price: what box 2 learns is the same, what others learn is not; and that each hypothesis is needed.
use Rattle.std.specs.Prelude.{◌≡◌, List, [], ◌∷◌, ◌++◌, map, ℕ, pos}
use Rattle.model.specs.Tables.{JobTables, bag_tables}
use Rattle.model.specs.Step.{Asked, asked, accepted, refused}
use Rattle.model.specs.Cases.{empty, in_turn, answers_in_turn, tables_in_turn}
use Rattle.box_prices.specs.Learned.{OtherPrices, Message, messages_in}

-- Two lists. Box 0 owns offer 0, at 10 and p, of which box 1 holds a tally of 3. Box 2 owns offer 1, at 20 and 40, and the grocer, and holds a tally
-- of offer 1, of 4.
abbrev pub hidden_price : ℕ → JobTables
hidden_price p =
    bag_tables 3 1 2 2 1 (10 ∷ 20 ∷ p ∷ 40 ∷ []) (0 ∷ 2 ∷ []) (2 ∷ []) (0 ∷ 0 ∷ []) (1 ∷ 2 ∷ []) (0 ∷ 1 ∷ []) (pos 3 ∷ pos 4 ∷ []) (0 ∷ 0 ∷ []) (0 ∷ 0 ∷ [])

-- One list, offer 0 at p. Box 1 counts bag 7 of offer 0 as revision 1, and box 2 has a count of offer 0 too, of bag x as revision 0.
abbrev pub hidden_bag : (x p : ℕ) → JobTables
hidden_bag x p =
    bag_tables 3 1 2 3 0 (p ∷ 20 ∷ []) (0 ∷ 2 ∷ []) (2 ∷ []) (0 ∷ 0 ∷ 0 ∷ []) (1 ∷ 2 ∷ 2 ∷ []) (0 ∷ 0 ∷ 1 ∷ [])
    (pos 3 ∷ pos 5 ∷ pos 4 ∷ []) (7 ∷ x ∷ 0 ∷ []) (1 ∷ 0 ∷ 0 ∷ [])

-- Box 1 gets the price of offer 0 and multiplies; box 2 multiplies its own and adds its own totals.
abbrev pub before_receipt : List Asked
before_receipt = asked 1 0 1 ∷ asked 3 1 0 ∷ asked 2 2 2 ∷ asked 5 2 2 ∷ []

-- The same, and box 1's totals are sent to box 2 and received.
abbrev pub after_receipt : List Asked
after_receipt = before_receipt ++ asked 4 1 2 ∷ asked 6 2 1 ∷ []

-- The messages that a box sends in a list of steps.
abbrev pub sent_by : ℕ → JobTables → List Asked → List Message
sent_by b f qs = messages_in f b empty (in_turn f qs)

-- The cases.
pub record HiddenCases : Type 0 where
  -- Box 2 neither owns offer 0 nor holds a tally of it: its price on the second list may be 30 or 31.
  pub hidden : OtherPrices 2 (hidden_price 30) (hidden_price 31)
  -- The evenings differ: box 0's message to box 1,
  pub prices_30 : map (λ m. m.prices) (sent_by 0 (hidden_price 30) (asked 1 0 1 ∷ [])) ≡ (10 ∷ 30 ∷ []) ∷ []
  pub prices_31 : map (λ m. m.prices) (sent_by 0 (hidden_price 31) (asked 1 0 1 ∷ [])) ≡ (10 ∷ 31 ∷ []) ∷ []
  -- box 1's working totals, which stand in front of box 2's,
  pub working_30 : (tables_in_turn (hidden_price 30) before_receipt).working ≡ pos 30 ∷ pos 90 ∷ pos 0 ∷ pos 0 ∷ []
  pub working_31 : (tables_in_turn (hidden_price 31) before_receipt).working ≡ pos 30 ∷ pos 93 ∷ pos 0 ∷ pos 0 ∷ []
  -- and its message to box 2, which is a message that box 2 receives and does not send.
  pub totals_30 : map (λ m. m.totals) (sent_by 1 (hidden_price 30) (before_receipt ++ asked 4 1 2 ∷ [])) ≡ (pos 30 ∷ pos 90 ∷ []) ∷ []
  pub totals_31 : map (λ m. m.totals) (sent_by 1 (hidden_price 31) (before_receipt ++ asked 4 1 2 ∷ [])) ≡ (pos 30 ∷ pos 93 ∷ []) ∷ []
  -- "Until it first receives totals": box 2's statements are 80 and 160 in both, and then they differ: a total tells prices.
  pub before_30 : (tables_in_turn (hidden_price 30) before_receipt).statement ≡ pos 80 ∷ pos 160 ∷ []
  pub before_31 : (tables_in_turn (hidden_price 31) before_receipt).statement ≡ pos 80 ∷ pos 160 ∷ []
  pub after_30 : (tables_in_turn (hidden_price 30) after_receipt).statement ≡ pos 110 ∷ pos 250 ∷ []
  pub after_31 : (tables_in_turn (hidden_price 31) after_receipt).statement ≡ pos 110 ∷ pos 253 ∷ []
  -- The owner knows the price, and so does a box that holds a standing tally of the offer: for them the jobs may not differ so.
  pub owner : OtherPrices 0 (hidden_price 30) (hidden_price 31) → ⊥
  pub holder : OtherPrices 1 (hidden_price 30) (hidden_price 31) → ⊥
  -- A superseded tally is not held: box 2's count of bag 7 brings it no price, there is no such message;
  pub superseded : OtherPrices 2 (hidden_bag 7 10) (hidden_bag 7 11)
  pub no_message : answers_in_turn (hidden_bag 7 10) (asked 1 0 2 ∷ asked 1 0 1 ∷ []) ≡ refused 24 ∷ accepted ∷ []
  -- of another bag it stands, and box 2 learns the price of offer 0.
  pub standing : OtherPrices 2 (hidden_bag 8 10) (hidden_bag 8 11) → ⊥
  pub learns : (tables_in_turn (hidden_bag 8 11) (asked 1 0 2 ∷ asked 3 2 0 ∷ [])).known ≡ 11 ∷ 0 ∷ 0 ∷ 0 ∷ 11 ∷ 20 ∷ []
