-- A job, the boxes that need an offer or share a grocer, and the words of messages.
use Rattle.std.specs.Prelude.{Bool, ◌&&◌, not, ℕ, eqb, ltb, ℤ, pos, ◌*ℤ◌}
use Rattle.laws.specs.Below.{any, sum, only, integers}
use Rattle.laws.specs.Masks.{mask_of}

-- Grocers are rows, offers are columns, a tally is one coordinate entry held by one box. Each table is a function of the place, from 0.
pub record Job : Type 0 where
  pub boxes : ℕ  -- K
  pub grocers : ℕ  -- M
  pub offers : ℕ  -- N
  pub tallies : ℕ  -- T
  pub price : ℕ → ℕ  -- of an offer
  pub offer_owner : ℕ → ℕ  -- the box that owns an offer
  pub grocer_owner : ℕ → ℕ  -- the box that owns a grocer
  pub tally_grocer : ℕ → ℕ  -- of a tally
  pub tally_box : ℕ → ℕ  -- of a tally
  pub tally_offer : ℕ → ℕ  -- of a tally: the place of its offer
  pub tally_count : ℕ → ℤ  -- of a tally

module _ (j : Job) where
  -- Box b holds tally t. A tally of a box not below K is held by nobody; a superseded one is such a tally (`job_of`), so a box holds standing tallies alone.
  unfoldable pub held_by : ℕ → ℕ → Bool
  held_by t b = eqb (j.tally_box t) b && ltb b j.boxes

  -- Tally t counts: some box of the job, its own, holds it. In tables in range just the standing ones do (`StandingCount`).
  unfoldable pub held : ℕ → Bool
  held t = held_by t (j.tally_box t)

  -- The needs of an offer are the boxes holding a standing tally of it: box b is one of them.
  unfoldable pub needs : ℕ → ℕ → Bool
  needs o b = any j.tallies (λ t. held_by t b && eqb (j.tally_offer t) o)

  -- The sharers of a grocer likewise: box b holds a standing tally of it, and so has a part total of it, whatever the amount.
  unfoldable pub shares : ℕ → ℕ → Bool
  shares g b = any j.tallies (λ t. held_by t b && eqb (j.tally_grocer t) g)

  -- Needs and sharers are kept as 16-bit words with one bit for each box: the needs of offer o.
  unfoldable pub need_word : ℕ → ℕ
  need_word o = mask_of 16 (needs o)

  -- The sharers of grocer g.
  unfoldable pub sharer_word : ℕ → ℕ
  sharer_word g = mask_of 16 (shares g)

  -- Offer o stands in the message of prices from box a to box b: a owns it, and b, another box, needs it.
  unfoldable pub price_word : ℕ → ℕ → ℕ → Bool
  price_word a b o = eqb (j.offer_owner o) a && (not (eqb (j.offer_owner o) b) && needs o b)

  -- Grocer g stands in the message of totals from box a to box b: b owns it, and a, another box, has a part total of it.
  unfoldable pub total_word : ℕ → ℕ → ℕ → Bool
  total_word a b g = eqb (j.grocer_owner g) b && (not (eqb (j.grocer_owner g) a) && shares g a)

  -- There is a message of prices from box a to box b: its list is not empty.
  unfoldable pub prices_due : ℕ → ℕ → Bool
  prices_due a b = any j.offers (price_word a b)

  -- There is a message of totals from box a to box b.
  unfoldable pub totals_due : ℕ → ℕ → Bool
  totals_due a b = any j.grocers (total_word a b)

  -- Count × price of tally t, at the price p.
  unfoldable pub amount : ℕ → ℕ → ℤ
  amount p t = j.tally_count t *ℤ pos p

  -- The plain sum of grocer g: count × price over all its tallies that count. What every statement must come to.
  unfoldable pub plain_sum : ℕ → ℤ
  plain_sum g = sum integers j.tallies (λ t. only integers (held t && eqb (j.tally_grocer t) g) (amount (j.price (j.tally_offer t)) t))
