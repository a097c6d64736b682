-- The tests of a finished state, table by table, told from need words, sharer words and the boxes of the tallies that stand.
use Rattle.std.specs.Prelude.{Bool, cond, ◌&&◌, ◌||◌, List, ℕ, suc, ◌+◌, ◌*◌, ◌≤◌, ◌<◌, eqb, ltb, ℤ, pos, nat_abs, ◌*ℤ◌, get_or, length}
use Rattle.laws.specs.Below.{all, sum, only, integers}
use Rattle.laws.specs.Limits.{max_offers, max_grocers, max_tallies, max_lists, max_price, max_count}
use Rattle.laws.specs.Masks.{bit}
use Rattle.job_masks.specs.Due.{due_at}
use Rattle.late_rules.specs.Late.{same_amount}

-- The n words from a place on are 0,
unfoldable pub no_words : (at n : ℕ) → List ℕ → Bool
no_words at n l = all n (λ i. eqb (get_or l (at + i) 0) 0)

-- and the first n amounts.
unfoldable pub no_amounts : ℕ → List ℤ → Bool
no_amounts n l = all n (λ i. same_amount (get_or l i (pos 0)) (pos 0))

-- ---- known prices

-- A box knows the price of an offer in the end: it owns the offer, or the need word has its bit.
abbrev pub knows_by : (owner needs : List ℕ) → ℕ → ℕ → Bool
knows_by owner needs b o = eqb (get_or owner o 0) b || bit b (get_or needs o 0)

-- The words of an entry from a place on are the prices of offer o of n, list after list, where the box knows them, else 0.
unfoldable pub right_words : (knows : Bool) (n width : ℕ) (price known : List ℕ) → (at o : ℕ) → Bool
right_words knows n width price known at o = all width (λ q. eqb (get_or known (at + q) 0) (cond knows (get_or price (q * n + o) 0) 0))

-- Row b of the known prices of n offers is right,
unfoldable pub right_row : (n width : ℕ) (price owner needs known : List ℕ) → ℕ → Bool
right_row n width price owner needs known b =
    all n (λ o. right_words (knows_by owner needs b o) n width price known (b * (n * width) + o * width) o)

-- and all k rows are.
unfoldable pub right_known : (k n width : ℕ) (price owner needs known : List ℕ) → Bool
right_known k n width price owner needs known = all k (right_row n width price owner needs known)

-- What the price side asks of its tables.
pub record PricesLent (k n lists : ℕ) (price owner needs known transit : List ℕ) : Type 0 where
  pub boxes≤ : k ≤ 16
  pub offers≤ : n ≤ max_offers
  pub lists≤ : lists ≤ max_lists
  pub price_long : n * suc lists ≤ length price
  pub owner_long : n ≤ length owner
  pub needs_long : n ≤ length needs
  pub known_long : k * (n * suc lists) ≤ length known
  pub transit_long : k * (n * suc lists) ≤ length transit

-- ---- statements

-- Count × price over the first t tallies of grocer g that a box below k holds, at the prices from a place on.
unfoldable pub sum_by : (k t : ℕ) (held grocer offer : List ℕ) (count : List ℤ) (price : List ℕ) (at : ℕ) → ℕ → ℤ
sum_by k t held grocer offer count price at g =
    sum integers t
    (λ i. only integers (ltb (get_or held i 0) k && eqb (get_or grocer i 0) g) (get_or count i (pos 0) *ℤ pos (get_or price (at + get_or offer i 0) 0)))

-- The statements of m grocers on list q, of width lists, are these sums,
unfoldable pub right_amounts : (m width q : ℕ) (statement : List ℤ) → (ℕ → ℤ) → Bool
right_amounts m width q statement sums = all m (λ g. same_amount (get_or statement (g * width + q) (pos 0)) (sums g))

-- and those on all lists are the plain sums of each, whose prices of n offers are lent list after list.
unfoldable pub right_statements : (k m n t width : ℕ) (held grocer offer : List ℕ) (count : List ℤ) (price : List ℕ) (statement : List ℤ) → Bool
right_statements k m n t width held grocer offer count price statement =
    all width (λ q. right_amounts m width q statement (sum_by k t held grocer offer count price (q * n)))

-- What the sums over t tallies ask of their tables, at the prices of n offers from a place on.
pub record ListLent (t n : ℕ) (held grocer offer : List ℕ) (count : List ℤ) (price : List ℕ) (at : ℕ) : Type 0 where
  pub tallies≤ : t ≤ max_tallies
  pub held_long : t ≤ length held
  pub grocer_long : t ≤ length grocer
  pub offer_long : t ≤ length offer
  pub count_long : t ≤ length count
  pub price_long : at + n ≤ length price
  pub grocer< : (i : ℕ) → i < t → get_or grocer i 0 < max_grocers
  pub offer< : (i : ℕ) → i < t → get_or offer i 0 < n
  pub count≤ : (i : ℕ) → i < t → nat_abs (get_or count i (pos 0)) ≤ max_count
  pub price≤ : (o : ℕ) → o < n → get_or price (at + o) 0 ≤ max_price

-- What adding tally i to a sum asks.
pub record TallyLent (held grocer offer : List ℕ) (count : List ℤ) (price : List ℕ) (at i : ℕ) : Type 0 where
  pub held_long : i < length held
  pub grocer_long : i < length grocer
  pub offer_long : i < length offer
  pub count_long : i < length count
  pub price_long : at + get_or offer i 0 < length price
  pub count≤ : nat_abs (get_or count i (pos 0)) ≤ max_count
  pub price≤ : get_or price (at + get_or offer i 0) 0 ≤ max_price

-- What the statements of m grocers ask: sizes in range, a word for each grocer and list, and the same for each list.
pub record SumsLent (m n t lists : ℕ) (held grocer offer : List ℕ) (count : List ℤ) (price : List ℕ) (statement : List ℤ) : Type 0 where
  pub grocers≤ : m ≤ max_grocers
  pub offers≤ : n ≤ max_offers
  pub lists≤ : lists ≤ max_lists
  pub statement_long : m * suc lists ≤ length statement
  pub each : (q : ℕ) → q < suc lists → ListLent t n held grocer offer count price (q * n)

-- ---- marks

-- The done marks of k boxes are those of the steps that the words tell, and no others.
unfoldable pub right_marks : (k : ℕ) (receivers senders done : List ℕ) → Bool
right_marks k receivers senders done = all (6 * k * k) (λ i. eqb (get_or done i 0) (cond (due_at k receivers senders i) 1 0))
