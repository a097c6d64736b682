-- A run of cycles from an empty store: the sum kept up to date is the one added afresh from the history (02 §14).
use Rattle.std.specs.Prelude.{◌≡◌, Bool, true, cond, ◌&&◌, not, List, [], ◌∷◌, ℕ, suc, ◌-◌, ◌*◌, ◌<◌, ◌≤◌, max, ltb, eqb, ℤ, pos, ◌+ℤ◌, get_or, length}
use Rattle.laws.specs.Below.{sum, only, integers}
use Rattle.laws.specs.Tables.{tabulate}
use Rattle.laws.specs.Checks.{first_met}
use Rattle.model.specs.Ranges.{around}
use Rattle.cycle_history.specs.Store.{Store, store, Given, cycles, max_held, next_of, sum_of, amount_of, store_short, store_in_range, store_refusal, stored}

-- An empty store: every word that M needs is 0, and its tables are long enough. What stands behind these words does not matter.
pub record Empty (m : ℕ) (s : Store) : Type 0 where
  pub next : get_or s.next 0 0 ≡ 0
  pub held : (i : ℕ) → i < cycles * m → get_or s.held i (pos 0) ≡ pos 0
  pub sums : (g : ℕ) → g < m → get_or s.sums g (pos 0) ≡ pos 0
  pub next_long : 1 ≤ length s.next
  pub held_long : cycles * m ≤ length s.held
  pub sums_long : m ≤ length s.sums

-- The store that a host makes: 1 + 13 × M + M words, all 0.
abbrev pub blank : ℕ → Store
blank m = store (0 ∷ []) (tabulate (cycles * m) (λ i. pos 0)) (tabulate m (λ g. pos 0))

-- The cycles of a list are 16-bit numbers.
unfoldable pub fit16 : List Given → Bool
fit16 [] = true
fit16 (q ∷ qs) = ltb q.cycle 65_536 && fit16 qs

-- One more than the latest cycle of a history, 0 where there is none.
unfoldable pub latest : List Given → ℕ
latest [] = 0
latest (q ∷ qs) = max (suc q.cycle) (latest qs)

module _ (m : ℕ) where
  -- The store after calls one after the other, "nobody else writing it". Refused calls are among them.
  unfoldable pub after : Store → List Given → Store
  after s [] = s
  after s (q ∷ qs) = after (stored m s q).store qs

  -- The history: the calls among them that were not refused.
  unfoldable pub history : Store → List Given → List Given
  history s [] = []
  history s (q ∷ qs) = cond (eqb (store_refusal m s q) 0) (q ∷ history (stored m s q).store qs) (history (stored m s q).store qs)

  -- What a history has for cycle c and grocer g: "a cycle never stored counts as zero".
  unfoldable pub in_history : List Given → ℕ → ℕ → ℤ
  in_history [] c g = pos 0
  in_history (q ∷ qs) c g = only integers (eqb q.cycle c) (amount_of m q g) +ℤ in_history qs c g

  -- "the sum over the latest cycle and the twelve numbers before it", added afresh from a history. There is no number below 0.
  unfoldable pub afresh : List Given → ℕ → ℤ
  afresh qs g = sum integers cycles (λ i. only integers (ltb i (latest qs)) (in_history qs (latest qs - suc i) g))

  -- What refuses a call on a store that calls from an empty one have left: 20, 35 and 36, and never 21.
  unfoldable pub refusal_of : Store → Given → ℕ
  refusal_of s q = first_met ((store_short m s q, 20) ∷ (ltb q.cycle (next_of s), 35) ∷ (not (around max_held m q.amounts), 36) ∷ [])

-- The request: over every run of calls from an empty store of M grocers, M in range.
pub record ThirteenCycles (m : ℕ) (s : Store) : Type 0 where
  -- "the sum kept up to date is the one added afresh from the history".
  pub kept : (qs : List Given) (g : ℕ) → g < m → sum_of m (after m s qs) g ≡ afresh m (history m s qs) g
  -- The store knows the latest cycle of the history.
  pub latest_cycle : (qs : List Given) → next_of (after m s qs) ≡ latest (history m s qs)
  -- It stays in range, and a later call is refused by 20, 35 and 36 alone, in this order.
  pub in_range : (qs : List Given) → fit16 qs ≡ true → store_in_range m (after m s qs) ≡ true
  pub answers : (qs : List Given) (q : Given) → fit16 qs ≡ true → q.cycle < 65_536 → store_refusal m (after m s qs) q ≡ refusal_of m (after m s qs) q
  -- "An empty store takes any first cycle."
  pub first : (q : Given) → q.cycle < 65_536 → m ≤ length q.amounts → around max_held m q.amounts ≡ true → store_refusal m s q ≡ 0
