-- Thirteen cycles behind. Assumes nothing.
use mathlib.Core.Path.{◌≡◌, refl, ap₂, ◌∙◌}
use mathlib.Core.Bool.{cond}
use Prim.Native.Nat.{ℕ, zero, suc}
use lib.Dec.{eqb}
use borrow.Author.Tests.{ne_eqb}
use Rattle.laws.specs.Checks.{first_met}
use Rattle.cycle_history.specs.Store.{Store, Given, StoreAnswer, store_after, store_refusals, store_refusal, refused, store_answer, store_outcome, stored}
use Rattle.cycle_history.proofs.Kept.{thirteen_cycles, stays_in, blank-empty}
use Rattle.guarantees.specs.CycleStore.{CycleStoreHolds}

-- A number that is not 0 refuses.
refuses : (n : ℕ) → (n ≡ 0 → ⊥) → store_answer n ≡ refused n
unfolding store_answer
refuses zero h = absurd (h refl)
refuses (suc n) h = refl

-- A refused call leaves the store.
leaves : (m : ℕ) (s : Store) (q : Given) → (first_met (store_refusals m s q) ≡ 0 → ⊥) → stored m s q ≡ store_outcome (refused (first_met (store_refusals m s q))) s
unfolding stored store_refusal
leaves m s q h = let n = first_met (store_refusals m s q) in rw (refuses n h, ne_eqb n 0 h)

pub cycle_store-holds : CycleStoreHolds
cycle_store-holds = record {
  runs = thirteen_cycles;
  zeros = blank-empty;
  refusal = leaves;
  in_range = stays_in;
}
