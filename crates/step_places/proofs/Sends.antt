-- Which kinds send a message, by their numbers. Assumes nothing.
use mathlib.Core.Path.{◌≡◌, refl, sym}
use mathlib.Core.Bool.{true, false, ◌||◌, false≢true}
use mathlib.Core.List.{List, [], ◌∷◌}
use Prim.Native.Nat.{ℕ, zero, suc, ◌≤◌}
use native.Mathlib.Omega.{arith}
use lib.Dec.{eqb}
use lib.ListN.{length}
use Rattle.model.specs.Steps.{Kind, send_prices, multiply_own, receive_prices, send_totals, add_own, receive_totals, Step, kind_of}
use Rattle.model.specs.Words.{over, messages_of}

-- Kinds 1 and 4 send one,
pub sends_one : (n : ℕ) → n ≤ 6 → (eqb n 1 || eqb n 4) ≡ true → (a b : ℕ) → 1 ≡ messages_of (kind_of n) a b
unfolding messages_of kind_of
sends_one zero m h a b = absurd (false≢true h)
sends_one (suc zero) m h a b = refl
sends_one (suc (suc zero)) m h a b = absurd (false≢true h)
sends_one (suc (suc (suc zero))) m h a b = absurd (false≢true h)
sends_one (suc (suc (suc (suc zero)))) m h a b = refl
sends_one (suc (suc (suc (suc (suc zero))))) m h a b = absurd (false≢true h)
sends_one (suc (suc (suc (suc (suc (suc zero)))))) m h a b = absurd (false≢true h)
sends_one (suc (suc (suc (suc (suc (suc (suc n))))))) m h a b = absurd (omega arith)

-- the others none.
pub sends_none : (n : ℕ) → 1 ≤ n → n ≤ 6 → (eqb n 1 || eqb n 4) ≡ false → (a b : ℕ) → 0 ≡ messages_of (kind_of n) a b
unfolding messages_of kind_of
sends_none zero l m h a b = absurd (omega arith)
sends_none (suc zero) l m h a b = absurd (false≢true (sym h))
sends_none (suc (suc zero)) l m h a b = refl
sends_none (suc (suc (suc zero))) l m h a b = refl
sends_none (suc (suc (suc (suc zero)))) l m h a b = absurd (false≢true (sym h))
sends_none (suc (suc (suc (suc (suc zero))))) l m h a b = refl
sends_none (suc (suc (suc (suc (suc (suc n)))))) l m h a b = refl

-- None sends more than one: a list of steps has at most as many messages as steps.
pub one_each : (k : Kind) (a b : ℕ) → messages_of k a b ≤ 1
unfolding messages_of
one_each send_prices a b = omega arith
one_each multiply_own a b = omega arith
one_each receive_prices a b = omega arith
one_each send_totals a b = omega arith
one_each add_own a b = omega arith
one_each receive_totals a b = omega arith

pub sends_few : (xs : List Step) → over messages_of xs ≤ length xs
unfolding over
sends_few [] = omega arith
sends_few (x ∷ xs) = omega (arith, one_each x.kind x.first x.second, sends_few xs)
