-- The tests of a state, together. Assumes nothing.
-- Words below 2 are those up to 1.
use mathlib.Core.Path.{◌≡◌, sym, ◌∙◌}
use mathlib.Core.Bool.{Bool}
use mathlib.Core.List.{[], ◌∷◌, List}
use Prim.Native.Nat.{ℕ, ◌*◌}
use native.Mathlib.Omega.{arith}
use lib.Dec.{ltb}
use lib.ListN.{get_or}
use borrow.Author.Tests.{ltb-true, ltb-false, le-leb, lt-leb}
use Rattle.laws.specs.Limits.{max_price, max_amount, max_sent}
use Rattle.laws.specs.Checks.{all_of}
use Rattle.laws.specs.Lists.{list_words}
use Rattle.laws.proofs.Bools.{split}
use Rattle.laws.proofs.Below.{all_cong}
use Rattle.model.specs.Tables.{StateTables}
use Rattle.model.specs.Ranges.{up_to, under, around, state_in_range}
use Rattle.job_checks.specs.Sizes.{sizes}

under_two : (n : ℕ) (l : List ℕ) → under 2 n l ≡ up_to 1 n l
unfolding under up_to
under_two n l =
    all_cong n _ _ (λ i _.
    split (ltb (get_or l i 0) 2)
    (λ e. e ∙ sym (le-leb (get_or l i 0) 1 (omega (arith, ltb-true (get_or l i 0) 2 e))))
    (λ e. e ∙ sym (lt-leb (get_or l i 0) 1 (ltb-false (get_or l i 0) 2 e))))

-- The tests of the state's tables, at lengths that are the products of K, M, N and the number of lists.
pub words_tested : (k m n l : ℕ) (t : StateTables) (kn ml kk : ℕ) → kn ≡ k * list_words l n → ml ≡ list_words l m → kk ≡ 6 * k * k → (a b e g h : Bool) →
    a ≡ up_to max_price kn t.known → b ≡ up_to max_price kn t.price_transit → e ≡ around max_amount ml t.statement → g ≡ under 2 kk t.done → h ≡ up_to max_sent 1 t.sent →
    all_of (a ∷ b ∷ e ∷ g ∷ h ∷ []) ≡ state_in_range (sizes k m n l) t
unfolding state_in_range
words_tested k m n l t kn ml kk kn-is ml-is kk-is a b e g h a-is b-is e-is g-is h-is =
    rw (a-is, b-is, e-is, g-is, h-is, kn-is, ml-is, kk-is, under_two (6 * k * k) t.done)
