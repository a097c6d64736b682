-- The first n words of a list, as a slice has them: a search over them. Assumes nothing.
use mathlib.Core.Path.{◌≡◌, ap, ◌∙◌}
use mathlib.Core.Bool.{Bool}
use mathlib.Core.List.{List}
use Prim.Native.Nat.{ℕ, ◌≤◌}
use native.Mathlib.Omega.{arith}
use lib.ListN.{length, length-take, get_or, take}
use lib.Seq.{get_or-take}
use Rattle.laws.specs.Below.{any}
use Rattle.laws.proofs.Below.{any_cong}

-- A search over them finds what one over the first n words of the whole finds.
pub any_taken : (p : ℕ → Bool) (n i : ℕ) (l : List ℕ) → n ≤ length l → i ≡ length (take n l) →
    any i (λ t. p (get_or (take n l) t 0)) ≡ any n (λ t. p (get_or l t 0))
any_taken p n i l h e =
    ap (λ (m : ℕ). any m (λ t. p (get_or (take n l) t 0))) (omega (arith, e, length-take n l))
    ∙ any_cong n _ _ (λ t m. ap p (get_or-take n l t 0 m))
