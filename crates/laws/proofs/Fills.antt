-- Tables whose first words std's `fill` and `copy_from_slice` wrote. Assumes nothing.
use mathlib.Core.Path.{◌≡◌, refl, ap, ◌∙◌}
use mathlib.Core.List.{List, [], ◌∷◌, ◌++◌}
use Prim.Native.Nat.{ℕ, zero, suc, ◌≤◌}
use lib.ListN.{length, get_or, take, drop, replicate}
use lib.Seq.{length-take-le, get_or-take}
use Rattle.laws.specs.Tables.{tabulate, overwrite}
use Rattle.laws.proofs.Tables.{is_tabulate}

module _ {A : Type 0} where
  -- A table of one word.
  pub replicate_tabulate : (n : ℕ) (v : A) → replicate n v ≡ tabulate n (λ i. v)
  unfolding tabulate
  replicate_tabulate zero v = refl
  replicate_tabulate (suc n) v = ap (λ (l : List A). v ∷ l) (replicate_tabulate n v)

  -- The first n words of a list are filled with one word.
  pub overwrite_fill : (n : ℕ) (v : A) (l l' : List A) → n ≤ length l → l' ≡ replicate (length (take n l)) v → l' ++ drop n l ≡ overwrite n (λ i. v) l
  unfolding overwrite
  overwrite_fill n v l l' h e =
      ap (λ (r : List A). r ++ drop n l) (e ∙ ap (λ (k : ℕ). replicate k v) (length-take-le n l h) ∙ replicate_tabulate n v)

  -- They are copied from another list.
  pub overwrite_copy : (n : ℕ) (xs l l' : List A) (z : A) → n ≤ length xs → l' ≡ take n xs → l' ++ drop n l ≡ overwrite n (λ i. get_or xs i z) l
  unfolding overwrite
  overwrite_copy n xs l l' z h e =
      ap (λ (r : List A). r ++ drop n l) (e ∙ is_tabulate (take n xs) n (λ i. get_or xs i z) z (length-take-le n xs h) (λ i q. get_or-take n xs i z q))
