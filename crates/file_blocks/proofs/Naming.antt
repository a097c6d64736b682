-- The numbers of the offers' names, in a list, say which offers share a name and which offer a tally names. Assumes nothing.
use mathlib.Core.Path.{◌≡◌, sym, ap, ◌∙◌}
use mathlib.Core.Bool.{true}
use mathlib.Core.List.{List}
use Prim.Native.Nat.{ℕ, ◌<◌}
use native.Mathlib.Omega.{arith}
use lib.Dec.{eqb}
use lib.ListN.{get_or}
use Rattle.laws.specs.Below.{any, find}
use Rattle.laws.proofs.Below.{any_cong, find_cong}
use Rattle.format.specs.Codes.{Name, is_code, same_offer, name_number}
use Rattle.format.specs.Job.{FileJob, offer_name, tally_name, names, place_of, shared}
use Rattle.format.proofs.Codes.{same_name}

-- Offers whose codes are codes, and the numbers of their names.
module _ (j : FileJob) (numbers : List ℕ) (n : ℕ) (size : j.head.offers ≡ n) (codes : (i : ℕ) → i < n → is_code (j.offer i).code ≡ true)
    (right : (i : ℕ) → i < n → get_or numbers i 0 ≡ name_number (offer_name j i)) where
  -- An offer has the number of a name exactly where it has that name.
  one_name : (a : Name) → is_code a.code ≡ true → (i : ℕ) → i < n → eqb (get_or numbers i 0) (name_number a) ≡ same_offer (offer_name j i) a
  one_name a h i l = ap (λ (x : ℕ). eqb x (name_number a)) (right i l) ∙ sym (same_name (offer_name j i) a (codes i l) h)

  -- Two numbers are equal exactly where two offers share a name.
  pub shared_is : any n (λ i. any i (λ k. eqb (get_or numbers k 0) (get_or numbers i 0))) ≡ shared j
  unfolding shared
  shared_is =
      any_cong n _ (λ i. any i (λ k. same_offer (offer_name j k) (offer_name j i))) (λ i l.
      any_cong i _ (λ k. same_offer (offer_name j k) (offer_name j i)) (λ k m.
      ap (eqb (get_or numbers k 0)) (right i l) ∙ one_name (offer_name j i) (codes i l) k (omega arith)))
      ∙ ap (λ (m : ℕ). any m (λ i. any i (λ k. same_offer (offer_name j k) (offer_name j i)))) (sym size)

  -- The place of the number of a tally's name is the place of its offer.
  pub place_is : (t : ℕ) → is_code (j.tally t).code ≡ true → find n (λ i. eqb (get_or numbers i 0) (name_number (tally_name j t))) ≡ place_of j t
  unfolding place_of names
  place_is t h =
      find_cong n _ (λ i. same_offer (offer_name j i) (tally_name j t)) (one_name (tally_name j t) h)
      ∙ ap (λ (m : ℕ). find m (λ i. same_offer (offer_name j i) (tally_name j t))) (sym size)
