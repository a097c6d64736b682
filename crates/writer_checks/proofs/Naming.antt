-- The numbers of the names, and what they and the bags say of 7, 8 and 9. Assumes nothing.
use mathlib.Core.Path.{◌≡◌, sym, ap, ◌∙◌}
use mathlib.Core.Bool.{Bool, true, false, cond}
use mathlib.Core.List.{List, [], ◌∷◌}
use Prim.Native.Nat.{ℕ, ◌<◌}
use lib.ListN.{get_or}
use Rattle.laws.specs.Checks.{first_met}
use Rattle.laws.proofs.Tables.{word_in_lem}
use Rattle.recount.specs.Recount.{columns, counted_twice}
use Rattle.index.specs.Index.{shares_number, place_of as place_in}
use Rattle.format.specs.Codes.{Name, is_code, name_number}
use Rattle.format.specs.Job.{Head, FileJob, offer_name, place_of, shared, counted_tallies}
use Rattle.format.specs.Tables.{name_in}
use Rattle.file_blocks.specs.Fills.{Placed}
use Rattle.writer_checks.specs.Rows.{Codes, Indexed, Keyed, Finds, HasNames, HasBags}
use Rattle.format.proofs.Same.{twice_cong}
use Rattle.file_blocks.proofs.Naming as naming

module _ (j : FileJob) (code issuer tcode tissuer keys order : List ℕ) (h : Head) (has : HasNames j code issuer tcode tissuer h)
    (x : Indexed code issuer keys order h.offers) (codes : Codes code h.offers) where
  size : j.head.offers ≡ h.offers
  size = ap (λ (h : Head). h.offers) has.head

  code_is : (i : ℕ) → i < h.offers → is_code (j.offer i).code ≡ true
  code_is i l = ap (λ (a : Name). is_code a.code) (has.offer i) ∙ codes.code i l

  number_is : (i : ℕ) → i < h.offers → get_or x.numbers i 0 ≡ name_number (offer_name j i)
  number_is i l = x.right i l ∙ ap name_number (sym (has.offer i))

  -- Two numbers are equal where two offers share a name.
  shared_is : shares_number x.numbers h.offers ≡ shared j
  unfolding shares_number
  shared_is = naming.shared_is j x.numbers h.offers size code_is number_is

  place_is : (i : ℕ) → is_code (name_in tcode tissuer i).code ≡ true → place_in x.numbers h.offers (name_number (name_in tcode tissuer i)) ≡ place_of j i
  unfolding place_in
  place_is i c =
      ap (λ (a : Name). place_in x.numbers h.offers (name_number a)) (sym (has.tally i))
      ∙ naming.place_is j x.numbers h.offers size code_is number_is i (ap (λ (a : Name). is_code a.code) (has.tally i) ∙ c)

  -- So the index is that of the job.
  pub keyed : Keyed j keys order tcode tissuer h.offers h.tallies
  keyed =
      record { offers = size; tallies = ap (λ (h : Head). h.tallies) has.head; numbers = x.numbers; index = x.index; shares = shared_is; place = place_is }

-- Where no two offers share a name, the tallies find theirs by it.
pub finds : {j : FileJob} {keys order tcode tissuer : List ℕ} {n t : ℕ} (k : Keyed j keys order tcode tissuer n t) → shares_number k.numbers n ≡ false → Finds j keys order tcode tissuer n
finds k d = record { size = k.offers; numbers = k.numbers; index = k.index; apart = d; place = k.place }

-- 9 of tables of tallies with the places of their offers is that of the job.
pub twice_is : (j : FileJob) (grocer places bag revision : List ℕ) (t : ℕ) → j.head.tallies ≡ t → HasBags j grocer bag revision → Placed j places t →
    counted_twice (columns t grocer places bag revision) ≡ counted_twice (counted_tallies j)
unfolding counted_tallies
twice_is j grocer places bag revision t e b p =
    twice_cong (columns t grocer places bag revision) (counted_tallies j) (sym e)
    (λ i l. word_in_lem t grocer 0 i (rw e at l) ∙ sym (b.grocer i))
    (λ i l. word_in_lem t places 0 i (rw e at l) ∙ p.at i (rw e at l))
    (λ i l. word_in_lem t bag 0 i (rw e at l) ∙ sym (b.bag i))
    (λ i l. word_in_lem t revision 0 i (rw e at l) ∙ sym (b.revision i))

-- 7 and 8 in their order.
pub seven : (a b : Bool) → a ≡ true → first_met ((a, 7) ∷ (b, 8) ∷ []) ≡ 7
unfolding first_met
seven a b e = rw e

pub not_seven : (a b : Bool) → a ≡ false → first_met ((a, 7) ∷ (b, 8) ∷ []) ≡ cond b 8 0
unfolding first_met
not_seven a b e = rw e
