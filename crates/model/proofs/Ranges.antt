-- The closed form of a job in range is within the ranges of a state. Assumes nothing.
use mathlib.Core.Path.{◌≡◌, refl, sym, ◌∙◌}
use mathlib.Core.Bool.{Bool, true, false, ◌&&◌, not}
use Prim.Native.Nat.{ℕ, ◌+◌, ◌*◌, ◌≤◌}
use native.Mathlib.Omega.{arith}
use native.Mathlib.Nat.{mul-le-mul}
use lib.Dec.{eqb}
use lib.IntN.{ℤ, pos, nat_abs}
use Rattle.laws.specs.Below.{integers, sum, only, count}
use Rattle.laws.proofs.Bools.{split, cond_either, and_false}
use Rattle.laws.proofs.Sums.{sum_cong}
use Rattle.laws.proofs.Signed.{abs_times, sum_abs_count, only_abs}
use Rattle.laws.specs.Limits.{max_grocers, max_offers, max_tallies, max_price, max_count, max_amount, max_sent}
use Rattle.model.specs.Job.{held_by, Job, amount, held}
use Rattle.model.specs.Steps.{Steps, added, State}
use Rattle.model.specs.Boxes.{knows, price_on_way, gone, arrived, part_of, paid, state_by_rules}
use Rattle.model.proofs.Range.{InRange, held_box}
use Rattle.model.proofs.Parts.{part_zero, part_same}
use Rattle.model.proofs.Running.{by_box}
use Rattle.model.proofs.Words.{sent_most, owner_most}

-- Sizes and values as 01 limits them.
pub record Limits (j : Job) : Type 0 where
  pub grocers≤ : j.grocers ≤ max_grocers
  pub offers≤ : j.offers ≤ max_offers
  pub tallies≤ : j.tallies ≤ max_tallies
  pub ofGrocer≤ : (g : ℕ) → count j.tallies (λ t. eqb (j.tally_grocer t) g) ≤ max_tallies  -- tallies of one grocer
  pub price≤ : (o : ℕ) → j.price o ≤ max_price
  pub count≤ : (t : ℕ) → nat_abs (j.tally_count t) ≤ max_count

-- What bounds the words of a state: the words that offers and grocers can have sent, the tallies of one grocer, prices and counts.
pub record Bounds (j : Job) : Type 0 where
  pub words≤ : 15 * (j.offers + j.grocers) ≤ max_sent
  pub ofGrocer≤ : (g : ℕ) → count j.tallies (λ t. eqb (j.tally_grocer t) g) ≤ max_tallies
  pub price≤ : (o : ℕ) → j.price o ≤ max_price
  pub count≤ : (t : ℕ) → nat_abs (j.tally_count t) ≤ max_count

-- A state within its ranges.
pub record Within (s : State) : Type 0 where
  pub known≤ : (b o : ℕ) → s.known b o ≤ max_price
  pub priceTransit≤ : (b o : ℕ) → s.price_transit b o ≤ max_price
  pub working≤ : (b g : ℕ) → nat_abs (s.working b g) ≤ max_amount
  pub totalTransit≤ : (b g : ℕ) → nat_abs (s.total_transit b g) ≤ max_amount
  pub statement≤ : (g : ℕ) → nat_abs (s.statement g) ≤ max_amount
  pub sent≤ : s.sent ≤ max_sent

-- The bounds, each once: the amount of a tally, the amounts of one grocer, the words sent.
module _ (j : Job) (v : Bounds j) where
  abbrev max_product : ℕ
  max_product = 999_989_900_001

  -- Count × price of one tally.
  amount_most : (o t : ℕ) → nat_abs (amount j (j.price o) t) ≤ max_product
  unfolding amount
  amount_most o t = rw (abs_times (j.tally_count t) (pos (j.price o))) (omega (arith, mul-le-mul (v.count≤ t) (v.price≤ o)))

  -- Amounts of tallies of grocer g, those that pass p: there are at most so many tallies of one grocer.
  grocer_most : (p : ℕ → Bool) (g : ℕ) → ((t : ℕ) → eqb (j.tally_grocer t) g ≡ false → p t ≡ false) →
      nat_abs (sum integers j.tallies (λ t. only integers (p t) (amount j (j.price (j.tally_offer t)) t))) ≤ max_amount
  unfolding only integers
  grocer_most p g h =
      omega (
        arith,
        sum_abs_count j.tallies max_product (λ t. eqb (j.tally_grocer t) g) (λ t. only integers (p t) (amount j (j.price (j.tally_offer t)) t))
            (λ t l e. rw (h t e))
            (λ t l. only_abs (p t) (amount j (j.price (j.tally_offer t)) t) max_product (amount_most (j.tally_offer t) t)),
        v.ofGrocer≤ g,
      )

  -- No list sends more words than the owner tables have.
  words_most : InRange j → (d : Steps) → (state_by_rules j d).sent ≤ max_sent
  words_most r d = omega (arith, sent_most j r d, owner_most j r, v.words≤)

  part_abs : (p : ℕ → Bool) (b g : ℕ) → nat_abs (part_of j p b g) ≤ max_amount
  unfolding part_of
  part_abs p b g = grocer_most (λ t. held_by j t b && eqb (j.tally_grocer t) g && p t) g (λ t e. simp (e, and_false))

  -- A statement is a sum over tallies too.
  paid_part : (d : Steps) (g b : ℕ) → paid j d g b ≡ part_of j (λ t. arrived j d (j.tally_box t) g) b g
  unfolding paid only integers
  paid_part d g b =
      split (arrived j d b g)
      (λ e. rw e (part_same j (λ t. true) (λ t. arrived j d (j.tally_box t) g) b g (λ t l q _. sym (rw (held_box j t b q) e))))
      (λ e. rw e (sym (part_same j (λ t. arrived j d (j.tally_box t) g) (λ t. false) b g (λ t l q _. rw (held_box j t b q) e) ∙ part_zero j (λ t. false) b g (λ t. refl))))

  statement_abs : (d : Steps) (g : ℕ) → nat_abs (sum integers j.boxes (paid j d g)) ≤ max_amount
  statement_abs d g =
      rw (sum_cong integers j.boxes (paid j d g) (λ b. part_of j (λ t. arrived j d (j.tally_box t) g) b g) (λ b l. paid_part d g b)
      ∙ by_box j (λ t. arrived j d (j.tally_box t) g) g)
      (grocer_most (λ t. held j t && eqb (j.tally_grocer t) g && arrived j d (j.tally_box t) g) g (λ t e. simp (e, and_false)))

  pub form_within : InRange j → (d : Steps) → Within (state_by_rules j d)
  unfolding state_by_rules
  form_within r d = record {
    known≤ = λ b o. cond_either (λ (p : ℕ). p ≤ max_price) (knows j d b o) (j.price o) 0 (v.price≤ o) (omega arith);
    priceTransit≤ = λ b o. cond_either (λ (p : ℕ). p ≤ max_price) (price_on_way j d b o) (j.price o) 0 (v.price≤ o) (omega arith);
    working≤ = λ b g. cond_either (λ (z : ℤ). nat_abs z ≤ max_amount) (gone j d b g) (pos 0) (part_of j (added j d) b g) (omega arith) (part_abs (added j d) b g);
    totalTransit≤ = λ b g. cond_either (λ (z : ℤ). nat_abs z ≤ max_amount) (gone j d b g && not (arrived j d b g)) (part_of j (λ t. true) b g) (pos 0) (part_abs (λ t. true) b g) (omega arith);
    statement≤ = λ g. statement_abs d g;
    sent≤ = words_most r d;
  }
