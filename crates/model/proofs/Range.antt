-- What the theory asks of a job: every owner, grocer and place is below its bound. Assumes nothing.
use mathlib.Core.Path.{◌≡◌}
use mathlib.Core.Bool.{true}
use Prim.Native.Nat.{ℕ, ◌<◌, ◌≤◌}
use lib.Dec.{eqb, ltb}
use borrow.Author.Tests.{eqb-true, ltb-true}
use Rattle.laws.proofs.Bools.{and_l, and_r}
use Rattle.model.specs.Job.{Job, held_by}

pub record InRange (j : Job) : Type 0 where
  pub owner< : (o : ℕ) → o < j.offers → j.offer_owner o < j.boxes
  pub grocerOwner< : (g : ℕ) → g < j.grocers → j.grocer_owner g < j.boxes
  pub grocer< : (t : ℕ) → t < j.tallies → j.tally_grocer t < j.grocers
  pub offer< : (t : ℕ) → t < j.tallies → j.tally_offer t < j.offers
  pub no_price : (o : ℕ) → j.offers ≤ o → j.price o ≡ 0
  pub boxes≤ : j.boxes ≤ 16

-- A tally that box b holds is of box b, which is below K.
pub held_box : (j : Job) (t b : ℕ) → held_by j t b ≡ true → j.tally_box t ≡ b
unfolding held_by
held_box j t b h = eqb-true (j.tally_box t) b (and_l (eqb (j.tally_box t) b) (ltb b j.boxes) h)

pub held_lt : (j : Job) (t b : ℕ) → held_by j t b ≡ true → b < j.boxes
unfolding held_by
held_lt j t b h = ltb-true b j.boxes (and_r (eqb (j.tally_box t) b) (ltb b j.boxes) h)
