-- The list of ready steps as code walks it: the step of a choice is found by counting, and without choices a cursor never goes back. Assumes nothing.
use mathlib.Core.Path.{◌≡◌, refl}
use mathlib.Core.Bool.{Bool, true, false, ◌&&◌, not}
use Prim.Native.Nat.{ℕ, zero, suc, ◌*◌, ◌/◌, ◌<◌, ◌≤◌}
use native.Mathlib.Omega.{arith}
use native.Mathlib.Nat.{le_trans, le-div_iff_mul-le, div-mul-le_self, div-lt_iff_lt-mul}
use Rattle.laws.proofs.Bools.{and_false}
use Rattle.laws.proofs.Tables.{pos_right}
use Rattle.model.specs.Job.{Job}
use Rattle.model.specs.Run.{listed}
use Rattle.model.specs.Steps.{Kind, kind_number, kind_of, Steps, mark, has_step, added, all_added, ready, permitted, send_prices, multiply_own, receive_prices, send_totals, add_own, receive_totals, step_at, places}
pub use Rattle.model.proofs.Machine.{number_place}
use Rattle.model.proofs.Reach.{mark_more, mark_it}

-- A number from 1 to 6 is that of its kind.
pub number_kind : (n : ℕ) → 1 ≤ n → n ≤ 6 → kind_number (kind_of n) ≡ n
number_kind zero h l = absurd (omega arith)
number_kind (suc n) h l = number_place n (omega arith)

-- A mark of a kind makes no step of the same or an earlier kind ready.
pub ready_earlier : (j : Job) (d : Steps) (k : Kind) (a b : ℕ) (k' : Kind) (a' b' : ℕ) → kind_number k' ≤ kind_number k → ready j (mark d k a b) k' a' b' ≡ ready j d k' a' b'
unfolding ready all_added added mark kind_number
ready_earlier j d k a b send_prices a' b' h = refl
ready_earlier j d k a b multiply_own a' b' h = refl
ready_earlier j d send_prices a b receive_prices a' b' h = absurd (omega arith)
ready_earlier j d multiply_own a b receive_prices a' b' h = absurd (omega arith)
ready_earlier j d receive_prices a b receive_prices a' b' h = refl
ready_earlier j d send_totals a b receive_prices a' b' h = refl
ready_earlier j d add_own a b receive_prices a' b' h = refl
ready_earlier j d receive_totals a b receive_prices a' b' h = refl
ready_earlier j d send_prices a b send_totals a' b' h = absurd (omega arith)
ready_earlier j d multiply_own a b send_totals a' b' h = absurd (omega arith)
ready_earlier j d receive_prices a b send_totals a' b' h = absurd (omega arith)
ready_earlier j d send_totals a b send_totals a' b' h = refl
ready_earlier j d add_own a b send_totals a' b' h = refl
ready_earlier j d receive_totals a b send_totals a' b' h = refl
ready_earlier j d send_prices a b add_own a' b' h = absurd (omega arith)
ready_earlier j d multiply_own a b add_own a' b' h = absurd (omega arith)
ready_earlier j d receive_prices a b add_own a' b' h = absurd (omega arith)
ready_earlier j d send_totals a b add_own a' b' h = absurd (omega arith)
ready_earlier j d add_own a b add_own a' b' h = refl
ready_earlier j d receive_totals a b add_own a' b' h = refl
ready_earlier j d send_prices a b receive_totals a' b' h = absurd (omega arith)
ready_earlier j d multiply_own a b receive_totals a' b' h = absurd (omega arith)
ready_earlier j d receive_prices a b receive_totals a' b' h = absurd (omega arith)
ready_earlier j d send_totals a b receive_totals a' b' h = absurd (omega arith)
ready_earlier j d add_own a b receive_totals a' b' h = absurd (omega arith)
ready_earlier j d receive_totals a b receive_totals a' b' h = refl

-- A quotient does not go down.
div_up : (k i p : ℕ) → 0 < k → i ≤ p → i / k ≤ p / k
div_up k i p h l = (le-div_iff_mul-le h).1 (le_trans (div-mul-le_self i k) l)

-- Kinds go up with their numbers from 1 to 6.
number_up : (n m : ℕ) → n ≤ m → m < 6 → kind_number (kind_of (suc n)) ≤ kind_number (kind_of (suc m))
number_up n m h l = rw (number_place n (omega arith), number_place m l) (omega arith)

module _ (j : Job) (d : Steps) (p : ℕ) (l : p < places j.boxes) where
  some : 0 < j.boxes
  some = pos_right (6 * j.boxes) j.boxes p l

  -- Places go by kind first.
  kind_up : (i : ℕ) → i < p → kind_number (step_at j.boxes i).kind ≤ kind_number (step_at j.boxes p).kind
  unfolding step_at
  kind_up i h =
      number_up (i / j.boxes / j.boxes) (p / j.boxes / j.boxes)
      (div_up j.boxes (i / j.boxes) (p / j.boxes) some (div_up j.boxes i p some (omega arith)))
      ((div-lt_iff_lt-mul some).1 ((div-lt_iff_lt-mul some).1 l))

  -- What is not ready before the step of place p is not ready after it, at any earlier place.
  pub listed_kept : (i : ℕ) → i < p → listed j d i ≡ false → listed j (mark d (step_at j.boxes p).kind (step_at j.boxes p).first (step_at j.boxes p).second) i ≡ false
  unfolding listed permitted
  listed_kept i h e =
      rw (ready_earlier j d (step_at j.boxes p).kind (step_at j.boxes p).first (step_at j.boxes p).second (step_at j.boxes i).kind (step_at j.boxes i).first (step_at j.boxes i).second (kind_up i h))
      (still (has_step j (step_at j.boxes i).kind (step_at j.boxes i).first (step_at j.boxes i).second) (d (step_at j.boxes i).kind (step_at j.boxes i).first (step_at j.boxes i).second)
      (mark d (step_at j.boxes p).kind (step_at j.boxes p).first (step_at j.boxes p).second (step_at j.boxes i).kind (step_at j.boxes i).first (step_at j.boxes i).second)
      (ready j d (step_at j.boxes i).kind (step_at j.boxes i).first (step_at j.boxes i).second)
      (mark_more d (step_at j.boxes p).kind (step_at j.boxes p).first (step_at j.boxes p).second (step_at j.boxes i).kind (step_at j.boxes i).first (step_at j.boxes i).second) e)
    where
      still : (has was is ready : Bool) → (was ≡ true → is ≡ true) → (has && (not was && ready)) ≡ false → (has && (not is && ready)) ≡ false
      still false was is ready f e = refl
      still true true is ready f e = rw (f refl)
      still true false true ready f e = refl
      still true false false ready f e = e

  -- The step itself is done.
  pub listed_done : listed j (mark d (step_at j.boxes p).kind (step_at j.boxes p).first (step_at j.boxes p).second) p ≡ false
  unfolding listed permitted
  listed_done = rw (mark_it d (step_at j.boxes p).kind (step_at j.boxes p).first (step_at j.boxes p).second) (and_false (has_step j (step_at j.boxes p).kind (step_at j.boxes p).first (step_at j.boxes p).second))
