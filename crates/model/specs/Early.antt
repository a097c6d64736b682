-- 02 §6, "Totals that leave early": when steps 4 and 5 may be done, told from the words of the job's tables, whatever the number of price lists.
use Rattle.std.specs.Prelude.{◌≡◌, true, false, cond, ℕ, ◌<◌, get_or}
use Rattle.laws.specs.Checks.{first_met}
use Rattle.recount.specs.Recount.{stands}
use Rattle.model.specs.Steps.{send_totals, add_own, Steps, has_step, added, ready}
use Rattle.model.specs.Tables.{JobTables, counted_of, job_of, evening_of}
use Rattle.model.specs.Step.{asked, step_rules}

module _ (f : JobTables) where
  -- Tally t stands, box a holds it, and box b owns its grocer.
  pub record StandingFor (a b t : ℕ) : Type 0 where
    pub inside : t < f.tallies
    pub standing : stands (counted_of f) t ≡ true
    pub tally_box : get_or f.tally_box t 0 ≡ a
    pub grocer_owner : get_or f.grocer_owner (get_or f.tally_grocer t 0) 0 ≡ b

  -- Every standing tally that box a holds of box b's grocers has been added, where the steps of d are done.
  unfoldable pub StandingAdded : Steps → ℕ → ℕ → Type 0
  StandingAdded d a b = (t : ℕ) → StandingFor a b t → added (job_of f) d t ≡ true

-- In tables in range, where the steps of d are done:
pub record EarlyTotals (f : JobTables) (d : Steps) : Type 0 where
  -- "A box may send totals to another as soon as every standing tally it holds of that box's grocers has been added": then step 4 is ready,
  pub sends : (a b : ℕ) → StandingAdded f d a b → ready (evening_of f) d send_totals a b ≡ true
  -- and not before.
  pub sends_only : (a b : ℕ) → ready (evening_of f) d send_totals a b ≡ true → StandingAdded f d a b
  -- "It may add its own totals as soon as this is so of its own grocers": step 5,
  pub adds : (a : ℕ) → StandingAdded f d a a → ready (evening_of f) d add_own a a ≡ true
  -- and not before.
  pub adds_only : (a : ℕ) → ready (evening_of f) d add_own a a ≡ true → StandingAdded f d a a
  -- "From the start if it has none", whatever steps are done.
  pub from_start : (a : ℕ) → ((t : ℕ) → StandingFor f a a t → ⊥) → ready (evening_of f) d add_own a a ≡ true
  -- Condition 26 follows: a step 4 or 5 that the job has and that is not done is refused with 26 just where it is not ready, and with no other number.
  pub send_refusal : (a b : ℕ) → has_step (evening_of f) send_totals a b ≡ true → d send_totals a b ≡ false →
      first_met (step_rules (evening_of f) d (asked 4 a b)) ≡ cond (ready (evening_of f) d send_totals a b) 0 26
  pub add_refusal : (a : ℕ) → has_step (evening_of f) add_own a a ≡ true → d add_own a a ≡ false →
      first_met (step_rules (evening_of f) d (asked 5 a a)) ≡ cond (ready (evening_of f) d add_own a a) 0 26
