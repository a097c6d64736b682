-- The order of a run: the steps that it picks, one after the other, told from the steps done alone.
use Rattle.std.specs.Prelude.{◌≡◌, true, List, [], ◌++◌, ℕ, ◌+◌, ◌*◌, ◌≤◌, ◌<◌, length, get_or}
use Rattle.model.specs.Job.{Job}
use Rattle.model.specs.Steps.{Step}
use Rattle.model.specs.Tables.{steps_done, marks_of}
use Rattle.model.specs.Ranges.{under}
use Rattle.model.specs.Run.{run}
use Rattle.model.specs.Boxes.{Closed}
use Rattle.step_places.specs.Order.{steps_in, mark_all, no_steps, permitted_at, steps_left, NoneBefore}
use Rattle.step_rules.specs.Rules.{ReceiversOf, WaitsOf}
use Rattle.run_ready.specs.declared.Rules.{Rules}
use Rattle.run_ready.specs.Walk.{WalkIn}

-- A job of k boxes, at most 16, with these words of receivers and waits.
pub record OfJob (k : ℕ) (receivers : List ℕ) (waits : List (List ℕ)) (j : Job) : Type 0 where
  pub boxes_are : j.boxes ≡ k
  pub boxes_in : j.boxes ≤ 16
  pub some : 1 ≤ j.boxes
  pub receivers_are : ReceiversOf j receivers
  pub waits_are : WaitsOf j waits

-- There is one.
pub record SomeJob (k : ℕ) (receivers : List ℕ) (waits : List (List ℕ)) : Type 0 where
  pub job : Job
  pub of_it : OfJob k receivers waits job

-- The marks done' are those of the steps that they say are done, written over done.
unfoldable pub MarksFrom : ℕ → List ℕ → List ℕ → Type 0
MarksFrom k done done' = done' ≡ marks_of k (steps_done k done') done

-- The steps of a whole order: those picked, its first n words, and those that are still picked with the choices cs.
unfoldable pub whole_order : Job → List ℕ → List ℕ → ℕ → List ℕ → List Step
whole_order j done order n cs = steps_in j.boxes n order ++ steps_left j (steps_done j.boxes done) cs

-- The first n words of an order are places of steps, each permitted where those before it are done; these are the ones marked.
-- There is room for the whole order.
pub record Picked (j : Job) (done order : List ℕ) (n : ℕ) (cs : List ℕ) : Type 0 where
  pub closed : Closed j (steps_done j.boxes done)
  pub marks_are : steps_done j.boxes done ≡ mark_all no_steps (steps_in j.boxes n order)
  pub places_in : under (6 * j.boxes * j.boxes) n order ≡ true
  pub in_turn_lem : (i : ℕ) → i < n → permitted_at j (mark_all no_steps (steps_in j.boxes i order)) (get_or order i 0) ≡ true
  pub long : length order ≡ 1536
  pub in_order : n ≤ 1536
  pub few : length (whole_order j done order n cs) ≤ 1536

-- The same of an order alone, whatever is picked after it.
pub record SoFar (j : Job) (done order : List ℕ) (n : ℕ) : Type 0 where
  pub closed : Closed j (steps_done j.boxes done)
  pub marks_are : steps_done j.boxes done ≡ mark_all no_steps (steps_in j.boxes n order)
  pub places_in : under (6 * j.boxes * j.boxes) n order ≡ true
  pub in_turn_lem : (i : ℕ) → i < n → permitted_at j (mark_all no_steps (steps_in j.boxes i order)) (get_or order i 0) ≡ true
  pub long : length order ≡ 1536
  pub in_order : n ≤ 1536

-- A part of the picking goes from done, order, n and the choices cs to those with a mark: the whole order is the same.
pub record Kept (j : Job) (done order : List ℕ) (n : ℕ) (cs done' order' : List ℕ) (n' : ℕ) (cs' : List ℕ) : Type 0 where
  pub picked : Picked j done' order' n' cs'
  pub same : whole_order j done' order' n' cs' ≡ whole_order j done order n cs

-- The picking ends: the first n' words are the whole order.
pub record Ended (j : Job) (done order : List ℕ) (n : ℕ) (cs done' order' : List ℕ) (n' : ℕ) : Type 0 where
  pub picked : Picked j done' order' n' []
  pub ends : steps_in j.boxes n' order' ≡ whole_order j done order n cs

-- The place i is passed: no step up to it is ready any more.
pub record Passed (j : Job) (done order : List ℕ) (n i : ℕ) (done' order' : List ℕ) (n' : ℕ) : Type 0 where
  pub kept : Kept j done order n [] done' order' n' []
  pub none : NoneBefore j (steps_done j.boxes done') (i + 1)

-- What holds of every job with these words of receivers and waits.
abbrev pub EveryJob : ℕ → List ℕ → List (List ℕ) → (Job → Type 0) → Type 0
EveryJob k receivers waits P = (j : Job) → OfJob k receivers waits j → P j

-- What holds of every job with these rules.
abbrev pub EveryJobOf : Rules → (Job → Type 0) → Type 0
EveryJobOf r P = EveryJob r.boxes r.receivers.now r.waits.now P

-- What a walk by the rules of some job requires of the marks: they are as many as it needs, and those of the steps done alone.
abbrev pub MayWalk : Rules → List ℕ → Type 0
MayWalk r done = WalkIn r.boxes done × MarksFrom r.boxes done done × SomeJob r.boxes r.receivers.now r.waits.now

-- The whole order of the run with the choices cs: its first n words are the run's steps, each permitted in its turn, and these are the ones marked.
pub record Ordered (j : Job) (cs done order : List ℕ) (n : ℕ) : Type 0 where
  pub steps_are : steps_in j.boxes n order ≡ run j cs
  pub picked : Picked j done order n []
