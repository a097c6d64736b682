-- Rounds told from the steps done alone, and what taking them requires and leaves.
use Rattle.std.specs.Prelude.{◌≡◌, Bool, true, false, cond, List, [], ◌∷◌, ◌++◌, ℕ, zero, suc, ◌+◌, ◌-◌, ◌*◌, ◌/◌, ◌%◌, ◌≤◌, ◌<◌, eqb}
use Rattle.std.specs.Prelude.{length, get_or, set, Option, Some, None}
use Rattle.laws.specs.Below.{any, find}
use Rattle.step_places.specs.declared.Step.{Step as Numbered}
use Rattle.model.specs.Job.{Job}
use Rattle.model.specs.Steps.{Steps, Step, kind_of}
use Rattle.model.specs.Words.{step_count}
use Rattle.model.specs.Tables.{steps_done}
use Rattle.model.specs.Run.{ready_count}
use Rattle.step_places.specs.Marks.{marked}
use Rattle.step_places.specs.Order.{steps_in, mark_all, no_steps}
use Rattle.step_places.specs.Places.{PlaceIn, here}
use Rattle.step_rules.specs.Rules.{permitted_by}
use Rattle.run_ready.specs.Walk.{listed_by}
use Rattle.run_ready.specs.declared.ReadyRows.{ReadyRows}
use Rattle.run_ready.specs.Rows.{IsRows}
use Rattle.run_order.specs.Order.{MarksFrom, SoFar}
use Rattle.trial_rules.specs.Rounds.{is_preference, round, taken_steps}

-- What a box's choice requires: 1 to 16 boxes, and a preference list.
pub record Liking (k : ℕ) (list : List ℕ) : Type 0 where
  pub some : 1 ≤ k
  pub boxes_in : k ≤ 16
  pub long : 6 ≤ length list
  pub is_list : is_preference list ≡ true

-- The step of box a that stands at place i of its preferences, of k boxes, is one of those whose places f tells.
abbrev pub likes : ℕ → List ℕ → (ℕ → Bool) → ℕ → ℕ → Bool
likes k list f a i = f (here k (get_or list (i / k) 0) a (i % k))

-- A step of box a is the first that it likes.
pub record First (k : ℕ) (list : List ℕ) (f : ℕ → Bool) (a kind first second : ℕ) : Type 0 where
  pub place_in : PlaceIn k kind a second
  pub first_is : first ≡ a
  pub likes_one : any (6 * k) (likes k list f a) ≡ true
  pub kind_is : get_or list (find (6 * k) (likes k list f a) / k) 0 ≡ kind
  pub second_is : find (6 * k) (likes k list f a) % k ≡ second

-- The step that box a takes of those that f tells: the first that it likes, or none.
abbrev pub Best : (k : ℕ) (list : List ℕ) (f : ℕ → Bool) (a : ℕ) → Option Numbered → Type 0
Best k list f a None = any (6 * k) (likes k list f a) ≡ false
Best k list f a (Some p) = First k list f a p.kind p.first p.second

-- A step that may be taken: a place that is ready, and room for it in the order.
pub record Ready (k kind a b : ℕ) (receivers : List ℕ) (waits : List (List ℕ)) (n : ℕ) (done : List ℕ) : Type 0 where
  pub place_in : PlaceIn k kind a b
  pub is_open : permitted_by receivers waits (steps_done k done) (kind_of kind) a b ≡ true
  pub room : n < 1536

-- What taking a step requires, where there is one.
pub record ActIn (k : ℕ) (s : Option Numbered) (receivers : List ℕ) (waits : List (List ℕ)) (n : ℕ) (done : List ℕ) (rows : ReadyRows) : Type 0 where
  pub marks_from : MarksFrom k done done
  pub rows_are : IsRows k (listed_by k receivers waits done) rows
  pub may : (p : Numbered) → s ≡ Some p → Ready k p.kind p.first p.second receivers waits n done

-- What it leaves: the step is marked and is word n of the order; no step changes nothing.
pub record Acted (k : ℕ) (s : Option Numbered) (receivers : List ℕ) (waits : List (List ℕ)) (n : ℕ) (done order done' : List ℕ) (rows' : ReadyRows)
    (order' : List ℕ) (n' : ℕ) : Type 0 where
  pub marks_from : MarksFrom k done done'
  pub rows_are : IsRows k (listed_by k receivers waits done') rows'
  pub none : s ≡ None → (done' ≡ done) × (order' ≡ order) × (n' ≡ n)
  pub some : (p : Numbered) → s ≡ Some p →
      (done' ≡ marked k (kind_of p.kind) p.first p.second done) × (order' ≡ set order n (here k p.kind p.first p.second)) × (n' ≡ n + 1)

-- The first a boxes have had their turn in a round that began with done, order and n.
pub record RoundPart (j : Job) (list done order : List ℕ) (n a : ℕ) (done' order' : List ℕ) (n' : ℕ) : Type 0 where
  pub so_far : SoFar j done' order' n'
  pub steps : steps_in j.boxes n' order' ≡ steps_in j.boxes n order ++ round j list (steps_done j.boxes done) a

-- The rounds from where the steps of d are done, at most n: what trial_rules `rounds` says of a state, told from its marks.
unfoldable pub rounds_from : Job → List ℕ → ℕ → Steps → List (List Step)
rounds_from j list zero d = []
rounds_from j list (suc n) d =
    let r = round j list d j.boxes in
    cond (eqb (ready_count j d) 0) [] (r ∷ rounds_from j list n (mark_all d r))

-- All rounds of a trial.
unfoldable pub rounds_of : Job → List ℕ → List (List Step)
rounds_of j list = rounds_from j list (step_count j) no_steps

-- Those that are left after r rounds, where the steps of the marks are done.
unfoldable pub rounds_left : Job → List ℕ → ℕ → List ℕ → List (List Step)
rounds_left j list r done = rounds_from j list (step_count j - r) (steps_done j.boxes done)

-- After r rounds of a trial: an order of n steps, and what is left.
pub record AfterRounds (j : Job) (list done order : List ℕ) (n r : ℕ) : Type 0 where
  pub so_far : SoFar j done order n
  pub steps : steps_in j.boxes n order ++ taken_steps (rounds_left j list r done) ≡ taken_steps (rounds_of j list)
  pub rounds : r + length (rounds_left j list r done) ≡ length (rounds_of j list)
  pub slow : r ≤ n

-- The whole order of a trial: its first n words are the steps of all r rounds, each permitted in its turn, and these are the ones marked.
pub record AllRounds (j : Job) (list done order : List ℕ) (n r : ℕ) : Type 0 where
  pub so_far : SoFar j done order n
  pub steps_are : steps_in j.boxes n order ≡ taken_steps (rounds_of j list)
  pub rounds_are : r ≡ length (rounds_of j list)
