-- Orders of steps: lists of their places, and the steps that a run picks, told from the steps done alone.
use Rattle.std.specs.Prelude.{◌≡◌, Bool, false, cond, List, [], ◌∷◌, map, ℕ, zero, suc, ◌<◌, eqb, get_or, take, drop}
use Rattle.model.specs.Job.{Job}
use Rattle.model.specs.Steps.{Steps, Step, step_at, mark, permitted}
use Rattle.model.specs.Words.{step_count}
use Rattle.model.specs.Run.{ready_count, pick, listed}

-- The steps of the first n words of an order: each word is the place of a step, of k boxes.
unfoldable pub steps_in : ℕ → ℕ → List ℕ → List Step
steps_in k n order = map (step_at k) (take n order)

-- The steps of d, and those of a list marked one after the other.
unfoldable pub mark_all : Steps → List Step → Steps
mark_all d [] = d
mark_all d (x ∷ xs) = mark_all (mark d x.kind x.first x.second) xs

-- No step.
abbrev pub no_steps : Steps
no_steps k a b = false

-- The steps that a run picks from where the steps of d are done, at most n: what model `picks` says of a state, told from its marks.
unfoldable pub picks_from : Job → ℕ → Steps → List ℕ → List Step
picks_from j zero d cs = []
picks_from j (suc n) d cs =
    let x = pick j d (get_or cs 0 0) in
    cond (eqb (ready_count j d) 0) [] (x ∷ picks_from j n (mark d x.kind x.first x.second) (drop 1 cs))

-- The steps that are left of it: at most as many as the job has.
unfoldable pub steps_left : Job → Steps → List ℕ → List Step
steps_left j d cs = picks_from j (step_count j) d cs

-- The step of a place is permitted where the steps of d are done.
abbrev pub permitted_at : Job → Steps → ℕ → Bool
permitted_at j d i = permitted j d (step_at j.boxes i).kind (step_at j.boxes i).first (step_at j.boxes i).second

-- No step of a place before i is ready.
unfoldable pub NoneBefore : Job → Steps → ℕ → Type 0
NoneBefore j d i = (x : ℕ) → x < i → listed j d x ≡ false
