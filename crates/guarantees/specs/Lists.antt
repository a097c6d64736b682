-- Several price lists in one evening (02 §9): each list's amounts are those of an evening that had only that list.
use Rattle.std.specs.Prelude.{◌≡◌, ℕ, suc, ◌+◌, ◌*◌, ◌<◌, drop}
use Rattle.model.specs.Job.{plain_sum}
use Rattle.model.specs.Tables.{JobTables, job_of, evening_of}
use Rattle.model.specs.Ranges.{Settles}
use Rattle.model.specs.Reconcile.{owed, reconciled}
use Rattle.model.specs.PriceLists.{SameSteps, EachList, ListTotals}
use Rattle.guarantees.specs.Calls.{job_records}

-- What several price lists come to, whatever their number.
pub record ListsHold : Type 0 where
  -- "Steps do not change in number", and a message has for each entry one word per list.
  pub same_steps : (f : JobTables) → SameSteps f
  -- "Show the evening's result once over the number of lists, each list's amounts being those of an evening that had only that list":
  -- of every job that settles, at every step of every order, and with one price and one part total for each list.
  pub each_list : (f : JobTables) → Settles f → (q : ℕ) → q < suc f.lists → EachList f q
  -- A grocer's lists stand side by side in the packed tables.
  pub list_totals : (f : JobTables) → ListTotals f
  -- With one list the evening's job is the job: all is as before.
  pub one_list : (f : JobTables) → f.lists ≡ 0 → evening_of f ≡ job_of f
  -- The desk "goes on with one list": lent the prices of list q it answers every grocer's plain sum on that list.
  pub desk : (f : JobTables) → Settles f → (q : ℕ) → q < suc f.lists → (g : ℕ) → g < f.grocers →
      reconciled f.grocers f.offers g (drop (q * f.offers) f.price) (job_records f) ≡ owed (plain_sum (evening_of f) (g * suc f.lists + q))
