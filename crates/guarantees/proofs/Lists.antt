-- Several price lists in one evening. Assumes nothing.
use mathlib.Core.Path.{◌≡◌, sym, ap, ◌∙◌}
use Prim.Native.Nat.{ℕ, suc, ◌+◌, ◌*◌, ◌<◌, ◌≤◌}
use native.Mathlib.Omega.{arith}
use lib.IntN.{ℤ}
use lib.ListN.{drop, length}
use Rattle.model.specs.Job.{plain_sum}
use Rattle.model.specs.Tables.{JobTables, evening_of, job_lengths}
use Rattle.model.specs.Ranges.{Settles}
use Rattle.model.specs.Reconcile.{owed, reconciled}
use Rattle.model.specs.PriceLists.{only_list}
use Rattle.model.proofs.EveningJob.{one_evening_lem}
use Rattle.model.proofs.Lent.{job_long}
use Rattle.model.proofs.PriceLists.{same_steps_lem, each_list_lem}
use Rattle.model.proofs.ListTotals.{list_totals_lem}
use Rattle.guarantees.specs.Calls.{job_records}
use Rattle.guarantees.specs.Lists.{ListsHold}
use Rattle.guarantees.proofs.Desk.{answers}

-- The job with list q alone has its prices, and settles.
module _ (f : JobTables) (z : Settles f) (q : ℕ) (m : q < suc f.lists) where
  own_prices_lem : f.offers ≤ length (only_list f q).price
  unfolding job_lengths only_list
  own_prices_lem = let l = (job_long (only_list f q) (job_lengths (only_list f q)) (each_list_lem f z q m).settles.whole).price in omega (arith, l)

  desk_list : (g : ℕ) → g < f.grocers →
      reconciled f.grocers f.offers g (drop (q * f.offers) f.price) (job_records f) ≡ owed (plain_sum (evening_of f) (g * suc f.lists + q))
  unfolding only_list job_records
  desk_list g l =
      let alone = each_list_lem f z q m in
      answers (only_list f q) alone.settles.in_range alone.settles.once own_prices_lem g l ∙ ap (λ (x : ℤ). owed x) (sym (alone.sums g))

pub lists_hold : ListsHold
lists_hold = record {
  same_steps = same_steps_lem;
  each_list = each_list_lem;
  list_totals = list_totals_lem;
  one_list = one_evening_lem;
  desk = desk_list;
}
