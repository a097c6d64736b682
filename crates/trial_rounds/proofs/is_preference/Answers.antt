-- `trial_rounds::is_preference` meets its contract. Assumes nothing.
use mathlib.Core.Path.{◌≡◌, refl}
use mathlib.Core.Bool.{Bool, true, false}
use Prim.Native.Nat.{ℕ}
use lib.Dec.{eqb}
use lib.ListN.{get_or}
use Rattle.std.proofs.Common.{rules, tests}
use Rattle.std.proofs.lemmas.Iterator.{YieldsList-from_range, cases_from_all}
use Rattle.laws.specs.Below.{count}
use Rattle.trial_rules.specs.Rounds.{is_preference}
use Rattle.trial_rounds.proofs.Taken.{all_range}
use Rattle.trial_rounds.proofs.is_preference.Goals as goal

pub returns : goal.returns
unfolding is_preference
returns c =
    let once : ℕ → Bool = λ kind. eqb (count 6 (λ i. eqb (get_or c.args.list.now i 0) kind)) 1 in
    let tested = cases_from_all _ _ c.all.result (λ x. once x ≡ true) (λ x. once x ≡ false) c.all.ensures.ran (YieldsList-from_range 1 7 6 refl refl)
    (λ x q k. search (rules, tests)) (λ x q k. search (rules, tests)) in
    all_range once c.all.result tested
