-- A list put into a table. Assumes nothing.
use mathlib.Core.Path.{◌≡◌}
use mathlib.Core.Bool.{cond, ◌&&◌}
use mathlib.Core.List.{List}
use Prim.Native.Nat.{ℕ, ◌+◌, ◌-◌, ◌<◌}
use native.Mathlib.Omega.{arith}
use lib.Dec.{ltb, leb}
use lib.ListN.{length}
use borrow.Author.Tests.{ltb-true, le-leb}
use Rattle.laws.proofs.Bools.{split}
use Rattle.model.specs.Spans.{in_span}
use Rattle.book_sort.specs.Sort.{at}
use mathlib.Core.List.{◌++◌}
use lib.ListN.{get_or, take, drop}
use Prim.Native.Nat.{◌≤◌}
use borrow.Author.Tests.{ltb-false, lt-leb}
use Rattle.std.proofs.lemmas.Grind.{common_steps}
use Rattle.laws.proofs.Tables.{is_tabulate}
use Rattle.book_places.specs.Spots.{put_at}

-- A list put whole: what stands before, the list, and what stands behind.
pub put_whole : (list : List ℕ) (l start : ℕ) (old : List ℕ) → l ≤ length list → start + l ≤ length old → take start old ++ (take l list ++ drop l (drop start old)) ≡ put_at list l start old
unfolding put_at in_span
put_whole list l start old hl ho =
    is_tabulate (take start old ++ (take l list ++ drop l (drop start old))) (length old) _ 0 (grind (arith, common_steps)) (λ k hk. each k hk)
  where
    each : (k : ℕ) → k < length old → get_or (take start old ++ (take l list ++ drop l (drop start old))) k 0 ≡ cond (leb start k && ltb k (start + l)) (at list (k - start)) (at old k)
    each k hk =
        split (ltb k start)
        (λ q. rw (lt-leb start k (ltb-true k start q)) (grind (arith, common_steps)))
        (λ q. let s = ltb-false k start q in
        split (ltb k (start + l))
        (λ r. let t = ltb-true k (start + l) r in rw (le-leb start k s, r) (grind (arith, common_steps)))
        (λ r. let t = ltb-false k (start + l) r in rw (le-leb start k s, r) (grind (arith, common_steps))))
