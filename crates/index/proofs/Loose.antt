-- Where every bag is 0, 9 is not met and all tallies stand. Assumes nothing.
use mathlib.Core.Path.{◌≡◌, sym, ap, ◌∙◌}
use mathlib.Core.Bool.{Bool, true, false, cond}
use mathlib.Core.List.{List}
use Prim.Native.Nat.{ℕ, ◌<◌, ◌≤◌}
use native.Mathlib.Omega.{arith}
use lib.ListN.{length, get_or}
use Rattle.laws.proofs.Bools.{split, clash}
use Rattle.recount.specs.Recount.{Counted, loose, counted_twice}
use Rattle.index.specs.Bags.{Struck}
use Rattle.recount.proofs.Recount.{twice-find, loose_stands_lem}

-- Where all are loose coupons,
module _ (c : Counted) (all : (t : ℕ) → t < c.size → loose c t ≡ true) where
  -- 9 is not met,
  pub loose_once : counted_twice c ≡ false
  loose_once =
      split (counted_twice c)
      (λ e. let (t, u, lt, lu, off, s, r) = twice-find c e in absurd (clash (all t lt) off))
      (λ e. e)

  -- and all stand.
  pub loose_struck : {n : ℕ} → c.size ≡ n → (before after : List ℕ) → n ≤ length after → ((t : ℕ) → t < n → get_or after t 0 ≡ get_or before t 0) → Struck c n before after
  loose_struck e before after long d = record {
    long = long;
    each = λ t l. d t l ∙ ap (λ (b : Bool). cond b (get_or before t 0) 16) (sym (loose_stands_lem c t (all t (omega arith))));
  }
