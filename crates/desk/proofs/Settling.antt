-- The answer once all records are taken, by the tests that code makes. Assumes nothing.
use mathlib.Core.Path.{◌≡◌, refl, sym, ap, ◌∙◌}
use mathlib.Core.List.{List}
use mathlib.Core.Bool.{Bool, true, false, cond}
use Prim.Native.Nat.{ℕ}
use lib.ListN.{get_or, replicate}
use lib.Dec.{eqb}
use lib.IntN.{ℤ, pos}
use Rattle.std.specs.Prelude.{Ok, Err}
use Rattle.laws.specs.Below.{sum, only, integers}
use Rattle.laws.proofs.Loops.{get_d_zeros}
use Rattle.laws.proofs.Sums.{sum_cong}
use Rattle.recount.specs.Recount.{Counted, stands, counted_twice}
use Rattle.index.specs.Bags.{Struck}
use Rattle.desk_records.specs.Rows.{unmarked}
use Rattle.refusals.specs.declared.Refusal.TheVariants.{CountedTwice}
use Rattle.desk.specs.Serial.{settled}

pub refused_twice : (c : Counted) (shares : List ℤ) → counted_twice c ≡ true → Err CountedTwice ≡ settled c shares
unfolding settled
refused_twice c shares e = rw e

pub owed_sum : (c : Counted) (shares : List ℤ) (z : ℤ) → counted_twice c ≡ false →
    z ≡ sum integers c.size (λ t. only integers (stands c t) (get_or shares t (pos 0))) → Ok z ≡ settled c shares
unfolding settled
owed_sum c shares z e s = rw e (ap Ok s)

-- Marks of 16 on superseded counts: the shares without a mark are those that stand.
pub marks_stand : (c : Counted) (n : ℕ) (marks : List ℕ) (shares : List ℤ) → c.size ≡ n → Struck c n (replicate 1000 0) marks →
    unmarked n marks shares ≡ sum integers c.size (λ t. only integers (stands c t) (get_or shares t (pos 0)))
unfolding unmarked
marks_stand c n marks shares e s =
    sum_cong integers n (λ t. only integers (eqb (get_or marks t 0) 0) (get_or shares t (pos 0))) (λ t. only integers (stands c t) (get_or shares t (pos 0)))
    (λ t l. ap (λ (b : Bool). only integers b (get_or shares t (pos 0)))
    (ap (λ (x : ℕ). eqb x 0) (s.each t l ∙ ap (λ (x : ℕ). cond (stands c t) x 16) (get_d_zeros 1000 t 0)) ∙ no_mark (stands c t)))
    ∙ ap (λ (m : ℕ). sum integers m (λ t. only integers (stands c t) (get_or shares t (pos 0)))) (sym e)
  where
    no_mark : (b : Bool) → eqb (cond b 0 16) 0 ≡ b
    no_mark true = refl
    no_mark false = refl
