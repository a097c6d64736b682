-- The answer once every record is taken.
use Rattle.std.specs.Prelude.{◌≡◌, List, cond, ℕ, ◌<◌, ◌≤◌, get_or, length, ℤ, pos, nat_abs, Result, Ok, Err}
use Rattle.laws.specs.Below.{sum, only, integers}
use Rattle.recount.specs.Recount.{Counted, stands, counted_twice}
use Rattle.refusals.specs.declared.Refusal.{Refusal}
use Rattle.refusals.specs.declared.Refusal.TheVariants.{CountedTwice}

-- The answer where no record is refused: 9, or the sum of the shares of counts that stand.
unfoldable pub settled : Counted → List ℤ → Result ℤ Refusal
settled c shares =
    cond (counted_twice c) (Err CountedTwice) (Ok (sum integers c.size (λ t. only integers (stands c t) (get_or shares t (pos 0)))))

-- What the sum asks: keys and shares of at most 1,000 records, each share one of a record in range.
pub record Summable (len : ℕ) (keys : List ℕ) (shares : List ℤ) : Type 0 where
  pub few : len ≤ 1000
  pub keys_long : length keys ≡ 1000
  pub shares_long : length shares ≡ 1000
  pub small : (t : ℕ) → t < len → nat_abs (get_or shares t (pos 0)) ≤ 999_989_900_001
