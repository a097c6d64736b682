-- The records of a job in another order: "the order in which records come" (02 §3).
use Rattle.std.specs.Prelude.{◌≡◌, false, ℕ}
use Rattle.laws.specs.Below.{Order}
use Rattle.format.specs.Job.{FileJob, bad_records, shared, unnamed}
use Rattle.format.specs.Same.{SameWords}

-- A job with its records in another order: tally t is its tally p t, and offer i, with its price on each list, its offer r i.
-- Grocers are told by their places, so they stay.
abbrev pub in_order : (p r : ℕ → ℕ) → FileJob → FileJob
in_order p r j =
    record {
      head = j.head;
      offer = λ i. j.offer (r i);
      grocer_owner = j.grocer_owner;
      list_price = λ q i. j.list_price q (r i);
      tally = λ t. j.tally (p t);
    }

-- j' has the records of j, each once, in another order.
pub record Rearranged (j j' : FileJob) (p q r s : ℕ → ℕ) : Type 0 where
  pub tallies : Order j.head.tallies p q
  pub offers : Order j.head.offers r s
  pub words : SameWords j' (in_order p r j)

-- 6, 7 and 8 are not met: codes are codes, no two offers have one name, and every tally names an offer.
pub record Named (j : FileJob) : Type 0 where
  pub codes : bad_records j ≡ false
  pub apart : shared j ≡ false
  pub named : unnamed j ≡ false
