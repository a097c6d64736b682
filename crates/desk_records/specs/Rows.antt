-- The desk's records one after the other: of each a key and a share are kept, and the number of the first refusal.
use Rattle.std.specs.Prelude.{◌≡◌, List, true, cond, ℕ, ◌+◌, ◌*◌, ◌<◌, ◌≤◌, eqb, get_or, length, set, ℤ, pos, ◌*ℤ◌}
use Rattle.laws.specs.Below.{only, integers, sum}
use Rattle.laws.specs.Limits.{max_price}
use Rattle.model.specs.Ranges.{up_to}
use Rattle.model.specs.Reconcile.{TallyRecord, record_in_range}
use Rattle.desk_records.specs.declared.Tally.{Tally}

-- A record by its fields: grocer, box, place, count, bag and revision.
abbrev pub tally_record : ℕ → ℕ → ℕ → ℤ → ℕ → ℕ → TallyRecord
tally_record g b o c s v = record { grocer = g; tally_box = b; place = o; count = c; bag = s; revision = v }

-- A lent record by its fields.
abbrev pub record_of : Tally → TallyRecord
record_of t = tally_record t.grocer t.tally_box t.place t.count t.bag t.revision

-- What one record adds to the amount of grocer g.
abbrev pub share : List ℕ → ℕ → TallyRecord → ℤ
share prices g r = only integers (eqb r.grocer g) (r.count *ℤ pos (get_or prices r.place 0))

-- The key of a record.
unfoldable pub record_key : TallyRecord → ℕ
record_key r = ((r.grocer * 512 + r.place) * 65_536 + r.bag) * 65_536 + r.revision

-- The number of the first refusal with one record more: a number that is not 0 stays.
unfoldable pub with_number : ℕ → ℕ → ℕ → TallyRecord → ℕ
with_number m n k r = cond (eqb k 0) (cond (record_in_range m n r) 0 21) k

-- What taking record i asks: it is one of 1,000, and every place below n has a price in range.
pub record Takes (n : ℕ) (prices : List ℕ) (i : ℕ) : Type 0 where
  pub few : i < 1000
  pub long : n ≤ length prices
  pub priced : up_to max_price n prices ≡ true

-- Record i is kept: its key and its share are stored.
pub record Kept (prices : List ℕ) (g i : ℕ) (r : TallyRecord) (keys keys' : List ℕ) (shares shares' : List ℤ) : Type 0 where
  pub key : keys' ≡ set keys i (record_key r)
  pub worth : shares' ≡ set shares i (share prices g r)
  pub bag : r.bag < 65_536
  pub revision : r.revision < 65_536

-- Record i is looked at: the number with it, and what is kept where there is no refusal.
pub record Took (prices : List ℕ) (m n g k i : ℕ) (r : TallyRecord) (keys keys' : List ℕ) (shares shares' : List ℤ) (k' : ℕ) : Type 0 where
  pub number : k' ≡ with_number m n k r
  pub kept : k' ≡ 0 → Kept prices g i r keys keys' shares shares'

-- The sum of the shares that are not marked.
unfoldable pub unmarked : ℕ → List ℕ → List ℤ → ℤ
unmarked n marks shares = sum integers n (λ t. only integers (eqb (get_or marks t 0) 0) (get_or shares t (pos 0)))
