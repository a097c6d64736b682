-- The reconciliation desk: the serial amount of one grocer from a list of tally records.
use Rattle.std.specs.Prelude.{List, [], ◌∷◌, map, Bool, true, ◌&&◌, not, ℕ, zero, suc, get_or, length, eqb, ltb, leb, ℤ, pos, nat_abs, ◌+ℤ◌, ◌*ℤ◌}
use Rattle.laws.specs.Below.{only, integers, ascending}
use Rattle.laws.specs.Checks.{first_met, all_of}
use Rattle.laws.specs.Limits.{max_boxes, max_grocers, max_offers, max_tallies, max_price, max_count}
use Rattle.recount.specs.Recount.{Counted, stands, counted_twice}
use Rattle.model.specs.Ranges.{up_to}

-- A tally record: grocer, box, place, count, bag and revision.
pub record TallyRecord : Type 0 where
  pub grocer : ℕ
  pub tally_box : ℕ
  pub place : ℕ
  pub count : ℤ
  pub bag : ℕ
  pub revision : ℕ

-- A record is in range: grocer below M, box 0 to 15, place below N, count within ±99,999. Bag and revision have no range.
unfoldable pub record_in_range : ℕ → ℕ → TallyRecord → Bool
record_in_range m n r = all_of (ltb r.grocer m ∷ ltb r.tally_box max_boxes ∷ ltb r.place n ∷ leb (nat_abs r.count) max_count ∷ [])

-- Every record of a list is in range.
unfoldable pub records_in_range : ℕ → ℕ → List TallyRecord → Bool
records_in_range m n [] = true
records_in_range m n (r ∷ rs) = record_in_range m n r && records_in_range m n rs

-- The record at place t of a list; past its end one of zeros.
unfoldable pub record_in : List TallyRecord → ℕ → TallyRecord
record_in rs t = get_or rs t (record { grocer = 0; tally_box = 0; place = 0; count = pos 0; bag = 0; revision = 0 })

-- "its list follows the same rule within itself": what the recount rule looks at in the whole list, records of other grocers among them.
unfoldable pub counted_records : List TallyRecord → Counted
counted_records rs = record {
  size = length rs;
  grocer = λ t. (record_in rs t).grocer;
  offer = λ t. (record_in rs t).place;
  bag = λ t. (record_in rs t).bag;
  revision = λ t. (record_in rs t).revision;
}

-- The records of a list that stand, in its order.
unfoldable pub standing_records : List TallyRecord → List TallyRecord
standing_records rs = map (record_in rs) (ascending (length rs) (stands (counted_records rs)))

-- The serial amount of grocer g: count × price over its records. Tallies of other grocers are passed over.
unfoldable pub serial_amount : List ℕ → ℕ → List TallyRecord → ℤ
serial_amount prices g [] = pos 0
serial_amount prices g (r ∷ rs) = only integers (eqb r.grocer g) (r.count *ℤ pos (get_or prices r.place 0)) +ℤ serial_amount prices g rs

-- What the desk answers: the amount owed, or the number of the refusal.
pub data DeskAnswer : Type 0 where
  owed : (amount : ℤ) → DeskAnswer
  refused : (number : ℕ) → DeskAnswer

-- The refusals of the desk, for M, N, the grocer wanted, the prices and the records.
unfoldable pub desk_refusals : ℕ → ℕ → ℕ → List ℕ → List TallyRecord → List (Bool × ℕ)
desk_refusals m n g prices rs =
    (ltb (length prices) n, 20)
    ∷ (
      not (all_of (
          (leb 1 m && leb m max_grocers)
          ∷ (leb 1 n && leb n max_offers)
          ∷ up_to max_price n prices
          ∷ leb (length rs) max_tallies
          ∷ records_in_range m n rs
          ∷ ltb g m
          ∷ [])),
      21,
    )
    ∷ (counted_twice (counted_records rs), 9)
    ∷ []

-- The answer by the number of the first condition met: the amount where none is.
unfoldable pub desk_answer : ℕ → ℤ → DeskAnswer
desk_answer zero z = owed z
desk_answer (suc n) z = refused (suc n)

-- The desk: THE definition that its contract cites. The amount is that of the standing records.
unfoldable pub reconciled : ℕ → ℕ → ℕ → List ℕ → List TallyRecord → DeskAnswer
reconciled m n g prices rs = desk_answer (first_met (desk_refusals m n g prices rs)) (serial_amount prices g (standing_records rs))
