-- Offer codes and names: "A code has 1 to 10 ASCII digits", and "the clearing agreement now names offers by issuer and number" (02 §2).
use Rattle.std.specs.Prelude.{ℕ, zero, suc, ◌+◌, ◌-◌, ◌*◌, ◌/◌, ◌%◌, Bool, cond, ◌&&◌, List, [], ◌∷◌, leb, ltb, eqb}
use Rattle.laws.specs.Below.{all}
use Rattle.laws.specs.Tables.{tabulate}
use Rattle.format.specs.Bytes.{after}

-- A code as written: the digit count, and the bytes of its field of ten.
pub record Code : Type 0 where
  pub size : ℕ
  pub digit : ℕ → ℕ

-- "Digits stand first in their field, and the field's bytes after them are 0."
unfoldable pub is_place : Code → ℕ → Bool
is_place c k = cond (ltb k c.size) (leb 48 (c.digit k) && leb (c.digit k) 57) (eqb (c.digit k) 0)

-- A field that holds a code: 1 to 10 digits, and each byte as due.
unfoldable pub is_code : Code → Bool
is_code c = leb 1 c.size && leb c.size 10 && all 10 (is_place c)

-- The number that the first n digits write, in decimal.
unfoldable pub value : ℕ → (ℕ → ℕ) → ℕ
value zero d = 0
value (suc n) d = value n d * 10 + (d n - 48)

-- The number of a code.
unfoldable pub code_number : Code → ℕ
code_number c = value c.size c.digit

-- The digits as written.
unfoldable pub written : Code → List ℕ
written c = tabulate c.size c.digit

-- "Leading zeros are dropped always; a code of zeros only is the number 0": its last zero stays.
unfoldable pub drop_zeros : List ℕ → List ℕ
drop_zeros [] = []
drop_zeros (d ∷ []) = d ∷ []
drop_zeros (d ∷ e ∷ ds) = cond (eqb d 48) (drop_zeros (e ∷ ds)) (d ∷ e ∷ ds)

-- What names an offer: its issuer, "0 for old offers", and its code.
pub record Name : Type 0 where
  pub issuer : ℕ
  pub code : Code

-- The same, of an issuer and a code.
abbrev pub name_of : ℕ → Code → Name
name_of s c = record { issuer = s; code = c }

-- "Two codes name one offer when issuers are equal and the numbers agree without leading zeros": every look-up goes through this definition.
unfoldable pub same_offer : Name → Name → Bool
same_offer a b = eqb a.issuer b.issuer && eqb (code_number a.code) (code_number b.code)

-- A key of the index, not to be believed (`same_offer` says which names are one offer): the number of a name, the issuer in front of 34 bits,
-- in which the lowest 9 bits of the code's number come first, so that numbers which lie close together begin apart.
unfoldable pub name_number : Name → ℕ
name_number a = a.issuer * 17_179_869_184 + (code_number a.code % 512 * 33_554_432 + code_number a.code / 512)

-- A code in eleven bytes, in the file as in a table: the digit count, then the field of ten.
unfoldable pub code_bytes : Code → List ℕ
code_bytes c = c.size ∷ tabulate 10 c.digit

-- The code that eleven bytes say.
abbrev pub read_code : (ℕ → ℕ) → Code
read_code g = record { size = g 0; digit = after g 1 }
