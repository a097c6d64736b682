-- The grocers' lines with one price list and with several. Assumes nothing.
use mathlib.Core.Path.{refl, ap}
use Prim.Native.Nat.{ℕ}
use native.Mathlib.Omega.{arith}
use lib.IntN.{pos}
use lib.ListN.{get_or}
use Rattle.laws.specs.Below.{only, naturals}
use Rattle.printing.specs.Cents.{cents, nearest, edge}
use Rattle.printing.specs.Printed.{digits_of, decimal, signed_decimal, line, amounts_text, grocer_lines, amount_in, ListText}

pub list_text : ListText
unfolding cents nearest edge only naturals digits_of decimal signed_decimal line amounts_text grocer_lines amount_in
list_text = record {
  first = λ h m amount. refl;
  word = λ statement g. ap (λ (i : ℕ). get_or statement i (pos 0)) (omega arith);
  two = refl;
  old = refl;
  new = refl;
}
