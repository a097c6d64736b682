-- `late_checks::names::place_of` meets its contract. Assumes nothing.
use mathlib.Core.Path.{ap, ap₂, ◌∙◌}
use Prim.Native.Nat.{ℕ}
use native.Mathlib.Omega.{arith}
use Rattle.laws.specs.Below.{find}
use Rattle.format.specs.Bytes.{from}
use Rattle.format.specs.Codes.{name_of, name_number, read_code}
use Rattle.late_checks.specs.Named.{is_number}
use Rattle.late_checks.proofs.names.place_of.Goals as goal

pub find_offer-requires : goal.find_offer-requires
find_offer-requires c =
    rw c.from-2.ensures c.requires.0

pub word_of-requires : goal.word_of-requires
word_of-requires c =
    omega (arith, c.find_offer.ensures.1, c.from-2.ensures)

pub returns : goal.returns
returns c =
    let a = c.args in
    c.word_of.ensures
    ∙ c.find_offer.ensures.0
    ∙ ap₂ (λ (m k : ℕ). find m (is_number a.offer_code.now a.offer_issuer.now k)) c.from-2.ensures
    (c.name_at-number.ensures ∙ ap (λ (i : ℕ). name_number (name_of i (read_code (from a.code.now 0)))) c.from.ensures)
