-- Lent slices as a contract names them, at the call's begin and at its end.
use Rattle.std.specs.Prelude.{List, ℕ, ℤ}
use Rattle.std.specs.Borrow.{Bor, MutBor}
use denote.Triple.Both.{Both}

-- A lent slice of words, at both moments.
abbrev pub Words : Type 0
Words = Both (Bor (List ℕ)) (Bor (List ℕ))

-- One of signed words.
abbrev pub SignedWords : Type 0
SignedWords = Both (Bor (List ℤ)) (Bor (List ℤ))

-- A slice of words that is lent to be written,
abbrev pub MutWords : Type 0
MutWords = Both (MutBor (List ℕ)) (MutBor (List ℕ))

-- and one of signed words.
abbrev pub MutSignedWords : Type 0
MutSignedWords = Both (MutBor (List ℤ)) (MutBor (List ℤ))
