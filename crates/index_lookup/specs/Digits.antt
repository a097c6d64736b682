-- The top digits of an index as code holds them.
use Rattle.std.specs.Prelude.{List, ℕ}
use Rattle.index_lookup.specs.declared.look.TopDigits.{TopDigits}
use Rattle.index_lookup.specs.Lookup.{Tops, Widest}

-- They are those of the first n keys, and none has more keys than is said.
abbrev pub TopsOf : TopDigits → List ℕ → ℕ → Type 0
TopsOf d keys n = Tops keys d.starts d.shift n × Widest d.starts d.widest
