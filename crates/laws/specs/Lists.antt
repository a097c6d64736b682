-- Several price lists in one evening (02 §9): how many words entries have.
use Rattle.std.specs.Prelude.{ℕ, suc, ◌*◌}

-- Entries are offers, grocers or tallies. The words of n entries, one for each price list: the first and the additional ones.
abbrev pub list_words : (lists n : ℕ) → ℕ
list_words lists n = n * suc lists
