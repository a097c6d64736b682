-- What settle has read of its input.
use Rattle.std.specs.Prelude.{◌≡◌, List, ℕ, length, take, ⊤}
use Rattle.std.specs.declared.option.Option.{Option}
use Rattle.std.specs.Io.KnownBytes.{Keeps}
use Rattle.settle.specs.declared.input.Failure.{Failure}
use Rattle.settle.specs.declared.input.Failure.TheVariants.{Unread, Unwritten}

-- n bytes of the buffer were read: they are the input's first bytes, as far as the buffer reaches.
unfoldable pub BytesRead : (input buffer : List ℕ) → ℕ → Type 0
BytesRead input buffer n = take n buffer ≡ take (length buffer) input

-- Of an input that could not be read nothing was written.
abbrev pub KeepsIfUnread : Failure → (old new : Option (List ℕ)) → Type 0
KeepsIfUnread (Unread error) old new = Keeps old new
KeepsIfUnread (Unwritten error) old new = ⊤
