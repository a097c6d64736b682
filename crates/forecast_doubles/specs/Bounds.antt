-- A range of doubles, by its bound.
use Rattle.std.specs.Prelude.{Bool, ◌&&◌, Float}
use Rattle.std.specs.Float.Ieee.{neg, le}

-- x is finite and within ± the bound. A NaN passes no comparison.
unfoldable pub within : Float → Float → Bool
within most x = le (neg most) x && le x most
