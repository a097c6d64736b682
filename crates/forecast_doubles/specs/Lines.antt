-- What a box adds up of a list of lines, told from tables.
use Rattle.std.specs.Prelude.{◌≡◌, true, cond, ◌&&◌, List, ℕ, ◌+◌, ◌*◌, ◌≤◌, ◌<◌, eqb, ltb, leb, get_or, length, Float}
use Rattle.std.specs.Float.{binary64}
use Rattle.std.specs.Float.Ieee.{mul}
use Rattle.model.specs.Ranges.{under}
use Rattle.forecast_rules.specs.Doubles.{zero+, add_up}

-- The tables of lines that step 3 reads.
pub record LineLists : Type 0 where
  pub grocer : List ℕ
  pub offer : List ℕ
  pub box : List ℕ
  pub rate : List Float

-- The same, as a contract names it.
abbrev pub line_lists : List ℕ → List ℕ → List ℕ → List Float → LineLists
line_lists grocer offer box rate = record { grocer = grocer; offer = offer; box = box; rate = rate }

-- The first n lines are in range, of m grocers and o offers.
pub record LinesIn (m o n : ℕ) (t : LineLists) : Type 0 where
  pub grocer_long_lem : n ≤ length t.grocer
  pub offer_long_lem : n ≤ length t.offer
  pub box_long_lem : n ≤ length t.box
  pub rate_long : n ≤ length t.rate
  pub grocers : under m n t.grocer ≡ true
  pub offers : under o n t.offer ≡ true

-- The rows of box a among part sums and known values.
pub record RowIn (m o a : ℕ) (part known : List Float) : Type 0 where
  pub grocers_in : m ≤ 255
  pub offers_in : o ≤ 500
  pub box_in : a < 16
  pub part_long : a * m + m ≤ length part
  pub known_long_lem : a * o + o ≤ length known

-- Word p of a table whose m words from `row` on have become +0.0.
unfoldable pub cleared : ℕ → ℕ → List Float → ℕ → Float
cleared row m l p = cond (leb row p && ltb p (row + m)) zero+ (get_or l p zero+)

-- Rate × the value that box a knows of line i's offer.
unfoldable pub line_product : LineLists → ℕ → ℕ → List Float → ℕ → Float
line_product t o a known i = mul binary64 (get_or t.rate i zero+) (get_or known (a * o + get_or t.offer i 0) zero+)

-- The part sum of grocer g over the first n lines of box a.
unfoldable pub row_sum : LineLists → ℕ → ℕ → List Float → ℕ → ℕ → Float
row_sum t o a known n g = add_up n (λ i. eqb (get_or t.box i 0) a && eqb (get_or t.grocer i 0) g) (line_product t o a known)

-- The row of box a has the part sums over its first n lines, and all other words of part' are as in part.
pub record Added (t : LineLists) (m o a n : ℕ) (known part part' : List Float) : Type 0 where
  pub row : (g : ℕ) → g < m → get_or part' (a * m + g) zero+ ≡ row_sum t o a known n g
  pub others : (p : ℕ) → (p < a * m) → get_or part' p zero+ ≡ get_or part p zero+
  pub behind : (p : ℕ) → (a * m + m ≤ p) → get_or part' p zero+ ≡ get_or part p zero+
