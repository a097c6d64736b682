-- The late 21 of kinds 4 to 6, on the span of a step.
use Rattle.std.specs.Prelude.{Bool, cond, List, ℕ, ◌+◌, ◌-◌, ◌*◌, ◌≤◌, eqb, leb, length, get_or, ℤ, pos, nat_abs, ◌+ℤ◌}
use Rattle.laws.specs.Below.{all}
use Rattle.laws.specs.Limits.{max_amount, max_sent}
use Rattle.model.specs.Spans.{beside}
use Rattle.step_spans.specs.Credit.{SpanIn}

-- The statement word of word i of a span of totals stays in range with it.
abbrev pub word_fits : ℕ → List ℕ → List ℤ → List ℤ → ℕ → Bool
word_fits from numbers source statement i = leb
    (nat_abs (get_or statement (get_or numbers (from + i) 0) (pos 0) +ℤ get_or source (from + i) (pos 0))) max_amount

-- The statements stay in range once the totals of a span of places are added, a word for each price list.
abbrev pub span_fits : ℕ → ℕ → ℕ → List ℕ → List ℤ → List ℤ → Bool
span_fits from to width grocers source statement = all (to * width - from * width) (word_fits (from * width) (beside width grocers) source statement)

-- What the step leaves is in range: 4 raises the count of words sent; 5 and 6 add to statements.
unfoldable pub total_fits : ℕ → ℕ → ℕ → List ℕ → List ℤ → List ℤ → List ℤ → List ℕ → ℕ → Bool
total_fits from to width grocers working transit statement sent kind =
    cond (eqb kind 4) (leb (get_or sent 0 0 + (to - from) * width) max_sent)
    (cond (eqb kind 5) (span_fits from to width grocers working statement) (span_fits from to width grocers transit statement))

-- What the test requires: a span with totals and statements in range, and the count of words sent.
pub record TotalFitsIn (from to width : ℕ) (grocers : List ℕ) (working transit statement : List ℤ) (sent : List ℕ) (kind : ℕ) : Type 0 where
  pub working_in : SpanIn from to width grocers working statement
  pub transit_in : SpanIn from to width grocers transit statement
  pub sent_long : 1 ≤ length sent
  pub sent_in : get_or sent 0 0 ≤ max_sent
  pub kind_from : 4 ≤ kind
  pub kind_to : kind ≤ 6
