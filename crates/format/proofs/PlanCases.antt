-- The examples of the plan compute. Assumes nothing.
use mathlib.Core.Path.{refl}
use Rattle.format.specs.Job.{bad_sizes}
use Rattle.format.specs.Blocks.{kind_at, spare}
use Rattle.format.specs.PlanCases.{PlanCases}

pub plan_cases : PlanCases
unfolding kind_at spare bad_sizes
plan_cases = record {
  longest = refl;
  before = refl;
  longest_grocers = refl;
  longest_first = refl;
  longest_next = refl;
  longest_last = refl;
  longest_tallies = refl;
  longest_end = refl;
  grocers = refl;
  first = refl;
  first_end = refl;
  second = refl;
  tallies = refl;
  count = refl;
  number = refl;
  full = refl;
  last = refl;
  field = refl;
  after = refl;
  one_block = refl;
  two_blocks = refl;
  seven_blocks = refl;
  whole_block = refl;
  four_blocks = refl;
  rest = refl;
  no_lists = refl;
  byte_14 = refl;
  byte_15 = refl;
  seven = refl;
  eight = refl;
  place = refl;
}
