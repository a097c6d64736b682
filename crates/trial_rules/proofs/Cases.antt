-- The examples of trials hold: each computes. Assumes nothing.
use mathlib.Core.Path.{refl}
use Rattle.trial_rules.specs.Rounds.{is_preference, preferred, has_ready, acts, choice, round, rounds, trial, taken_steps, of_box, idle_rounds, taken_places, trial_state}
use Rattle.trial_rules.specs.Trial.{trial_short, trial_refusals, tried_all, tried_on}
use Rattle.trial_rules.specs.Cases.{TrialCases}
use Rattle.model.proofs.Cases.{computed}

pub trial_cases : TrialCases
unfolding computed is_preference preferred has_ready acts choice round rounds trial taken_steps of_box idle_rounds taken_places trial_state trial_short trial_refusals tried_all tried_on
trial_cases = record {
  e_ascending = refl;
  e_descending = refl;
  next_round = refl;
  ready_then = refl;
  second_box = refl;
  finished_idle = refl;
  one_box_lem = refl;
  quiet = refl;
  longer = refl;
  six_alone = refl;
  kind_0 = refl;
  kind_7 = refl;
  call = refl;
  short_places = refl;
  no_places = refl;
  lists = refl;
  call_33 = refl;
  call_21 = refl;
  call_9 = refl;
  packed_20 = refl;
  short_list = refl;
  short_idle = refl;
  short_state = refl;
}
