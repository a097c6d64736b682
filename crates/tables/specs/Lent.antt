-- What lent tables hold, in the model's words; and that a call leaves a state with the slices it was lent.
use Rattle.std.specs.Prelude.{◌≡◌}
use Rattle.tables.specs.declared.Job.{Job}
use Rattle.tables.specs.declared.State.{State}
use Rattle.tables.specs.declared.StateView.{StateView}
use Rattle.model.specs.Tables.{JobTables, bag_tables, StateTables, state_tables}

-- What the job's tables hold.
abbrev pub job_held : Job → JobTables
job_held j =
    bag_tables j.sizes.boxes j.sizes.grocers j.sizes.offers j.sizes.tallies j.sizes.lists j.price.now j.offer_owner.now j.grocer_owner.now
    j.tally_grocer.now j.tally_box.now j.tally_offer.now j.tally_count.now j.tally_bag.now j.tally_revision.now

-- What the state's tables hold.
abbrev pub state_held : State → StateTables
state_held s = state_tables s.known.now s.price_transit.now s.working.now s.total_transit.now s.statement.now s.done.now s.sent.now

-- The same of a state that is lent to be read.
abbrev pub state_viewed : StateView → StateTables
state_viewed s = state_tables s.known.now s.price_transit.now s.working.now s.total_transit.now s.statement.now s.done.now s.sent.now

-- The seven slices of a state are the same memory before and after: only what stands in them may differ.
pub record SameSlices (before after : State) : Type 0 where
  pub known : after.known.ghost_name ≡ before.known.ghost_name
  pub price_transit : after.price_transit.ghost_name ≡ before.price_transit.ghost_name
  pub working : after.working.ghost_name ≡ before.working.ghost_name
  pub total_transit : after.total_transit.ghost_name ≡ before.total_transit.ghost_name
  pub statement : after.statement.ghost_name ≡ before.statement.ghost_name
  pub done : after.done.ghost_name ≡ before.done.ghost_name
  pub sent : after.sent.ghost_name ≡ before.sent.ghost_name
