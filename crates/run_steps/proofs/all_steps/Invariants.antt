-- `run_steps::all_steps` meets its contract: at turn i the tables hold the state after i steps. Assumes nothing.
use mathlib.Core.Path.{◌≡◌}
use Rattle.tables.specs.Lent.{SameSlices}
use Rattle.run_steps.specs.All.{bare, standing_job, Looked}
use Rattle.run_steps.proofs.Turns.{Turning}
use Rattle.run_steps.proofs.all_steps.Given as goal

abbrev pub invariant-loop-i : goal.invariant-loop-i
invariant-loop-i l = record {
  turning : Turning (standing_job l.job) (bare l.initial.state) (bare l.state) l.needs l.sharers l.order l.n l.i l.sent.words l.sent.messages;
  looked : Looked (standing_job l.job) l.look.tally_links.now l.look.tally_place.now l.look.offer_heads.now l.look.offers.now l.look.heads.now l.look.grocers.now;
  marks_kept : (l.state.done.now ≡ l.initial.state.done.now) × (l.state.sent.now ≡ l.initial.state.sent.now);
  same : SameSlices l.initial.state l.state;
}
