-- Tables that are not lent short, one by one. Assumes nothing.
use mathlib.Core.Path.{◌≡◌}
use mathlib.Core.Bool.{false}
use Prim.Native.Nat.{ℕ, ◌*◌, ◌≤◌}
use lib.ListN.{length}
use Rattle.laws.specs.Lists.{list_words}
use Rattle.model.specs.Tables.{JobTables, job_lengths, job_short, StateTables, state_lengths, state_short}
use Rattle.model.proofs.Lent.{job_long, state_long}

-- Every table of the job is as long as M, N, T and the number of lists need.
pub record JobWhole (f : JobTables) : Type 0 where
  pub price : list_words f.lists f.offers ≤ length f.price
  pub offer_owner : f.offers ≤ length f.offer_owner
  pub grocer_owner : f.grocers ≤ length f.grocer_owner
  pub tally_grocer : f.tallies ≤ length f.tally_grocer
  pub tally_box : f.tallies ≤ length f.tally_box
  pub tally_offer : f.tallies ≤ length f.tally_offer
  pub tally_count : f.tallies ≤ length f.tally_count

pub job_whole : (f : JobTables) → job_short f (job_lengths f) ≡ false → JobWhole f
unfolding job_lengths
job_whole f h =
    let l = job_long f (job_lengths f) h in
    record {
      price = l.price;
      offer_owner = l.offer_owner;
      grocer_owner = l.grocer_owner;
      tally_grocer = l.tally_grocer;
      tally_box = l.tally_box;
      tally_offer = l.tally_offer;
      tally_count = l.tally_count;
    }

-- Every table of the state is as long as k boxes, m words of grocers and n of offers need.
pub record StateWhole (k m n : ℕ) (t : StateTables) : Type 0 where
  pub known : k * n ≤ length t.known
  pub price_transit : k * n ≤ length t.price_transit
  pub statement : m ≤ length t.statement
  pub done : 6 * k * k ≤ length t.done
  pub sent : 1 ≤ length t.sent

pub state_whole : (f : JobTables) (t : StateTables) → state_short f (state_lengths t) ≡ false → StateWhole f.boxes (list_words f.lists f.grocers) (list_words f.lists f.offers) t
unfolding state_lengths
state_whole f t h =
    let l = state_long f (state_lengths t) h in
    record {
      known = l.known;
      price_transit = l.price_transit;
      statement = l.statement;
      done = l.done;
      sent = l.sent;
    }
