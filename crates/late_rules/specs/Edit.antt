-- The list of tallies, edited (02 §7): "a tally may be put at the end of the list, or the one at a given place removed, later ones moving up".
use Rattle.std.specs.Prelude.{cond, ℕ, suc, ◌+◌, ◌-◌, ltb, pos, get_or}
use Rattle.laws.specs.Below.{find}
use Rattle.laws.specs.Tables.{overwrite}
use Rattle.model.specs.Tables.{JobTables, bag_tables}
use Rattle.format.specs.Codes.{name_of, same_offer}
use Rattle.format.specs.Job.{Head, head_of, Tally, offer_name}
use Rattle.format.specs.Tables.{ReaderTables, tally_of, file_job_of, store_tallies}

-- A tally as tables hold it: what its file says of it, and the place of its offer.
pub record Entry : Type 0 where
  pub tally : Tally
  pub place : ℕ

-- Entry t of tables.
abbrev pub entry_of : ReaderTables → ℕ → Entry
entry_of l t = record { tally = tally_of l.job.tallies t; place = get_or l.tally_offer t 0 }

-- Words of 0 alone: "Words freed at the list's end by a removal become 0."
abbrev pub freed : Entry
freed =
    record {
      tally = record { grocer = 0; box = 0; code = record { size = 0; digit = λ k. 0 }; count = pos 0; issuer = 0; bag = 0; revision = 0 };
      place = 0;
    }

-- The first n entries of a list, and x behind them.
abbrev pub followed : ℕ → (ℕ → Entry) → Entry → ℕ → Entry
followed n e x t = cond (ltb t n) (e t) x

-- "Later ones moving up": the place before of what stands at place t once the entry at place p is removed.
unfoldable pub place_before : ℕ → ℕ → ℕ
place_before p t = cond (ltb t p) t (suc t)

-- A list without its entry p.
abbrev pub removed : ℕ → (ℕ → Entry) → ℕ → Entry
removed p e t = e (place_before p t)

-- The first n entries of a list written into the tables of the tallies; words past them, and the other tables, stay.
unfoldable pub store_entries : ℕ → (ℕ → Entry) → ReaderTables → ReaderTables
store_entries n e l =
    record {
      job = record {
        offers = l.job.offers;
        grocer_owner = l.job.grocer_owner;
        tallies = store_tallies n (λ t. (e t).tally) l.job.tallies;
      };
      tally_offer = overwrite n (λ t. (e t).place) l.tally_offer;
    }

-- K, M, N and the number of additional lists as they are, and another T.
abbrev pub with_tallies : Head → ℕ → Head
with_tallies h t = head_of h.boxes h.grocers h.offers t h.cycle h.lists

-- The tables of a run, of those that a job keeps: no digits and no issuers.
abbrev pub job_in : Head → ReaderTables → JobTables
job_in h l =
    bag_tables h.boxes h.grocers h.offers h.tallies h.lists l.job.offers.price l.job.offers.owner l.job.grocer_owner
    l.job.tallies.grocer l.job.tallies.box l.tally_offer l.job.tallies.count l.job.tallies.bag l.job.tallies.revision

-- T once a tally is added,
abbrev pub added_head : Head → Head
added_head h = with_tallies h (h.tallies + 1)

-- and once one is withdrawn.
abbrev pub withdrawn_head : Head → Head
withdrawn_head h = with_tallies h (h.tallies - 1)

module _ (h : Head) (l : ReaderTables) where
  -- "An added tally's offer is found by its code", under its issuer: the place of the offer that x names, or N where it names none.
  unfoldable pub place_found : Tally → ℕ
  place_found x = find h.offers (λ i. same_offer (offer_name (file_job_of h l.job) i) (name_of x.issuer x.code))

  -- The tables once tally x is put at the end of the list.
  unfoldable pub added_tables : Tally → ReaderTables
  added_tables x = store_entries (h.tallies + 1) (followed h.tallies (entry_of l) (record { tally = x; place = place_found x })) l

  -- The tables once the tally at place p is removed: T entries are written, the last of them freed words.
  unfoldable pub withdrawn_tables : ℕ → ReaderTables
  withdrawn_tables p = store_entries h.tallies (removed p (followed h.tallies (entry_of l) freed)) l
