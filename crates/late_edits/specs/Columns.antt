-- The edits of 02 §7, column by column. Both have one shape: up to place n the entries but the one at place p, later ones moving up, and
-- an entry x behind them. A late bag is added with p and n both T; a bag is withdrawn with n one less than T, and x freed words.
use Rattle.std.specs.Prelude.{cond, List, ℕ, suc, ◌+◌, ◌*◌, ltb, pos, get_or}
use Rattle.laws.specs.Tables.{recell}
use Rattle.format.specs.Codes.{code_bytes}
use Rattle.format.specs.Job.{Tally}
use Rattle.format.specs.Tables.{TallyTables, ReaderTables}
use Rattle.late_rules.specs.Edit.{Entry, place_before}

module _ {A : Type 0} where
  -- A table of entries of w words each, so edited: x are the words of the last one.
  unfoldable pub edit_entries : (w p n : ℕ) (z : A) → (x : ℕ → A) → List A → List A
  edit_entries w p n z x l = recell (suc n) w (λ i k. cond (ltb i n) (get_or l (place_before p i * w + k) z) (x k)) l

  -- Word k while words from a on take the word w behind: those up to i have.
  unfoldable pub moving : (a w i : ℕ) (z : A) → List A → ℕ → A
  moving a w i z l k = cond (ltb k a) (get_or l k z) (cond (ltb k i) (get_or l (k + w) z) (get_or l k z))

-- The seven tables of the tallies that a file says, so edited,
unfoldable pub edit_tallies : (p n : ℕ) → Tally → TallyTables → TallyTables
edit_tallies p n x l =
    record {
      grocer = edit_entries 1 p n 0 (λ k. x.grocer) l.grocer;
      box = edit_entries 1 p n 0 (λ k. x.box) l.box;
      code = edit_entries 11 p n 0 (λ k. get_or (code_bytes x.code) k 0) l.code;
      count = edit_entries 1 p n (pos 0) (λ k. x.count) l.count;
      issuer = edit_entries 1 p n 0 (λ k. x.issuer) l.issuer;
      bag = edit_entries 1 p n 0 (λ k. x.bag) l.bag;
      revision = edit_entries 1 p n 0 (λ k. x.revision) l.revision;
    }

-- and with the places of their offers; the other tables stay.
unfoldable pub edit_tables : (p n : ℕ) → Entry → ReaderTables → ReaderTables
edit_tables p n e l =
    record {
      job = record { offers = l.job.offers; grocer_owner = l.job.grocer_owner; tallies = edit_tallies p n e.tally l.job.tallies };
      tally_offer = edit_entries 1 p n 0 (λ k. e.place) l.tally_offer;
    }
