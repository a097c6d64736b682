-- The edited job that code tells of: what is asked of the present tables, and what is told.
use Rattle.std.specs.Prelude.{◌≡◌, true, false, cond, List, ℕ, suc, ◌≤◌, pos, Result, Ok, Err, IfOk}
use Rattle.refusals.specs.declared.Refusal.{Refusal}
use Rattle.refusals.specs.Numbers.{number}
use Rattle.recount.specs.Recount.{counted_twice}
use Rattle.model.specs.PackedTotals.{totals_length}
use Rattle.model.specs.Ranges.{job_in_range}
use Rattle.model.specs.Tables.{JobTables, bag_tables, counted_of, evening_of, job_lengths, job_short, bags_short}
use Rattle.format.specs.Bytes.{from}
use Rattle.format.specs.Codes.{read_code}
use Rattle.format.specs.Job.{Head, head_of, Tally}
use Rattle.format.specs.Tables.{FileTables, file_tables, Long}
use Rattle.late_edits.specs.Columns.{edit_entries, edit_tallies}
use Rattle.late_checks.specs.Held.{Shaped}
use Rattle.late_checks.specs.declared.judge.Tally.{Tally as TallyWords}
use Rattle.late_checks.specs.declared.judge.Wanted.{Wanted}
use Rattle.late_checks.specs.declared.judge.Edit.{Edit}

-- The tally that code holds, with the eleven bytes of its code.
abbrev pub tally_with : TallyWords → List ℕ → Tally
tally_with x code =
    record {
      grocer = x.grocer;
      box = x.holder;
      code = read_code (from code 0);
      count = x.count;
      issuer = x.issuer;
      bag = x.bag;
      revision = x.revision;
    }

module _ (w : Wanted) where
  -- The head of the edited job; no refusal goes by the cycle.
  abbrev pub head_then : Head
  head_then = head_of w.sizes.boxes w.sizes.grocers w.sizes.offers w.sizes.tallies 0 w.sizes.lists

  -- The tables with codes, edited,
  unfoldable pub file_then : (code : List ℕ) → FileTables → FileTables
  file_then code l = file_tables l.offers l.grocer_owner (edit_tallies w.shape.place w.shape.last (tally_with w.tally code) l.tallies)

  -- and the tables of a run, edited, with the place of the added tally's offer.
  unfoldable pub job_then : (place : ℕ) → JobTables → JobTables
  job_then place f =
      let p = w.shape.place in
      let n = w.shape.last in
      bag_tables f.boxes f.grocers f.offers w.sizes.tallies f.lists f.price f.offer_owner f.grocer_owner
      (edit_entries 1 p n 0 (λ k. w.tally.grocer) f.tally_grocer) (edit_entries 1 p n 0 (λ k. w.tally.holder) f.tally_box)
      (edit_entries 1 p n 0 (λ k. place) f.tally_offer) (edit_entries 1 p n (pos 0) (λ k. w.tally.count) f.tally_count)
      (edit_entries 1 p n 0 (λ k. w.tally.bag) f.tally_bag) (edit_entries 1 p n 0 (λ k. w.tally.revision) f.tally_revision)

  -- An edit of a list that its shape fits; the edited list ends with the last entry or before it.
  pub record EditIn : Type 0 where
    pub shaped : Shaped w.shape.present w.shape.place w.shape.last
    pub most : w.sizes.tallies ≤ suc w.shape.last

  -- What is asked of tables with codes: the present job is lent whole.
  pub record FileIn (l : FileTables) : Type 0 where
    pub edit : EditIn
    pub long : Long (head_of w.sizes.boxes w.sizes.grocers w.sizes.offers w.shape.present 0 w.sizes.lists) l

  -- What is asked of the tables of a run: the present job f is lent whole, and the edited job is in range.
  pub record JobIn (place : ℕ) (f : JobTables) : Type 0 where
    pub edit : EditIn
    pub whole : job_short f (job_lengths f) ≡ false
    pub bags : bags_short f (job_lengths f) ≡ false
    pub in_range : job_in_range (job_then place f) ≡ true

-- The packed length that is told of an edit: 0 where it is refused.
abbrev pub words_of : Result Edit Refusal → ℕ
words_of (Ok e) = e.words
words_of (Err r) = 0

-- What is told by places, of the edited job f: 32 where a run refuses it, else its packed length.
pub record ByPlaces (f : JobTables) (place : ℕ) (e : Result Edit Refusal) : Type 0 where
  pub met_is : number e ≡ cond (counted_twice (counted_of f)) 32 0
  pub place_is : IfOk e (λ (x : Edit). x.place ≡ place)
  pub words_is : words_of e ≡ cond (counted_twice (counted_of f)) 0 (totals_length (evening_of f))
