-- What the lent tables hold, and what an edit leaves of them.
use Rattle.std.specs.Prelude.{◌≡◌, List, ℕ, ◌<◌, pos, get_or}
use Rattle.format.specs.Codes.{code_bytes}
use Rattle.format.specs.Tables.{TallyTables, tally_tables, file_tables, offer_tables, ReaderTables, reader_tables}
use Rattle.late_rules.specs.Edit.{Entry}
use Rattle.late_edits.specs.Columns.{edit_entries}
use Rattle.late_checks.specs.Judged.{tally_with}
use Rattle.late_checks.specs.declared.judge.Tally.{Tally as TallyWords}
use Rattle.late.specs.declared.Tables.{Tables}

-- What the tables of the tallies hold,
abbrev pub tallies_now : Tables → TallyTables
tallies_now t =
    tally_tables t.tally_grocer.now t.tally_box.now t.tally_code.now t.tally_count.now t.tally_issuer.now t.tally_bag.now
    t.tally_revision.now

-- and all of them.
abbrev pub reader_now : Tables → ReaderTables
reader_now t =
    reader_tables
    (file_tables (offer_tables t.price.now t.offer_owner.now t.offer_code.now t.offer_issuer.now) t.grocer_owner.now (tallies_now t))
    t.tally_offer.now

-- The tables that are not edited hold what they held.
pub record OthersKept (before after : Tables) : Type 0 where
  pub price : after.price.now ≡ before.price.now
  pub offer_owner : after.offer_owner.now ≡ before.offer_owner.now
  pub offer_code : after.offer_code.now ≡ before.offer_code.now
  pub offer_issuer : after.offer_issuer.now ≡ before.offer_issuer.now
  pub grocer_owner : after.grocer_owner.now ≡ before.grocer_owner.now

-- The eight slices that a call edits are the same memory before and after: only what stands in them may differ.
pub record SameTables (before after : Tables) : Type 0 where
  pub tally_grocer : after.tally_grocer.ghost_name ≡ before.tally_grocer.ghost_name
  pub tally_box : after.tally_box.ghost_name ≡ before.tally_box.ghost_name
  pub tally_code : after.tally_code.ghost_name ≡ before.tally_code.ghost_name
  pub tally_count : after.tally_count.ghost_name ≡ before.tally_count.ghost_name
  pub tally_issuer : after.tally_issuer.ghost_name ≡ before.tally_issuer.ghost_name
  pub tally_bag : after.tally_bag.ghost_name ≡ before.tally_bag.ghost_name
  pub tally_revision : after.tally_revision.ghost_name ≡ before.tally_revision.ghost_name
  pub tally_offer : after.tally_offer.ghost_name ≡ before.tally_offer.ghost_name

-- The entry that is put behind the others.
abbrev pub entry_with : TallyWords → List ℕ → ℕ → Entry
entry_with x code place = record { tally = tally_with x code; place = place }

-- The eight tables of the tallies as an edit leaves them; g has the bytes of the code behind the others.
pub record Left (p n : ℕ) (e : Entry) (g : ℕ → ℕ) (l : ReaderTables) (x : TallyTables) (offer : List ℕ) : Type 0 where
  pub grocer : x.grocer ≡ edit_entries 1 p n 0 (λ k. e.tally.grocer) l.job.tallies.grocer
  pub box : x.box ≡ edit_entries 1 p n 0 (λ k. e.tally.box) l.job.tallies.box
  pub code : x.code ≡ edit_entries 11 p n 0 g l.job.tallies.code
  pub bytes : (k : ℕ) → k < 11 → g k ≡ get_or (code_bytes e.tally.code) k 0
  pub count : x.count ≡ edit_entries 1 p n (pos 0) (λ k. e.tally.count) l.job.tallies.count
  pub issuer : x.issuer ≡ edit_entries 1 p n 0 (λ k. e.tally.issuer) l.job.tallies.issuer
  pub bag : x.bag ≡ edit_entries 1 p n 0 (λ k. e.tally.bag) l.job.tallies.bag
  pub revision : x.revision ≡ edit_entries 1 p n 0 (λ k. e.tally.revision) l.job.tallies.revision
  pub places : offer ≡ edit_entries 1 p n 0 (λ k. e.place) l.tally_offer
