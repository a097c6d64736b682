-- `file_blocks::tables::fill_tallies` meets its contract, by the calls that fill one table each. Assumes nothing.
use mathlib.Core.Path.{◌≡◌, sym, ap, subst, ◌∙◌}
use Prim.Native.Nat.{ℕ}
use Rattle.laws.specs.Tables.{overwrite}
use Rattle.format.specs.Job.{place_of}
use Rattle.format.specs.Blocks.{tallies_at}
use Rattle.format.specs.File.{decode}
use Rattle.file_blocks.specs.Fills.{Placed}
use Rattle.file_blocks.proofs.Fields.{tally_grocers_lem, tally_counts_lem}
use Rattle.file_blocks.proofs.Looked.{places-stored}
use Rattle.file_blocks.proofs.Copies.{copied_front}
use Rattle.file_blocks.proofs.tables.fill_tallies.Goals as goal

pub returns : goal.returns
returns c =
    let placed : c.tallies_at-first.result ≡ tallies_at (decode c.args.file.now.bytes.now).head =
    c.tallies_at-first.ensures ∙ ap tallies_at c.args.file.now.whole.says in
    let f = c.args.file.now.bytes.now in
    let n = c.from-t.ensures in
    let old = c.args.tally_offer.now in
    let copied = copied_front c.from-t.result c.args.places.now old _ c.copy_from_slice.ensures.after (rw n c.requires.placed.1) in
    record {
      tally_grocer_after = tally_grocers_lem f _ _ placed (rw n at c.fill_words.ensures);
      tally_offer_after =
          places-stored f _ old (subst (Placed (decode f) c.args.places.now) (sym n) c.requires.placed.0) copied ∙ ap (λ (k : ℕ). overwrite k (place_of (decode f)) old) n;
      tally_count_after = tally_counts_lem f _ _ placed (rw n at c.fill_counts.ensures);
    }
