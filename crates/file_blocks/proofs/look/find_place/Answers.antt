-- `file_blocks::look::find_place` meets its contract. Assumes nothing.
use mathlib.Core.Path.{◌≡◌, sym, ap, ◌∙◌}
use Prim.Native.Nat.{ℕ, ◌+◌, ◌≤◌}
use native.Mathlib.Omega.{arith}
use lib.ListN.{length}
use Rattle.format.specs.Codes.{is_code}
use Rattle.format.specs.Job.{Head, place_of}
use Rattle.format.specs.Blocks.{tallies_at}
use Rattle.format.specs.File.{record_at, decode}
use Rattle.file_blocks.specs.Due.{as_head}
use Rattle.index.specs.Index.{place_of as index_place}
use Rattle.file_blocks.proofs.RecordWords.{tally_room, tally_code_lem, tally_name_lem}
use Rattle.file_blocks.proofs.Naming.{place_is}
use Rattle.file_blocks.proofs.look.find_place.Goals as goal

pub name_at-number-requires : goal.name_at-number-requires
name_at-number-requires c =
    let stands : c.record_at-at.result ≡ record_at (tallies_at (as_head c.args.file.now.head)) c.args.i =
    c.record_at-at.ensures ∙ ap (λ (k : ℕ). record_at k c.args.i) c.requires.first_value.0 in
    let room : c.record_at-at.result + 24 ≤ length c.args.file.now.bytes.now =
    omega (arith, stands, tally_room c.requires.ready.sound.whole c.args.i c.requires.first_value.1) in
    let z = c.requires.ready.sound in
    let i = c.args.i in
    record {
      at_in_bounds = (omega (arith, room), c.word16.ensures.1);
      at_value = ap is_code (tally_code_lem c.args.file.now.bytes.now i z.whole stands) ∙ z.tally i c.requires.first_value.1;
    }

pub returns : goal.returns
unfolding index_place
returns c =
    let stands : c.record_at-at.result ≡ record_at (tallies_at (as_head c.args.file.now.head)) c.args.i =
    c.record_at-at.ensures ∙ ap (λ (k : ℕ). record_at k c.args.i) c.requires.first_value.0 in
    let f = c.args.file.now.bytes.now in
    let i = c.args.i in
    let n = c.args.file.now.head.sizes.offers in
    let r = c.requires.ready in
    let x = r.indexed in
    let here : index_place x.numbers n c.name_at-number.result ≡ place_of (decode f) i =
    ap (index_place x.numbers n) (c.name_at-number.ensures ∙ tally_name_lem f i r.sound.whole stands c.word16.result c.word16.ensures.0)
    ∙ place_is (decode f) x.numbers n (sym (ap (λ (h : Head). h.offers) r.sound.whole.says)) r.sound.offer x.right i (r.sound.tally i c.requires.first_value.1) in
    rw here at ((rw c.from-n.ensures at c.place.ensures) x.numbers x.index r.apart)
