-- `file_blocks::twice::fill_keys` meets its contract. Assumes nothing.
use Rattle.std.proofs.Common.{rules}
use mathlib.Core.Path.{◌≡◌, ap, ◌∙◌}
use Prim.Native.Nat.{ℕ, ◌+◌, ◌*◌, ◌≤◌}
use native.Mathlib.Omega.{arith}
use lib.ListN.{get_or}
use Rattle.recount.specs.Keys.{count_key}
use Rattle.format.specs.Bytes.{from, word16}
use Rattle.format.specs.Job.{counted_tallies}
use Rattle.format.specs.File.{record_at, decode}
use Rattle.file_blocks.proofs.ByPlace.{filled_by}
use Rattle.file_blocks.proofs.Last.{key_at_lem, keys_of}
use Rattle.file_blocks.proofs.twice.fill_keys.Goals as goal

pub returns : goal.returns
returns c =
    let f = c.args.file.now.bytes.now in
    let w = c.args.file.now.whole in
    let first = c.tallies_at-first.result in
    keys_of f _ _ w
    (λ i l.
    let e = c.fill_by.ensures.read 0 i (rw c.from-t.ensures l) in
    let t : let at = record_at first i in (word16 (from f (at + 20)) ≤ 65_535) × (word16 (from f (at + 22)) ≤ 65_535) = search rules in
    rw c.tallies_at-first.ensures at t)
    (rw c.from-t.ensures at
    (filled_by 0 (count_key (counted_tallies (decode f))) c.fill_by.ensures (rw c.from-t.ensures c.requires.tallies_in_bounds.1) c.fill_by.auto.table
    (λ i v l e.
    let t : let at = record_at first i in
    v ≡ ((word16 (from f at) * 512 + get_or c.args.places.now i 0) * 65_536 + word16 (from f (at + 20))) * 65_536 + word16 (from f (at + 22)) = search rules in
    t ∙ key_at_lem f i w (ap (λ (k : ℕ). record_at k i) c.tallies_at-first.ensures) (c.requires.placed.at i (omega arith)))))
