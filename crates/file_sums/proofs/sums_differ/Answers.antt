-- `file_sums::sums_differ` meets its contract. Assumes nothing.
use mathlib.Core.Path.{◌∙◌, ap}
use Rattle.format.specs.Bytes.{word16}
use Rattle.format.specs.Refusals.{sums_differ}
use Rattle.file_bytes.proofs.After.{from-after}
use Rattle.file_sums.proofs.sums_differ.Goals as goal

pub returns : goal.returns
unfolding sums_differ
returns c =
    let a = c.word16.ensures.0 ∙ ap word16 (from-after c.args.f.now _ 508) in
    let b = c.word16-2.ensures.0 ∙ ap word16 (from-after c.args.f.now _ 510) in
    rw (← c.sums-s.ensures.0, ← c.sums-s.ensures.1, a, b)
