-- `settle::input::read_input` meets its contract. Assumes nothing.
use Rattle.std.proofs.Common.{◌≡◌, ◌+◌, arith}
use Rattle.settle.proofs.Known.{read_more, read_to_end, read_full}
use Rattle.settle.proofs.input.read_input.Goals as goal

pub loop-done-preserved : goal.loop-done-preserved
loop-done-preserved g c =
    let i = c.loop-done.invariant in
    let r = c.in-Ok in
    record {
      same_length = omega arith;
      in_buffer = omega (arith, r.ensures.count_in_bounds);
      bytes_read = read_more _ _ _ c.loop-done.done r.count _ _ r.ensures.buffer_unchanged i.bytes_read r.ensures.bytes_read;
    }

pub returns-then-count-eq0-clause-first_bytes : goal.returns-then-count-eq0-clause-first_bytes
returns-then-count-eq0-clause-first_bytes g c =
    let r = c.in-Ok in
    let done = c.loop-done.done in
    let more = read_more _ _ _ done r.count _ _ r.ensures.buffer_unchanged c.loop-done.invariant.bytes_read r.ensures.bytes_read in
    let none : done + r.count ≡ done = omega arith in
    read_to_end _ _ done c.read_behind.new.buffer (omega arith) (rw none at more) (r.ensures.at_end c.if-count-eq0.true c.loop-done-test.true)

pub returns-clause-first_bytes : goal.returns-clause-first_bytes
returns-clause-first_bytes g c =
    read_full _ (g.R.Read.remaining c.loop-done.input) c.loop-done.done c.loop-done.buffer (omega arith) c.loop-done.invariant.bytes_read
