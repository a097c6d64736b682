-- `writer_bytes::put_bytes` meets its contract: a part written over whole. Assumes nothing.
use mathlib.Core.Path.{◌≡◌, ap, ◌∙◌}
use Prim.Native.Nat.{ℕ}
use native.Mathlib.Omega.{arith}
use lib.ListN.{length}
use Rattle.writer_bytes.specs.Puts.{put, bytes_of}
use Rattle.writer_bytes.proofs.Puts.{mid_put}
use Rattle.writer_bytes.proofs.put_bytes.Goals as goal

pub returns : goal.returns
returns g c =
    let x = c.args in
    let long : length x.bytes.now ≡ g.row.N = omega arith in
    mid_put x.at _ x.out.now x.bytes.now c.copy_from_slice.new.self (omega arith) (omega arith) c.copy_from_slice.ensures.after
    ∙ ap (λ (n : ℕ). put x.at n (bytes_of x.bytes.now) x.out.now) long
