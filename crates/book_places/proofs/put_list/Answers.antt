-- `book_places::put_list` meets its contract. Assumes nothing.
use mathlib.Core.Path.{◌≡◌}
use Prim.Native.Nat.{◌+◌, ◌-◌}
use native.Mathlib.Omega.{arith}
use Rattle.book_places.proofs.Putting.{put_whole}
use Rattle.book_places.proofs.put_list.Goals as goal

pub returns : goal.returns
returns c =
    let size : c.args.start + c.args.l - c.args.start ≡ c.args.l = omega arith in
    rw (c.copy_from_slice.ensures.after, size) (put_whole c.args.list.now c.args.l c.args.start c.args.out.now c.requires.0 c.requires.1.0)
