-- `settle_text::numbers::put_bytes` meets its contract: the bytes stand between those before and those behind them. Assumes nothing.
use mathlib.Core.Path.{refl}
use native.Mathlib.Omega.{arith}
use Rattle.settle_text.proofs.Puts.{put_by_copy}
use Rattle.settle_text.proofs.numbers.put_bytes.Goals as goal

pub returns : goal.returns
returns c = record {
  next = refl;
  room = omega arith;
  bytes = put_by_copy c.args.at c.args.s.now c.args.out.now _ c.copy_from_slice.ensures.after (omega arith);
}
