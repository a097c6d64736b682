-- `settle_text::lines::put_settled` meets its contract. Assumes nothing.
use native.Mathlib.Omega.{arith}
use Rattle.printing.specs.Printed.{words_name, messages_name, settled_text}
use Rattle.settle_text.proofs.Puts.{behind}
use Rattle.settle_text.proofs.Decimals.{count_short}
use Rattle.settle_text.proofs.lines.put_settled.Goals as goal

pub put_count-sent-requires : goal.put_count-sent-requires
put_count-sent-requires c =
    omega (arith, c.put_statements-lines.ensures.upper_bound)

pub put_count-told-requires : goal.put_count-told-requires
put_count-told-requires c =
    omega (arith, c.put_statements-lines.ensures.upper_bound, c.put_count-sent.ensures.next, count_short words_name c.args.words (omega arith))

pub put_count-requires : goal.put_count-requires
put_count-requires c =
    omega (arith, c.put_statements-lines.ensures.upper_bound, c.put_count-sent.ensures.next, c.put_count-told.ensures.next, count_short words_name c.args.words (omega arith), count_short messages_name c.args.messages (omega arith))

pub returns : goal.returns
unfolding settled_text
returns c =
    behind (behind (behind c.put_statements-lines.ensures.put c.put_count-sent.ensures) c.put_count-told.ensures) c.put_count.ensures
