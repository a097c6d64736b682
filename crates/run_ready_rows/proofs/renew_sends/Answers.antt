-- `run_ready_rows::renew_sends` meets its contract. Assumes nothing.
use mathlib.Core.Path.{refl}
use Rattle.run_ready_rows.proofs.ByRow.{renewed_cong}
use Rattle.run_ready_rows.proofs.renew_sends.Goals as goal

pub put_word-requires : goal.put_word-requires
put_word-requires c =
    (c.row_at-r.ensures.1, c.requires.rows_len)

pub returns : goal.returns
returns c =
    λ receivers. renewed_cong _ _ _ _ _ _ _ c.row_at-r.ensures.0 (λ b l. refl) (c.put_word.ensures _ _ (c.send_word-word.ensures receivers))
