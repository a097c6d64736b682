-- `run_ready_rows::renew_own` meets its contract: not done, and all got. Assumes nothing.
use mathlib.Core.Path.{◌≡◌, refl, ◌∙◌}
use mathlib.Core.Bool.{◌&&◌, not}
use mathlib.Core.List.{List}
use Prim.Native.Nat.{ℕ}
use lib.Dec.{eqb}
use Rattle.model.specs.Steps.{kind_of, add_own}
use Rattle.model.specs.Tables.{steps_done}
use Rattle.step_rules.specs.Rules.{permitted_by}
use Rattle.run_ready.proofs.Walking.{one_of}
use Rattle.run_ready_rows.proofs.ByRow.{renewed_cong, only_word, only_count, own_open}
use Rattle.run_ready_rows.proofs.renew_own.Goals as goal

pub put_row-requires : goal.put_row-requires
put_row-requires c =
    (c.row_at-r.ensures.1, c.requires.rows_len)

pub returns : goal.returns
unfolding kind_of
returns c =
    let place : (receivers : List ℕ) → (b : ℕ) → permitted_by receivers c.args.rules.now.waits.now (steps_done c.args.rules.now.boxes c.args.done.now) add_own c.args.a b
    ≡ (eqb c.args.a b && (not c.is_done-marked.result && c.covers.result)) =
    λ receivers. λ b. own_open receivers c.args.rules.now.waits.now (steps_done c.args.rules.now.boxes c.args.done.now) c.args.a _ c.args.got c.is_done-marked.result c.covers.result
    c.word_at.ensures c.requires.box_in.1 c.covers.ensures c.is_done-marked.ensures b in
    λ receivers. let t = not c.is_done-marked.result && c.covers.result in
    let f = permitted_by receivers c.args.rules.now.waits.now (steps_done c.args.rules.now.boxes c.args.done.now) add_own c.args.a in
    renewed_cong _ _ _ _ _ _ _ c.row_at-r.ensures.0 (λ b l. refl)
    (c.put_row.ensures c.args.rules.now.boxes f
    (only_word c.args.rules.now.boxes c.args.a t f c.requires.box_in.0.a_in (place receivers) _ c.requires.box_in.0.boxes_in c.with_bit-word.ensures)
    (one_of _ _ c.from.ensures ∙ only_count c.args.rules.now.boxes c.args.a t f c.requires.box_in.0.a_in (place receivers)))
