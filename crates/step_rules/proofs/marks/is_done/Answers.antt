-- `step_rules::marks::is_done` meets its contract. Assumes nothing.
use mathlib.Core.Path.{sym, ap, ◌∙◌}
use Prim.Native.Nat.{ℕ}
use lib.Dec.{eqb}
use lib.ListN.{get_or}
use Rattle.model.specs.Steps.{kind_of, step_place}
use Rattle.model.proofs.Cursor.{number_kind}
use Rattle.step_rules.proofs.Marked.{done_word}
use Rattle.step_rules.proofs.marks.is_done.Goals as goal

pub returns : goal.returns
returns c =
    let p = c.requires in
    let marks = c.args.done.now in
    ap (λ (i : ℕ). eqb (get_or marks i 0) 1) c.place-i.ensures
    ∙ sym (done_word c.args.k (kind_of c.args.kind) c.args.a c.args.b marks p.a_in p.b_in
    ∙ ap (λ (n : ℕ). eqb (get_or marks (step_place c.args.k n c.args.a c.args.b) 0) 1) (number_kind c.args.kind p.kind_from p.kind_to))
