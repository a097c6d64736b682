-- `step_rules::marks::mark` meets its contract. Assumes nothing.
use mathlib.Core.Path.{◌≡◌, sym, ap, ◌∙◌}
use Prim.Native.Nat.{ℕ}
use lib.ListN.{set}
use Rattle.model.specs.Steps.{kind_number, kind_of, step_place}
use Rattle.model.proofs.Cursor.{number_kind}
use Rattle.step_rules.proofs.Marked.{marks_set}
use Rattle.step_rules.proofs.marks.mark.Goals as goal

pub returns : goal.returns
returns c =
    let p = c.requires.marks_in in
    let q = kind_of c.args.kind in
    let old = c.args.done.now in
    let here : set old c.place-i.result 1 ≡ set old (step_place c.args.k c.args.kind c.args.a c.args.b) 1 = ap (λ (i : ℕ). set old i 1) c.place-i.ensures in
    let same : set old (step_place c.args.k (kind_number q) c.args.a c.args.b) 1 ≡ set old (step_place c.args.k c.args.kind c.args.a c.args.b) 1 =
    ap (λ (n : ℕ). set old (step_place c.args.k n c.args.a c.args.b) 1) (number_kind c.args.kind p.kind_from p.kind_to) in
    (here ∙ sym same ∙ sym (marks_set c.args.k q c.args.a c.args.b old p.a_in p.b_in p.done_long c.requires.done_value), here)
