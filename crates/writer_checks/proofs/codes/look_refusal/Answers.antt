-- `writer_checks::codes::look_refusal` meets its contract. Assumes nothing.
use mathlib.Core.Path.{sym, ◌∙◌}
use Rattle.writer_checks.proofs.Naming.{finds, seven, not_seven}
use Rattle.writer_checks.proofs.codes.look_refusal.Goals as goal

pub returns-then-shared-clause-value : goal.returns-then-shared-clause-value
returns-then-shared-clause-value c = λ j k.
    let same = rw c.from-n.ensures at c.shared.ensures in
    sym (seven _ _ (sym (same _ _ k.index ∙ k.shares) ∙ c.if-shared.true))

pub find_places-requires-clause-finds : goal.find_places-requires-clause-finds
find_places-requires-clause-finds c =
    let k = c.requires.keyed in
    let same = rw c.from-n.ensures at c.shared.ensures in
    finds k (sym (same _ _ k.index) ∙ c.if-shared.false)

pub returns-clause-value : goal.returns-clause-value
returns-clause-value c = λ j k.
    let same = rw c.from-n.ensures at c.shared.ensures in
    c.find_places.ensures.value j (finds k (sym (same _ _ k.index) ∙ c.if-shared.false)) k.tallies
    ∙ sym (not_seven _ _ (sym (same _ _ k.index ∙ k.shares) ∙ c.if-shared.false))

pub returns-clause-placed : goal.returns-clause-placed
returns-clause-placed c = λ j k.
    let same = rw c.from-n.ensures at c.shared.ensures in
    c.find_places.ensures.placed j (finds k (sym (same _ _ k.index) ∙ c.if-shared.false))
