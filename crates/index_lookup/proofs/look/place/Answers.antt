-- `index_lookup::look::place` meets its contract. Assumes nothing.
use mathlib.Core.Path.{sym, ◌∙◌}
use native.Mathlib.Omega.{arith}
use Rattle.index_lookup.proofs.Looking.{found, missing, top_out, top_rises, top_none, bracket_start, bracket_most, bracket_in, bracket_miss}
use Rattle.index_lookup.proofs.look.place.Goals as goal

pub returns-then-top-ge-TOPS : goal.returns-then-top-ge-TOPS
returns-then-top-ge-TOPS c = λ numbers x d. missing x c.args.number d (top_out c.requires.tops.0 c.args.number c.if-top-ge-TOPS.true)

pub returns-then-from-to : goal.returns-then-from-to
returns-then-from-to c =
    λ numbers x d. missing x c.args.number d (top_none c.requires.tops.0 c.args.number c.if-top-ge-TOPS.false c.from-from.ensures c.from-to.ensures c.if-from-to.true)

pub overflow_sub-to : goal.overflow_sub-to
overflow_sub-to c = top_rises c.requires.tops.0 c.args.number c.if-top-ge-TOPS.false c.from-from.ensures c.from-to.ensures

pub halve-at-requires : goal.halve-at-requires
halve-at-requires c =
    let most = bracket_most c.requires.tops.0 c.args.number c.if-top-ge-TOPS.false c.from-from.ensures c.from-to.ensures c.requires.tops.1 c.if-from-to.false in
    omega (arith, most, c.requires.n_bound)

pub offset_bounds-keys-at : goal.offset_bounds-keys-at
offset_bounds-keys-at c =
    omega (arith, bracket_in c.requires.tops.0 c.args.number c.if-top-ge-TOPS.false c.from-from.ensures c.from-to.ensures c.halve-at.ensures, c.requires.n_bound)

pub bounds-keys-at : goal.bounds-keys-at
bounds-keys-at c =
    omega (arith, bracket_in c.requires.tops.0 c.args.number c.if-top-ge-TOPS.false c.from-from.ensures c.from-to.ensures c.halve-at.ensures, c.requires.n_bound)

pub offset_bounds-places-at : goal.offset_bounds-places-at
offset_bounds-places-at c =
    omega (arith, bracket_in c.requires.tops.0 c.args.number c.if-top-ge-TOPS.false c.from-from.ensures c.from-to.ensures c.halve-at.ensures, c.requires.n_bound)

pub bounds-places-at : goal.bounds-places-at
bounds-places-at c =
    omega (arith, bracket_in c.requires.tops.0 c.args.number c.if-top-ge-TOPS.false c.from-from.ensures c.from-to.ensures c.halve-at.ensures, c.requires.n_bound)

pub returns-then-keys-at : goal.returns-then-keys-at
returns-then-keys-at c =
    let inside = bracket_in c.requires.tops.0 c.args.number c.if-top-ge-TOPS.false c.from-from.ensures c.from-to.ensures c.halve-at.ensures in
    λ numbers x d.
    let at = found x c.args.number d c.halve-at.result inside c.if-keys-at.true in
    (at ∙ sym c.from.ensures, omega (arith, x.place_in c.halve-at.result inside, c.from.ensures))

pub returns : goal.returns
returns c =
    let one = c.halve-at.ensures c.args.n (bracket_start c.requires.tops.0 c.args.number c.if-top-ge-TOPS.false c.from-from.ensures c.from-to.ensures) in
    λ numbers x d. missing x c.args.number d (bracket_miss c.args.keys.now c.args.n c.args.number c.halve-at.result one x.ascending c.if-keys-at.false)

pub prove-unreachable-requires : goal.prove-unreachable-requires
prove-unreachable-requires c =
    let inside = bracket_in c.requires.tops.0 c.args.number c.if-top-ge-TOPS.false c.from-from.ensures c.from-to.ensures c.halve-at.ensures in
    absurd (omega (arith, inside, c.if-prove.true))
