-- `writer_checks::codes::find_place` meets its contract. Assumes nothing.
use Rattle.writer_checks.proofs.codes.find_place.Goals as goal

pub returns : goal.returns
returns c = λ j f.
    let looked = (rw c.from-n.ensures at c.place.ensures) f.numbers f.index f.apart in
    rw (c.number_of-number.ensures, f.place c.args.i c.requires.i_in_bounds.2) at looked
