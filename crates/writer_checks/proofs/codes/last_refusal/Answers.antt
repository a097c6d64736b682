-- `writer_checks::codes::last_refusal` meets its contract. Assumes nothing.
use mathlib.Core.Path.{sym, ap, ◌∙◌}
use native.Mathlib.Omega.{arith}
use Rattle.std.proofs.lemmas.Result.{err_from_is_err_and}
use Rattle.refusals.proofs.Numbers.{number_positive}
use Rattle.format.specs.Job.{Head}
use Rattle.format.specs.Tables.{file_job_of}
use Rattle.format.proofs.Order.{before_9, then_9, not_9}
use Rattle.file_blocks.specs.Due.{as_head}
use Rattle.file_blocks.proofs.Looked.{place_most}
use Rattle.writer_checks.specs.Held.{held, job_held}
use Rattle.writer_checks.proofs.Joining.{has_names}
use Rattle.writer_checks.proofs.Naming.{twice_is}
use Rattle.writer_checks.proofs.codes.last_refusal.Goals as goal

pub returns-in_err-names_refusal : goal.returns-in_err-names_refusal
returns-in_err-names_refusal c = λ j h b.
    let p = err_from_is_err_and c.from_residual.result c.from_residual.ensures.1 in
    rw (p.1, p.2) (before_9 _ _ _ _ (c.in_err-names_refusal.ensures.value j h) (λ e. let l = number_positive c.in_err-names_refusal.field-0.0 in omega arith))

pub columns_twice-requires : goal.columns_twice-requires
unfolding file_job_of
columns_twice-requires c =
    let x = c.args.tables.now in
    let m = c.requires.names_in.most in
    let placed = c.in_ok-names_refusal.ensures.placed (job_held x) (has_names (as_head x.head) (held x)) in
    record {
      few = omega (arith, m.tallies);
      grocers = omega (arith, c.requires.tallies_in_bounds.0);
      offers = omega (arith, m.tallies, c.names_refusal.auto.places);
      bags = omega (arith, c.requires.tallies_in_bounds.1);
      revisions = omega (arith, c.requires.tallies_in_bounds.2);
      place = λ t l. omega (arith, placed.at t (omega arith), place_most (job_held x) t, m.offers);
    }

pub returns-then-columns_twice : goal.returns-then-columns_twice
returns-then-columns_twice c = λ j h b.
    let twice = rw c.from.ensures at c.columns_twice.ensures in
    then_9 _ _ _ (sym (c.in_ok-names_refusal.ensures.value j h))
    (sym (twice ∙ twice_is j _ _ _ _ _ (ap (λ (x : Head). x.tallies) h.head) b (c.in_ok-names_refusal.ensures.placed j h)) ∙ c.if-columns_twice.true)

pub returns : goal.returns
returns c = λ j h b.
    let twice = rw c.from.ensures at c.columns_twice.ensures in
    not_9 _ _ _ (sym (c.in_ok-names_refusal.ensures.value j h))
    (sym (twice ∙ twice_is j _ _ _ _ _ (ap (λ (x : Head). x.tallies) h.head) b (c.in_ok-names_refusal.ensures.placed j h)) ∙ c.if-columns_twice.false)
