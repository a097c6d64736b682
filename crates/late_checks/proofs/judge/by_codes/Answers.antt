-- `late_checks::judge::by_codes` meets its contract. Assumes nothing.
use mathlib.Core.Path.{refl, subst, ◌∙◌}
use lib.IntN.{ℤ, pos}
use Rattle.laws.proofs.Signed.{read32}
use Rattle.format.specs.Bytes.{from}
use Rattle.format.specs.Tables.{offer_tables, tally_tables, file_tables}
use Rattle.late_checks.specs.Held.{Holds}
use Rattle.late_checks.specs.Judged.{tally_with, head_then, file_then}
use Rattle.late_checks.proofs.Codes.{refused_both, err_is}
use Rattle.refusals.specs.Numbers.{number}
use Rattle.late_checks.proofs.judge.by_codes.Goals as goal

pub returns : goal.returns
unfolding file_then
returns c =
    let a = c.args in
    c.is_err.ensures.value ∙ err_is c.job_refusal.result ∙ refused_both (head_then a.w) a.w.shape.place a.w.shape.last (tally_with a.w.tally a.code.now) (from a.code.now 0) refl
    (file_tables (offer_tables a.tables.now.price.now a.tables.now.offer_owner.now a.tables.now.offer_code.now a.tables.now.offer_issuer.now) a.tables.now.grocer_owner.now
    (tally_tables a.tables.now.tally_grocer.now a.tables.now.tally_box.now a.tables.now.tally_code.now a.tables.now.tally_count.now a.tables.now.tally_issuer.now a.tables.now.tally_bag.now a.tables.now.tally_revision.now))
    (tally_tables c.edited-grocers.result c.edited-boxes.result c.edited_code-codes.result c.edited-counts.result
    c.edited-issuers.result c.edited-bags.result c.edited-revisions.result)
    c.requires.edit.most
    (record {
      grocer = c.edited-grocers.ensures 0;
      box = c.edited-boxes.ensures 0;
      code = c.edited_code-codes.ensures;
      count = subst (λ (v : ℤ). Holds 1 c.args.w.shape.place c.args.w.shape.last (pos 0) (λ k. v) c.args.tables.now.tally_count.now c.edited-counts.result)
          (read32 c.args.w.tally.count c.struct_told-1.given.1.1.0.1) (c.edited-counts.ensures (pos 0));
      issuer = c.edited-issuers.ensures 0;
      bag = c.edited-bags.ensures 0;
      revision = c.edited-revisions.ensures 0;
    })
    (number c.job_refusal.result) c.job_refusal.ensures
