-- `message_tables::message_tables` meets its contract: the refusal, or the tables of the words that the masks of standing tallies mean. Assumes nothing.
use mathlib.Core.Path.{◌≡◌, sym, ap, ap₂, ◌∙◌}
use mathlib.Core.Bool.{true, false}
use mathlib.Core.List.{List}
use Prim.Native.Nat.{ℕ, ◌+◌}
use Rattle.std.proofs.lemmas.Result.{err_from_is_err_and}
use Rattle.tables.specs.Lent.{job_held}
use Rattle.laws.specs.Checks.{first_met}
use Rattle.model.specs.Tables.{JobTables, job_of}
use Rattle.model.specs.Handed.{handed_tables, Standing, Handed}
use Rattle.model.specs.Words.{owner_words}
use Rattle.model.specs.Local.{price_table, total_table, job_refusals}
use Rattle.message_tables.specs.Sums.{others_sum}
use Rattle.message_words.specs.Messages.{sent_table}
use Rattle.model.proofs.Handed.{handed_job, handed-whole, handed_in}
use Rattle.model.proofs.Whole.{JobWhole, job_whole}
use Rattle.job_checks.proofs.Refusals.{accepted}
use Rattle.job_masks.proofs.InJob.{placed_offers, placed_grocers, owned_offers, owned_grocers}
use Rattle.message_words.proofs.OfJob.{price_sent_lem, total_sent_lem}
use Rattle.message_tables.proofs.Summing.{word_total}
use Rattle.message_tables.proofs.Refused.{messages_refused, messages_made}
use Rattle.message_tables.proofs.message_tables.Goals as goal

-- Where nothing refuses, the job with the boxes of standing tallies is in range and whole.
module _ (f : JobTables) (boxes : List ℕ) (none : 0 ≡ first_met (job_refusals f)) (stand : Standing f boxes) where
  in_range_lem : Handed (handed_tables f boxes)
  in_range_lem = handed_in f boxes stand (accepted f (sym none)).in_range

  whole : JobWhole (handed_tables f boxes)
  whole = job_whole (handed_tables f boxes) (handed-whole f boxes stand (accepted f (sym none)).whole)

pub returns-in_err-job_refusal : goal.returns-in_err-job_refusal
returns-in_err-job_refusal c =
    let p = err_from_is_err_and c.from_residual.result c.from_residual.ensures.1 in
    rw (p.1, p.2) (messages_refused (job_held c.args.job.now) c.args.prices.now c.args.totals.now c.in_err-job_refusal.field-0.0 c.in_err-job_refusal.ensures.value)

pub needs-needing-requires : goal.needs-needing-requires
needs-needing-requires c =
    let f = job_held c.args.job.now in
    let boxes = c.job_refusal.new.standing in
    let r = c.in_ok-job_refusal.ensures in
    placed_offers (handed_tables f boxes) (in_range_lem f boxes r.value r.standing) (whole f boxes r.value r.standing)

pub sharers-sharing-requires : goal.sharers-sharing-requires
sharers-sharing-requires c =
    let f = job_held c.args.job.now in
    let boxes = c.job_refusal.new.standing in
    let r = c.in_ok-job_refusal.ensures in
    placed_grocers (handed_tables f boxes) (in_range_lem f boxes r.value r.standing) (whole f boxes r.value r.standing)

pub price_table-requires : goal.price_table-requires
price_table-requires c =
    let f = job_held c.args.job.now in
    let boxes = c.job_refusal.new.standing in
    let r = c.in_ok-job_refusal.ensures in
    owned_offers (handed_tables f boxes) (in_range_lem f boxes r.value r.standing) (whole f boxes r.value r.standing) _ _ c.needs-needing.ensures

pub total_table-requires : goal.total_table-requires
total_table-requires c =
    let f = job_held c.args.job.now in
    let boxes = c.job_refusal.new.standing in
    let r = c.in_ok-job_refusal.ensures in
    owned_grocers (handed_tables f boxes) (in_range_lem f boxes r.value r.standing) (whole f boxes r.value r.standing) _ _ c.sharers-sharing.ensures

pub word_total-requires-clause-owned : goal.word_total-requires-clause-owned
word_total-requires-clause-owned c =
    let f = job_held c.args.job.now in
    let boxes = c.job_refusal.new.standing in
    let r = c.in_ok-job_refusal.ensures in
    owned_offers (handed_tables f boxes) (in_range_lem f boxes r.value r.standing) (whole f boxes r.value r.standing) _ _ c.needs-needing.ensures

pub word_total-requires-clause-owned_2 : goal.word_total-requires-clause-owned_2
word_total-requires-clause-owned_2 c =
    let f = job_held c.args.job.now in
    let boxes = c.job_refusal.new.standing in
    let r = c.in_ok-job_refusal.ensures in
    owned_grocers (handed_tables f boxes) (in_range_lem f boxes r.value r.standing) (whole f boxes r.value r.standing) _ _ c.sharers-sharing.ensures

pub returns : goal.returns
returns c =
    let f = job_held c.args.job.now in
    let boxes = c.job_refusal.new.standing in
    let r = c.in_ok-job_refusal.ensures in
    let ok = in_range_lem f boxes r.value r.standing in
    let same : job_of (handed_tables f boxes) ≡ job_of f = handed_job f boxes r.standing in
    messages_made f c.args.prices.now c.args.totals.now c.price_table.result c.total_table.result c.word_total.result r.value
    (c.price_table.ensures ∙ ap (sent_table false f.offers f.offer_owner) c.needs-needing.ensures ∙ price_sent_lem (handed_tables f boxes) ok ∙ ap price_table same)
    (c.total_table.ensures ∙ ap (sent_table true f.grocers f.grocer_owner) c.sharers-sharing.ensures ∙ total_sent_lem (handed_tables f boxes) ok ∙ ap total_table same)
    (c.word_total.ensures
    ∙ ap₂ (λ (x y : List ℕ). others_sum f.offers f.offer_owner x + others_sum f.grocers f.grocer_owner y) c.needs-needing.ensures c.sharers-sharing.ensures
    ∙ word_total (handed_tables f boxes) ok ∙ ap owner_words same)
