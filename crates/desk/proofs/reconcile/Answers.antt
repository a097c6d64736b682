-- `desk::reconcile` meets its contract: what is known after i records is `Taken` (proofs/Fold.antt). Assumes nothing.
use mathlib.Core.Path.{◌≡◌, refl}
use Prim.Native.Nat.{◌+◌}
use native.Mathlib.Omega.{arith}
use lib.IntN.{pos}
use lib.ListN.{length, replicate}
use Rattle.std.proofs.lemmas.Result.{err_from_is_err_and}
use Rattle.refusals.specs.Numbers.{number_of}
use Rattle.refusals.proofs.Numbers.{number_positive}
use Rattle.model.specs.Reconcile.{counted_records}
use Rattle.desk.specs.Records.{records_of, answer_of}
use Rattle.desk.proofs.Fold.{taken_first, taken_takes, taken_next, taken_sums, taken_keys, taken_last, taken_stopped}
use Rattle.desk.proofs.reconcile.Goals as goal

pub returns-in_err-head_refusal : goal.returns-in_err-head_refusal
unfolding answer_of
returns-in_err-head_refusal c =
    let x = c.args in
    let p = err_from_is_err_and c.from_residual.result c.from_residual.ensures.1 in
    let k = number_of c.in_err-head_refusal.field-0.0 in
    rw (p.1, p.2)
    (taken_stopped x.records.now x.price.now x.grocers x.offers x.wanted 0 k (replicate 1000 0) (replicate 1000 (pos 0))
    (taken_first x.records.now x.price.now x.grocers x.offers x.wanted k c.in_err-head_refusal.ensures) (number_positive c.in_err-head_refusal.field-0.0))

pub loop-i-init : goal.loop-i-init
loop-i-init c =
    let x = c.args in
    taken_first x.records.now x.price.now x.grocers x.offers x.wanted 0 c.in_ok-head_refusal.ensures

pub take_record-requires : goal.take_record-requires
take_record-requires c =
    let x = c.args in
    let l = c.loop-i in
    taken_takes x.records.now x.price.now x.grocers x.offers x.wanted l.i 0 l.entries.keys l.entries.shares c.loop-i-test.true l.invariant refl

pub returns-in_err-take_record : goal.returns-in_err-take_record
unfolding answer_of
returns-in_err-take_record c =
    let x = c.args in
    let l = c.loop-i in
    let e = c.take_record.new.entries in
    let p = err_from_is_err_and c.from_residual-in_err-take_record.result c.from_residual-in_err-take_record.ensures.1 in
    let k = number_of c.in_err-take_record.field-0.0 in
    rw (p.1, p.2)
    (taken_stopped x.records.now x.price.now x.grocers x.offers x.wanted (l.i + 1) k e.keys e.shares
    (taken_next x.records.now x.price.now x.grocers x.offers x.wanted l.i 0 k l.entries.keys e.keys l.entries.shares e.shares c.loop-i-test.true l.invariant
    c.in_err-take_record.ensures) (number_positive c.in_err-take_record.field-0.0))

pub loop-i-preserved : goal.loop-i-preserved
loop-i-preserved c =
    let x = c.args in
    let l = c.loop-i in
    let e = c.take_record.new.entries in
    taken_next x.records.now x.price.now x.grocers x.offers x.wanted l.i 0 0 l.entries.keys e.keys l.entries.shares e.shares c.loop-i-test.true l.invariant
    c.in_ok-take_record.ensures

pub settle-requires : goal.settle-requires
settle-requires c =
    let x = c.args in
    let l = c.loop-i in
    let all : l.i ≡ length x.records.now = omega arith in
    rw (← all) (taken_sums x.records.now x.price.now x.grocers x.offers x.wanted l.i 0 l.entries.keys l.entries.shares (omega arith) l.invariant refl)

pub returns : goal.returns
returns c =
    let x = c.args in
    let l = c.loop-i in
    let all : l.i ≡ length x.records.now = omega arith in
    let keys = taken_keys x.records.now x.price.now x.grocers x.offers x.wanted l.i 0 l.entries.keys l.entries.shares (omega arith) l.invariant refl in
    taken_last x.records.now x.price.now x.grocers x.offers x.wanted l.i 0 l.entries.keys l.entries.shares (omega arith) l.invariant
    c.settle.result refl (c.settle.ensures (counted_records (records_of x.records.now)) (rw all at keys))
