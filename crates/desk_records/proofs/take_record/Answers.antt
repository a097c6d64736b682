-- `desk_records::take_record` meets its contract, by the tests that led to each answer. Assumes nothing.
use mathlib.Core.Path.{◌≡◌, sym, ap, ◌∙◌}
use mathlib.Core.Bool.{true}
use native.Mathlib.Omega.{arith}
use native.Mathlib.Nat.{le_refl}
use lib.ListN.{set}
use Rattle.model.specs.Reconcile.{record_in_range}
use Rattle.desk_records.specs.Rows.{record_of, record_key}
use Rattle.desk_records.proofs.Taking.{priced, number_out, number_in_lem, share_read}
use Rattle.desk_records.proofs.take_record.Goals as goal

pub returns-then-not-record_in_range : goal.returns-then-not-record_in_range
returns-then-not-record_in_range c =
    let a = c.args.asked.now in
    record {
      number = number_out a.grocers a.offers 0 (record_of c.args.tally) (le_refl 0) (sym c.record_in_range.ensures ∙ c.if-not-record_in_range.true);
      kept = λ e. absurd (omega arith);
    }

pub share_of-requires : goal.share_of-requires
share_of-requires c =
    let a = c.args.asked.now in
    priced a.grocers a.offers (record_of c.args.tally) (sym c.record_in_range.ensures ∙ c.if-not-record_in_range.false) a.price.now c.args.i c.requires

pub returns : goal.returns
unfolding record_key
returns c =
    let x = c.args in
    let a = x.asked.now in
    let inside : record_in_range a.grocers a.offers (record_of x.tally) ≡ true = sym c.record_in_range.ensures ∙ c.if-not-record_in_range.false in
    let p = priced a.grocers a.offers (record_of x.tally) inside a.price.now x.i c.requires in
    record {
      number = number_in_lem a.grocers a.offers 0 (record_of x.tally) (le_refl 0) inside;
      kept = λ z. record {
        key = ap (set x.entries.now.keys x.i) c.count_key.ensures;
        worth = ap (set x.entries.now.shares x.i) (share_read a.price.now a.wanted (record_of x.tally) c.share_of.result c.share_of.ensures p.1 p.2);
        bag = omega arith;
        revision = omega arith;
      };
    }
