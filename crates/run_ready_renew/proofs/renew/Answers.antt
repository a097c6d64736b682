-- `run_ready_renew::renew` meets its contract: the rows that the step can change are right again. Assumes nothing.
use mathlib.Core.List.{[]}
use native.Mathlib.Omega.{arith}
use borrow.Author.Rules.{rules}
use Rattle.run_ready_renew.proofs.After.{renewed_sent, renewed_own, renewed_multiplied, sent_kind}
use Rattle.run_ready_renew.proofs.Changed.{rows_kept, own_place, own_renewed, receiver_place, receiver_renewed, sends_renewed, added_renewed}
use Rattle.run_ready_renew.proofs.renew.Goals as goal

pub one_less-requires : goal.one_less-requires
one_less-requires c =
    own_place c.args.rules.now.boxes c.args.p.kind c.args.p.first c.args.p.second _ _ c.args.done.now c.args.rows.now c.requires.marks_in c.requires.rows_before

pub permitted-ready-requires : goal.permitted-ready-requires
permitted-ready-requires c =
    let m = c.requires.marks_in in
    record {
      kind_from = omega arith;
      kind_to = omega (arith, sent_kind c.args.p.kind c.if-kind.true);
      boxes_in = m.boxes_in;
      a_in = m.b_in;
      b_in = m.a_in;
      done_long = m.done_long;
    }

pub one_more-requires : goal.one_more-requires
one_more-requires c =
    receiver_place c.args.rules.now.boxes c.args.p.kind c.args.p.first c.args.p.second _ _ c.args.done.now c.args.rows.now c.requires.marks_in c.requires.rows_before _ c.one_less.ensures c.if-kind.true

pub returns-then-kind : goal.returns-then-kind
returns-then-kind c =
    renewed_sent c.args.rules.now.boxes _ c.args.p.kind c.args.p.first c.args.p.second _ _
    (rows_kept c.args.rules.now.boxes c.args.p.kind c.args.p.first c.args.p.second _ _ c.args.done.now c.args.rows.now c.requires.marks_in c.requires.rows_before)
    (own_renewed c.args.rules.now.boxes c.args.p.kind c.args.p.first c.args.p.second _ _ c.args.done.now c.args.rows.now c.requires.marks_in c.requires.rows_before _ c.one_less.ensures) _ c.if-kind.true
    (receiver_renewed c.args.rules.now.boxes c.args.p.kind c.args.p.first c.args.p.second _ _ c.args.done.now c.args.rows.now c.requires.marks_in c.requires.rows_before
    _ c.one_less.ensures c.if-kind.true _ _ c.permitted-ready.ensures c.one_more.ensures)

pub returns-then-kind-2 : goal.returns-then-kind-2
returns-then-kind-2 c =
    renewed_own c.args.rules.now.boxes _ c.args.p.kind c.args.p.first c.args.p.second _ _
    (rows_kept c.args.rules.now.boxes c.args.p.kind c.args.p.first c.args.p.second _ _ c.args.done.now c.args.rows.now c.requires.marks_in c.requires.rows_before)
    (own_renewed c.args.rules.now.boxes c.args.p.kind c.args.p.first c.args.p.second _ _ c.args.done.now c.args.rows.now c.requires.marks_in c.requires.rows_before _ c.one_less.ensures) c.if-kind.false c.if-kind-2.true

pub renew_sends-requires : goal.renew_sends-requires
renew_sends-requires c =
    record {
      box_in = (search rules, c.got-got.ensures);
      rows_len = (own_renewed c.args.rules.now.boxes c.args.p.kind c.args.p.first c.args.p.second _ _ c.args.done.now c.args.rows.now c.requires.marks_in c.requires.rows_before _ c.one_less.ensures).long;
    }

pub renew_own-requires : goal.renew_own-requires
renew_own-requires c =
    record {
      box_in = (search rules, c.got-got.ensures);
      rows_len = (c.renew_sends.ensures []).long;
    }

pub returns : goal.returns
returns c =
    renewed_multiplied c.args.rules.now.boxes _ c.args.p.kind c.args.p.first c.args.p.second _ _
    (rows_kept c.args.rules.now.boxes c.args.p.kind c.args.p.first c.args.p.second _ _ c.args.done.now c.args.rows.now c.requires.marks_in c.requires.rows_before)
    (own_renewed c.args.rules.now.boxes c.args.p.kind c.args.p.first c.args.p.second _ _ c.args.done.now c.args.rows.now c.requires.marks_in c.requires.rows_before _ c.one_less.ensures) c.if-kind.false _ _ c.if-kind-2.false
    (sends_renewed c.args.rules.now.boxes c.args.p.kind c.args.p.first c.args.p.second _ _ c.args.done.now c.args.rows.now c.requires.marks_in c.requires.rows_before _ _ (c.renew_sends.ensures c.args.rules.now.receivers.now))
    (added_renewed c.args.rules.now.boxes c.args.p.kind c.args.p.first c.args.p.second _ _ c.args.done.now c.args.rows.now c.requires.marks_in c.requires.rows_before _ _ (c.renew_own.ensures c.args.rules.now.receivers.now))
