-- `trial_rounds::best` meets its contract: no step of the kinds passed is ready for the box. Assumes nothing.
use mathlib.Core.Path.{◌≡◌, ap, ◌∙◌}
use Prim.Native.Nat.{ℕ, ◌<◌}
use native.Mathlib.Nat.{zero-mul}
use native.Mathlib.Omega.{arith}
use lib.ListN.{get_or, take}
use lib.Seq.{get_or-take, length-take-le}
use Rattle.laws.specs.Below.{any}
use Rattle.run_ready.specs.Rows.{row_of}
use Rattle.trial_rules.proofs.Preferences.{kind_in}
use Rattle.trial_rounds.proofs.Likes.{none_more, word_some, first_liked}
use Rattle.trial_rounds.proofs.best.Goals as goal

pub loop-kind-init : goal.loop-kind-init
unfolding any
loop-kind-init c = λ f h. rw (zero-mul c.args.k)

pub row_at-r-requires : goal.row_at-r-requires
row_at-r-requires c =
    let i = c.loop-kind.kind-index in
    let list = c.args.list.now in
    let size = length-take-le 6 list c.requires.0.long in
    let li : i < 6 = omega (arith, c.loop-kind-test.true, size) in
    let word_is : get_or (take 6 list) i 0 ≡ get_or list i 0 = get_or-take 6 list i 0 li in
    let (from, to) = kind_in list c.requires.0.is_list i li in
    rw word_is (from, to, c.requires.0.boxes_in, c.requires.1)

pub returns-then-word-ne0 : goal.returns-then-word-ne0
returns-then-word-ne0 c =
    let i = c.loop-kind.kind-index in
    let list = c.args.list.now in
    let size = length-take-le 6 list c.requires.0.long in
    let li : i < 6 = omega (arith, c.loop-kind-test.true, size) in
    let word_is : get_or (take 6 list) i 0 ≡ get_or list i 0 = get_or-take 6 list i 0 li in
    let row_is : c.row_at-r.result ≡ row_of c.args.k (get_or list i 0) c.args.a = c.row_at-r.ensures.0 ∙ ap (λ (kind : ℕ). row_of c.args.k kind c.args.a) word_is in
    λ f h. let some = word_some c.args.k c.args.a list c.requires.0 c.requires.1 i li f c.args.rows.now h _ row_is c.if-word-ne0.true in
    let (lb, on, none) = c.bit_at.ensures some in
    rw word_is (first_liked c.args.k c.args.a list c.requires.0 c.requires.1 i li f c.args.rows.now h _ row_is (c.loop-kind.invariant f h) _ lb on none)

pub loop-kind-preserved : goal.loop-kind-preserved
loop-kind-preserved c =
    let i = c.loop-kind.kind-index in
    let list = c.args.list.now in
    let size = length-take-le 6 list c.requires.0.long in
    let li : i < 6 = omega (arith, c.loop-kind-test.true, size) in
    let word_is : get_or (take 6 list) i 0 ≡ get_or list i 0 = get_or-take 6 list i 0 li in
    let row_is : c.row_at-r.result ≡ row_of c.args.k (get_or list i 0) c.args.a = c.row_at-r.ensures.0 ∙ ap (λ (kind : ℕ). row_of c.args.k kind c.args.a) word_is in
    λ f h. none_more c.args.k c.args.a list c.requires.0 c.requires.1 i li f c.args.rows.now h _ row_is (c.loop-kind.invariant f h) c.if-word-ne0.false

pub returns : goal.returns
returns c =
    let end : c.loop-kind.kind-index ≡ 6 = omega (arith, c.loop-kind-test.false, c.loop-kind.auto.kind-index-end, length-take-le 6 c.args.list.now c.requires.0.long) in
    λ f h. rw end at (c.loop-kind.invariant f h)
