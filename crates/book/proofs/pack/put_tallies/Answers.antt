-- `book::pack::put_tallies` meets its contract. The invariant: the words of the tallies passed are put. Assumes nothing.
use mathlib.Core.Path.{◌≡◌, sym, ap, ap₂, ◌∙◌}
use mathlib.Core.List.{List}
use Prim.Native.Nat.{ℕ}
use native.Mathlib.Omega.{arith}
use lib.ListN.{get_or, set}
use lib.IntN.{ℤ, pos}
use Rattle.laws.specs.Tables.{overwrite}
use Rattle.laws.proofs.Tables.{overwrite_none, overwrite_next}
use Rattle.laws.proofs.Signed.{read32}
use Rattle.book_sort.specs.Sort.{at}
use Rattle.book.specs.Pack.{packed_grocer, packed_count}
use Rattle.book.proofs.pack.put_tallies.Goals as goal

pub loop-i-init : goal.loop-i-init
loop-i-init c =
    let grocer : ℕ → ℕ =
    packed_grocer c.args.places.now c.args.job.now.tally_grocer.now c.args.order.now in
    let number : ℕ → ℤ =
    packed_count c.args.job.now.tally_count.now c.args.order.now in
    (sym (overwrite_none 0 grocer c.args.packed_grocers.now), sym (overwrite_none (pos 0) number c.args.packed_counts.now))

pub loop-i-preserved : goal.loop-i-preserved
unfolding packed_grocer packed_count
loop-i-preserved c =
    let grocer : ℕ → ℕ =
    packed_grocer c.args.places.now c.args.job.now.tally_grocer.now c.args.order.now in
    let number : ℕ → ℤ =
    packed_count c.args.job.now.tally_count.now c.args.order.now in
    let tally_is : c.index_at-t.result ≡ at c.args.order.now c.loop-i.i =
    c.index_at-t.ensures.0 in
    let grocer_is : c.index_at.result ≡ at c.args.job.now.tally_grocer.now (at c.args.order.now c.loop-i.i) =
    c.index_at.ensures.0 ∙ ap (at c.args.job.now.tally_grocer.now) (tally_is) in
    let i = c.loop-i.i in
    let counts = c.args.job.now.tally_count.now in (
      ap₂ (λ (l : List ℕ) (v : ℕ). set l i v) c.loop-i.invariant.0 (ap (at c.args.places.now) grocer_is)
          ∙ overwrite_next 0 i grocer c.args.packed_grocers.now (omega (arith, c.loop-i-test.true, c.requires.n_in_bounds.0)),
      ap₂ (λ (l : List ℤ) (v : ℤ). set l i v) c.loop-i.invariant.1 (read32 c.i32_at.result c.i32_at.type_inv ∙ c.i32_at.ensures ∙ ap (λ (x : ℕ). get_or counts x (pos 0)) tally_is)
          ∙ overwrite_next (pos 0) i number c.args.packed_counts.now (omega (arith, c.loop-i-test.true, c.requires.n_in_bounds.1)),
    )

pub returns : goal.returns
returns c =
    let grocer : ℕ → ℕ =
    packed_grocer c.args.places.now c.args.job.now.tally_grocer.now c.args.order.now in
    let number : ℕ → ℤ =
    packed_count c.args.job.now.tally_count.now c.args.order.now in
    let end : c.loop-i.i ≡ c.args.n = omega arith in
    record {
      packed_grocers_after = c.loop-i.invariant.0 ∙ ap (λ (i : ℕ). overwrite i grocer c.args.packed_grocers.now) end;
      packed_counts_after = c.loop-i.invariant.1 ∙ ap (λ (i : ℕ). overwrite i number c.args.packed_counts.now) end;
    }
