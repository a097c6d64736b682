-- `file_blocks::look::find_places` meets its contract. The invariant: the first i tallies name offers, whose places are kept. Assumes nothing.
use mathlib.Core.Path.{◌≡◌, refl, sym, ap, ◌∙◌}
use Prim.Native.Nat.{◌<◌}
use native.Mathlib.Omega.{arith}
use Rattle.format.specs.Job.{Head, place_of}
use Rattle.format.specs.File.{decode}
use Rattle.file_blocks.proofs.Looked.{none_yet, named_more, unnamed_hit, unnamed_end, placed_none, placed_more, placed_end}
use Rattle.file_blocks.proofs.look.find_places.Goals as goal

pub loop-i-init : goal.loop-i-init
loop-i-init c =
    (none_yet _, placed_none _ _)

pub returns-in-None : goal.returns-in-None
returns-in-None c =
    let says = c.requires.0.sound.whole.says in
    let offers_is : c.args.file.now.head.sizes.offers ≡ (decode c.args.file.now.bytes.now).head.offers = ap (λ (h : Head). h.offers) says in
    let tallies_is : c.args.file.now.head.sizes.tallies ≡ (decode c.args.file.now.bytes.now).head.tallies = ap (λ (h : Head). h.tallies) says in
    record {
      value = rw (unnamed_hit (decode c.args.file.now.bytes.now) _ c.loop-i.i _ _ offers_is tallies_is refl c.in-None.ensures (omega arith));
      placed = tt;
    }

pub loop-i-preserved : goal.loop-i-preserved
loop-i-preserved c =
    let offers_is : c.args.file.now.head.sizes.offers ≡ (decode c.args.file.now.bytes.now).head.offers = ap (λ (h : Head). h.offers) c.requires.0.sound.whole.says in
    let found : (place_of (decode c.args.file.now.bytes.now) c.loop-i.i ≡ c.in-Some.p) × (c.in-Some.p < c.args.file.now.head.sizes.offers) = c.in-Some.ensures in (
      named_more _ _ c.loop-i.i _ offers_is (sym found.0) (λ e. omega arith) c.loop-i.invariant.0,
      placed_more _ c.loop-i.invariant.1 (omega arith) (c.word_of.ensures ∙ sym found.0),
    )

pub returns : goal.returns
returns c =
    let tallies_is : c.args.file.now.head.sizes.tallies ≡ (decode c.args.file.now.bytes.now).head.tallies = ap (λ (h : Head). h.tallies) c.requires.0.sound.whole.says in
    let t = c.args.file.now.head.sizes.tallies in
    record {
      value = rw (unnamed_end _ c.loop-i.i t (omega arith) (omega arith) tallies_is c.loop-i.invariant.0);
      placed = placed_end c.loop-i.i t (omega arith) (omega arith) c.loop-i.invariant.1;
    }
