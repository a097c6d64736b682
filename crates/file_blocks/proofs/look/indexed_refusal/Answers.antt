-- `file_blocks::look::indexed_refusal` meets its contract. Assumes nothing.
use mathlib.Core.Path.{◌≡◌, sym, ap, ◌∙◌}
use mathlib.Core.List.{List}
use Prim.Native.Nat.{ℕ}
use Rattle.format.specs.Job.{Head, shared}
use Rattle.format.specs.File.{decode}
use Rattle.index.specs.Index.{shares_number}
use Rattle.file_blocks.specs.Sound.{Sound, Indexed}
use Rattle.file_blocks.proofs.Naming.{shared_is}
use Rattle.file_blocks.proofs.Last.{names_7, names_rest}
use Rattle.file_blocks.proofs.look.indexed_refusal.Goals as goal

-- Two offers share a name where two numbers of the index are equal.
shared_told : {f keys order : List ℕ} {h : Head} → Sound f h → (i : Indexed f keys order h) → shares_number i.numbers h.offers ≡ shared (decode f)
unfolding shares_number
shared_told {f} {h = h} s i = shared_is (decode f) i.numbers h.offers (sym (ap (λ (x : Head). x.offers) s.whole.says)) s.offer i.right

pub returns-then-shared : goal.returns-then-shared
returns-then-shared c =
    let i = c.requires.offers_in_bounds.2 in
    record {
      value = names_7 _ (sym (shared_told c.requires.sound.0 i) ∙ sym ((rw c.from-n.ensures at c.shared.ensures) _ i.numbers i.index) ∙ c.if-shared.true);
      placed = tt;
    }

pub find_places-requires : goal.find_places-requires
find_places-requires c =
    let i = c.requires.offers_in_bounds.2 in (
      record {
        sound = c.requires.sound.0;
        keys_long = c.requires.offers_in_bounds.0;
        order_long = c.requires.offers_in_bounds.1;
        indexed = i;
        apart = sym ((rw c.from-n.ensures at c.shared.ensures) _ _ i.index) ∙ c.if-shared.false;
        tops = rw c.from-n.ensures at c.tops-tops.ensures;
      },
      c.requires.sound.1,
    )

pub returns : goal.returns
returns c =
    let i = c.requires.offers_in_bounds.2 in
    record {
      value = names_rest _ _ (sym (shared_told c.requires.sound.0 i) ∙ sym ((rw c.from-n.ensures at c.shared.ensures) _ i.numbers i.index) ∙ c.if-shared.false) c.find_places.ensures.value;
      placed = c.find_places.ensures.placed;
    }
