-- `book_places::box_list` meets its contract. Assumes nothing.
use mathlib.Core.Path.{◌≡◌, ap, ◌∙◌}
use mathlib.Core.List.{List}
use Prim.Native.Nat.{ℕ, suc, ◌+◌}
use native.Mathlib.Omega.{arith}
use lib.ListN.{length}
use Rattle.laws.proofs.Tables.{get_d_overwrite}
use Rattle.book_sort.specs.Sort.{at, begin}
use Rattle.book_sort.proofs.Placing.{begin_le}
use Rattle.book_places.proofs.Local.{few, list_owned, keys_ready, starts_are, list_length, place_few, list_is}
use Rattle.book_places.proofs.box_list.Goals as goal

pub classes-keys-requires : goal.classes-keys-requires
classes-keys-requires c =
    let list : List ℕ =
    c.gather-l.new.list in
    let long : length list ≡ 500 =
    c.gather-l.auto.list in
    list_owned _ _ _ _ _ _ _ c.requires.owners_in.0 c.gather-l.ensures.value c.gather-l.ensures.by_index (omega (arith, long))

pub sort-requires : goal.sort-requires
sort-requires c =
    let list : List ℕ =
    c.gather-l.new.list in
    let m_is : c.from-m.result + 1 ≡ c.args.k + 1 =
    ap (λ (i : ℕ). i + 1) c.from-m.ensures in
    keys_ready c.args.k c.args.n c.args.b _ c.args.owners.now c.args.words.now list c.requires.owners_in.0 c.gather-l.ensures.value c.gather-l.ensures.by_index
    c.classes-keys.result c.classes-keys.ensures _ m_is
    c.args.starts.now c.args.out.now (omega (arith, m_is, c.requires.b_lt_k.1.0)) c.requires.b_lt_k.1.1

pub look_up-requires : goal.look_up-requires
look_up-requires c =
    let list : List ℕ =
    c.gather-l.new.list in
    let long : length list ≡ 500 =
    c.gather-l.auto.list in
    let m_is : c.from-m.result + 1 ≡ c.args.k + 1 =
    ap (λ (i : ℕ). i + 1) c.from-m.ensures in
    let all_is : at c.sort.new.starts (c.from-m.result + 1) ≡ begin (at c.classes-keys.result) c.gather-l.result (c.from-m.result + 1) =
    let m = c.from-m.result + 1 in
    ap (λ (l : List ℕ). at l m) c.sort.ensures.starts_after
    ∙ get_d_overwrite (suc m) (begin (at c.classes-keys.result) c.gather-l.result) c.args.starts.now m 0 (omega arith) in
    let sum_is : c.from.result ≡ begin (at c.classes-keys.result) c.gather-l.result (c.from-m.result + 1) =
    c.from.ensures ∙ all_is in
    let o = c.requires.owners_in.0 in (
      omega (
        arith,
        sum_is,
        begin_le (at c.classes-keys.result) c.gather-l.result (c.from-m.result + 1),
        few _ _ _ _ _ _ list o c.gather-l.ensures.value c.gather-l.ensures.by_index,
        c.requires.b_lt_k.1.1,
        c.sort.auto.out,
      ),
      λ x h. omega (
        arith,
        long,
        place_few _ _ _ _ _ _ list o c.gather-l.ensures.value c.gather-l.ensures.by_index _ c.classes-keys.ensures _ m_is _ _ c.sort.ensures.out_after x (omega (arith, sum_is)),
      ),
    )

pub returns : goal.returns
returns c =
    let list : List ℕ =
    c.gather-l.new.list in
    let m_is : c.from-m.result + 1 ≡ c.args.k + 1 =
    ap (λ (i : ℕ). i + 1) c.from-m.ensures in
    let all_is : at c.sort.new.starts (c.from-m.result + 1) ≡ begin (at c.classes-keys.result) c.gather-l.result (c.from-m.result + 1) =
    let m = c.from-m.result + 1 in
    ap (λ (l : List ℕ). at l m) c.sort.ensures.starts_after
    ∙ get_d_overwrite (suc m) (begin (at c.classes-keys.result) c.gather-l.result) c.args.starts.now m 0 (omega arith) in
    let sum_is : c.from.result ≡ begin (at c.classes-keys.result) c.gather-l.result (c.from-m.result + 1) =
    c.from.ensures ∙ all_is in
    let o = c.requires.owners_in.0 in record {
      value = all_is ∙ list_length _ _ _ _ _ _ list o c.gather-l.ensures.value c.gather-l.ensures.by_index _ c.classes-keys.ensures _ (m_is);
      starts_after = c.sort.ensures.starts_after ∙ starts_are _ _ _ _ _ _ list o c.gather-l.ensures.value c.gather-l.ensures.by_index _ c.classes-keys.ensures _ m_is c.args.starts.now;
      out_after = c.look_up.ensures
          ∙ list_is _ _ _ _ _ _ list o c.gather-l.ensures.value c.gather-l.ensures.by_index _ c.classes-keys.ensures _ m_is _ _ c.sort.ensures.out_after _ (sum_is);
    }
