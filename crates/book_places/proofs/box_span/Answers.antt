-- `book_places::box_span` meets its contract. Assumes nothing.
use mathlib.Core.Path.{◌≡◌, ap, ap₂, ◌∙◌}
use mathlib.Core.List.{List}
use Prim.Native.Nat.{ℕ, ◌+◌, ◌≤◌, ◌<◌}
use native.Mathlib.Omega.{arith}
use lib.ListN.{length, replicate}
use Rattle.laws.proofs.Tables.{get_d_overwrite}
use Rattle.book_sort.specs.Sort.{at, begin}
use Rattle.book_places.specs.Spots.{class_by, list_by, start_by, group_by, put_at}
use Rattle.book_sort.proofs.Placing.{begin_le}
use Rattle.book_places.proofs.Joined.{put_front, list_few}
use Rattle.book_places.proofs.box_span.Goals as goal

pub put_list-requires : goal.put_list-requires
put_list-requires c =
    let start_is : c.from-start.result ≡ start_by c.args.m c.args.owners.now c.args.words.now c.args.b =
    c.from-start.ensures ∙ c.box_start.ensures.0 in
    let few : c.from-start.result ≤ 8_000 =
    omega (arith, c.from-start.ensures, c.box_start.ensures.1) in
    let long_is : c.from.result ≡ length (list_by c.args.k c.args.m c.args.owners.now c.args.words.now c.args.b) =
    c.from.ensures ∙ c.box_list-l.ensures.value in
    let list_long : length (list_by c.args.k c.args.m c.args.owners.now c.args.words.now c.args.b) ≤ 255 =
    omega (arith, list_few c.args.k c.args.m c.args.owners.now c.args.words.now c.args.b, c.requires.box_in.0.m_in) in
    (omega (arith, long_is, list_long, c.box_list-l.auto.out), (omega (arith, start_is, long_is, c.requires.b_in_bounds), omega (arith, few, long_is, list_long)))

pub overflow_add-result-2 : goal.overflow_add-result-2
overflow_add-result-2 c =
    let few : c.from-start.result ≤ 8_000 =
    omega (arith, c.from-start.ensures, c.box_start.ensures.1) in
    let begin_is : (g : ℕ) → g < c.args.k + 2 → at c.box_list-l.new.starts g ≡ begin (class_by c.args.k c.args.b c.args.owners.now c.args.words.now) c.args.m g =
    λ g. λ l. ap (λ (z : List ℕ). at z g) c.box_list-l.ensures.starts_after
    ∙ get_d_overwrite (c.args.k + 2) (begin (class_by c.args.k c.args.b c.args.owners.now c.args.words.now) c.args.m) (replicate 18 0) g 0 l in
    let begin_few : (g : ℕ) → g < c.args.k + 2 → at c.box_list-l.new.starts g ≤ 255 =
    λ g. λ l. omega (arith, begin_is g l, begin_le (class_by c.args.k c.args.b c.args.owners.now c.args.words.now) c.args.m g, c.requires.box_in.0.m_in) in
    omega (arith, few, c.from-last.ensures, begin_few (c.args.group + 1) (omega (arith, c.requires.box_in.1)))

pub returns : goal.returns
unfolding group_by
returns c =
    let start_is : c.from-start.result ≡ start_by c.args.m c.args.owners.now c.args.words.now c.args.b =
    c.from-start.ensures ∙ c.box_start.ensures.0 in
    let long_is : c.from.result ≡ length (list_by c.args.k c.args.m c.args.owners.now c.args.words.now c.args.b) =
    c.from.ensures ∙ c.box_list-l.ensures.value in
    let begin_is : (g : ℕ) → g < c.args.k + 2 → at c.box_list-l.new.starts g ≡ begin (class_by c.args.k c.args.b c.args.owners.now c.args.words.now) c.args.m g =
    λ g. λ l. ap (λ (z : List ℕ). at z g) c.box_list-l.ensures.starts_after
    ∙ get_d_overwrite (c.args.k + 2) (begin (class_by c.args.k c.args.b c.args.owners.now c.args.words.now) c.args.m) (replicate 18 0) g 0 l in
    let group_is : (g : ℕ) → g < c.args.k + 2 → c.from-start.result + at c.box_list-l.new.starts g ≡ group_by c.args.k c.args.m c.args.owners.now c.args.words.now c.args.b g =
    λ g. λ l. ap₂ (λ (x y : ℕ). x + y) start_is (begin_is g l) in
    record {
      from_value = (
        ap (λ (x : ℕ). c.from-start.result + x) c.from-first.ensures ∙ group_is c.args.group (omega (arith, c.requires.box_in.1)),
        ap (λ (x : ℕ). c.from-start.result + x) c.from-last.ensures ∙ group_is (c.args.group + 1) (omega (arith, c.requires.box_in.1)),
      );
      grocers_after = c.put_list.ensures
          ∙ ap₂ (λ (l z : ℕ). put_at c.box_list-l.new.out l z c.args.grocers.now) long_is start_is
          ∙ put_front (list_by c.args.k c.args.m c.args.owners.now c.args.words.now c.args.b) c.box_list-l.new.out (replicate 255 0) c.args.grocers.now
          (start_by c.args.m c.args.owners.now c.args.words.now c.args.b) c.box_list-l.ensures.out_after;
    }
