-- `book_places::all::all_lists` meets its contract. Assumes nothing.
use mathlib.Core.Path.{◌≡◌, sym, ap, ◌∙◌, subst}
use mathlib.Core.List.{List}
use Prim.Native.Nat.{ℕ, suc}
use native.Mathlib.Omega.{arith}
use lib.ListN.{replicate}
use Rattle.laws.specs.Tables.{overwrite}
use Rattle.book_sort.specs.Sort.{at, begin, in_front, sorted}
use Rattle.book_places.specs.Spots.{start_by}
use Rattle.book_places.specs.Boxes.{ByOwner, HeadsTold}
use Rattle.book_sort.proofs.Placing.{begin_le}
use Rattle.book_places.proofs.Boxes.{by_owner_lem, all_owned, start_few}
use Rattle.book_places.proofs.all.all_lists.Goals as goal

pub sort-requires : goal.sort-requires
sort-requires c =
    let o = c.requires.owners_in in
    record {
      keys_in = record {
        n_in = omega (arith, o.n_in);
        keys_long = o.owners_long;
        key_in = λ x l. omega (arith, o.owner_in x l, c.from.ensures);
      };
      m_in = omega (arith, o.k_in, c.from.ensures);
      starts_long = omega (arith, o.k_in, c.from.ensures);
      out_long = omega (arith, o.n_in, begin_le (at c.args.owners.now) c.args.n c.from.result);
    }

pub invariant_of-sorted : goal.invariant_of-sorted
invariant_of-sorted c =
    let starts : List ℕ =
    c.sort.new.starts in
    let k_is : c.from.result ≡ c.args.k =
    c.from.ensures in
    let parts : ByOwner c.args.k c.args.n c.args.owners.now c.args.words.now starts c.sort.new.out =
    by_owner_lem c.args.k c.args.n c.args.owners.now c.args.words.now _ _ c.requires.owners_in c.requires.words_long
    (c.sort.ensures.starts_after ∙ ap (λ (k : ℕ). overwrite (suc k) (begin (at c.args.owners.now) c.args.n) (replicate 18 0)) k_is)
    c.sort.auto.starts
    (c.sort.ensures.out_after ∙ ap (λ (k : ℕ). in_front (sorted (at c.args.owners.now) c.args.n k) (replicate 500 0)) k_is)
    c.sort.auto.out in
    let many_is : at starts c.args.k ≡ c.args.n =
    parts.starts_are c.args.k (omega arith) ∙ all_owned c.args.k c.args.n c.args.owners.now c.requires.owners_in in
    record { by_owner = subst (λ (n : ℕ). ByOwner c.args.k n c.args.owners.now c.args.words.now starts c.sort.new.out) (sym many_is) parts }

pub put_lists-requires : goal.put_lists-requires
put_lists-requires c =
    let starts : List ℕ =
    c.sort.new.starts in
    let k_is : c.from.result ≡ c.args.k =
    c.from.ensures in
    let parts : ByOwner c.args.k c.args.n c.args.owners.now c.args.words.now starts c.sort.new.out =
    by_owner_lem c.args.k c.args.n c.args.owners.now c.args.words.now _ _ c.requires.owners_in c.requires.words_long
    (c.sort.ensures.starts_after ∙ ap (λ (k : ℕ). overwrite (suc k) (begin (at c.args.owners.now) c.args.n) (replicate 18 0)) k_is)
    c.sort.auto.starts
    (c.sort.ensures.out_after ∙ ap (λ (k : ℕ). in_front (sorted (at c.args.owners.now) c.args.n k) (replicate 500 0)) k_is)
    c.sort.auto.out in
    let many_is : at starts c.args.k ≡ c.args.n =
    parts.starts_are c.args.k (omega arith) ∙ all_owned c.args.k c.args.n c.args.owners.now c.requires.owners_in in
    (c.requires.heads_long, omega (arith, c.requires.out_long, ap (λ (n : ℕ). start_by n c.args.owners.now c.args.words.now c.args.k) many_is))

pub word_of-requires : goal.word_of-requires
word_of-requires c =
    let starts : List ℕ =
    c.sort.new.starts in
    let k_is : c.from.result ≡ c.args.k =
    c.from.ensures in
    let parts : ByOwner c.args.k c.args.n c.args.owners.now c.args.words.now starts c.sort.new.out =
    by_owner_lem c.args.k c.args.n c.args.owners.now c.args.words.now _ _ c.requires.owners_in c.requires.words_long
    (c.sort.ensures.starts_after ∙ ap (λ (k : ℕ). overwrite (suc k) (begin (at c.args.owners.now) c.args.n) (replicate 18 0)) k_is)
    c.sort.auto.starts
    (c.sort.ensures.out_after ∙ ap (λ (k : ℕ). in_front (sorted (at c.args.owners.now) c.args.n k) (replicate 500 0)) k_is)
    c.sort.auto.out in
    let many_is : at starts c.args.k ≡ c.args.n =
    parts.starts_are c.args.k (omega arith) ∙ all_owned c.args.k c.args.n c.args.owners.now c.requires.owners_in in
    let length_is : c.put_lists.result ≡ start_by c.args.n c.args.owners.now c.args.words.now c.args.k =
    c.put_lists.ensures.0 ∙ ap (λ (n : ℕ). start_by n c.args.owners.now c.args.words.now c.args.k) (many_is) in
    omega (arith, length_is, start_few c.args.n c.args.owners.now c.args.words.now c.args.k c.requires.owners_in.n_in c.requires.owners_in.k_in)

pub returns : goal.returns
returns c =
    let starts : List ℕ =
    c.sort.new.starts in
    let k_is : c.from.result ≡ c.args.k =
    c.from.ensures in
    let parts : ByOwner c.args.k c.args.n c.args.owners.now c.args.words.now starts c.sort.new.out =
    by_owner_lem c.args.k c.args.n c.args.owners.now c.args.words.now _ _ c.requires.owners_in c.requires.words_long
    (c.sort.ensures.starts_after ∙ ap (λ (k : ℕ). overwrite (suc k) (begin (at c.args.owners.now) c.args.n) (replicate 18 0)) k_is)
    c.sort.auto.starts
    (c.sort.ensures.out_after ∙ ap (λ (k : ℕ). in_front (sorted (at c.args.owners.now) c.args.n k) (replicate 500 0)) k_is)
    c.sort.auto.out in
    let many_is : at starts c.args.k ≡ c.args.n =
    parts.starts_are c.args.k (omega arith) ∙ all_owned c.args.k c.args.n c.args.owners.now c.requires.owners_in in
    let length_is : c.put_lists.result ≡ start_by c.args.n c.args.owners.now c.args.words.now c.args.k =
    c.put_lists.ensures.0 ∙ ap (λ (n : ℕ). start_by n c.args.owners.now c.args.words.now c.args.k) (many_is) in (
      c.word_of.ensures ∙ length_is,
      subst (λ (n : ℕ). HeadsTold c.args.k n c.args.owners.now c.args.words.now c.args.k c.put_lists.new.heads c.put_lists.new.out) many_is c.put_lists.ensures.1,
    )
