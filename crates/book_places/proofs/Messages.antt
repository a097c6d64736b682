-- Group a + 1 of box b lists the words of the message from box a to box b. Assumes nothing.
use mathlib.Core.Path.{◌≡◌, sym, ap, ◌∙◌}
use mathlib.Core.Bool.{true}
use mathlib.Core.List.{List}
use Prim.Native.Nat.{ℕ, suc, ◌+◌, ◌*◌, ◌<◌, ◌≤◌}
use native.Mathlib.Omega.{arith}
use lib.Dec.{eqb}
use lib.ListN.{length}
use borrow.Author.Tests.{eqb-true}
use Rattle.laws.specs.Below.{count}
use Rattle.laws.specs.Listed.{Listed}
use Rattle.laws.specs.Masks.{bit}
use Rattle.laws.proofs.Below.{count_cong}
use Rattle.step_places.specs.Message.{in_message, word_in}
use Rattle.book_sort.specs.Sort.{at, key_count, begin, place}
use Rattle.book_keys.specs.Keys.{OwnersIn}
use Rattle.book_places.specs.Spots.{class_by, start_by, group_by}
use Rattle.book_places.specs.Boxes.{HeadsTold}
use Rattle.book_sort.proofs.Sorting.{begin_suc, place_in}
use Rattle.book_places.proofs.Listing.{other_class}
use Rattle.book_places.proofs.Boxes.{list_ends, list_place, groups_within}

module _ (k n : ℕ) (owners words : List ℕ) (a b : ℕ) (la : a < k) (lb : b < k) where
  -- A word of the message is a number of the class.
  same_class : (x : ℕ) → word_in owners words a b x ≡ eqb (class_by k b owners words x) (suc a)
  unfolding word_in in_message class_by
  same_class x = sym (other_class k b (at owners x) a (bit b (at words x)) la)

  same_count : (x : ℕ) → count x (word_in owners words a b) ≡ key_count (class_by k b owners words) x (suc a)
  unfolding key_count
  same_count x = count_cong x (word_in owners words a b) (λ y. eqb (class_by k b owners words y) (suc a)) (λ y l. same_class y)

  module _ (heads out : List ℕ) (h : OwnersIn k n owners) (told : HeadsTold k n owners words k heads out) (room : start_by n owners words k ≤ length out) where
    from_is : at heads (b * 18 + suc a) ≡ start_by n owners words b + begin (class_by k b owners words) n (suc a)
    unfolding group_by
    from_is = told.heads_are b (suc a) lb (omega arith)

    to_is : at heads (b * 18 + suc (suc a)) ≡ start_by n owners words b + begin (class_by k b owners words) n (suc (suc a))
    unfolding group_by
    to_is = told.heads_are b (suc (suc a)) lb (omega arith)

    spot : (x : ℕ) → class_by k b owners words x ≡ suc a →
        at heads (b * 18 + suc a) + count x (word_in owners words a b) ≡ start_by n owners words b + place (class_by k b owners words) n x
    unfolding place
    spot x e = rw e (omega (arith, from_is, same_count x))

    each : (x : ℕ) → x < n → word_in owners words a b x ≡ true → at out (at heads (b * 18 + suc a) + count x (word_in owners words a b)) ≡ x
    each x l p =
        let e : class_by k b owners words x ≡ suc a = eqb-true (class_by k b owners words x) (suc a) (sym (same_class x) ∙ p) in
        let small : class_by k b owners words x < k + 1 = omega arith in
        ap (at out) (spot x e)
        ∙ told.numbers_are b (place (class_by k b owners words) n x) lb (omega (arith, place_in (class_by k b owners words) n (k + 1) x l small, list_ends k n owners words b))
        ∙ list_place k n owners words b x l small

    pub message_listed : Listed n (word_in owners words a b) (at heads (b * 18 + suc a)) (at heads (b * 18 + suc (suc a))) out
    message_listed = record {
      long = omega (arith, to_is, groups_within k n owners words b h lb (suc (suc a)) (omega arith));
      many = omega (arith, from_is, to_is, begin_suc (class_by k b owners words) n (suc a), same_count n);
      each = each;
    }
