-- What a box can learn of prices. Assumes nothing.
use mathlib.Core.Path.{◌≡◌, sym, ap, ◌∙◌}
use mathlib.Core.List.{List}
use mathlib.Core.Bool.{true}
use Prim.Native.Nat.{ℕ, suc, ◌+◌, ◌*◌, ◌<◌}
use native.Mathlib.Omega.{arith}
use lib.ListN.{get_or}
use Rattle.recount.specs.Recount.{stands}
use Rattle.model.specs.Tables.{JobTables, counted_of}
use Rattle.format.specs.Job.{Head, FileJob, price_on, names, place_of}
use Rattle.format.specs.File.{decode}
use Rattle.format.specs.Refusals.{file_refusal}
use Rattle.printing.specs.Printed.{job_read}
use Rattle.printing.specs.Accepted.{Holds}
use Rattle.box_prices.specs.Learned.{OtherPrices}
use Rattle.guarantees.specs.BoxPrices.{with_prices_of, OtherFilePrices, BoxPricesHold}
use Rattle.format.proofs.Accept.{job_accepted, accepted_range}
use Rattle.format.proofs.Same.{words_back, place_same}
use Rattle.format.proofs.Tables.{read_file}
use Rattle.printing.proofs.Accepted.{price_at_lem, owner_at, grocer_owner_at, grocer_at, box_at, place_at, count_at, stands_ok, settles, accepted}
use Rattle.box_prices.proofs.Learned.{learns_nothing}

module _ (b : ℕ) (file file' : List ℕ) (ok : file_refusal file ≡ 0) (ok' : file_refusal file' ≡ 0) (u : OtherFilePrices b (decode file) (decode file'))
    (f f' : JobTables) (h : Holds (decode file) f) (h' : Holds (decode file') f') where
  -- The two files' jobs.
  abbrev one : FileJob
  one = decode file

  abbrev two : FileJob
  two = decode file'

  head_same : two.head ≡ one.head
  head_same = u.only_prices.head

  offers_same : f'.offers ≡ f.offers
  offers_same = h'.offers ∙ ap (λ (x : Head). x.offers) head_same ∙ sym h.offers

  grocers_same : f'.grocers ≡ f.grocers
  grocers_same = h'.grocers ∙ ap (λ (x : Head). x.grocers) head_same ∙ sym h.grocers

  tallies_same : f'.tallies ≡ f.tallies
  tallies_same = h'.tallies ∙ ap (λ (x : Head). x.tallies) head_same ∙ sym h.tallies

  lists_same : f'.lists ≡ f.lists
  lists_same = h'.lists ∙ ap (λ (x : Head). x.lists) head_same ∙ sym h.lists

  offer_in : (o : ℕ) → o < f.offers → o < one.head.offers
  offer_in o l = omega (arith, h.offers)

  grocer_in : (g : ℕ) → g < f.grocers → g < one.head.grocers
  grocer_in g l = omega (arith, h.grocers)

  tally_in : (t : ℕ) → t < f.tallies → t < one.head.tallies
  tally_in t l = omega (arith, h.tallies)

  -- and of the second file.
  offer_in' : (o : ℕ) → o < f.offers → o < f'.offers
  offer_in' o l = omega (arith, offers_same)

  tally_in' : (t : ℕ) → t < f.tallies → t < f'.tallies
  tally_in' t l = omega (arith, tallies_same)

  tally_two : (t : ℕ) → t < f.tallies → t < two.head.tallies
  tally_two t l = omega (arith, tallies_same, h'.tallies)

  -- A tally names the offer at the same place.
  place_two : (t : ℕ) → t < f.tallies → place_of two t ≡ place_of one t
  unfolding place_of names
  place_two t l =
      sym (place_same (with_prices_of two one) two (words_back two (with_prices_of two one) u.only_prices) (job_accepted file' ok') t (tally_two t l))

  -- The prices of both on list q, where they are equal in the files.
  price_same : (q o : ℕ) → q < suc f.lists → o < f.offers →
      price_on two.offer two.list_price q o ≡ price_on one.offer one.list_price q o → get_or f'.price (q * f.offers + o) 0 ≡ get_or f.price (q * f.offers + o) 0
  price_same q o m l e =
      ap (λ (n : ℕ). get_or f'.price (q * n + o) 0) (sym offers_same)
      ∙ price_at_lem file' ok' f' h' q o (omega (arith, lists_same, h'.lists)) (offer_in' o l)
      ∙ e
      ∙ sym (price_at_lem file ok f h q o (omega (arith, h.lists)) l)

  own_price_lem : (q o : ℕ) → q < suc f.lists → o < f.offers → get_or f.offer_owner o 0 ≡ b →
      get_or f'.price (q * f.offers + o) 0 ≡ get_or f.price (q * f.offers + o) 0
  own_price_lem q o m l e = price_same q o m l (u.own_price q o (omega (arith, h.lists)) (offer_in o l) (sym (owner_at file ok f h o l) ∙ e))

  held_price_lem : (q t : ℕ) → q < suc f.lists → t < f.tallies → stands (counted_of f) t ≡ true → get_or f.tally_box t 0 ≡ b →
      get_or f'.price (q * f.offers + get_or f.tally_offer t 0) 0 ≡ get_or f.price (q * f.offers + get_or f.tally_offer t 0) 0
  held_price_lem q t m l s e =
      rw (place_at file ok f h t l)
      (price_same q (place_of one t) m (omega (arith, h.offers, (accepted_range file ok).place t (tally_in t l)))
      (u.held_price q t (omega (arith, h.lists)) (tally_in t l) (sym (stands_ok file ok f h t (tally_in t l)) ∙ s) (sym (box_at file ok f h t l) ∙ e)))

  pub other_prices : OtherPrices b f f'
  other_prices = record {
    boxes = h'.boxes ∙ ap (λ (x : Head). x.boxes) head_same ∙ sym h.boxes;
    grocers = grocers_same;
    offers = offers_same;
    tallies = tallies_same;
    lists = lists_same;
    offer_owner = λ o l. owner_at file' ok' f' h' o (offer_in' o l) ∙ (u.only_prices.offer o (offer_in o l)).owner ∙ sym (owner_at file ok f h o l);
    grocer_owner = λ g l. grocer_owner_at file' ok' f' h' g (omega (arith, grocers_same)) ∙ u.only_prices.grocer_owner g (grocer_in g l) ∙ sym (grocer_owner_at file ok f h g l);
    tally_grocer = λ t l. grocer_at file' ok' f' h' t (tally_in' t l) ∙ (u.only_prices.tally t (tally_in t l)).grocer ∙ sym (grocer_at file ok f h t l);
    tally_box = λ t l. box_at file' ok' f' h' t (tally_in' t l) ∙ (u.only_prices.tally t (tally_in t l)).box ∙ sym (box_at file ok f h t l);
    tally_offer = λ t l. place_at file' ok' f' h' t (tally_in' t l) ∙ place_two t l ∙ sym (place_at file ok f h t l);
    tally_count = λ t l. count_at file' ok' f' h' t (tally_in' t l) ∙ (u.only_prices.tally t (tally_in t l)).count ∙ sym (count_at file ok f h t l);
    tally_bag = λ t l. h'.tally_bag t (tally_two t l) ∙ (u.only_prices.tally t (tally_in t l)).bag ∙ sym (h.tally_bag t (tally_in t l));
    tally_revision = λ t l. h'.tally_revision t (tally_two t l) ∙ (u.only_prices.tally t (tally_in t l)).revision ∙ sym (h.tally_revision t (tally_in t l));
    own_price = own_price_lem;
    held_price = held_price_lem;
  }

pub box_prices_hold : BoxPricesHold
box_prices_hold = record {
  lists = learns_nothing;
  files = λ b file file' l l' ok ok' u.
      learns_nothing b (job_read file l) (job_read file' l') (settles file l ok) (settles file' l' ok')
      (other_prices b file file' (read_file file l ok) (read_file file' l' ok') u (job_read file l) (job_read file' l') (accepted file l ok).holds (accepted file' l' ok').holds);
  any_tables = other_prices;
}
