-- An evening of several price lists has the steps of one, and each list's words are those of an evening that had only that list. Assumes nothing.
use mathlib.Core.Path.{◌≡◌, refl, sym, ap, ◌∙◌}
use mathlib.Core.Bool.{Bool, true, false, cond, ◌&&◌, not}
use mathlib.Core.List.{List, ◌∷◌, [], map}
use Prim.Native.Nat.{ℕ, zero, suc, ◌+◌, ◌*◌, ◌/◌, ◌%◌, ◌<◌, ◌≤◌}
use native.Mathlib.Omega.{arith}
use native.Mathlib.Nat.{mul-div_cancel}
use lib.Arith.{digits_div, digits_mod}
use lib.Count.{ones}
use lib.Dec.{eqb, leb}
use lib.IntN.{ℤ, pos}
use lib.ListN.{get_or, drop, length, length-drop}
use lib.Seq.{get_or-drop}
use borrow.Author.Tests.{eqb-true, lt-ltb, le-ltb, le-leb}
use Rattle.laws.specs.Below.{naturals, integers, sum, only, count}
use Rattle.laws.specs.Masks.{without, mask_of}
use Rattle.laws.specs.Tables.{word, cell}
use Rattle.laws.proofs.Bools.{split, and_true, and_l, and_r, and_false, and_one}
use Rattle.laws.specs.Lists.{list_words}
use Rattle.laws.specs.Limits.{max_boxes, max_grocers, max_offers, max_tallies, max_lists, max_price, max_count}
use Rattle.laws.proofs.Below.{all_of_lem}
use Rattle.laws.proofs.Checks.{any_each, each_of, all_each}
use Rattle.laws.proofs.Tables.{cell_in, row_in}
use Rattle.laws.proofs.Sums.{sum_cong, sum_digits, sum_pick}
use Rattle.laws.proofs.Entries.{sum_entry, sum_scale, pair_same}
use Rattle.recount.specs.Recount.{counted_twice}
use Rattle.model.specs.Job.{Job, held_by, needs, shares, need_word, sharer_word, price_word, total_word, amount, plain_sum}
use Rattle.model.specs.Steps.{Kind, send_prices, multiply_own, receive_prices, send_totals, add_own, receive_totals, Step, Steps, State, mark, step_at, list_of, has_step, added, ready, permitted, fresh, effect_of}
use Rattle.model.specs.Boxes.{knows, price_on_way, gone, arrived, part_of, paid, sent_of, state_by_rules}
use Rattle.model.specs.Words.{over, price_to, total_from, words_of, owner_words, message_count, step_count}
use Rattle.model.specs.LocalLists.{local_grocers, local_grocer}
use Rattle.model.specs.PackedTotals.{is_local, has_total, totals_start, totals_length, total_place, unpack_totals, spread}
use Rattle.model.specs.Tables.{JobTables, job_of, counted_of, with_lists, evening_of, job_lengths, job_short, bags_short, StateTables, view, any_short}
use Rattle.model.specs.Ranges.{up_to, under, around, sizes_in_range, job_words_in_range, job_in_range, Settles}
use Rattle.model.specs.Requests.{Request, tables_after, accepted_in, done_in}
use Rattle.model.specs.Demand3.{AllDone}
use Rattle.model.specs.Run.{ready_steps, ready_count, pick, picks, run, placed, picked_places, ran}
use Rattle.model.specs.Step.{step_rules}
use Rattle.model.specs.PriceLists.{only_list, of_list, SameSteps, EachList}
use Rattle.model.proofs.Core.{state_eq}
use Rattle.model.proofs.Reach.{effect_done}
use Rattle.model.proofs.Running.{by_box}
use Rattle.model.proofs.Step.{up_at}
use Rattle.model.proofs.Lent.{job_long}
use Rattle.model.proofs.PackedTotals.{spot, spot_has, spot_place}
use Rattle.model.proofs.ListTotals.{read_evening}
use Rattle.model.proofs.Demand3.{demand3, demand3_run}
use Rattle.model.proofs.EveningJob.{at_sizes, one_evening_lem, needs_entry, shares_entry, prices_due_lem, totals_due_lem, price_words_lem, total_words_lem, added_entry, has_same, ready_same, permitted_same, rules_same}

-- A job with suc l lists and the steps of its job.
module _ (l : ℕ) (f : JobTables) where
  ready_steps_lem : (d : Steps) → ready_steps (with_lists l f) d ≡ ready_steps (job_of f) d
  unfolding ready_steps with_lists spread job_of
  ready_steps_lem d = λ i. list_of f.boxes (permitted_same l f i d)

  count_same : (d : Steps) → ready_count (with_lists l f) d ≡ ready_count (job_of f) d
  unfolding ready_count
  count_same d = ap length (ready_steps_lem d)

  pick_same : (d : Steps) (c : ℕ) → pick (with_lists l f) d c ≡ pick (job_of f) d c
  unfolding pick with_lists spread job_of
  pick_same d c = λ i. get_or (ready_steps_lem d i) (c % count_same d i) (step_at f.boxes 0)

  then_done : (s r : State) → s.done ≡ r.done → (x : Step) → (effect_of (with_lists l f) s x).done ≡ (effect_of (job_of f) r x).done
  then_done s r e x =
      effect_done (with_lists l f) s x.kind x.first x.second
      ∙ ap (λ (d : Steps). mark d x.kind x.first x.second) e
      ∙ sym (effect_done (job_of f) r x.kind x.first x.second)

  picks_same : (n : ℕ) (s r : State) → s.done ≡ r.done → (cs : List ℕ) → picks (with_lists l f) n s cs ≡ picks (job_of f) n r cs
  unfolding picks
  picks_same zero s r e cs = refl
  picks_same (suc n) s r e cs =
      let rest : picks (with_lists l f) n (effect_of (with_lists l f) s (pick (job_of f) s.done (get_or cs 0 0))) (drop 1 cs)
      ≡ picks (job_of f) n (effect_of (job_of f) r (pick (job_of f) r.done (get_or cs 0 0))) (drop 1 cs) =
      picks_same n (effect_of (with_lists l f) s (pick (job_of f) s.done (get_or cs 0 0))) (effect_of (job_of f) r (pick (job_of f) r.done (get_or cs 0 0)))
      (then_done s r e (pick (job_of f) s.done (get_or cs 0 0)) ∙ ap (λ (d : Steps). (effect_of (job_of f) r (pick (job_of f) d (get_or cs 0 0))).done) e) (drop 1 cs) in
      rw (count_same s.done, pick_same s.done (get_or cs 0 0))
      (λ i. cond (eqb (ready_count (job_of f) (e i)) 0) [] (pick (job_of f) (e i) (get_or cs 0 0) ∷ rest i))

  message_count_lem : message_count (with_lists l f) ≡ message_count (job_of f)
  unfolding message_count with_lists spread job_of
  message_count_lem = λ i.
      sum naturals f.boxes (λ a. count f.boxes (λ b. prices_due_lem l f a b i)) + sum naturals f.boxes (λ a. count f.boxes (λ b. totals_due_lem l f a b i))

  step_count_lem : step_count (with_lists l f) ≡ step_count (job_of f)
  unfolding step_count with_lists spread job_of
  step_count_lem = ap (λ (n : ℕ). 2 * f.boxes + 2 * n) message_count_lem

  run_same : (cs : List ℕ) → run (with_lists l f) cs ≡ run (job_of f) cs
  unfolding run fresh
  run_same cs = ap (λ (n : ℕ). picks (with_lists l f) n (fresh (with_lists l f)) cs) step_count_lem ∙ picks_same (step_count (job_of f)) (fresh (with_lists l f)) (fresh (job_of f)) refl cs

  places_same : (cs : List ℕ) → picked_places (with_lists l f) cs ≡ picked_places (job_of f) cs
  unfolding picked_places with_lists spread
  places_same cs = ap (map (placed (job_of f))) (run_same cs)

  words_of_lem : (k : Kind) (a b : ℕ) → words_of (with_lists l f) k a b ≡ words_of (job_of f) k a b * suc l
  unfolding words_of
  words_of_lem send_prices a b = price_words_lem l f a b
  words_of_lem multiply_own a b = omega arith
  words_of_lem receive_prices a b = omega arith
  words_of_lem send_totals a b = total_words_lem l f a b
  words_of_lem add_own a b = omega arith
  words_of_lem receive_totals a b = omega arith

  need_word_lem : (o : ℕ) → need_word (with_lists l f) o ≡ need_word (job_of f) (o / suc l)
  unfolding need_word
  need_word_lem o = λ i. mask_of 16 (λ b. needs_entry l f o b i)

  sharer_word_lem : (g : ℕ) → sharer_word (with_lists l f) g ≡ sharer_word (job_of f) (g / suc l)
  unfolding sharer_word
  sharer_word_lem g = λ i. mask_of 16 (λ b. shares_entry l f g b i)

  owner_words_lem : owner_words (with_lists l f) ≡ owner_words (job_of f) * suc l
  unfolding owner_words with_lists spread job_of
  owner_words_lem =
      omega (
        arith,
        sum_cong naturals (f.offers * suc l) (λ o. ones (without ((job_of f).offer_owner (o / suc l)) (need_word (with_lists l f) o)))
            (λ o. ones (without ((job_of f).offer_owner (o / suc l)) (need_word (job_of f) (o / suc l)))) (λ o h. rw (need_word_lem o)),
        sum_entry l f.offers (λ o. ones (without ((job_of f).offer_owner o) (need_word (job_of f) o))),
        sum_cong naturals (f.grocers * suc l) (λ g. ones (without ((job_of f).grocer_owner (g / suc l)) (sharer_word (with_lists l f) g)))
            (λ g. ones (without ((job_of f).grocer_owner (g / suc l)) (sharer_word (job_of f) (g / suc l)))) (λ g h. rw (sharer_word_lem g)),
        sum_entry l f.grocers (λ g. ones (without ((job_of f).grocer_owner g) (sharer_word (job_of f) g))),
      )

-- "Steps do not change in number."
pub same_steps_lem : (f : JobTables) → SameSteps f
same_steps_lem f = record {
  has = has_same f.lists f;
  makes_ready = ready_same f.lists f;
  permits = permitted_same f.lists f;
  rules = rules_same f.lists f;
  picks = λ cs. run_same f.lists f cs;
  places = λ cs. places_same f.lists f cs;
  messages = message_count_lem f.lists f;
  steps = step_count_lem f.lists f;
  words = λ k a b. words_of_lem f.lists f k a b;
  all_words = owner_words_lem f.lists f;
}

-- A plain sum is the boxes' part totals.
whole_sum : (j : Job) (g : ℕ) → sum integers j.boxes (λ b. part_of j (λ t. true) b g) ≡ plain_sum j g
unfolding plain_sum
whole_sum j g = by_box j (λ t. true) g ∙ simp and_one

-- List q of suc l lists.
module _ (l : ℕ) (f : JobTables) (q : ℕ) (in-lists : q < suc l) where
  -- The evening's prices of this list are those of the job that has it alone.
  list_price_lem : (o : ℕ) → (with_lists l f).price (o * suc l + q) ≡ (job_of (only_list f q)).price o
  unfolding with_lists spread job_of only_list word cell
  list_price_lem o = rw (digits_mod o in-lists, digits_div o in-lists, lt-ltb q (suc l) in-lists, get_or-drop (q * f.offers) f.price o 0)

  -- Count × price over tallies of a grocer: of the numbers that a tally has, the one of this list.
  module _ (p' p : ℕ → Bool) (same : (t : ℕ) → p' t ≡ p (t / suc l)) (b g : ℕ) where
    -- What tally t brings in an evening with this list alone.
    abbrev brings : ℕ → ℤ
    brings t = amount (job_of (only_list f q)) ((job_of (only_list f q)).price ((job_of (only_list f q)).tally_offer t)) t

    -- It counts there.
    abbrev taken : ℕ → Bool
    taken t = held_by (job_of (only_list f q)) t b && eqb ((job_of (only_list f q)).tally_grocer t) g && p t

    one_part : (t x : ℕ) → x < suc l →
        only integers (held_by (with_lists l f) (t * suc l + x) b && eqb ((with_lists l f).tally_grocer (t * suc l + x)) (g * suc l + q) && p' (t * suc l + x))
        (amount (with_lists l f) ((with_lists l f).price ((with_lists l f).tally_offer (t * suc l + x))) (t * suc l + x))
        ≡ only integers (eqb q x && taken t) (brings t)
    unfolding held_by amount with_lists spread job_of only_list counted_of only integers
    one_part t x h =
        rw (same (t * suc l + x), digits_div t h, digits_mod t h, pair_same (suc l) ((job_of f).tally_grocer t) g x q h in-lists)
        (split (eqb q x)
        (λ e. rw (e, ← (eqb-true q x e), list_price_lem ((job_of f).tally_offer t)))
        (λ e. simp (e, and_false)))

    -- What number t of the evening's tallies brings.
    abbrev numbered : ℕ → ℤ
    numbered t =
        only integers (held_by (with_lists l f) t b && eqb ((with_lists l f).tally_grocer t) (g * suc l + q) && p' t)
        (amount (with_lists l f) ((with_lists l f).price ((with_lists l f).tally_offer t)) t)

    list_part : part_of (with_lists l f) p' b (g * suc l + q) ≡ part_of (job_of (only_list f q)) p b g
    unfolding part_of with_lists spread job_of only_list
    list_part =
        sum_digits integers f.tallies (suc l) numbered
        ∙ sum_cong integers f.tallies (λ t. sum integers (suc l) (λ x. numbered (t * suc l + x))) (λ t. only integers (taken t) (brings t)) (λ t k.
        sum_cong integers (suc l) (λ x. numbered (t * suc l + x)) (λ x. only integers (eqb q x && taken t) (brings t)) (λ x h. one_part t x h)
        ∙ sum_pick integers (suc l) q (taken t) (brings t) in-lists)

  abbrev alone : Job
  alone = job_of (only_list f q)

  -- The plain sum likewise.
  pub list_sum : (g : ℕ) → plain_sum (with_lists l f) (g * suc l + q) ≡ plain_sum alone g
  unfolding with_lists spread job_of only_list
  list_sum g =
      sym (whole_sum (with_lists l f) (g * suc l + q))
      ∙ sum_cong integers f.boxes (λ b. part_of (with_lists l f) (λ t. true) b (g * suc l + q)) (λ b. part_of alone (λ t. true) b g)
      (λ b h. list_part (λ t. true) (λ t. true) (λ t. refl) b g)
      ∙ whole_sum alone g

  list_needs : (o b : ℕ) → needs (with_lists l f) (o * suc l + q) b ≡ needs alone o b
  unfolding needs held_by job_of only_list counted_of
  list_needs o b = needs_entry l f (o * suc l + q) b ∙ rw (digits_div o in-lists)

  list_owner : (o : ℕ) → (with_lists l f).offer_owner (o * suc l + q) ≡ alone.offer_owner o
  unfolding with_lists spread job_of only_list
  list_owner o = rw (digits_div o in-lists)

  list_grocer : (g : ℕ) → (with_lists l f).grocer_owner (g * suc l + q) ≡ alone.grocer_owner g
  unfolding with_lists spread job_of only_list
  list_grocer g = rw (digits_div g in-lists)

  list_added : (d : Steps) (t : ℕ) → added (with_lists l f) d t ≡ added alone d (t / suc l)
  unfolding added job_of only_list counted_of
  list_added d t = added_entry l f d t

  list_paid : (d : Steps) (g b : ℕ) → paid (with_lists l f) d (g * suc l + q) b ≡ paid alone d g b
  unfolding paid arrived
  list_paid d g b = rw (list_grocer g, list_part (λ t. true) (λ t. true) (λ t. refl) b g)

  list_statement : (d : Steps) (g : ℕ) →
      sum integers (with_lists l f).boxes (paid (with_lists l f) d (g * suc l + q)) ≡ sum integers alone.boxes (paid alone d g)
  unfolding with_lists spread job_of only_list
  list_statement d g = sum_cong integers f.boxes (paid (with_lists l f) d (g * suc l + q)) (paid alone d g) (λ b h. list_paid d g b)

  alone_prices : (a b : ℕ) → count (job_of f).offers (price_word (job_of f) a b) ≡ count alone.offers (price_word alone a b)
  unfolding price_word needs held_by job_of only_list counted_of
  alone_prices a b = refl

  alone_totals : (a b : ℕ) → count (job_of f).grocers (total_word (job_of f) a b) ≡ count alone.grocers (total_word alone a b)
  unfolding total_word shares held_by job_of only_list counted_of
  alone_totals a b = refl

  -- One word per list.
  list_sent : (d : Steps) (a b : ℕ) → sent_of (with_lists l f) d a b ≡ sent_of alone d a b * suc l
  unfolding sent_of only naturals
  list_sent d a b =
      rw (price_words_lem l f a b, total_words_lem l f a b, alone_prices a b, alone_totals a b)
      (split (d send_prices a b)
      (λ e. rw e (split (d send_totals a b) (λ h. rw h (omega arith)) (λ h. rw h (omega arith))))
      (λ e. rw e (split (d send_totals a b) (λ h. rw h (omega arith)) (λ h. rw h (omega arith)))))

  all_sent : (d : Steps) → sum naturals (with_lists l f).boxes (λ a. sum naturals (with_lists l f).boxes (sent_of (with_lists l f) d a))
      ≡ sum naturals alone.boxes (λ a. sum naturals alone.boxes (sent_of alone d a)) * suc l
  unfolding with_lists spread job_of only_list
  all_sent d =
      sum_cong naturals f.boxes (λ a. sum naturals f.boxes (sent_of (with_lists l f) d a)) (λ a. sum naturals f.boxes (sent_of alone d a) * suc l) (λ a h.
      sum_cong naturals f.boxes (sent_of (with_lists l f) d a) (λ b. sent_of alone d a b * suc l) (λ b k. list_sent d a b)
      ∙ sum_scale (suc l) f.boxes (sent_of alone d a))
      ∙ sum_scale (suc l) f.boxes (λ a. sum naturals f.boxes (sent_of alone d a))

  -- Every box holds of this list what it would hold in an evening with it alone.
  list_state : (d : Steps) → of_list l q (state_by_rules (with_lists l f) d) ≡ state_by_rules alone d
  unfolding of_list state_by_rules knows price_on_way gone arrived paid
  list_state d =
      state_eq (of_list l q (state_by_rules (with_lists l f) d)) (state_by_rules alone d)
      (λ b o. rw (list_owner o, list_needs o b, list_price_lem o))
      (λ b o. rw (list_owner o, list_needs o b, list_price_lem o))
      (λ b g. rw (list_grocer g, list_part (added (with_lists l f) d) (added alone d) (list_added d) b g))
      (λ b g. rw (list_grocer g, list_part (λ t. true) (λ t. true) (λ t. refl) b g))
      (list_statement d)
      refl
      (rw (all_sent d) (mul-div_cancel _ (omega arith)))

-- Parts of a table from a place on.
up_drop : (m n k : ℕ) (l : List ℕ) → up_to m (k + n) l ≡ true → up_to m n (drop k l) ≡ true
unfolding up_to
up_drop m n k l h = all_of_lem n (λ i. leb (get_or (drop k l) i 0) m) (λ i q. rw (get_or-drop k l i 0) (le-leb (get_or l (k + i) 0) m (up_at m (k + n) l (k + i) h (omega arith))))

up_less : (m n k : ℕ) (l : List ℕ) → n ≤ k → up_to m k l ≡ true → up_to m n l ≡ true
unfolding up_to
up_less m n k l h e = all_of_lem n (λ i. leb (get_or l i 0) m) (λ i q. le-leb (get_or l i 0) m (up_at m k l i e (omega arith)))

-- A job that settles, and its list q.
module _ (f : JobTables) (z : Settles f) (q : ℕ) (in-lists : q < suc f.lists) where
  -- The words of lists up to q are lent.
  prices_lent : q * f.offers + f.offers ≤ list_words f.lists f.offers
  prices_lent = omega (arith, row_in q (suc f.lists) f.offers in-lists)

  price_lent : list_words f.lists f.offers ≤ length f.price → f.offers * 1 ≤ length (drop (q * f.offers) f.price)
  price_lent h = rw (length-drop (q * f.offers) f.price) (omega (arith, prices_lent))

  alone-whole : job_short (only_list f q) (job_lengths (only_list f q)) ≡ false
  unfolding job_short job_lengths only_list
  alone-whole =
      let l = job_long f (job_lengths f) z.whole in
      any_each (_ ∷ _ ∷ _ ∷ _ ∷ _ ∷ _ ∷ _ ∷ []) (
        le-ltb _ _ (price_lent l.price),
        (
          le-ltb _ _ l.offer_owner,
          (
            le-ltb _ _ l.grocer_owner,
            (le-ltb _ _ l.tally_grocer, (le-ltb _ _ l.tally_box, (le-ltb _ _ l.tally_offer, (le-ltb _ _ l.tally_count, tt)))),
          ),
        ),
      )

  alone_range : job_in_range (only_list f q) ≡ true
  unfolding job_in_range sizes_in_range job_words_in_range only_list
  alone_range =
      let s = each_of (
      leb f.lists max_lists
      ∷ (leb 1 f.boxes && leb f.boxes max_boxes)
      ∷ (leb 1 f.grocers && leb f.grocers max_grocers)
      ∷ (leb 1 f.offers && leb f.offers max_offers)
      ∷ leb f.tallies max_tallies
      ∷ []) (and_l (sizes_in_range f) (job_words_in_range f) z.in_range) in
      let e = each_of (
      up_to max_price (list_words f.lists f.offers) f.price
      ∷ under f.boxes f.offers f.offer_owner
      ∷ under f.boxes f.grocers f.grocer_owner
      ∷ under f.grocers f.tallies f.tally_grocer
      ∷ under f.boxes f.tallies f.tally_box
      ∷ under f.offers f.tallies f.tally_offer
      ∷ around max_count f.tallies f.tally_count
      ∷ []) (and_r (sizes_in_range f) (job_words_in_range f) z.in_range) in
      and_true
      (all_each (_ ∷ _ ∷ _ ∷ _ ∷ _ ∷ []) (refl, s.1))
      (all_each (_ ∷ _ ∷ _ ∷ _ ∷ _ ∷ _ ∷ _ ∷ [])
      (up_drop max_price (f.offers * 1) (q * f.offers) f.price (up_less max_price _ _ f.price (omega (arith, prices_lent)) e.0), e.1))

  bags_same : bags_short (only_list f q) (job_lengths (only_list f q)) ≡ bags_short f (job_lengths f)
  unfolding bags_short job_lengths only_list
  bags_same = refl

  once_same : counted_twice (counted_of (only_list f q)) ≡ counted_twice (counted_of f)
  unfolding counted_of only_list
  once_same = refl

  alone_settles : Settles (only_list f q)
  alone_settles = record { whole = alone-whole; bags = bags_same ∙ z.bags; in_range = alone_range; once = once_same ∙ z.once }

  -- The evening with this list alone has this job.
  alone_is : evening_of (only_list f q) ≡ job_of (only_list f q)
  unfolding only_list
  alone_is = one_evening_lem (only_list f q) refl

  holds_is : (d : Steps) → of_list f.lists q (state_by_rules (evening_of f) d) ≡ state_by_rules (job_of (only_list f q)) d
  holds_is d = list_state f.lists f q in-lists d

  evenings_is : (t u : StateTables) (rs ps : List Request) → done_in f t rs ≡ done_in (only_list f q) u ps →
      of_list f.lists q (view (evening_of f) (tables_after f t rs)) ≡ view (job_of (only_list f q)) (tables_after (only_list f q) u ps)
  evenings_is t u rs ps e =
      ap (of_list f.lists q) (demand3 f z t rs).holds
      ∙ holds_is (done_in f t rs)
      ∙ ap (state_by_rules (job_of (only_list f q))) e
      ∙ sym (ap (λ (j : Job). state_by_rules j (done_in (only_list f q) u ps)) alone_is)
      ∙ sym (demand3 (only_list f q) alone_settles u ps).holds
      ∙ ap (λ (j : Job). view j (tables_after (only_list f q) u ps)) alone_is

  -- The job with this list alone has the same places of totals.
  alone_has : (b g : ℕ) → has_total (job_of (only_list f q)) b g ≡ has_total (job_of f) b g
  unfolding has_total is_local local_grocers total_word shares held_by job_of only_list counted_of
  alone_has b g = refl

  alone-place : (b g : ℕ) → total_place (job_of (only_list f q)) b g ≡ total_place (job_of f) b g
  unfolding total_place totals_start local_grocer local_grocers total_word shares held_by job_of only_list counted_of
  alone-place b g = refl

  -- Where totals are equal by box and grocer, the words are by place.
  module _ (w v : List ℤ) (same : (b g : ℕ) → unpack_totals (evening_of f) w b (g * suc f.lists + q) ≡ unpack_totals (job_of (only_list f q)) v b g) where
    word_at_lem : (b g : ℕ) → has_total (job_of f) b g ≡ true → get_or w (total_place (job_of f) b g * suc f.lists + q) (pos 0) ≡ get_or v (total_place (job_of f) b g) (pos 0)
    unfolding unpack_totals
    word_at_lem b g h = sym (read_evening f w b g q in-lists h) ∙ same b g ∙ rw (alone_has b g, h, alone-place b g)

    words_at : (i : ℕ) → i < totals_length (job_of f) → get_or w (i * suc f.lists + q) (pos 0) ≡ get_or v i (pos 0)
    unfolding totals_length
    words_at i h =
        let s = spot (job_of f) (job_of f).boxes i h in
        let p = spot_place (job_of f) s.spot_box s.number s.number_in_lem ∙ sym s.place in
        rw p at (word_at_lem s.spot_box (get_or (local_grocers (job_of f) s.spot_box) s.number 0) (spot_has (job_of f) s.spot_box s.number s.box_in s.number_in_lem))

  working_words_lem : (t u : StateTables) (rs ps : List Request) → done_in f t rs ≡ done_in (only_list f q) u ps → (i : ℕ) → i < totals_length (job_of f) →
      get_or (tables_after f t rs).working (i * suc f.lists + q) (pos 0) ≡ get_or (tables_after (only_list f q) u ps).working i (pos 0)
  unfolding view of_list
  working_words_lem t u rs ps e =
      words_at (tables_after f t rs).working (tables_after (only_list f q) u ps).working (λ b g. ap (λ (s : State). s.working b g) (evenings_is t u rs ps e))

  transit_words_lem : (t u : StateTables) (rs ps : List Request) → done_in f t rs ≡ done_in (only_list f q) u ps → (i : ℕ) → i < totals_length (job_of f) →
      get_or (tables_after f t rs).total_transit (i * suc f.lists + q) (pos 0) ≡ get_or (tables_after (only_list f q) u ps).total_transit i (pos 0)
  unfolding view of_list
  transit_words_lem t u rs ps e =
      words_at (tables_after f t rs).total_transit (tables_after (only_list f q) u ps).total_transit (λ b g. ap (λ (s : State). s.total_transit b g) (evenings_is t u rs ps e))

  sums_is : (g : ℕ) → plain_sum (evening_of f) (g * suc f.lists + q) ≡ plain_sum (job_of (only_list f q)) g
  sums_is g = list_sum f.lists f q in-lists g

  -- The number of an offer's word is one of the evening's,
  price_lies : (o : ℕ) → o < f.offers → o * suc f.lists + q < (evening_of f).offers
  price_lies o h =
      at_sizes f.lists f (λ k m n. o * suc f.lists + q < n) (omega (arith, cell_in o f.offers (suc f.lists) q h in-lists))

  -- and so is that of a grocer's.
  word_told : (g : ℕ) → g < f.grocers → g * suc f.lists + q < list_words f.lists f.grocers
  word_told g h = omega (arith, cell_in g f.grocers (suc f.lists) q h in-lists)

  word_lies : (g : ℕ) → g < f.grocers → g * suc f.lists + q < (evening_of f).grocers
  word_lies g h =
      at_sizes f.lists f (λ k m n. g * suc f.lists + q < m) (omega (arith, cell_in g f.grocers (suc f.lists) q h in-lists))

  alone_lies : (g : ℕ) → g < f.grocers → g < list_words (only_list f q).lists (only_list f q).grocers
  unfolding only_list
  alone_lies g h = omega (arith, h)

  runs_is : (t u : StateTables) (cs ds p r : List ℕ) → any_short f t ≡ false → any_short (only_list f q) u ≡ false → (g : ℕ) → g < f.grocers →
      get_or (ran f t cs p).tables.statement (g * suc f.lists + q) (pos 0) ≡ get_or (ran (only_list f q) u ds r).tables.statement g (pos 0)
  unfolding only_list
  runs_is t u cs ds p r long longer g h =
      (demand3_run f z t cs p).statements long (g * suc f.lists + q) (word_told g h)
      ∙ sums_is g
      ∙ sym (ap (λ (j : Job). plain_sum j g) alone_is)
      ∙ sym ((demand3_run (only_list f q) alone_settles u ds r).statements longer g (alone_lies g h))

  price_need : (o b : ℕ) → (not (eqb ((with_lists f.lists f).offer_owner (o * suc f.lists + q)) b) && needs (with_lists f.lists f) (o * suc f.lists + q) b)
      ≡ (not (eqb ((job_of f).offer_owner o) b) && needs (job_of f) o b)
  unfolding with_lists spread
  price_need o b = rw (needs_entry f.lists f (o * suc f.lists + q) b, digits_div o in-lists)

  total_share : (g b : ℕ) → (not (eqb ((with_lists f.lists f).grocer_owner (g * suc f.lists + q)) b) && shares (with_lists f.lists f) (g * suc f.lists + q) b)
      ≡ (not (eqb ((job_of f).grocer_owner g) b) && shares (job_of f) g b)
  unfolding with_lists spread
  total_share g b = rw (shares_entry f.lists f (g * suc f.lists + q) b, digits_div g in-lists)

  one_price_lem : (t : StateTables) (rs : List Request) → AllDone (evening_of f) (done_in f t rs) → (o b : ℕ) → o < f.offers →
      over (price_to (evening_of f) (o * suc f.lists + q) b) (accepted_in f t rs) ≡ only naturals (not (eqb ((job_of f).offer_owner o) b) && needs (job_of f) o b) 1
  one_price_lem t rs h o b l =
      (demand3 f z t rs).one_price h (o * suc f.lists + q) b (price_lies o l)
      ∙ ap (λ (u : Bool). only naturals u 1) (price_need o b)

  one_total_lem : (t : StateTables) (rs : List Request) → AllDone (evening_of f) (done_in f t rs) → (g b : ℕ) → g < f.grocers →
      over (total_from (evening_of f) (g * suc f.lists + q) b) (accepted_in f t rs) ≡ only naturals (not (eqb ((job_of f).grocer_owner g) b) && shares (job_of f) g b) 1
  one_total_lem t rs h g b l =
      (demand3 f z t rs).one_total h (g * suc f.lists + q) b (word_lies g l)
      ∙ ap (λ (u : Bool). only naturals u 1) (total_share g b)

  pub each_list_lem : EachList f q
  each_list_lem = record
      { settles = alone_settles; sums = sums_is; holds = holds_is; one_price = one_price_lem; one_total = one_total_lem; evenings = evenings_is; working_words = working_words_lem; transit_words = transit_words_lem; runs = runs_is }
