-- Box b learns nothing of a price that it neither owns nor needs. Assumes nothing.
use mathlib.Core.Path.{◌≡◌, refl, sym, ap, ◌∙◌}
use mathlib.Core.List.{List, [], ◌∷◌, ◌++◌, map, map-append}
use mathlib.Core.Bool.{Bool, true, false, cond, ◌&&◌, ◌||◌, not}
use Prim.Native.Nat.{ℕ, zero, suc, ◌+◌, ◌*◌, ◌/◌, ◌%◌, ◌<◌}
use lib.Dec.{eqb, ltb}
use lib.IntN.{ℤ, pos}
use lib.ListN.{get_or}
use borrow.Author.Tests.{eqb-true, ltb-true, ltb-false}
use Rattle.laws.specs.Below.{integers, only, ascending}
use Rattle.laws.specs.Tables.{word, cell}
use Rattle.laws.proofs.Entries.{list_in, cell_past}
use Rattle.laws.specs.Checks.{first_met}
use Rattle.laws.proofs.Sums.{sum_cong}
use Rattle.laws.proofs.Below.{any_find}
use Rattle.laws.proofs.Bools.{split, eqb_same, or_l, or_r, and_l, and_r}
use Rattle.laws.proofs.Tables.{word_in_lem, word_past, cell_at}
use Rattle.recount.specs.Recount.{stands}
use Rattle.model.specs.Job.{Job, held_by, needs, shares, price_word, total_word, prices_due, totals_due, amount}
use Rattle.model.specs.Steps.{Kind, send_prices, multiply_own, receive_prices, send_totals, add_own, receive_totals, Step, Steps, State, mark, done_by, fits, has_step, added, all_added, ready, permitted, fresh}
use Rattle.model.specs.Boxes.{knows, price_on_way, gone, arrived, part_of, paid, sent_of, state_by_rules}
use Rattle.model.specs.Requests.{Request, lends_short, answer_to, serve, serve_all, tables_after, accepted_in, done_in}
use Rattle.model.specs.Tables.{JobTables, StateTables, counted_of, nobody, job_of, with_lists, evening_of, view, job_short, bags_short, state_short, totals_short}
use Rattle.model.specs.Ranges.{Settles}
use Rattle.model.specs.Words.{words_of}
use Rattle.model.specs.LocalLists.{local_grocers, local_grocer}
use Rattle.model.specs.PackedTotals.{is_local, has_total, totals_start, totals_length, total_place, spread}
use Rattle.model.specs.Step.{step_of, boxes_fit, step_rules, step_answer, is_accepted, fresh_tables}
use Rattle.model.specs.Demand3.{refusal_of, permitted_request, answers_by_rules}
use Rattle.box_prices.specs.Learned.{OtherPrices, prices_of, totals_of, message_of, messages_from, messages_in, LearnsNothing}
use Rattle.model.proofs.Parts.{needs_at}
use Rattle.model.proofs.EveningJob.{needs_entry}
use Rattle.model.proofs.Standing.{standing_count}
use Rattle.model.proofs.Reach.{effect_done}
use Rattle.model.proofs.Machine.{permits, attempt, taken}
use Rattle.model.proofs.Demand3.{asks, accepted_is, refusal_zero, demand3}

wide : (u n t : Bool) → (u || (n && t)) ≡ true → (u || n) ≡ true
wide true n t h = refl
wide false true t h = refl
wide false false t h = h

-- Words of the numbers that pass a test.
map_passing : {A : Type 0} (w v : ℕ → A) (n : ℕ) (p : ℕ → Bool) → ((i : ℕ) → p i ≡ true → w i ≡ v i) → map w (ascending n p) ≡ map v (ascending n p)
unfolding ascending
map_passing w v zero p h = refl
map_passing w v (suc n) p h =
    map-append w (ascending n p) (cond (p n) (n ∷ []) [])
    ∙ split (p n) (λ e. rw (e, map_passing w v n p h, h n e)) (λ e. rw (e, map_passing w v n p h))
    ∙ sym (map-append v (ascending n p) (cond (p n) (n ∷ []) []))

-- The job with other prices.
unfoldable pub reprice : (ℕ → ℕ) → Job → Job
reprice p j = record {
  boxes = j.boxes;
  grocers = j.grocers;
  offers = j.offers;
  tallies = j.tallies;
  price = p;
  offer_owner = j.offer_owner;
  grocer_owner = j.grocer_owner;
  tally_grocer = j.tally_grocer;
  tally_box = j.tally_box;
  tally_offer = j.tally_offer;
  tally_count = j.tally_count;
}

-- ---- What is told without prices

module _ (j : Job) (p : ℕ → ℕ) where
  same_permits : (s r : State) (x : Step) → s.done ≡ r.done → permits (reprice p j) s x ≡ permits j r x
  unfolding permits permitted has_step fits ready all_added added prices_due totals_due price_word total_word needs shares held_by reprice
  same_permits s r x e = ap (λ (d : Steps). permitted j d x.kind x.first x.second) e

  same_attempt : (s r : State) (x : Step) → s.done ≡ r.done → (attempt (reprice p j) s x).done ≡ (attempt j r x).done
  unfolding attempt
  same_attempt s r x e =
      rw (same_permits s r x e)
      (split (permits j r x)
      (λ f. rw (f, effect_done (reprice p j) s x.kind x.first x.second, effect_done j r x.kind x.first x.second, e))
      (λ f. rw f e))

  same_taken : (s r : State) (xs : List Step) → s.done ≡ r.done → taken (reprice p j) s xs ≡ taken j r xs
  unfolding taken
  same_taken s r [] e = refl
  same_taken s r (x ∷ xs) e =
      rw (same_permits s r x e)
      (ap (λ (l : List Step). cond (permits j r x) (x ∷ l) l) (same_taken (attempt (reprice p j) s x) (attempt j r x) xs (same_attempt s r x e)))

  same_sent : (d : Steps) → (state_by_rules (reprice p j) d).sent ≡ (state_by_rules j d).sent
  unfolding state_by_rules sent_of price_word total_word needs shares held_by reprice
  same_sent d = refl

-- ---- What is told with the prices that box b sees

module _ (j : Job) (p : ℕ → ℕ) (b : ℕ) (seen : (o : ℕ) → (eqb (j.offer_owner o) b || needs j o b) ≡ true → p o ≡ j.price o) (d : Steps) where
  same_known : (o : ℕ) → (state_by_rules (reprice p j) d).known b o ≡ (state_by_rules j d).known b o
  unfolding state_by_rules knows reprice needs held_by
  same_known o =
      split (knows j d b o)
      (λ e. rw e (seen o (wide (eqb (j.offer_owner o) b) (needs j o b) (d receive_prices b (j.offer_owner o)) e)))
      (λ e. rw e)

  same_part : (f : ℕ → Bool) (g : ℕ) → part_of (reprice p j) f b g ≡ part_of j f b g
  unfolding part_of reprice held_by amount only
  same_part f g =
      sum_cong integers j.tallies
      (λ t. only integers (held_by j t b && eqb (j.tally_grocer t) g && f t) (amount j (p (j.tally_offer t)) t))
      (λ t. only integers (held_by j t b && eqb (j.tally_grocer t) g && f t) (amount j (j.price (j.tally_offer t)) t))
      (λ t l. split (held_by j t b)
      (λ e. rw (seen (j.tally_offer t) (or_r (eqb (j.offer_owner (j.tally_offer t)) b) (needs j (j.tally_offer t) b) (needs_at j t b l e))))
      (λ e. rw e))

  same_working : (g : ℕ) → (state_by_rules (reprice p j) d).working b g ≡ (state_by_rules j d).working b g
  unfolding state_by_rules gone added reprice
  same_working g = ap (λ (x : ℤ). cond (gone j d b g) (pos 0) x) (same_part (added j d) g)

  same_totals : (g : ℕ) → (state_by_rules (reprice p j) d).total_transit b g ≡ (state_by_rules j d).total_transit b g
  unfolding state_by_rules gone arrived reprice
  same_totals g = ap (λ (x : ℤ). cond (gone j d b g && not (arrived j d b g)) x (pos 0)) (same_part (λ t. true) g)

  same_prices : (c o : ℕ) → j.offer_owner o ≡ b → (state_by_rules (reprice p j) d).price_transit c o ≡ (state_by_rules j d).price_transit c o
  unfolding state_by_rules price_on_way reprice needs held_by
  same_prices c o e = rw (seen o (or_l (eqb (j.offer_owner o) b) (needs j o b) (rw e (eqb_same b))))

  -- Before the first receipt a statement of box b has its own part alone.
  same_statement : ((a : ℕ) → d receive_totals b a ≡ false) → (g : ℕ) → j.grocer_owner g ≡ b → (state_by_rules (reprice p j) d).statement g ≡ (state_by_rules j d).statement g
  unfolding state_by_rules paid arrived reprice only integers
  same_statement none g e =
      sum_cong integers j.boxes (paid (reprice p j) d g) (paid j d g) (λ x l.
      split (eqb (j.grocer_owner g) x)
      (λ h. let at_x : x ≡ b = sym (eqb-true (j.grocer_owner g) x h) ∙ e in rw (h, at_x) (rw (same_part (λ t. true) g)))
      (λ h. rw (h, e, none x)))

  -- The message that box b sends, in the state that its step leaves.
  same_price_words : (k : Kind) (c : ℕ) → prices_of (reprice p j) (state_by_rules (reprice p j) d) k b c ≡ prices_of j (state_by_rules j d) k b c
  unfolding prices_of reprice price_word needs held_by
  same_price_words send_prices c =
      map_passing ((state_by_rules (reprice p j) d).price_transit c) ((state_by_rules j d).price_transit c) j.offers (price_word j b c)
      (λ o h. same_prices c o (eqb-true (j.offer_owner o) b (and_l (eqb (j.offer_owner o) b) _ h)))
  same_price_words multiply_own c = refl
  same_price_words receive_prices c = refl
  same_price_words send_totals c = refl
  same_price_words add_own c = refl
  same_price_words receive_totals c = refl

  same_total_words : (k : Kind) (c : ℕ) → totals_of (reprice p j) (state_by_rules (reprice p j) d) k b c ≡ totals_of j (state_by_rules j d) k b c
  unfolding totals_of reprice total_word shares held_by
  same_total_words send_prices c = refl
  same_total_words multiply_own c = refl
  same_total_words receive_prices c = refl
  same_total_words send_totals c = ap (λ (w : ℕ → ℤ). map w (ascending j.grocers (total_word j b c))) (λ i g. same_totals g i)
  same_total_words add_own c = refl
  same_total_words receive_totals c = refl

  same_message : (x : Step) → x.first ≡ b → message_of (reprice p j) (state_by_rules (reprice p j) d) x ≡ message_of j (state_by_rules j d) x
  unfolding message_of
  same_message x e = λ i. record {
    step = x;
    prices = (ap (λ (a : ℕ). prices_of (reprice p j) (state_by_rules (reprice p j) d) x.kind a x.second) e ∙ same_price_words x.kind x.second
        ∙ ap (λ (a : ℕ). prices_of j (state_by_rules j d) x.kind a x.second) (sym e)) i;
    totals = (ap (λ (a : ℕ). totals_of (reprice p j) (state_by_rules (reprice p j) d) x.kind a x.second) e ∙ same_total_words x.kind x.second
        ∙ ap (λ (a : ℕ). totals_of j (state_by_rules j d) x.kind a x.second) (sym e)) i;
  }

-- ---- From tables to jobs

-- A word of tables whose words are equal.
word_as : {A : Type 0} (n m : ℕ) (l l' : List A) (z : A) → n ≡ m → ((i : ℕ) → i < m → get_or l i z ≡ get_or l' i z) → (i : ℕ) → word n l z i ≡ word m l' z i
word_as n m l l' z e h i =
    rw e
    (split (ltb i m)
    (λ q. let k = ltb-true i m q in word_in_lem m l z i k ∙ h i k ∙ sym (word_in_lem m l' z i k))
    (λ q. let k = ltb-false i m q in word_past m l z i k ∙ sym (word_past m l' z i k)))

module _ (b : ℕ) (f f' : JobTables) (u : OtherPrices b f f') where
  -- The other job's prices, by offer and list.
  unfoldable others : ℕ → ℕ
  others = (with_lists f.lists f').price

  same_counted : counted_of f' ≡ counted_of f
  unfolding counted_of
  same_counted = λ i. record {
    size = u.tallies i;
    grocer = λ t. word_as f'.tallies f.tallies f'.tally_grocer f.tally_grocer 0 u.tallies u.tally_grocer t i;
    offer = λ t. word_as f'.tallies f.tallies f'.tally_offer f.tally_offer 0 u.tallies u.tally_offer t i;
    bag = λ t. word_as f'.tallies f.tallies f'.tally_bag f.tally_bag 0 u.tallies u.tally_bag t i;
    revision = λ t. word_as f'.tallies f.tallies f'.tally_revision f.tally_revision 0 u.tallies u.tally_revision t i;
  }

  entries_is : job_of f' ≡ reprice (job_of f').price (job_of f)
  unfolding job_of reprice
  entries_is = λ i. record {
    boxes = u.boxes i;
    grocers = u.grocers i;
    offers = u.offers i;
    tallies = u.tallies i;
    price = word f'.offers f'.price 0;
    offer_owner = λ o. word_as f'.offers f.offers f'.offer_owner f.offer_owner 0 u.offers u.offer_owner o i;
    grocer_owner = λ g. word_as f'.grocers f.grocers f'.grocer_owner f.grocer_owner 0 u.grocers u.grocer_owner g i;
    tally_grocer = λ t. word_as f'.tallies f.tallies f'.tally_grocer f.tally_grocer 0 u.tallies u.tally_grocer t i;
    tally_box = λ t. cond (stands (same_counted i) t) (word_as f'.tallies f.tallies f'.tally_box f.tally_box 0 u.tallies u.tally_box t i) nobody;
    tally_offer = λ t. word_as f'.tallies f.tallies f'.tally_offer f.tally_offer 0 u.tallies u.tally_offer t i;
    tally_count = λ t. word_as f'.tallies f.tallies f'.tally_count f.tally_count (pos 0) u.tallies u.tally_count t i;
  }

  -- The evening's job has other prices and nothing else.
  lists_is : with_lists f.lists f' ≡ reprice others (with_lists f.lists f)
  unfolding with_lists spread reprice others
  lists_is = ap (spread (suc f.lists) (λ o. cell (suc f.lists) f'.offers f'.price 0 (o % suc f.lists) (o / suc f.lists))) entries_is

  job_is : evening_of f' ≡ reprice others (evening_of f)
  job_is = ap (λ (l : ℕ). with_lists l f') u.lists ∙ lists_is

  -- The packed length is told without prices.
  same_length : totals_length (evening_of f') ≡ totals_length (evening_of f)
  unfolding totals_length totals_start local_grocers total_word shares held_by reprice
  same_length = ap totals_length job_is

  same_words_lem : (k : Kind) (a c : ℕ) → words_of (evening_of f') k a c ≡ words_of (evening_of f) k a c
  unfolding words_of price_word total_word needs shares held_by reprice
  same_words_lem k a c = ap (λ (j : Job). words_of j k a c) job_is ∙ words_alike k
    where
      words_alike : (k : Kind) → words_of (reprice others (evening_of f)) k a c ≡ words_of (evening_of f) k a c
      words_alike send_prices = refl
      words_alike multiply_own = refl
      words_alike receive_prices = refl
      words_alike send_totals = refl
      words_alike add_own = refl
      words_alike receive_totals = refl

  same_has : (x g : ℕ) → has_total (evening_of f') x g ≡ has_total (evening_of f) x g
  unfolding has_total is_local local_grocers total_word shares held_by reprice
  same_has x g = ap (λ (j : Job). has_total j x g) job_is

  same_place : (x g : ℕ) → total_place (evening_of f') x g ≡ total_place (evening_of f) x g
  unfolding total_place totals_start local_grocer local_grocers total_word shares held_by reprice
  same_place x g = ap (λ (j : Job). total_place j x g) job_is

  same_short : (r : Request) → lends_short f' r ≡ lends_short f r
  unfolding lends_short job_short bags_short state_short totals_short
  same_short r = rw (same_length, u.lists, u.boxes, u.grocers, u.offers, u.tallies)

  same_asks : (rs : List Request) → asks f' rs ≡ asks f rs
  unfolding asks
  same_asks [] = refl
  same_asks (r ∷ rs) = rw (same_short r, same_asks rs)

  rules_same : (d : Steps) (r : Request) → step_rules (reprice others (evening_of f)) d r.asked ≡ step_rules (evening_of f) d r.asked
  unfolding step_rules boxes_fit fits ready all_added added prices_due totals_due price_word total_word needs shares held_by reprice
  rules_same d r = refl

  same_refusal : (d : Steps) (r : Request) → refusal_of f' d r ≡ refusal_of f d r
  unfolding refusal_of
  same_refusal d r = rw (same_short r) (ap (λ (n : ℕ). cond (lends_short f r) 20 n) (ap (λ (j : Job). first_met (step_rules j d r.asked)) job_is ∙ ap first_met (rules_same d r)))

  same_permitted : (d : Steps) (r : Request) → permitted_request f' d r ≡ permitted_request f d r
  same_permitted d r = sym (refusal_zero f' d r) ∙ ap (λ (n : ℕ). eqb n 0) (same_refusal d r) ∙ refusal_zero f d r

  same_answers : (d : Steps) (rs : List Request) → answers_by_rules f' d rs ≡ answers_by_rules f d rs
  unfolding answers_by_rules
  same_answers d [] = refl
  same_answers d (r ∷ rs) =
      rw (same_refusal d r, same_permitted d r)
      (ap (λ l. step_answer (refusal_of f d r) ∷ l) (same_answers (cond (permitted_request f d r) (mark d (step_of r.asked).kind (step_of r.asked).first (step_of r.asked).second) d) rs))

  -- The prices that box b sees are equal: list q of offer o.
  module _ (z : Settles f) where
    -- A price of list q.
    abbrev priced : JobTables → ℕ → ℕ → ℕ
    priced h q o = cell (suc f.lists) h.offers h.price 0 q o

    past_price : (q o : ℕ) → ltb o f.offers ≡ false → priced f' q o ≡ priced f q o
    past_price q o h =
        rw u.offers
        (cell_past (suc f.lists) f.offers f'.price 0 q o (ltb-false o f.offers h) ∙ sym (cell_past (suc f.lists) f.offers f.price 0 q o (ltb-false o f.offers h)))

    equal_price : (q o : ℕ) → q < suc f.lists → o < f.offers → get_or f'.price (q * f.offers + o) 0 ≡ get_or f.price (q * f.offers + o) 0 → priced f' q o ≡ priced f q o
    equal_price q o k l e =
        rw u.offers (cell_at (suc f.lists) f.offers f'.price 0 q o k l ∙ e ∙ sym (cell_at (suc f.lists) f.offers f.price 0 q o k l))

    own_price_lem : (q o : ℕ) → q < suc f.lists → o < f.offers → eqb ((job_of f).offer_owner o) b ≡ true → priced f' q o ≡ priced f q o
    unfolding job_of
    own_price_lem q o k l e = equal_price q o k l (u.own_price q o k l (sym (word_in_lem f.offers f.offer_owner 0 o l) ∙ eqb-true (word f.offers f.offer_owner 0 o) b e))

    tally_price : (q o : ℕ) → q < suc f.lists → o < f.offers → (t : ℕ) → t < (job_of f).tallies → held_by (job_of f) t b ≡ true → eqb ((job_of f).tally_offer t) o ≡ true →
        priced f' q o ≡ priced f q o
    unfolding job_of
    tally_price q o i l t k h e =
        let s = sym ((standing_count f z.in_range).holder t b k) ∙ h in
        let at : get_or f.tally_offer t 0 ≡ o = sym (word_in_lem f.tallies f.tally_offer 0 t k) ∙ eqb-true (word f.tallies f.tally_offer 0 t) o e in
        equal_price q o i l (rw at at (u.held_price q t i k (and_l (stands (counted_of f) t) _ s) (eqb-true (get_or f.tally_box t 0) b (and_r (stands (counted_of f) t) _ s))))

    held_price_lem : (q o : ℕ) → q < suc f.lists → o < f.offers → needs (job_of f) o b ≡ true → priced f' q o ≡ priced f q o
    unfolding needs
    held_price_lem q o i l e =
        let (t, k, h) = any_find (job_of f).tallies (λ t. held_by (job_of f) t b && eqb ((job_of f).tally_offer t) o) e in
        tally_price q o i l t k (and_l (held_by (job_of f) t b) _ h) (and_r (held_by (job_of f) t b) _ h)

    sees_entry : (q o : ℕ) → q < suc f.lists → (eqb ((job_of f).offer_owner o) b || needs (job_of f) o b) ≡ true → priced f' q o ≡ priced f q o
    sees_entry q o i h =
        split (ltb o f.offers)
        (λ k. split (eqb ((job_of f).offer_owner o) b)
        (λ e. own_price_lem q o i (ltb-true o f.offers k) e)
        (λ e. held_price_lem q o i (ltb-true o f.offers k) (rw e at h)))
        (λ k. past_price q o k)

    sees_list : (o : ℕ) → (eqb ((with_lists f.lists f).offer_owner o) b || needs (with_lists f.lists f) o b) ≡ true → others o ≡ (with_lists f.lists f).price o
    unfolding others with_lists spread
    sees_list o h = sees_entry (o % suc f.lists) (o / suc f.lists) (list_in f.lists o) (rw (needs_entry f.lists f o b) at h)

    sees : (o : ℕ) → (eqb ((evening_of f).offer_owner o) b || needs (evening_of f) o b) ≡ true → others o ≡ (evening_of f).price o
    sees = sees_list

-- ---- Both lists

-- A request behind a list.
served : (f : JobTables) (t : StateTables) (ps : List Request) (r : Request) → tables_after f t (ps ++ (r ∷ [])) ≡ serve f (tables_after f t ps) r
unfolding tables_after serve_all
served f t ps r = all_served (fresh_tables f t) ps
  where
    all_served : (u : StateTables) (ps : List Request) → serve_all f u (ps ++ (r ∷ [])) ≡ serve f (serve_all f u ps) r
    all_served u [] = refl
    all_served u (p ∷ ps) = all_served (serve f u p) ps

module _ (b : ℕ) (f f' : JobTables) (z : Settles f) (z' : Settles f') (u : OtherPrices b f f') (t t' : StateTables) where
  -- The other evening's job.
  abbrev other_job : Job
  other_job = reprice (others b f f' u) (evening_of f)

  accepted_same : (rs : List Request) → accepted_in f' t' rs ≡ accepted_in f t rs
  unfolding fresh
  accepted_same rs =
      accepted_is f' z' t' rs
      ∙ ap (λ (j : Job). taken j (fresh j) (asks f' rs)) (job_is b f f' u)
      ∙ ap (taken other_job (fresh other_job)) (same_asks b f f' u rs)
      ∙ same_taken (evening_of f) (others b f f' u) (fresh other_job) (fresh (evening_of f)) (asks f rs) refl
      ∙ sym (accepted_is f z t rs)

  done_same : (rs : List Request) → done_in f' t' rs ≡ done_in f t rs
  unfolding done_in
  done_same rs = ap done_by (accepted_same rs)

  -- The states that the lists leave.
  this_state : (rs : List Request) → view (evening_of f) (tables_after f t rs) ≡ state_by_rules (evening_of f) (done_in f t rs)
  this_state rs = (demand3 f z t rs).holds

  other_state : (rs : List Request) → view (evening_of f') (tables_after f' t' rs) ≡ state_by_rules other_job (done_in f t rs)
  other_state rs = (demand3 f' z' t' rs).holds ∙ ap (λ (j : Job). state_by_rules j (done_in f' t' rs)) (job_is b f f' u) ∙ ap (state_by_rules other_job) (done_same rs)

  next_same : (rs : List Request) (r : Request) → answer_to f' (tables_after f' t' rs) r ≡ answer_to f (tables_after f t rs) r
  next_same rs r =
      (demand3 f' z' t' rs).next_answer r
      ∙ ap (λ (d : Steps). step_answer (refusal_of f' d r)) (done_same rs)
      ∙ ap step_answer (same_refusal b f f' u (done_in f t rs) r)
      ∙ sym ((demand3 f z t rs).next_answer r)

  -- The message of a step that a list ends with.
  one_message : (rs : List Request) (x : Step) → x.first ≡ b →
      message_of (evening_of f') (view (evening_of f') (tables_after f' t' rs)) x ≡ message_of (evening_of f) (view (evening_of f) (tables_after f t rs)) x
  one_message rs x at =
      ap (λ (s : State). message_of (evening_of f') s x) (other_state rs)
      ∙ ap (λ (j : Job). message_of j (state_by_rules other_job (done_in f t rs)) x) (job_is b f f' u)
      ∙ same_message (evening_of f) (others b f f' u) b (sees b f f' u z) (done_in f t rs) x at
      ∙ ap (λ (s : State). message_of (evening_of f) s x) (sym (this_state rs))

  -- The messages of requests rs behind those of ps.
  all_messages : (ps rs : List Request) → messages_from f' b (tables_after f' t' ps) rs ≡ messages_from f b (tables_after f t ps) rs
  unfolding messages_from
  all_messages ps [] = refl
  all_messages ps (r ∷ rs) =
      rw (
        next_same ps r,
        ← (served f' t' ps r),
        ← (served f t ps r),
        all_messages (ps ++ (r ∷ [])) rs,
      )
      (split (eqb (step_of r.asked).first b)
      (λ h. rw (one_message (ps ++ (r ∷ [])) (step_of r.asked) (eqb-true (step_of r.asked).first b h)))
      (λ h. rw h (split (is_accepted (answer_to f (tables_after f t ps) r)) (λ g. rw g) (λ g. rw g))))

  module _ (rs : List Request) where
    messages_same : messages_in f' b t' rs ≡ messages_in f b t rs
    unfolding messages_in tables_after serve_all
    messages_same = all_messages [] rs

    pub learns_nothing : LearnsNothing b f f' t t' rs
    learns_nothing = record {
      answers = (demand3 f' z' t' rs).answers ∙ same_answers b f f' u (λ k a c. false) rs ∙ sym (demand3 f z t rs).answers;
      next_answer = next_same rs;
      accepted = accepted_same rs;
      words_sent = rw (other_state rs, this_state rs) (same_sent (evening_of f) (others b f f' u) (done_in f t rs));
      words_of_step = same_words_lem b f f' u;
      known = λ o. rw (other_state rs, this_state rs) (same_known (evening_of f) (others b f f' u) b (sees b f f' u z) (done_in f t rs) o);
      working = λ g. rw (other_state rs, this_state rs) (same_working (evening_of f) (others b f f' u) b (sees b f f' u z) (done_in f t rs) g);
      has_totals = same_has b f f' u b;
      places = same_place b f f' u b;
      messages = messages_same;
      prices_on_way = λ c o e. rw (other_state rs, this_state rs) (same_prices (evening_of f) (others b f f' u) b (sees b f f' u z) (done_in f t rs) c o e);
      totals_on_way = λ g. rw (other_state rs, this_state rs) (same_totals (evening_of f) (others b f f' u) b (sees b f f' u z) (done_in f t rs) g);
      statements = λ none g e. rw (other_state rs, this_state rs) (same_statement (evening_of f) (others b f f' u) b (sees b f f' u z) (done_in f t rs) none g e);
    }
