-- The tests of all tables together are 30. Assumes nothing.
use mathlib.Core.Path.{◌≡◌, refl, sym, ap, ap₂, ◌∙◌}
use mathlib.Core.Bool.{Bool, true, false, cond, ◌&&◌, ◌||◌}
use mathlib.Core.List.{List, []}
use Prim.Native.Nat.{ℕ, suc, ◌+◌, ◌*◌, ◌/◌, ◌%◌, ◌≤◌, ◌<◌}
use native.Mathlib.Nat.{zero-add, mul_comm}
use native.Mathlib.Omega.{arith}
use lib.Arith.{digits_div, digits_mod}
use lib.Dec.{eqb, ltb}
use lib.IntN.{ℤ, pos, ◌*ℤ◌}
use lib.ListN.{get_or, length, drop}
use lib.Seq.{get_or-drop}
use borrow.Author.Tests.{eqb-true, eq-eqb}
use Rattle.laws.specs.Below.{all, sum, only, integers}
use Rattle.laws.specs.Limits.{max_lists, max_price, max_count}
use Rattle.laws.specs.Lists.{list_words}
use Rattle.laws.specs.Masks.{bit}
use Rattle.laws.specs.Tables.{tabulate, word, cell}
use Rattle.laws.proofs.Below.{all_at, all_of_lem}
use Rattle.laws.proofs.Bools.{same_test, and_l, and_r, and_true, eqb_same}
use Rattle.laws.proofs.Entries.{entry_in, list_in, both}
use Rattle.laws.proofs.Masks.{bit_mask}
use Rattle.laws.proofs.Sums.{sum_cong}
use Rattle.laws.proofs.Tables.{cell_in, row_in, cell_at, get_d_tabulate, length_tabulate, word_in_lem}
use Rattle.model.specs.Job.{Job, held_by, held, needs, need_word, sharer_word, amount, plain_sum}
use Rattle.model.specs.Steps.{Steps, at_place, has_step}
use Rattle.model.specs.Words.{owner_words}
use Rattle.model.specs.PackedTotals.{totals_length, spread}
use Rattle.model.specs.PriceLists.{only_list}
use Rattle.model.specs.Tables.{JobTables, StateTables, job_of, with_lists, evening_of, state_lengths, any_short}
use Rattle.model.specs.Ranges.{Settles}
use Rattle.model.specs.Handed.{handed_tables, Standing, Handed}
use Rattle.job_masks.specs.Masks.{Owned, holder_word, by_owner}
use Rattle.job_masks.specs.Due.{due_at}
use Rattle.message_tables.specs.Sums.{others_sum}
use Rattle.late_rules.specs.Late.{same_amount, left_by_run}
use Rattle.late_rules.specs.Finished.{known_at_end, FinishedWords}
use Rattle.late_finished.specs.Tests.{no_words, no_amounts, knows_by, right_words, right_row, right_known, PricesLent, sum_by, right_amounts, right_statements, ListLent, SumsLent, right_marks}
use Rattle.model.proofs.EveningJob.{needs_entry}
use Rattle.model.proofs.Handed.{bare_box, handed_job, handed_evening, handed-whole, handed_in}
use Rattle.model.proofs.Lent.{StateLong, TotalsLong, state_long, totals_long}
use Rattle.model.proofs.PriceLists.{same_steps_lem, list_sum}
use Rattle.model.proofs.Step.{JobIn, job_in_lem, in_handed, under_at, up_at, around_at}
use Rattle.model.proofs.Whole.{JobWhole, job_whole}
use Rattle.job_masks.proofs.Holders.{need_words, sharer_words}
use Rattle.job_masks.proofs.DueSteps.{due_is}
use Rattle.job_masks.proofs.InJob.{some_box, owned_offers, owned_grocers}
use Rattle.message_tables.proofs.Summing.{word_total}
use Rattle.late_rules.proofs.Left.{not_short, amount_true, amount_same}
use Rattle.late_rules.proofs.Words.{finished_state}

-- ---- what each test says

no_words_at : (n : ℕ) (l : List ℕ) → no_words 0 n l ≡ true → (i : ℕ) → i < n → get_or l i 0 ≡ 0
unfolding no_words
no_words_at n l h i q = ap (λ (k : ℕ). get_or l k 0) (sym (zero-add i)) ∙ eqb-true (get_or l (0 + i) 0) 0 (all_at n (λ i. eqb (get_or l (0 + i) 0) 0) i q h)

no_words_of : (n : ℕ) (l : List ℕ) → ((i : ℕ) → i < n → get_or l i 0 ≡ 0) → no_words 0 n l ≡ true
unfolding no_words
no_words_of n l e = all_of_lem n (λ i. eqb (get_or l (0 + i) 0) 0) (λ i q. eq-eqb (get_or l (0 + i) 0) 0 (ap (λ (k : ℕ). get_or l k 0) (zero-add i) ∙ e i q))

no_amounts_at : (n : ℕ) (l : List ℤ) → no_amounts n l ≡ true → (i : ℕ) → i < n → get_or l i (pos 0) ≡ pos 0
unfolding no_amounts
no_amounts_at n l h i q = amount_true (get_or l i (pos 0)) (pos 0) (all_at n (λ i. same_amount (get_or l i (pos 0)) (pos 0)) i q h)

no_amounts_of : (n : ℕ) (l : List ℤ) → ((i : ℕ) → i < n → get_or l i (pos 0) ≡ pos 0) → no_amounts n l ≡ true
unfolding no_amounts
no_amounts_of n l e = all_of_lem n (λ i. same_amount (get_or l i (pos 0)) (pos 0)) (λ i q. rw (e i q) (amount_same (pos 0)))

-- Known prices, by box, offer and list.
module _ (k n width : ℕ) (price owner need known : List ℕ) where
  abbrev known_by : ℕ → ℕ → ℕ → ℕ
  known_by b o q = cond (knows_by owner need b o) (get_or price (q * n + o) 0) 0

  abbrev word_at : ℕ → ℕ → ℕ → ℕ
  word_at b o q = get_or known (b * (n * width) + o * width + q) 0

  known_at : right_known k n width price owner need known ≡ true → (b o q : ℕ) → b < k → o < n → q < width → word_at b o q ≡ known_by b o q
  unfolding right_known right_row right_words
  known_at h b o q lb lo lq =
      eqb-true (word_at b o q) (known_by b o q)
      (all_at width (λ q. eqb (word_at b o q) (known_by b o q)) q lq
      (all_at n (λ o. all width (λ q. eqb (word_at b o q) (known_by b o q))) o lo
      (all_at k (λ b. all n (λ o. all width (λ q. eqb (word_at b o q) (known_by b o q)))) b lb h)))

  known_of : ((b o q : ℕ) → b < k → o < n → q < width → word_at b o q ≡ known_by b o q) → right_known k n width price owner need known ≡ true
  unfolding right_known right_row right_words
  known_of e =
      all_of_lem k (λ b. all n (λ o. all width (λ q. eqb (word_at b o q) (known_by b o q)))) (λ b lb.
      all_of_lem n (λ o. all width (λ q. eqb (word_at b o q) (known_by b o q))) (λ o lo.
      all_of_lem width (λ q. eqb (word_at b o q) (known_by b o q)) (λ q lq. eq-eqb (word_at b o q) (known_by b o q) (e b o q lb lo lq))))

-- Statements, by grocer and list.
module _ (k m n t width : ℕ) (held grocer offer : List ℕ) (count : List ℤ) (price : List ℕ) (statement : List ℤ) where
  abbrev owed : ℕ → ℕ → ℤ
  owed g q = sum_by k t held grocer offer count price (q * n) g

  statement_at : right_statements k m n t width held grocer offer count price statement ≡ true →
      (g q : ℕ) → g < m → q < width → get_or statement (g * width + q) (pos 0) ≡ owed g q
  unfolding right_statements right_amounts
  statement_at h g q lg lq =
      amount_true (get_or statement (g * width + q) (pos 0)) (owed g q)
      (all_at m (λ g. same_amount (get_or statement (g * width + q) (pos 0)) (owed g q)) g lg
      (all_at width (λ q. all m (λ g. same_amount (get_or statement (g * width + q) (pos 0)) (owed g q))) q lq h))

  statement_of : ((g q : ℕ) → g < m → q < width → get_or statement (g * width + q) (pos 0) ≡ owed g q) →
      right_statements k m n t width held grocer offer count price statement ≡ true
  unfolding right_statements right_amounts
  statement_of e =
      all_of_lem width (λ q. all m (λ g. same_amount (get_or statement (g * width + q) (pos 0)) (owed g q))) (λ q lq.
      all_of_lem m (λ g. same_amount (get_or statement (g * width + q) (pos 0)) (owed g q)) (λ g lg. rw (e g q lg lq) (amount_same (owed g q))))

marks_at : (k : ℕ) (receivers senders done : List ℕ) → right_marks k receivers senders done ≡ true →
    (i : ℕ) → i < 6 * k * k → get_or done i 0 ≡ cond (due_at k receivers senders i) 1 0
unfolding right_marks
marks_at k receivers senders done h i q =
    eqb-true (get_or done i 0) (cond (due_at k receivers senders i) 1 0) (all_at (6 * k * k) (λ i. eqb (get_or done i 0) (cond (due_at k receivers senders i) 1 0)) i q h)

marks_of_lem : (k : ℕ) (receivers senders done : List ℕ) → ((i : ℕ) → i < 6 * k * k → get_or done i 0 ≡ cond (due_at k receivers senders i) 1 0) →
    right_marks k receivers senders done ≡ true
unfolding right_marks
marks_of_lem k receivers senders done e =
    all_of_lem (6 * k * k) (λ i. eqb (get_or done i 0) (cond (due_at k receivers senders i) 1 0)) (λ i q. eq-eqb (get_or done i 0) (cond (due_at k receivers senders i) 1 0) (e i q))

-- Seven tests, as the functions join them, one by one.
record Seven (a b c d e x y : Bool) : Type 0 where
  known : a ≡ true
  price_transit : b ≡ true
  working : c ≡ true
  total_transit : d ≡ true
  statement : e ≡ true
  done : x ≡ true
  sent : y ≡ true

seven : (a b c d e x y : Bool) → (a && b && (c && d && e) && (x && y)) ≡ true → Seven a b c d e x y
seven a b c d e x y h =
    let r = and_l (a && b && (c && d && e)) (x && y) h in
    let m = and_r (a && b && (c && d && e)) (x && y) h in
    let p = and_l (a && b) (c && d && e) r in
    let t = and_r (a && b) (c && d && e) r in
    let u = and_l (c && d) e t in
    record {
      known = and_l a b p;
      price_transit = and_r a b p;
      working = and_l c d u;
      total_transit = and_r c d u;
      statement = and_r (c && d) e t;
      done = and_l x y m;
      sent = and_r x y m;
    }

-- ---- the words that the tests compare with are the job's

-- A known word is told from an owner, a test and a price.
known_told : (b : ℕ) {x x' p p' : ℕ} {t t' : Bool} → x ≡ x' → t ≡ t' → p ≡ p' → cond (eqb x b || t) p 0 ≡ cond (eqb x' b || t') p' 0
known_told b u v w = rw (u, v, w)

-- The sums of tables that are handed without bags, on list q, are the plain sums of the job with this list alone.
module _ (h : JobTables) (bare : h.tally_bag ≡ []) (offers_in : (i : ℕ) → i < h.tallies → get_or h.tally_offer i 0 < h.offers) (q : ℕ) where
  abbrev alone : Job
  alone = job_of (only_list h q)

  box_is : (t : ℕ) → t < h.tallies → alone.tally_box t ≡ get_or h.tally_box t 0
  unfolding only_list
  box_is t l = bare_box (only_list h q) bare t ∙ word_in_lem h.tallies h.tally_box 0 t l

  amount_is : (t : ℕ) → t < h.tallies → alone.tally_count t *ℤ pos (alone.price (alone.tally_offer t))
      ≡ get_or h.tally_count t (pos 0) *ℤ pos (get_or h.price (q * h.offers + get_or h.tally_offer t 0) 0)
  unfolding job_of only_list
  amount_is t l = rw (
    word_in_lem h.tallies h.tally_count (pos 0) t l,
    word_in_lem h.tallies h.tally_offer 0 t l,
    word_in_lem h.offers (drop (q * h.offers) h.price) 0 (get_or h.tally_offer t 0) (offers_in t l),
    get_or-drop (q * h.offers) h.price (get_or h.tally_offer t 0) 0,
  )

  grocer_is : (t : ℕ) → t < h.tallies → alone.tally_grocer t ≡ get_or h.tally_grocer t 0
  unfolding job_of only_list
  grocer_is t l = word_in_lem h.tallies h.tally_grocer 0 t l

  boxes_is : alone.boxes ≡ h.boxes
  unfolding job_of only_list
  boxes_is = refl

  tallies_is : alone.tallies ≡ h.tallies
  unfolding job_of only_list
  tallies_is = refl

  sum_is : (x : ℕ) → sum_by h.boxes h.tallies h.tally_box h.tally_grocer h.tally_offer h.tally_count h.price (q * h.offers) x ≡ plain_sum alone x
  unfolding sum_by plain_sum held held_by amount
  sum_is x =
      sum_cong integers h.tallies _ _ (λ t l.
      ap₂ (λ (b : Bool) (y : ℤ). only integers b y)
      (sym (ap₂ ◌&&◌
      (ap₂ ◌&&◌ (eqb_same (alone.tally_box t)) (ap₂ ltb (box_is t l) boxes_is))
      (ap (λ (y : ℕ). eqb y x) (grocer_is t l))))
      (sym (amount_is t l)))
      ∙ ap (λ (n : ℕ). sum integers n (λ t. only integers (eqb (alone.tally_box t) (alone.tally_box t) && ltb (alone.tally_box t) alone.boxes && eqb (alone.tally_grocer t) x)
      (alone.tally_count t *ℤ pos (alone.price (alone.tally_offer t))))) (sym tallies_is)

module _ (f : JobTables) (z : Settles f) (boxes : List ℕ) (st : Standing f boxes) (need share : List ℕ)
    (en : need ≡ tabulate 500 (holder_word f.boxes f.tallies boxes f.tally_offer))
    (es : share ≡ tabulate 255 (holder_word f.boxes f.tallies boxes f.tally_grocer)) where
  -- The job as it is handed.
  abbrev g : JobTables
  g = handed_tables f boxes

  pub handed : Handed g
  handed = handed_in f boxes st z.in_range

  limits : JobIn f
  limits = job_in_lem f (in_handed f z.in_range)

  needs_are : need ≡ tabulate 500 (need_word (job_of g))
  needs_are = en ∙ need_words g refl

  shares_are : share ≡ tabulate 255 (sharer_word (job_of g))
  shares_are = es ∙ sharer_words g refl

  same_evening : evening_of g ≡ evening_of f
  same_evening = handed_evening f boxes st

  -- What a box knows of an offer on a list,
  need_is : (b o q : ℕ) → b < f.boxes → o < f.offers → q < suc f.lists → bit b (get_or need o 0) ≡ needs (evening_of g) (o * suc f.lists + q) b
  unfolding need_word
  need_is b o q lb lo lq =
      ap (λ (l : List ℕ). bit b (get_or l o 0)) needs_are
      ∙ ap (bit b) (get_d_tabulate 500 (need_word (job_of g)) o 0 (omega (arith, limits.offers≤)))
      ∙ bit_mask 16 b (needs (job_of g) o) (omega (arith, limits.boxes≤))
      ∙ sym (needs_entry f.lists g (o * suc f.lists + q) b ∙ ap (λ (x : ℕ). needs (job_of g) x b) (digits_div o lq))

  owner_is : (o q : ℕ) → o < f.offers → q < suc f.lists → get_or f.offer_owner o 0 ≡ (evening_of g).offer_owner (o * suc f.lists + q)
  unfolding with_lists spread job_of
  owner_is o q lo lq = sym (ap (word f.offers f.offer_owner 0) (digits_div o lq) ∙ word_in_lem f.offers f.offer_owner 0 o lo)

  price_is : (o q : ℕ) → o < f.offers → q < suc f.lists → get_or f.price (q * f.offers + o) 0 ≡ (evening_of g).price (o * suc f.lists + q)
  unfolding with_lists spread job_of
  price_is o q lo lq =
      sym (ap₂ (cell (suc f.lists) f.offers f.price 0) (digits_mod o lq) (digits_div o lq) ∙ cell_at (suc f.lists) f.offers f.price 0 q o lq lo)

  known_is : (b o q : ℕ) → b < f.boxes → o < f.offers → q < suc f.lists →
      cond (knows_by f.offer_owner need b o) (get_or f.price (q * f.offers + o) 0) 0 ≡ known_at_end (evening_of f) b (o * suc f.lists + q)
  unfolding known_at_end
  known_is b o q lb lo lq =
      known_told b (owner_is o q lo lq) (need_is b o q lb lo lq) (price_is o q lo lq) ∙ ap (λ (j : Job). known_at_end j b (o * suc f.lists + q)) same_evening

  -- what a grocer is owed on it,
  owed_is : (x q : ℕ) → q < suc f.lists →
      sum_by f.boxes f.tallies boxes f.tally_grocer f.tally_offer f.tally_count f.price (q * f.offers) x ≡ plain_sum (evening_of f) (x * suc f.lists + q)
  owed_is x q lq =
      sum_is g refl (λ i l. under_at f.offers f.tallies f.tally_offer i limits.tally_offer l) q x
      ∙ sym (list_sum f.lists g q lq x)
      ∙ ap (λ (j : Job). plain_sum j (x * suc f.lists + q)) same_evening

  -- the steps that the job has,
  one_box_lem : 1 ≤ f.boxes
  one_box_lem = some_box g handed

  -- Who sends prices to whom, and who totals.
  abbrev receivers : List ℕ
  receivers = by_owner f.offers f.offer_owner need

  abbrev senders : List ℕ
  senders = by_owner f.grocers f.grocer_owner share

  mark_is : (i : ℕ) → cond {A = ℕ} (due_at f.boxes receivers senders i) 1 0 ≡ cond (at_place f.boxes (has_step (evening_of f)) i) 1 0
  mark_is i =
      ap (λ (b : Bool). cond {A = ℕ} b 1 0)
      (due_is g handed one_box_lem need share needs_are shares_are i
      ∙ ap (λ (j : Job). at_place f.boxes (has_step j) i) (handed_job f boxes st)
      ∙ ap (λ (d : Steps). at_place f.boxes d i) (sym (same_steps_lem f).has))

  -- and its words.
  abbrev words : ℕ
  words = (others_sum f.offers f.offer_owner need + others_sum f.grocers f.grocer_owner share) * suc f.lists

  words_are : words ≡ owner_words (evening_of f)
  words_are =
      ap (λ (n : ℕ). n * suc f.lists)
      (ap₂ (λ (x y : List ℕ). others_sum f.offers f.offer_owner x + others_sum f.grocers f.grocer_owner y) en es ∙ word_total g handed ∙ ap owner_words (handed_job f boxes st))
      ∙ sym (same_steps_lem f).all_words

  -- ---- all tests together

  module _ (s : StateTables) (h : any_short f s ≡ false) where
    abbrev prices : Bool
    prices = right_known f.boxes f.offers (suc f.lists) f.price f.offer_owner need s.known

    abbrev transit : Bool
    transit = no_words 0 (f.boxes * (f.offers * suc f.lists)) s.price_transit

    abbrev statements : Bool
    statements = right_statements f.boxes f.grocers f.offers f.tallies (suc f.lists) boxes f.tally_grocer f.tally_offer f.tally_count f.price s.statement

    -- The three tests, as the functions give them, joined by `&`.
    abbrev pub tests : Bool
    tests =
        (prices && transit)
        && (no_amounts (totals_length (evening_of f)) s.working && no_amounts (totals_length (evening_of f)) s.total_transit && statements)
        && (right_marks f.boxes receivers senders s.done && eqb (get_or s.sent 0 0) words)

    to_words : tests ≡ true → FinishedWords f s
    to_words e =
        let r = seven prices transit (no_amounts (totals_length (evening_of f)) s.working) (no_amounts (totals_length (evening_of f)) s.total_transit) statements
        (right_marks f.boxes receivers senders s.done) (eqb (get_or s.sent 0 0) words) e in
        record {
          known = λ b w lb lw.
              let o = w / suc f.lists in
              let q = w % suc f.lists in
              let lo = entry_in f.lists f.offers w lw in
              let lq = list_in f.lists w in
              ap (λ (x : ℕ). get_or s.known x 0) (omega (arith, both f.lists w))
              ∙ known_at f.boxes f.offers (suc f.lists) f.price f.offer_owner need s.known r.known b o q lb lo lq
              ∙ known_is b o q lb lo lq
              ∙ ap (known_at_end (evening_of f) b) (both f.lists w);
          price_transit = no_words_at (f.boxes * (f.offers * suc f.lists)) s.price_transit r.price_transit;
          working = no_amounts_at (totals_length (evening_of f)) s.working r.working;
          total_transit = no_amounts_at (totals_length (evening_of f)) s.total_transit r.total_transit;
          statement = λ w lw.
              let x = w / suc f.lists in
              let q = w % suc f.lists in
              let lq = list_in f.lists w in
              ap (λ (i : ℕ). get_or s.statement i (pos 0)) (sym (both f.lists w))
              ∙ statement_at f.boxes f.grocers f.offers f.tallies (suc f.lists) boxes f.tally_grocer f.tally_offer f.tally_count f.price s.statement r.statement
              x q (entry_in f.lists f.grocers w lw) lq
              ∙ owed_is x q lq
              ∙ ap (plain_sum (evening_of f)) (both f.lists w);
          done = λ i q. marks_at f.boxes receivers senders s.done r.done i q ∙ mark_is i;
          sent = eqb-true (get_or s.sent 0 0) words r.sent ∙ words_are;
        }

    to_tests : FinishedWords f s → tests ≡ true
    to_tests w =
        and_true
        (and_true
        (and_true
        (known_of f.boxes f.offers (suc f.lists) f.price f.offer_owner need s.known (λ b o q lb lo lq.
        ap (λ (x : ℕ). get_or s.known x 0) (omega arith)
        ∙ w.known b (o * suc f.lists + q) lb (cell_in o f.offers (suc f.lists) q lo lq)
        ∙ sym (known_is b o q lb lo lq)))
        (no_words_of (f.boxes * (f.offers * suc f.lists)) s.price_transit w.price_transit))
        (and_true
        (and_true (no_amounts_of (totals_length (evening_of f)) s.working w.working) (no_amounts_of (totals_length (evening_of f)) s.total_transit w.total_transit))
        (statement_of f.boxes f.grocers f.offers f.tallies (suc f.lists) boxes f.tally_grocer f.tally_offer f.tally_count f.price s.statement (λ x q lx lq.
        w.statement (x * suc f.lists + q) (cell_in x f.grocers (suc f.lists) q lx lq) ∙ sym (owed_is x q lq)))))
        (and_true
        (marks_of_lem f.boxes receivers senders s.done (λ i q. w.done i q ∙ sym (mark_is i)))
        (eq-eqb (get_or s.sent 0 0) words (w.sent ∙ sym words_are)))

    -- The tests are 30: all hold exactly where the state is the one that a finished run leaves.
    pub tests_are : tests ≡ left_by_run f s
    tests_are =
        let w = (finished_state f s z h).words in
        same_test tests (left_by_run f s) (λ e. w.1 (to_words e)) (λ e. to_tests (w.0 e))

    -- ---- what the functions ask of their tables

    whole_job : JobWhole g
    whole_job = job_whole g (handed-whole f boxes st z.whole)

    long_state : StateLong f.boxes (list_words f.lists f.grocers) (list_words f.lists f.offers) (state_lengths s)
    long_state = state_long f (state_lengths s) (not_short f s h).state

    long_totals : TotalsLong (totals_length (evening_of f)) (state_lengths s)
    long_totals = totals_long (evening_of f) (state_lengths s) (not_short f s h).totals

    pub prices_lent : PricesLent f.boxes f.offers f.lists f.price f.offer_owner need s.known s.price_transit
    unfolding state_lengths
    prices_lent = record {
      boxes≤ = limits.boxes≤;
      offers≤ = limits.offers≤;
      lists≤ = limits.lists≤;
      price_long = whole_job.price;
      owner_long = whole_job.offer_owner;
      needs_long = rw (ap length en ∙ length_tabulate 500 _) limits.offers≤;
      known_long = long_state.known;
      transit_long = long_state.price_transit;
    }

    -- Those of list q,
    list_lent : (q : ℕ) → q < suc f.lists → ListLent f.tallies f.offers boxes f.tally_grocer f.tally_offer f.tally_count f.price (q * f.offers)
    list_lent q lq =
        let j = limits in
        let turned = mul_comm (suc f.lists) f.offers in
        record {
          tallies≤ = j.tallies≤;
          held_long = st.long;
          grocer_long = whole_job.tally_grocer;
          offer_long = whole_job.tally_offer;
          count_long = whole_job.tally_count;
          price_long = omega (arith, row_in q (suc f.lists) f.offers lq, turned, whole_job.price);
          grocer< = λ i l. omega (arith, j.grocers≤, under_at f.grocers f.tallies f.tally_grocer i j.tally_grocer l);
          offer< = λ i l. under_at f.offers f.tallies f.tally_offer i j.tally_offer l;
          count≤ = λ i l. around_at max_count f.tallies f.tally_count i j.tally_count l;
          price≤ = λ o l. up_at max_price (list_words f.lists f.offers) f.price (q * f.offers + o) j.price (omega (arith, cell_in q (suc f.lists) f.offers o lq l, turned));
        }

    -- and of all lists.
    pub sums_lent : SumsLent f.grocers f.offers f.tallies f.lists boxes f.tally_grocer f.tally_offer f.tally_count f.price s.statement
    unfolding state_lengths
    sums_lent = record { grocers≤ = limits.grocers≤; offers≤ = limits.offers≤; lists≤ = limits.lists≤; statement_long = long_state.statement; each = list_lent }

    pub totals_lent : (totals_length (evening_of f) ≤ length s.working) × (totals_length (evening_of f) ≤ length s.total_transit)
    unfolding state_lengths
    totals_lent = (long_totals.working, long_totals.total_transit)

    pub marks_lent : ((1 ≤ f.boxes) × (f.boxes ≤ 16) × (f.lists ≤ max_lists) × (6 * f.boxes * f.boxes ≤ length s.done) × (1 ≤ length s.sent))
        × (Owned f.offers f.offer_owner need × Owned f.grocers f.grocer_owner share)
    unfolding state_lengths
    marks_lent = (
      (one_box_lem, limits.boxes≤, limits.lists≤, long_state.done, long_state.sent),
      (owned_offers g handed whole_job need (need_word (job_of g)) needs_are, owned_grocers g handed whole_job share (sharer_word (job_of g)) shares_are),
    )
