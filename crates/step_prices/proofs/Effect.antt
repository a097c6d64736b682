-- The lists that the calls leave are the model's: the tables with the effect of step 1 or 3 written into them. Assumes nothing.
use mathlib.Core.Path.{◌≡◌, refl, sym, ap, ◌∙◌}
use mathlib.Core.Bool.{Bool}
use mathlib.Core.List.{List}
use Prim.Native.Nat.{ℕ, suc, ◌+◌, ◌*◌, ◌/◌, ◌<◌, ◌≤◌}
use native.Mathlib.Omega.{arith}
use lib.IntN.{ℤ, pos}
use lib.ListN.{get_or}
use Rattle.laws.specs.Below.{count}
use Rattle.laws.specs.Tables.{tabulate, overwrite, recell}
use Rattle.laws.proofs.Below.{count_cong}
use Rattle.laws.proofs.Tables.{recell_cong, word_in_lem, recell_cell, overwrite_same}
use Rattle.laws.proofs.Entries.{entry_in}
use Rattle.model.specs.Job.{Job, need_word, price_word}
use Rattle.model.specs.Steps.{Kind, State, effect, received, send_prices, multiply_own, receive_prices, send_totals, add_own, receive_totals}
use Rattle.model.specs.Tables.{JobTables, job_of, with_lists, evening_of, StateTables, state_lengths, view, store, steps_done}
use Rattle.step_places.specs.Message.{word_in}
use Rattle.step_prices.specs.Prices.{sent_transit, received_known, received_transit}
use Rattle.step_places.specs.Marks.{marked}
use Rattle.model.specs.PackedTotals.{totals_length, pack_totals, spread}
use Rattle.model.proofs.EveningJob.{price_entry, price_words_lem}
use Rattle.model.proofs.PackedTotals.{pack_unpack}
use Rattle.model.proofs.Lent.{StateLong, TotalsLong}
use Rattle.step_places.proofs.Message.{price_word_lem}

-- Tables are equal where each of them is.
pub tables_eq : (t u : StateTables) → t.known ≡ u.known → t.price_transit ≡ u.price_transit → t.working ≡ u.working → t.total_transit ≡ u.total_transit
    → t.statement ≡ u.statement → t.done ≡ u.done → t.sent ≡ u.sent → t ≡ u
tables_eq t u k p w q m d n =
    λ i. record {
      known = k i;
      price_transit = p i;
      working = w i;
      total_transit = q i;
      statement = m i;
      done = d i;
      sent = n i;
    }

-- A table that the step leaves alone: the state s has it as the tables t hold it.
module _ (j : Job) (s : State) (t : StateTables) (l : StateLong j.boxes j.grocers j.offers (state_lengths t)) where
  pub known_stays : s.known ≡ (view j t).known → (store j s t).known ≡ t.known
  unfolding view store state_lengths
  known_stays e = ap (λ (f : ℕ → ℕ → ℕ). recell j.boxes j.offers f t.known) e ∙ recell_cell j.boxes j.offers t.known 0 l.known

  pub price_transit_stays : s.price_transit ≡ (view j t).price_transit → (store j s t).price_transit ≡ t.price_transit
  unfolding view store state_lengths
  price_transit_stays e = ap (λ (f : ℕ → ℕ → ℕ). recell j.boxes j.offers f t.price_transit) e ∙ recell_cell j.boxes j.offers t.price_transit 0 l.price_transit

  pub working_stays : TotalsLong (totals_length j) (state_lengths t) → s.working ≡ (view j t).working → (store j s t).working ≡ t.working
  unfolding view store state_lengths
  working_stays m e = ap (λ (f : ℕ → ℕ → ℤ). pack_totals j f t.working) e ∙ pack_unpack j t.working m.working

  pub total_transit_stays : TotalsLong (totals_length j) (state_lengths t) → s.total_transit ≡ (view j t).total_transit → (store j s t).total_transit ≡ t.total_transit
  unfolding view store state_lengths
  total_transit_stays m e = ap (λ (f : ℕ → ℕ → ℤ). pack_totals j f t.total_transit) e ∙ pack_unpack j t.total_transit m.total_transit

  pub statement_stays : s.statement ≡ (view j t).statement → (store j s t).statement ≡ t.statement
  unfolding view store state_lengths
  statement_stays e =
      overwrite_same j.grocers s.statement t.statement (pos 0) l.statement
      (λ i h. ap (λ (g : ℕ → ℤ). g i) e ∙ word_in_lem j.grocers t.statement (pos 0) i h)

  pub sent_stays : s.sent ≡ (view j t).sent → (store j s t).sent ≡ t.sent
  unfolding view store state_lengths
  sent_stays e =
      overwrite_same 1 (λ i. s.sent) t.sent 0 l.sent
      (λ i h. e ∙ word_in_lem 1 t.sent 0 0 (omega arith) ∙ ap (λ (k : ℕ). get_or t.sent k 0) (omega arith))

-- Every step is marked as done.
pub step_marked : (j : Job) (t : StateTables) (q : Kind) (a b : ℕ) → (store j (effect j (view j t) q a b) t).done ≡ marked j.boxes q a b t.done
unfolding store effect view marked steps_done
step_marked j t send_prices a b = refl
step_marked j t multiply_own a b = refl
step_marked j t receive_prices a b = refl
step_marked j t send_totals a b = refl
step_marked j t add_own a b = refl
step_marked j t receive_totals a b = refl

-- What the marks say is done is the model's.
pub steps_done_lem : (j : Job) (t : StateTables) → (view j t).done ≡ steps_done j.boxes t.done
unfolding view steps_done
steps_done_lem j t = refl

-- Steps 1 and 3 of any job.
module _ (j : Job) (t : StateTables) (a b : ℕ) where
  -- Step 1: what is in transit,
  pub transit_sent : (store j (effect j (view j t) send_prices a b) t).price_transit ≡ sent_transit j.boxes j.offers a b (price_word j a b) t.known t.price_transit
  unfolding store effect view sent_transit
  transit_sent = refl

  -- and the count of all words sent.
  pub more_sent : (store j (effect j (view j t) send_prices a b) t).sent ≡ overwrite 1 (λ i. get_or t.sent 0 0 + count j.offers (price_word j a b)) t.sent
  unfolding store effect view
  more_sent = rw (word_in_lem 1 t.sent 0 0 (omega arith))

  -- Step 3: what is known, and what is in transit.
  pub known_received : (store j (effect j (view j t) receive_prices a b) t).known ≡ received_known j.boxes j.offers a (price_word j b a) t.known t.price_transit
  unfolding store effect view received received_known
  known_received = refl

  pub transit_received : (store j (effect j (view j t) receive_prices a b) t).price_transit ≡ received_transit j.boxes j.offers a (price_word j b a) t.price_transit
  unfolding store effect view received_transit
  transit_received = refl

-- Offers stand in the message from box a to box b, told from owners and need words.
pub prices_due_lem : (f : JobTables) (masks : List ℕ) (a b : ℕ) → b < f.boxes → f.boxes ≤ 16 → f.offers ≤ 500 → masks ≡ tabulate 500 (need_word (job_of f)) →
    (o : ℕ) → o < f.offers → word_in f.offer_owner masks a b o ≡ price_word (job_of f) a b o
prices_due_lem f masks a b lb lk ln e o lo = price_word_lem f masks a b o (omega arith) lo ln e

-- Steps 1 and 3 of the evening's job: `passes` says which offers stand in the message, and each of their words does.
module _ (f : JobTables) (t : StateTables) (a b : ℕ) (passes : ℕ → Bool) where
  -- The words of a row.
  abbrev words : ℕ
  words = f.offers * suc f.lists

  word_due : (x y : ℕ) → ((o : ℕ) → o < f.offers → passes o ≡ price_word (job_of f) x y o) → (w : ℕ) → w < words → price_word (evening_of f) x y w ≡ passes (w / suc f.lists)
  word_due x y e w l = price_entry f.lists f x y w ∙ sym (e (w / suc f.lists) (entry_in f.lists f.offers w l))

  -- The message from box a to box b: step 1.
  module _ (e : (o : ℕ) → o < f.offers → passes o ≡ price_word (job_of f) a b o) where
    pub sent_transit_lem : (store (evening_of f) (effect (evening_of f) (view (evening_of f) t) send_prices a b) t).price_transit
        ≡ sent_transit f.boxes words a b (λ w. passes (w / suc f.lists)) t.known t.price_transit
    unfolding sent_transit with_lists spread job_of
    sent_transit_lem = transit_sent (evening_of f) t a b ∙ recell_cong f.boxes words _ _ t.price_transit (λ c w lc lw. rw (word_due a b e w lw))

    -- Each offer sends a word for each list.
    pub words_sent_lem : count (evening_of f).offers (price_word (evening_of f) a b) ≡ count f.offers passes * suc f.lists
    unfolding job_of
    words_sent_lem = price_words_lem f.lists f a b ∙ ap (λ (x : ℕ). x * suc f.lists) (sym (count_cong f.offers passes (price_word (job_of f) a b) e))

    pub sent_more_lem : (store (evening_of f) (effect (evening_of f) (view (evening_of f) t) send_prices a b) t).sent
        ≡ overwrite 1 (λ i. get_or t.sent 0 0 + count f.offers passes * suc f.lists) t.sent
    sent_more_lem = more_sent (evening_of f) t a b ∙ ap (λ (x : ℕ). overwrite 1 (λ i. get_or t.sent 0 0 + x) t.sent) words_sent_lem

  -- The message from box b to box a: step 3.
  module _ (e : (o : ℕ) → o < f.offers → passes o ≡ price_word (job_of f) b a o) where
    pub received_known_lem : (store (evening_of f) (effect (evening_of f) (view (evening_of f) t) receive_prices a b) t).known
        ≡ received_known f.boxes words a (λ w. passes (w / suc f.lists)) t.known t.price_transit
    unfolding received_known with_lists spread job_of
    received_known_lem = known_received (evening_of f) t a b ∙ recell_cong f.boxes words _ _ t.known (λ c w lc lw. rw (word_due b a e w lw))

    pub received_transit_lem : (store (evening_of f) (effect (evening_of f) (view (evening_of f) t) receive_prices a b) t).price_transit
        ≡ received_transit f.boxes words a (λ w. passes (w / suc f.lists)) t.price_transit
    unfolding received_transit with_lists spread job_of
    received_transit_lem = transit_received (evening_of f) t a b ∙ recell_cong f.boxes words _ _ t.price_transit (λ c w lc lw. rw (word_due b a e w lw))
