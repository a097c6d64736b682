-- 30: a state passes exactly where it is the one that a finished run leaves. Assumes nothing.
use mathlib.Core.Path.{◌≡◌, refl, sym, ap, ◌∙◌}
use mathlib.Core.Bool.{true, false, ◌||◌, cond}
use mathlib.Core.List.{List, [], ◌∷◌}
use Prim.Native.Nat.{ℕ, ◌<◌, ◌≤◌, ◌/◌, ◌%◌}
use lib.Dec.{eqb}
use lib.IntN.{ℤ, pos, negsuc}
use lib.ListN.{get_or, length}
use borrow.Author.Tests.{eqb-true}
use Rattle.laws.specs.Checks.{first_met}
use Rattle.laws.specs.Tables.{overwrite, recell}
use Rattle.laws.proofs.Below.{all_at, all_of_lem}
use Rattle.laws.proofs.Bools.{eqb_same, or_off, clash}
use Rattle.laws.proofs.Checks.{each_of, all_each}
use Rattle.laws.proofs.Tables.{overwrite_same, get_d_overwrite}
use Rattle.laws.specs.Lists.{list_words}
use Rattle.model.specs.Job.{Job}
use Rattle.model.specs.Steps.{State, has_step, at_place}
use Rattle.model.specs.Boxes.{state_by_rules}
use Rattle.model.specs.Tables.{JobTables, StateTables, store, marks_of, job_lengths, state_lengths, job_short, bags_short, state_short, lent_short, evening_of, totals_short, any_short, job_of, with_lists}
use Rattle.model.specs.Ranges.{Settles}
use Rattle.model.specs.Run.{ran, run_refusals}
use Rattle.model.specs.Requests.{Request, tables_after, done_in}
use Rattle.model.specs.Demand3.{AllDone}
use Rattle.late_rules.specs.Late.{same_amount, same_words, same_amounts, same_state, left_by_run}
use Rattle.model.specs.PackedTotals.{totals_length, pack_totals, spread}
use Rattle.model.proofs.Demand3.{demand3, run_all, all_is}
use Rattle.model.proofs.Served.{settles_in}
use Rattle.model.proofs.Lent.{state_long, totals_long}
use Rattle.model.proofs.PackedTotals.{pack_over}

-- The state of a job all of whose steps are done.
abbrev pub end_state : JobTables → State
end_state f = state_by_rules (evening_of f) (has_step (evening_of f))

-- The tables s with that state written into them.
abbrev pub end_tables : JobTables → StateTables → StateTables
end_tables f s = store (evening_of f) (end_state f) s

-- What is not lent short.
pub record NotShort (f : JobTables) (s : StateTables) : Type 0 where
  pub lent : lent_short f s ≡ false
  pub state : state_short f (state_lengths s) ≡ false
  pub totals : totals_short (evening_of f) (state_lengths s) ≡ false

pub not_short : (f : JobTables) (s : StateTables) → any_short f s ≡ false → NotShort f s
unfolding any_short lent_short
not_short f s h =
    let a = or_off (lent_short f s) (totals_short (evening_of f) (state_lengths s)) h in
    record { lent = a.0; state = (or_off (job_short f (job_lengths f) || bags_short f (job_lengths f)) (state_short f (state_lengths s)) a.0).1; totals = a.1 }

pub short_not : (f : JobTables) → Settles f → (s : StateTables) → state_short f (state_lengths s) ≡ false → totals_short (evening_of f) (state_lengths s) ≡ false → any_short f s ≡ false
unfolding any_short lent_short
short_not f z s h n = rw (z.whole, z.bags, h, n)

module _ (f : JobTables) (z : Settles f) (s : StateTables) where
  -- A run leaves these, with whatever choices,
  pub ran_end : any_short f s ≡ false → (cs p : List ℕ) → (ran f s cs p).tables ≡ end_tables f s
  unfolding ran run_refusals first_met
  ran_end h cs p =
      let n = not_short f s h in
      rw (n.lent, z.in_range, z.once, n.totals) (ap (λ (r : State). store (evening_of f) r s) (run_all f (settles_in f z) cs))

  -- and every list of requests that does all steps.
  pub list_end : (rs : List Request) → AllDone (evening_of f) (done_in f s rs) → tables_after f s rs ≡ end_tables f s
  list_end rs d = (demand3 f z s rs).stays ∙ ap (λ (r : State). store (evening_of f) r s) (all_is f z s rs d)

-- ---- tests of equal words

pub amount_true : (a b : ℤ) → same_amount a b ≡ true → a ≡ b
unfolding same_amount
amount_true (pos m) (pos n) h = ap pos (eqb-true m n h)
amount_true (pos m) (negsuc n) h = absurd (clash h refl)
amount_true (negsuc m) (pos n) h = absurd (clash h refl)
amount_true (negsuc m) (negsuc n) h = ap negsuc (eqb-true m n h)

pub amount_same : (a : ℤ) → same_amount a a ≡ true
unfolding same_amount
amount_same (pos m) = eqb_same m
amount_same (negsuc m) = eqb_same m

pub words_at : (n : ℕ) (a b : List ℕ) → same_words n a b ≡ true → (i : ℕ) → i < n → get_or a i 0 ≡ get_or b i 0
unfolding same_words
words_at n a b h i l = eqb-true (get_or a i 0) (get_or b i 0) (all_at n (λ i. eqb (get_or a i 0) (get_or b i 0)) i l h)

pub amounts_at : (n : ℕ) (a b : List ℤ) → same_amounts n a b ≡ true → (i : ℕ) → i < n → get_or a i (pos 0) ≡ get_or b i (pos 0)
unfolding same_amounts
amounts_at n a b h i l = amount_true (get_or a i (pos 0)) (get_or b i (pos 0)) (all_at n (λ i. same_amount (get_or a i (pos 0)) (get_or b i (pos 0))) i l h)

pub words_of_lem : (n : ℕ) (a b : List ℕ) → ((i : ℕ) → i < n → get_or a i 0 ≡ get_or b i 0) → same_words n a b ≡ true
unfolding same_words
words_of_lem n a b e = all_of_lem n (λ i. eqb (get_or a i 0) (get_or b i 0)) (λ i l. rw (e i l) (eqb_same (get_or b i 0)))

pub amounts_of : (n : ℕ) (a b : List ℤ) → ((i : ℕ) → i < n → get_or a i (pos 0) ≡ get_or b i (pos 0)) → same_amounts n a b ≡ true
unfolding same_amounts
amounts_of n a b e = all_of_lem n (λ i. same_amount (get_or a i (pos 0)) (get_or b i (pos 0))) (λ i l. rw (e i l) (amount_same (get_or b i (pos 0))))

-- A table whose needed words are those written into it is not changed by the writing.
words_over : (n : ℕ) (f : ℕ → ℕ) (l : List ℕ) → n ≤ length l → same_words n l (overwrite n f l) ≡ true → l ≡ overwrite n f l
words_over n f l h e = sym (overwrite_same n f l 0 h (λ i k. sym (words_at n l (overwrite n f l) e i k ∙ get_d_overwrite n f l i 0 k)))

amounts_over : (n : ℕ) (f : ℕ → ℤ) (l : List ℤ) → n ≤ length l → same_amounts n l (overwrite n f l) ≡ true → l ≡ overwrite n f l
amounts_over n f l h e = sym (overwrite_same n f l (pos 0) h (λ i k. sym (amounts_at n l (overwrite n f l) e i k ∙ get_d_overwrite n f l i (pos 0) k)))

totals_over : (j : Job) (w : ℕ → ℕ → ℤ) (l : List ℤ) → totals_length j ≤ length l → same_amounts (totals_length j) l (pack_totals j w l) ≡ true → l ≡ pack_totals j w l
totals_over j w l h e = amounts_over (totals_length j) _ l h (rw (pack_over j w l) at e) ∙ sym (pack_over j w l)

-- ---- the state's tables

pub same_self : (f : JobTables) (s : StateTables) → same_state f s s ≡ true
unfolding same_state
same_self f s =
    all_each (_ ∷ _ ∷ _ ∷ _ ∷ _ ∷ _ ∷ _ ∷ []) (
      words_of_lem _ _ _ (λ i l. refl),
      (
        words_of_lem _ _ _ (λ i l. refl),
        (
          amounts_of _ _ _ (λ i l. refl),
          (
            amounts_of _ _ _ (λ i l. refl),
            (
              amounts_of _ _ _ (λ i l. refl),
              (
                words_of_lem _ _ _ (λ i l. refl),
                (words_of_lem _ _ _ (λ i l. refl), tt),
              ),
            ),
          ),
        ),
      ),
    )

-- A state with the needed words of another that was written into it is that other.
pub same_store : (f : JobTables) (r : State) (s : StateTables) → any_short f s ≡ false → same_state f s (store (evening_of f) r s) ≡ true → s ≡ store (evening_of f) r s
unfolding same_state store recell marks_of state_lengths with_lists spread job_of
same_store f r s h e =
    let n = state_long f (state_lengths s) (not_short f s h).state in
    let m = totals_long (evening_of f) (state_lengths s) (not_short f s h).totals in
    let w = each_of (
    same_words _ s.known _ ∷ same_words _ s.price_transit _ ∷ same_amounts _ s.working _ ∷ same_amounts _ s.total_transit _ ∷ same_amounts _ s.statement _
    ∷ same_words _ s.done _ ∷ same_words 1 s.sent _ ∷ []) e in
    let e₀ = words_over _ (λ i. r.known (i / list_words f.lists f.offers) (i % list_words f.lists f.offers)) s.known n.known w.0 in
    let e₁ = words_over _ (λ i. r.price_transit (i / list_words f.lists f.offers) (i % list_words f.lists f.offers)) s.price_transit n.price_transit w.1.0 in
    let e₂ = totals_over (evening_of f) r.working s.working m.working w.1.1.0 in
    let e₃ = totals_over (evening_of f) r.total_transit s.total_transit m.total_transit w.1.1.1.0 in
    let e₄ = amounts_over _ r.statement s.statement n.statement w.1.1.1.1.0 in
    let e₅ = words_over _ (λ i. cond (at_place f.boxes r.done i) 1 0) s.done n.done w.1.1.1.1.1.0 in
    let e₆ = words_over _ (λ i. r.sent) s.sent n.sent w.1.1.1.1.1.1.0 in
    λ i. record { known = e₀ i; price_transit = e₁ i; working = e₂ i; total_transit = e₃ i; statement = e₄ i; done = e₅ i; sent = e₆ i }

module _ (f : JobTables) (z : Settles f) (s : StateTables) (h : any_short f s ≡ false) where
  -- A state that passes is the one that a finished run leaves,
  pub left_end : left_by_run f s ≡ true → s ≡ end_tables f s
  unfolding left_by_run
  left_end e = same_store f (end_state f) s h (rw (ran_end f z s h [] []) at e)

  -- and such a state passes.
  pub end_left : s ≡ end_tables f s → left_by_run f s ≡ true
  unfolding left_by_run
  end_left e = rw (ran_end f z s h [] [], ← e) (same_self f s)
