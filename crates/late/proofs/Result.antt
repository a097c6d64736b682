-- What the calls leave: the tables edited column by column, and the run of the edited job. Assumes nothing.
use mathlib.Core.Path.{◌≡◌, refl, sym, ap, ◌∙◌}
use mathlib.Core.List.{List, []}
use Prim.Native.Nat.{ℕ, zero, suc, ◌+◌, ◌-◌, ◌<◌, ◌≤◌}
use native.Mathlib.Omega.{arith}
use lib.IntN.{pos}
use lib.ListN.{get_or, length, replicate}
use borrow.Author.Tests.{ltb-false, ne_eqb}
use Rattle.laws.specs.Checks.{first_met}
use Rattle.model.specs.Run.{RunAnswer, RunOutcome, ran}
use Rattle.model.specs.Tables.{JobTables, StateTables}
use Rattle.format.specs.Bytes.{from}
use Rattle.format.specs.Codes.{read_code, code_bytes}
use Rattle.format.specs.Job.{Head, Tally}
use Rattle.format.specs.Tables.{TallyTables, tally_tables, LongTallies, offer_tables, file_tables, ReaderTables, reader_tables}
use Rattle.run.specs.Run.{given}
use Rattle.late_rules.specs.Edit.{Entry, freed, job_in, place_found, added_head, added_tables, withdrawn_head, withdrawn_tables}
use Rattle.late_rules.specs.Late.{LateAnswer, late_answer, late_outcome, refused, late_result, add_rules, withdraw_rules, bag_added, bag_withdrawn}
use Rattle.late_edits.specs.Columns.{edit_tallies, edit_tables}
use Rattle.late.specs.Lent.{Left, OthersKept, tallies_now, reader_now}
use Rattle.late.specs.declared.Tables.{Tables}
use Rattle.format.proofs.Tables.{long_tables}
use Rattle.model.proofs.Step.{job_in_lem, in_handed}
use Rattle.late_edits.proofs.Columns.{byte_of, edit_cong, added_is, withdrawn_is}
use Rattle.late_rules.proofs.Add as adding
use Rattle.late_rules.proofs.Withdraw as withdrawing
use Rattle.late_rules.proofs.Present.{Present}

-- Offers and grocers as they are, with other tallies and places.
abbrev pub with : ReaderTables → TallyTables → List ℕ → ReaderTables
with l x offer = reader_tables (file_tables l.job.offers l.job.grocer_owner x) offer

left_is : (p n : ℕ) (e : Entry) (g : ℕ → ℕ) (l : ReaderTables) (x : TallyTables) (offer : List ℕ) → Left p n e g l x offer → with l x offer ≡ edit_tables p n e l
unfolding edit_tables edit_tallies
left_is p n e g l x offer r =
    let e₂ = r.code ∙ edit_cong 11 p n 0 g (λ k. get_or (code_bytes e.tally.code) k 0) l.job.tallies.code r.bytes in
    λ i. with l (tally_tables (r.grocer i) (r.box i) (e₂ i) (r.count i) (r.issuer i) (r.bag i) (r.revision i)) (r.places i)

-- The tables once edited, by what is edited and what is kept.
pub edited_is : (before after : Tables) (p n : ℕ) (e : Entry) (g : ℕ → ℕ) → OthersKept before after → Left p n e g (reader_now before) (tallies_now after) after.tally_offer.now →
    reader_now after ≡ edit_tables p n e (reader_now before)
edited_is before after p n e g k r =
    (λ i. reader_tables (file_tables (offer_tables (k.price i) (k.offer_owner i) (k.offer_code i) (k.offer_issuer i)) (k.grocer_owner i) (tallies_now after)) after.tally_offer.now)
    ∙ left_is p n e g (reader_now before) (tallies_now after) after.tally_offer.now r

-- The bytes of a code, and of no code.
pub code_bytes_lem : (g : ℕ → ℕ) (k : ℕ) → k < 11 → g k ≡ get_or (code_bytes (read_code g)) k 0
code_bytes_lem g k q = sym (byte_of g k q)

zeros : (n k : ℕ) → ◌≡◌ {A = ℕ} (get_or (replicate n 0) k 0) 0
zeros zero k = refl
zeros (suc n) zero = refl
zeros (suc n) (suc k) = zeros n k

pub no_bytes : (k : ℕ) → k < 11 → from (replicate 11 0) 0 k ≡ get_or (code_bytes freed.tally.code) k 0
no_bytes k q = zeros 11 (0 + k) ∙ sym (byte_of (λ i. 0) k q)

-- The entry that code frees is the one that is freed.
pub freed_is : record { tally = record { grocer = 0; box = 0; code = read_code (from (replicate 11 0) 0); count = pos 0; issuer = 0; bag = 0; revision = 0 }; place = 0 } ≡ freed
freed_is = λ i. record {
  tally = record {
    grocer = 0;
    box = 0;
    code = record { size = zeros 11 (0 + 0) i; digit = λ k. zeros 11 (0 + (1 + k)) i };
    count = pos 0;
    issuer = 0;
    bag = 0;
    revision = 0;
  };
  place = 0;
}

-- A run's answer and state do not go by the buffer for the steps picked.
ran_answer : (f : JobTables) (s : StateTables) (p : List ℕ) → (ran f s [] p).answer ≡ (ran f s [] []).answer
ran_answer f s p = unfold ran in refl

ran_tables : (f : JobTables) (s : StateTables) (p : List ℕ) → (ran f s [] p).tables ≡ (ran f s [] []).tables
ran_tables f s p = unfold ran in refl

-- What a call gives by the tables it leaves and the run of the job in them.
pub outcome : (t : ℕ) (h : Head) (s : StateTables) (a : LateAnswer) (b : RunAnswer) (l l' : ReaderTables) (s' : StateTables) (p p' : List ℕ) →
    a ≡ late_answer t b → l' ≡ l → given b s' p' ≡ ran (job_in h l') s [] p →
    late_outcome a l' s' ≡ late_outcome (late_answer t (ran (job_in h l) s [] []).answer) l (ran (job_in h l) s [] []).tables
outcome t h s a b l l' s' p p' ea el er =
    (λ i. late_outcome
    ((ea ∙ ap (late_answer t) (ap (λ (o : RunOutcome). o.answer) er ∙ ran_answer (job_in h l') s p)) i) l'
    ((ap (λ (o : RunOutcome). o.tables) er ∙ ran_tables (job_in h l') s p) i))
    ∙ ap (λ (y : ReaderTables). late_outcome (late_answer t (ran (job_in h y) s [] []).answer) y (ran (job_in h y) s [] []).tables) el

-- A refusal.
met_result : (n : ℕ) (h' : Head) (l' l : ReaderTables) (s : StateTables) → (n ≡ 0 → ⊥) → late_outcome (refused n) l s ≡ late_result n h' l' l s
unfolding late_result
met_result n h' l' l s h = rw (ne_eqb n 0 h)

module _ (h : Head) (l : ReaderTables) (s : StateTables) (x : Tally) (r : ℕ) (er : r ≡ first_met (add_rules h l s x)) where
  pub add_refused : (r ≡ 0 → ⊥) → late_outcome (refused r) l s ≡ bag_added h l s x
  unfolding bag_added
  add_refused n = met_result r (added_head h) (added_tables h l x) l s n ∙ ap (λ (m : ℕ). late_result m (added_head h) (added_tables h l x) l s) er

  module _ (z : r ≡ 0) where
    ok : first_met (add_rules h l s x) ≡ 0
    ok = sym er ∙ z

    pub add_few : h.tallies < 1000
    add_few = adding.few h l s x ok

    pub add_long : LongTallies (h.tallies + 1) l.job.tallies
    add_long = (long_tables _ _ (adding.with_room h l s x ok).whole.tables).tallies

    pub add_places : h.tallies < length l.tally_offer
    add_places = omega (arith, ltb-false (length l.tally_offer) (h.tallies + 1) (adding.with_room h l s x ok).whole.places)

    pub added : (y : ReaderTables) (place : ℕ) → place ≡ place_found h l x → y ≡ edit_tables h.tallies h.tallies (record { tally = x; place = place }) l →
        late_outcome (late_answer (h.tallies + 1) (ran (job_in (added_head h) y) s [] []).answer) y (ran (job_in (added_head h) y) s [] []).tables ≡ bag_added h l s x
    added y place ep e =
        ap (λ (y : ReaderTables). late_outcome (late_answer (h.tallies + 1) (ran (job_in (added_head h) y) s [] []).answer) y (ran (job_in (added_head h) y) s [] []).tables)
        (e ∙ ap (λ (n : ℕ). edit_tables h.tallies h.tallies (record { tally = x; place = n }) l) ep ∙ sym (added_is h l x))
        ∙ sym (adding.result_is h l s x ok)

module _ (h : Head) (l : ReaderTables) (s : StateTables) (p : ℕ) (r : ℕ) (er : r ≡ first_met (withdraw_rules h l s p)) where
  pub withdraw_refused : (r ≡ 0 → ⊥) → late_outcome (refused r) l s ≡ bag_withdrawn h l s p
  unfolding bag_withdrawn
  withdraw_refused n = met_result r (withdrawn_head h) (withdrawn_tables h l p) l s n ∙ ap (λ (m : ℕ). late_result m (withdrawn_head h) (withdrawn_tables h l p) l s) er

  module _ (z : r ≡ 0) where
    fine : first_met (withdraw_rules h l s p) ≡ 0
    fine = sym er ∙ z

    pub withdraw_there : p < h.tallies
    withdraw_there = withdrawing.there h l s p fine

    present : Present h.tallies h l s
    present = withdrawing.now_present h l s p fine

    pub withdraw_few : h.tallies ≤ 1000
    withdraw_few = (job_in_lem (job_in h l) (in_handed (job_in h l) present.in_range)).tallies≤

    pub withdraw_long : LongTallies h.tallies l.job.tallies
    withdraw_long = (long_tables _ _ present.whole.tables).tallies

    pub withdraw_places : h.tallies ≤ length l.tally_offer
    withdraw_places = ltb-false (length l.tally_offer) h.tallies present.whole.places

    pub withdrawn : (y : ReaderTables) → y ≡ edit_tables p (h.tallies - 1) freed l →
        late_outcome (late_answer (h.tallies - 1) (ran (job_in (withdrawn_head h) y) s [] []).answer) y (ran (job_in (withdrawn_head h) y) s [] []).tables
        ≡ bag_withdrawn h l s p
    withdrawn y e =
        ap (λ (y : ReaderTables). late_outcome (late_answer (h.tallies - 1) (ran (job_in (withdrawn_head h) y) s [] []).answer) y
        (ran (job_in (withdrawn_head h) y) s [] []).tables)
        (e ∙ sym (withdrawn_is h l p withdraw_there))
        ∙ sym (withdrawing.result_is h l s p fine)
