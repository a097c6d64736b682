-- Steps 4 and 5 are ready just where the standing tallies of the grocers concerned are added, and 26 follows. Assumes nothing.
use mathlib.Core.Path.{◌≡◌, refl, sym, ap, ◌∙◌}
use mathlib.Core.Bool.{Bool, true, ◌&&◌, ◌||◌, not}
use Prim.Native.Nat.{ℕ, ◌<◌}
use lib.ListN.{get_or}
use lib.Dec.{eqb}
use borrow.Author.Tests.{eqb-true}
use Rattle.laws.proofs.Bools.{split, and_l, and_r, eqb_same}
use Rattle.laws.proofs.Below.{all_at, all_of_lem}
use Rattle.laws.proofs.Tables.{word_in_lem}
use Rattle.recount.specs.Recount.{stands}
use Rattle.model.specs.Job.{held_by}
use Rattle.model.specs.Steps.{Kind, send_totals, add_own, kind_of, Steps, added, all_added, ready}
use Rattle.model.specs.Tables.{JobTables, counted_of, job_of, evening_of}
use Rattle.model.specs.Ranges.{job_in_range}
use Rattle.model.specs.Step.{asked, is_kind}
use Rattle.model.specs.Early.{StandingFor, StandingAdded, EarlyTotals}
use Rattle.model.proofs.Refusal.{rules_wait}
use Rattle.model.proofs.Standing.{standing_count}
use Rattle.model.proofs.Step.{job_in_lem, in_handed, under_at}
use Rattle.model.proofs.PriceLists.{same_steps_lem}

-- Tables in range.
module _ (f : JobTables) (ok : job_in_range f ≡ true) where
  -- The owner of a tally's grocer is the word of the tables.
  owner_word : (t : ℕ) → t < f.tallies → (job_of f).grocer_owner ((job_of f).tally_grocer t) ≡ get_or f.grocer_owner (get_or f.tally_grocer t 0) 0
  unfolding job_of
  owner_word t l =
      rw (word_in_lem f.tallies f.tally_grocer 0 t l)
      (word_in_lem f.grocers f.grocer_owner 0 (get_or f.tally_grocer t 0) (under_at f.grocers f.tallies f.tally_grocer t (job_in_lem f (in_handed f ok)).tally_grocer l))

  module _ (d : Steps) (a b : ℕ) where
    -- The standing tallies of the rule are those that `all_added` looks at.
    all_standing : StandingAdded f d a b → all_added (job_of f) d a b ≡ true
    unfolding StandingAdded all_added job_of
    all_standing h =
        all_of_lem f.tallies (λ t. not (held_by (job_of f) t a && eqb ((job_of f).grocer_owner ((job_of f).tally_grocer t)) b) || added (job_of f) d t) (λ t l.
        split (held_by (job_of f) t a && eqb ((job_of f).grocer_owner ((job_of f).tally_grocer t)) b)
        (λ e. rw e (h t (for t l e)))
        (λ e. rw e))
      where
        for : (t : ℕ) → t < f.tallies → (held_by (job_of f) t a && eqb ((job_of f).grocer_owner ((job_of f).tally_grocer t)) b) ≡ true → StandingFor f a b t
        for t l e =
            let held : (stands (counted_of f) t && eqb (get_or f.tally_box t 0) a) ≡ true = rw ((standing_count f ok).holder t a l) at (and_l (held_by (job_of f) t a) _ e) in
            record {
              inside = l;
              standing = and_l (stands (counted_of f) t) _ held;
              tally_box = eqb-true (get_or f.tally_box t 0) a (and_r (stands (counted_of f) t) _ held);
              grocer_owner = eqb-true _ b (rw (owner_word t l) at (and_r (held_by (job_of f) t a) _ e));
            }

    -- And the other way round.
    standing_all : all_added (job_of f) d a b ≡ true → StandingAdded f d a b
    unfolding StandingAdded all_added job_of
    standing_all h t s =
        let held : held_by (job_of f) t a ≡ true = (standing_count f ok).holder t a s.inside ∙ rw (s.standing, s.tally_box) (eqb_same a) in
        let owned : eqb ((job_of f).grocer_owner ((job_of f).tally_grocer t)) b ≡ true = rw (owner_word t s.inside, s.grocer_owner) (eqb_same b) in
        rw (held, owned) at (all_at f.tallies (λ t. not (held_by (job_of f) t a && eqb ((job_of f).grocer_owner ((job_of f).tally_grocer t)) b) || added (job_of f) d t) t s.inside h)

  -- Steps are ready in the evening's job just where they are in the job of the entries.
  ready_as : (d : Steps) (k : Kind) (a b : ℕ) → ready (evening_of f) d k a b ≡ ready (job_of f) d k a b
  ready_as d k a b = ap (λ (r : Steps → Kind → ℕ → ℕ → Bool). r d k a b) (same_steps_lem f).makes_ready

  pub early_totals_lem : (d : Steps) → EarlyTotals f d
  unfolding ready StandingAdded is_kind kind_of
  early_totals_lem d = record {
    sends = λ a b h. ready_as d send_totals a b ∙ all_standing d a b h;
    sends_only = λ a b h. standing_all d a b (sym (ready_as d send_totals a b) ∙ h);
    adds = λ a h. ready_as d add_own a a ∙ all_standing d a a h;
    adds_only = λ a h. standing_all d a a (sym (ready_as d add_own a a) ∙ h);
    from_start = λ a none. ready_as d add_own a a ∙ all_standing d a a (λ t s. absurd (none t s));
    send_refusal = λ a b. rules_wait (evening_of f) d (asked 4 a b) refl;
    add_refusal = λ a. rules_wait (evening_of f) d (asked 5 a a) refl;
  }
