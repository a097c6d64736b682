-- What is told of an edit is what its conditions say. Assumes nothing.
use mathlib.Core.Path.{◌≡◌, refl, sym, ap, ◌∙◌}
use mathlib.Core.Bool.{Bool, true, false, cond, not}
use mathlib.Core.List.{List, [], ◌∷◌}
use Prim.Native.Nat.{ℕ, zero, suc, ◌+◌, ◌-◌, ◌*◌, ◌<◌, ◌≤◌}
use native.Mathlib.Nat.{mul-le-mul_right}
use native.Mathlib.Omega.{arith}
use lib.Dec.{eqb, ltb, leb}
use lib.IntN.{pos}
use lib.ListN.{get_or, length, replicate}
use borrow.Author.Tests.{eqb-true, le-ltb, ltb-true, ltb-false}
use Rattle.laws.specs.Below.{find}
use Rattle.laws.specs.Checks.{first_met}
use Rattle.laws.specs.Limits.{max_tallies}
use Rattle.laws.proofs.Bools.{split}
use Rattle.laws.proofs.Checks.{any_each}
use Rattle.recount.specs.Recount.{counted_twice}
use Rattle.model.specs.Tables.{counted_of, job_lengths, job_short, bags_short}
use Rattle.format.specs.Bytes.{from}
use Rattle.format.specs.Codes.{is_code, name_of, name_number, read_code}
use Rattle.format.specs.Job.{Head, head_of, Tally}
use Rattle.format.specs.Refusals.{job_refusal}
use Rattle.format.specs.Tables.{FileTables, file_tables, ReaderTables, Long, file_job_of}
use Rattle.refusals.specs.declared.Refusal.{Refusal}
use Rattle.refusals.specs.declared.Refusal.TheVariants.{NoRoom, EditRefused}
use Rattle.std.proofs.Common.{Result, Err}
use Rattle.slices.specs.declared.sizes.Sizes.{Sizes}
use Rattle.late_rules.specs.Edit.{Entry, freed, with_tallies, store_entries, job_in, place_found, added_head, added_tables, withdrawn_head, withdrawn_tables}
use Rattle.late_rules.specs.Late.{refused_job, add_faults, withdraw_faults}
use Rattle.late_edits.specs.Columns.{edit_tallies, edit_tables}
use Rattle.late_checks.specs.Held.{Shaped}
use Rattle.late_checks.specs.Judged.{tally_with, head_then, file_then, job_then, EditIn, FileIn, JobIn, ByPlaces}
use Rattle.late_checks.specs.Decided.{PresentIn, Told}
use Rattle.late_checks.specs.Named.{is_number, NamesLent}
use Rattle.late_checks.specs.declared.judge.Edit.{Edit}
use Rattle.late_checks.specs.declared.judge.Tally.{Tally as TallyWords}
use Rattle.late_checks.specs.declared.judge.Wanted.{Wanted}
use Rattle.model.proofs.Step.{job_in_lem, in_handed, under_at}
use Rattle.late_rules.proofs.Counts.{before_low, before_in}
use Rattle.late_rules.proofs.Entries.{in_range_is}
use Rattle.late_rules.proofs.Found.{written_range, added_code, added_named}
use Rattle.late_rules.proofs.Present.{not_off}
use Rattle.late_edits.proofs.Columns.{added_is, withdrawn_is}
use Rattle.late_checks.proofs.First.{found_is}
use Rattle.late_checks.proofs.Held.{edit_at}

-- ---- the present job

-- Tables with room for k tallies have room for fewer.
long_less : (m k : ℕ) (h : Head) (l : FileTables) → m ≤ k → Long (with_tallies h k) l → Long (with_tallies h m) l
long_less m k h l q o =
    let x = o.tallies in
    let c : m * 11 ≤ k * 11 = mul-le-mul_right 11 q in
    record {
      offers = o.offers;
      grocer_owner = o.grocer_owner;
      tallies = record {
        grocer = omega (arith, x.grocer);
        box = omega (arith, x.box);
        code = omega (arith, x.code);
        count = omega (arith, x.count);
        issuer = omega (arith, x.issuer);
        bag = omega (arith, x.bag);
        revision = omega (arith, x.revision);
      };
    }

module _ (h : Head) (l : ReaderTables) (t : ℕ) (some : h.tallies ≤ t) (p : PresentIn t h l) where
  long_now : Long (with_tallies h h.tallies) l.job
  long_now = long_less h.tallies t h l.job some p.long

  whole_now : job_short (job_in h l) (job_lengths (job_in h l)) ≡ false
  unfolding job_short job_lengths
  whole_now =
      let o = long_now in
      let places : h.tallies ≤ length l.tally_offer = omega (arith, p.places) in
      any_each (_ ∷ _ ∷ _ ∷ _ ∷ _ ∷ _ ∷ _ ∷ []) (
        le-ltb _ _ o.offers.price,
        (
          le-ltb _ _ o.offers.owner,
          (
            le-ltb _ _ o.grocer_owner,
            (le-ltb _ _ o.tallies.grocer, (le-ltb _ _ o.tallies.box, (le-ltb _ _ places, (le-ltb _ _ o.tallies.count, tt)))),
          ),
        ),
      )

  bags_now : bags_short (job_in h l) (job_lengths (job_in h l)) ≡ false
  unfolding bags_short job_lengths
  bags_now = rw (le-ltb (length l.job.tallies.bag) h.tallies long_now.tallies.bag, le-ltb (length l.job.tallies.revision) h.tallies long_now.tallies.revision)

  -- Places of the edited job are in range where that of the entry behind the others is.
  places_then : (a n m : ℕ) (e : Entry) → Shaped h.tallies a n → m ≤ suc n → (n < m → e.place < h.offers) →
      (i : ℕ) → i < m → get_or (edit_tables a n e l).tally_offer i 0 < h.offers
  unfolding edit_tables
  places_then a n m e s most last i q =
      rw (at_one i, edit_at 1 a n 0 (λ k. e.place) l.tally_offer i 0 (omega arith) (omega arith))
      (split (ltb i n)
      (λ b. rw (b, one _) (under_at h.offers h.tallies l.tally_offer _ (job_in_lem (job_in h l) (in_handed (job_in h l) p.in_range)).tally_offer (s.read i (ltb-true i n b))))
      (λ b. let hi = ltb-false i n b in rw b (last (omega arith))))
    where
      at_one : (i : ℕ) → i ≡ i * 1 + 0
      at_one i = omega arith

      one : (i : ℕ) → i * 1 + 0 ≡ i
      one i = omega arith

-- ---- own conditions, once 31 or "no such place" is not met

module _ (own : List (Bool × ℕ)) (h : Head) (l : ReaderTables) (alone : first_met own ≡ cond (refused_job h l) 32 0) where
  -- The writer refuses the edited job.
  pub told_codes : not (eqb (job_refusal (file_job_of h l.job)) 0) ≡ true → Told own h l (Err EditRefused)
  told_codes r = record { met_is = sym (alone ∙ rw refused); words_is = rw (alone, refused) }
    where
      refused : refused_job h l ≡ true
      refused = unfold refused_job in rw r

  -- It does not: what a run says is told.
  pub told-places : (e : Result Edit Refusal) (place : ℕ) → job_refusal (file_job_of h l.job) ≡ 0 → ByPlaces (job_in h l) place e → Told own h l e
  told-places e place ok b =
      split (counted_twice (counted_of (job_in h l)))
      (λ t. record { met_is = b.met_is ∙ rw t (sym (alone ∙ rw (by_run, t))); words_is = rw (alone, by_run, t) (b.words_is ∙ rw t) })
      (λ t. record { met_is = b.met_is ∙ rw t (sym (alone ∙ rw (by_run, t))); words_is = rw (alone, by_run, t) (b.words_is ∙ rw t) })
    where
      by_run : refused_job h l ≡ counted_twice (counted_of (job_in h l))
      by_run = unfold refused_job in rw ok

-- ---- adding

-- The edit of adding a tally.
abbrev pub adding : Sizes → TallyWords → Wanted
adding z y =
    record {
      sizes = record { boxes = z.boxes; grocers = z.grocers; offers = z.offers; tallies = z.tallies + 1; lists = z.lists };
      shape = record { present = z.tallies; place = z.tallies; last = z.tallies };
      tally = y;
    }

-- The present head.
abbrev pub head_now : Sizes → Head
head_now z = head_of z.boxes z.grocers z.offers z.tallies 0 z.lists

module _ (z : Sizes) (y : TallyWords) (code : List ℕ) (l : ReaderTables) where
  abbrev x : Tally
  x = tally_with y code

  -- 31.
  pub told_full : leb max_tallies z.tallies ≡ true →
      Told (add_faults (head_now z) l x) (added_head (head_now z)) (added_tables (head_now z) l x) (Err NoRoom)
  told_full full = record { met_is = sym first; words_is = rw first }
    where
      first : first_met (add_faults (head_now z) l x) ≡ 31
      first = unfold add_faults first_met in rw full

  pub add_alone : leb max_tallies z.tallies ≡ false → first_met (add_faults (head_now z) l x) ≡ cond (refused_job (added_head (head_now z)) (added_tables (head_now z) l x)) 32 0
  unfolding add_faults first_met
  add_alone few = rw few

  pub add_file : file_then (adding z y) code l.job ≡ (added_tables (head_now z) l x).job
  unfolding file_then edit_tables
  add_file = ap (λ (r : ReaderTables). r.job) (sym (added_is (head_now z) l x))

  pub add_job : (place : ℕ) → place ≡ place_found (head_now z) l x → job_then (adding z y) place (job_in (head_now z) l) ≡ job_in (added_head (head_now z)) (added_tables (head_now z) l x)
  unfolding job_then edit_tables edit_tallies
  add_job place e = ap (λ (k : ℕ). job_then (adding z y) k (job_in (head_now z) l)) e ∙ ap (job_in (added_head (head_now z))) (sym (added_is (head_now z) l x))

  module _ (few : z.tallies < 1000) (p : PresentIn (z.tallies + 1) (head_now z) l) where
    add_edit : EditIn (adding z y)
    add_edit = record {
      shaped = record { few = omega arith; last = few; place = omega arith; read = λ i q. rw (before_low z.tallies i q) q };
      most = omega arith;
    }

    pub add_file_in : FileIn (adding z y) l.job
    add_file_in = record { edit = add_edit; long = long_now (head_now z) l (z.tallies + 1) (omega arith) p }

    module _ (none : not (eqb (job_refusal (file_job_of (head_then (adding z y)) (file_then (adding z y) code l.job))) 0) ≡ false) where
      pub add_written : job_refusal (file_job_of (added_head (head_now z)) (added_tables (head_now z) l x).job) ≡ 0
      add_written = ap (λ (t : FileTables). job_refusal (file_job_of (added_head (head_now z)) t)) (sym add_file) ∙ eqb-true _ 0 (not_off _ none)

      pub add_names : NamesLent z.offers l.job.offers.code l.job.offers.issuer
      unfolding file_job_of added_tables store_entries
      add_names = record {
        code_long = p.long.offers.code;
        issuer_long = p.long.offers.issuer;
        code = λ i q. ((written_range (head_now z) l x add_written).offer i q).code;
      }

      pub add_code : is_code (read_code (from code 0)) ≡ true
      add_code = added_code (head_now z) l x add_written

      module _ (place : ℕ) (found : place ≡ find z.offers (is_number l.job.offers.code l.job.offers.issuer (name_number (name_of y.issuer (read_code (from code 0)))))) where
        pub add_place : place ≡ place_found (head_now z) l x
        add_place = found ∙ found_is (head_now z) l x add_code add_names

        pub add_job_in : JobIn (adding z y) place (job_in (head_now z) l)
        add_job_in = record {
          edit = add_edit;
          whole = whole_now (head_now z) l (z.tallies + 1) (omega arith) p;
          bags = bags_now (head_now z) l (z.tallies + 1) (omega arith) p;
          in_range = rw (add_job place add_place) (in_range_is (added_head (head_now z)) (added_tables (head_now z) l x) add_written places);
        }
          where
            places : (i : ℕ) → i < z.tallies + 1 → get_or (added_tables (head_now z) l x).tally_offer i 0 < z.offers
            places i q =
                rw (added_is (head_now z) l x)
                (places_then (head_now z) l (z.tallies + 1) (omega arith) p z.tallies z.tallies (z.tallies + 1) (record { tally = x; place = place_found (head_now z) l x }) add_edit.shaped
                (omega arith) (λ _. added_named (head_now z) l x add_written) i q)

-- ---- withdrawing

-- A code of zeros, and the tally that is freed.
abbrev pub no_code : List ℕ
no_code = replicate 11 0

abbrev pub no_tally : TallyWords
no_tally = record { grocer = 0; holder = 0; count = pos 0; issuer = 0; bag = 0; revision = 0 }

-- The edit of withdrawing the tally at place a.
abbrev pub withdrawing : Sizes → ℕ → Wanted
withdrawing z a =
    record {
      sizes = record { boxes = z.boxes; grocers = z.grocers; offers = z.offers; tallies = z.tallies - 1; lists = z.lists };
      shape = record { present = z.tallies; place = a; last = z.tallies - 1 };
      tally = no_tally;
    }

-- Every word of zeros is 0.
zeros : (n k : ℕ) → ◌≡◌ {A = ℕ} (get_or (replicate n 0) k 0) 0
zeros zero k = refl
zeros (suc n) zero = refl
zeros (suc n) (suc k) = zeros n k

freed_is : tally_with no_tally no_code ≡ freed.tally
freed_is = λ i. record {
  grocer = 0;
  box = 0;
  code = record { size = zeros 11 (0 + 0) i; digit = λ k. zeros 11 (0 + (1 + k)) i };
  count = pos 0;
  issuer = 0;
  bag = 0;
  revision = 0;
}

module _ (z : Sizes) (a : ℕ) (l : ReaderTables) where
  -- 32: no such place.
  pub told_nowhere : ltb a z.tallies ≡ false →
      Told (withdraw_faults (head_now z) l a) (withdrawn_head (head_now z)) (withdrawn_tables (head_now z) l a) (Err EditRefused)
  told_nowhere none = record { met_is = sym first; words_is = rw first }
    where
      first : first_met (withdraw_faults (head_now z) l a) ≡ 32
      first = unfold withdraw_faults first_met in rw none

  pub withdraw_alone : ltb a z.tallies ≡ true → first_met (withdraw_faults (head_now z) l a) ≡ cond (refused_job (withdrawn_head (head_now z)) (withdrawn_tables (head_now z) l a)) 32 0
  unfolding withdraw_faults first_met
  withdraw_alone here = rw here

  module _ (here : a < z.tallies) where
    pub withdraw_file : file_then (withdrawing z a) no_code l.job ≡ (withdrawn_tables (head_now z) l a).job
    unfolding file_then edit_tables
    withdraw_file =
        ap (λ (x : Tally). file_tables l.job.offers l.job.grocer_owner (edit_tallies a (z.tallies - 1) x l.job.tallies)) freed_is
        ∙ ap (λ (r : ReaderTables). r.job) (sym (withdrawn_is (head_now z) l a here))

    pub withdraw_job : job_then (withdrawing z a) 0 (job_in (head_now z) l) ≡ job_in (withdrawn_head (head_now z)) (withdrawn_tables (head_now z) l a)
    unfolding job_then edit_tables edit_tallies
    withdraw_job = ap (job_in (withdrawn_head (head_now z))) (sym (withdrawn_is (head_now z) l a here))

    module _ (p : PresentIn z.tallies (head_now z) l) where
      withdraw_edit : EditIn (withdrawing z a)
      withdraw_edit =
          let most : z.tallies ≤ 1000 = (job_in_lem (job_in (head_now z) l) (in_handed (job_in (head_now z) l) p.in_range)).tallies≤ in
          record {
            shaped = record { few = most; last = omega arith; place = omega arith; read = λ i q. before_in a z.tallies i q };
            most = omega arith;
          }

      pub withdraw_file_in : FileIn (withdrawing z a) l.job
      withdraw_file_in = record { edit = withdraw_edit; long = long_now (head_now z) l z.tallies (omega arith) p }

      module _ (none : not (eqb (job_refusal (file_job_of (head_then (withdrawing z a)) (file_then (withdrawing z a) no_code l.job))) 0) ≡ false) where
        pub withdraw_written : job_refusal (file_job_of (withdrawn_head (head_now z)) (withdrawn_tables (head_now z) l a).job) ≡ 0
        withdraw_written = ap (λ (t : FileTables). job_refusal (file_job_of (withdrawn_head (head_now z)) t)) (sym withdraw_file) ∙ eqb-true _ 0 (not_off _ none)

        pub withdraw_job_in : JobIn (withdrawing z a) 0 (job_in (head_now z) l)
        withdraw_job_in = record {
          edit = withdraw_edit;
          whole = whole_now (head_now z) l z.tallies (omega arith) p;
          bags = bags_now (head_now z) l z.tallies (omega arith) p;
          in_range = rw withdraw_job (in_range_is (withdrawn_head (head_now z)) (withdrawn_tables (head_now z) l a) withdraw_written places);
        }
          where
            places : (i : ℕ) → i < z.tallies - 1 → get_or (withdrawn_tables (head_now z) l a).tally_offer i 0 < z.offers
            places i q =
                rw (withdrawn_is (head_now z) l a here)
                (places_then (head_now z) l z.tallies (omega arith) p a (z.tallies - 1) (z.tallies - 1) freed withdraw_edit.shaped (omega arith) (λ m. absurd (omega arith)) i q)
