-- One record after the other, then the answer: it is the model's.
--     Taken         what is known after i records; taken-first, taken_next, taken-takes, taken-sums, taken-last are what the walk cites
--     amounts-in-range   an amount that is owed is in range
-- Assumes nothing.
use mathlib.Core.Path.{◌≡◌, refl, sym, ap, ◌∙◌}
use mathlib.Core.List.{List, [], ◌∷◌, ◌++◌}
use mathlib.Core.Bool.{Bool, true, false, cond, ◌&&◌, not}
use Prim.Native.Nat.{ℕ, zero, suc, ◌+◌, ◌<◌, ◌≤◌}
use native.Mathlib.Numerals.{add-one}
use native.Mathlib.Omega.{arith}
use Rattle.std.specs.Prelude.{Result}
use lib.ListN.{get_or, length, take, replicate, length-set, length-replicate}
use lib.Seq.{take-suc, take_all, get_or-set_same, get_or-set_other}
use lib.Dec.{eqb, ltb, leb}
use lib.IntN.{ℤ, pos, nat_abs, ◌*ℤ◌}
use borrow.Author.Tests.{leb-true, ltb-false, eqb-true, eqb-false}
use Rattle.laws.specs.Below.{sum, only, integers}
use Rattle.laws.specs.Checks.{first_met}
use Rattle.laws.specs.Limits.{max_grocers, max_offers, max_tallies, max_price, max_amount}
use Rattle.laws.proofs.Bools.{split, clash, and_true, and_l, and_r}
use Rattle.laws.proofs.Checks.{each_of}
use Rattle.laws.proofs.Sums.{sum_cong}
use Rattle.laws.proofs.Signed.{sum_abs, only_abs}
use Rattle.recount.specs.Recount.{Counted, stands, counted_twice}
use Rattle.recount.specs.Keys.{bag_key, count_key}
use Rattle.index.specs.Bags.{KeysOf}
use Rattle.model.specs.Ranges.{up_to}
use Rattle.model.specs.Reconcile.{TallyRecord, record_in_range, records_in_range, record_in, counted_records, standing_records, serial_amount, DeskAnswer, owed, refused, desk_refusals, desk_answer, reconciled}
use Rattle.model.proofs.Step.{up_at}
use Rattle.model.proofs.Desk.{serial_standing}
use Rattle.desk_records.specs.Head.{head_in_range, head_refusal}
use Rattle.desk_records.specs.Rows.{share, record_key, with_number, Takes, Kept, Took}
use Rattle.desk_records.proofs.Taking.{place_in, count_in, share_abs}
use Rattle.desk_records.proofs.Amounts.{product_abs}
use Rattle.desk_records.specs.declared.Tally.{Tally}
use Rattle.refusals.specs.declared.Refusal.{Refusal}
use Rattle.desk.specs.Records.{record_of, records_of, answer_of}
use Rattle.desk.specs.Serial.{settled, Summable}

-- ---- the lent list
-- A record to read past the end, which none does.
abbrev pub none : Tally
none = record { grocer = 0; tally_box = 0; place = 0; count = pos 0; bag = 0; revision = 0 }

length-records : (ts : List Tally) → length (records_of ts) ≡ length ts
unfolding records_of
length-records [] = refl
length-records (t ∷ ts) = ap suc (length-records ts)

records_snoc : (ts : List Tally) (t : Tally) → records_of (ts ++ (t ∷ [])) ≡ records_of ts ++ (record_of t ∷ [])
unfolding records_of
records_snoc [] t = refl
records_snoc (x ∷ ts) t = ap (λ (rs : List TallyRecord). record_of x ∷ rs) (records_snoc ts t)

record_at_lem : (ts : List Tally) (t : ℕ) → record_in (records_of ts) t ≡ record_of (get_or ts t none)
unfolding record_in records_of
record_at_lem [] t = refl
record_at_lem (x ∷ ts) zero = refl
record_at_lem (x ∷ ts) (suc t) = record_at_lem ts t

-- Records in range, one more.
ranged_snoc : (m n : ℕ) (rs : List TallyRecord) (r : TallyRecord) → records_in_range m n (rs ++ (r ∷ [])) ≡ (records_in_range m n rs && record_in_range m n r)
unfolding records_in_range
ranged_snoc m n [] r = and_true_r (record_in_range m n r)
  where
    and_true_r : (b : Bool) → (b && true) ≡ b
    and_true_r true = refl
    and_true_r false = refl
ranged_snoc m n (x ∷ rs) r = ap (λ (b : Bool). record_in_range m n x && b) (ranged_snoc m n rs r) ∙ regroup (record_in_range m n x) (records_in_range m n rs) (record_in_range m n r)
  where
    regroup : (a b c : Bool) → (a && (b && c)) ≡ (a && b && c)
    regroup true b c = refl
    regroup false b c = refl

-- Each of a list in range is.
ranged_in : (m n : ℕ) (rs : List TallyRecord) → records_in_range m n rs ≡ true → (t : ℕ) → t < length rs → record_in_range m n (record_in rs t) ≡ true
unfolding records_in_range record_in
ranged_in m n [] h t l = absurd (omega arith)
ranged_in m n (x ∷ rs) h zero l = and_l (record_in_range m n x) (records_in_range m n rs) h
ranged_in m n (x ∷ rs) h (suc t) l = ranged_in m n rs (and_r (record_in_range m n x) (records_in_range m n rs) h) t (omega arith)

ranged_at : (m n : ℕ) (ts : List Tally) → records_in_range m n (records_of ts) ≡ true → (t : ℕ) → t < length ts → record_in_range m n (record_of (get_or ts t none)) ≡ true
ranged_at m n ts h t l = ap (record_in_range m n) (sym (record_at_lem ts t)) ∙ ranged_in m n (records_of ts) h t (omega (arith, length-records ts))

-- ---- the number
-- The number of the first refusal, from that before any record and whether the records are in range.
unfoldable number_of : ℕ → Bool → ℕ
number_of h q = cond (eqb h 0) (cond q 0 21) h

number_none : (h : ℕ) → h ≡ number_of h true
unfolding number_of
number_none h = split (eqb h 0) (λ e. rw e (eqb-true h 0 e)) (λ e. rw e)

-- No refusal: none before any record, and all are in range.
number_zero : (h : ℕ) (q : Bool) → number_of h q ≡ 0 → (h ≡ 0) × (q ≡ true)
unfolding number_of
number_zero h q z = split (eqb h 0) (λ e. (eqb-true h 0 e, all q (rw e at z))) (λ e. absurd (eqb-false h 0 e (rw e at z)))
  where
    all : (q : Bool) → ◌≡◌ {A = ℕ} (cond q 0 21) 0 → q ≡ true
    all true z = refl
    all false z = absurd (omega arith)

number_more : (m n h : ℕ) (q : Bool) (r : TallyRecord) → with_number m n (number_of h q) r ≡ number_of h (q && record_in_range m n r)
unfolding number_of with_number
number_more m n h true r = split (eqb h 0) (λ e. rw e) (λ e. rw (e, e))
number_more m n h false r = split (eqb h 0) (λ e. rw e) (λ e. rw (e, e))

-- Where the number stays 0 it was 0.
number_was : (m n k : ℕ) (r : TallyRecord) → with_number m n k r ≡ 0 → k ≡ 0
unfolding with_number
number_was m n k r z = split (eqb k 0) (λ e. eqb-true k 0 e) (λ e. rw e at z)

-- Records in range: so are the first of them.
ranged_take : (m n i : ℕ) (ts : List Tally) → records_in_range m n (records_of ts) ≡ true → records_in_range m n (records_of (take i ts)) ≡ true
unfolding records_in_range records_of
ranged_take m n zero ts h = refl
ranged_take m n (suc i) [] h = refl
ranged_take m n (suc i) (t ∷ ts) h =
    and_true (and_l (record_in_range m n (record_of t)) (records_in_range m n (records_of ts)) h)
    (ranged_take m n i ts (and_r (record_in_range m n (record_of t)) (records_in_range m n (records_of ts)) h))

-- What no refusal before any record says.
record Opened (n : ℕ) (ps : List ℕ) (len : ℕ) : Type 0 where
  long : n ≤ length ps
  offers : n ≤ 500
  priced : up_to max_price n ps ≡ true
  few : len ≤ 1000

head_none : (m n g : ℕ) (ps : List ℕ) (len : ℕ) → head_refusal m n g ps len ≡ 0 → Opened n ps len
unfolding head_refusal head_in_range
head_none m n g ps len h =
    split (ltb (length ps) n)
    (λ e. let z : ◌≡◌ {A = ℕ} 20 0 = rw e at h in absurd (omega arith))
    (λ e. split (head_in_range m n g ps len)
    (λ f. let s = each_of ((leb 1 m && leb m max_grocers) ∷ (leb 1 n && leb n max_offers) ∷ up_to max_price n ps ∷ leb len max_tallies ∷ ltb g m ∷ []) f in
    record {
      long = ltb-false (length ps) n e;
      offers = leb-true n 500 (and_r (leb 1 n) (leb n max_offers) s.1.0);
      priced = s.1.1.0;
      few = leb-true len 1000 s.1.1.1.0;
    })
    (λ f. let z : ◌≡◌ {A = ℕ} 21 0 = rw (e, f) at h in absurd (omega arith)))

-- ---- the records
-- Keys and shares of the first i records.
record Rows (ts : List Tally) (ps : List ℕ) (g i : ℕ) (keys : List ℕ) (shares : List ℤ) : Type 0 where
  keys_long : length keys ≡ 1000
  shares_long : length shares ≡ 1000
  key : (t : ℕ) → t < i → get_or keys t 0 ≡ record_key (record_of (get_or ts t none))
  worth : (t : ℕ) → t < i → get_or shares t (pos 0) ≡ share ps g (record_of (get_or ts t none))
  bag : (t : ℕ) → t < i → (get_or ts t none).bag < 65_536
  revision : (t : ℕ) → t < i → (get_or ts t none).revision < 65_536

-- What holds of each before i holds of each before i + 1.
one_more : (P : ℕ → Type 0) (i : ℕ) → ((t : ℕ) → t < i → P t) → P i → (t : ℕ) → t < i + 1 → P t
one_more P i h e t l = split (eqb t i) (λ q. rw (eqb-true t i q) e) (λ q. let ne : t ≡ i → ⊥ = eqb-false t i q in h t (omega arith))

rows_next : (ts : List Tally) (ps : List ℕ) (g i : ℕ) (keys keys' : List ℕ) (shares shares' : List ℤ) → i < 1000 →
    Rows ts ps g i keys shares → Kept ps g i (record_of (get_or ts i none)) keys keys' shares shares' → Rows ts ps g (i + 1) keys' shares'
rows_next ts ps g i keys keys' shares shares' l r p = record {
  keys_long = ap length p.key ∙ length-set keys i (record_key (record_of (get_or ts i none))) ∙ r.keys_long;
  shares_long = ap length p.worth ∙ length-set shares i (share ps g (record_of (get_or ts i none))) ∙ r.shares_long;
  key = one_more (λ t. get_or keys' t 0 ≡ record_key (record_of (get_or ts t none))) i
      (λ t q. ap (λ (k : List ℕ). get_or k t 0) p.key ∙ get_or-set_other keys i t (record_key (record_of (get_or ts i none))) 0 (λ e. omega arith) ∙ r.key t q)
      (ap (λ (k : List ℕ). get_or k i 0) p.key ∙ get_or-set_same keys i (record_key (record_of (get_or ts i none))) 0 (omega (arith, r.keys_long)));
  worth = one_more (λ t. get_or shares' t (pos 0) ≡ share ps g (record_of (get_or ts t none))) i
      (λ t q. ap (λ (k : List ℤ). get_or k t (pos 0)) p.worth ∙ get_or-set_other shares i t (share ps g (record_of (get_or ts i none))) (pos 0) (λ e. omega arith) ∙ r.worth t q)
      (ap (λ (k : List ℤ). get_or k i (pos 0)) p.worth ∙ get_or-set_same shares i (share ps g (record_of (get_or ts i none))) (pos 0) (omega (arith, r.shares_long)));
  bag = one_more (λ t. (get_or ts t none).bag < 65_536) i r.bag p.bag;
  revision = one_more (λ t. (get_or ts t none).revision < 65_536) i r.revision p.revision;
}

-- What stands and is of the grocer.
only_both : (a b : Bool) (x : ℤ) → only integers a (only integers b x) ≡ only integers (a && b) x
unfolding only
only_both true b x = refl
only_both false b x = refl

-- The refusals in order, by their tests: short prices, what looks at no record (x and w), the records (q, and q' of those looked at), and 9.
in_order : (b x w q : Bool) (c : Counted) (shares : List ℤ) (amount : ℤ) → 0 ≡ number_of (cond b 20 (cond (x && w) 0 21)) q →
    sum integers c.size (λ u. only integers (stands c u) (get_or shares u (pos 0))) ≡ amount →
    answer_of (settled c shares) ≡ desk_answer (cond b 20 (cond (not (x && q && w)) 21 (cond (counted_twice c) 9 0))) amount
unfolding number_of settled answer_of desk_answer
in_order true x w q c shares amount e h = absurd (omega arith)
in_order false false w q c shares amount e h = absurd (omega arith)
in_order false true false q c shares amount e h = absurd (omega arith)
in_order false true true false c shares amount e h = absurd (omega arith)
in_order false true true true c shares amount e h = split (counted_twice c) (λ f. rw f) (λ f. rw f (ap owed h))

stopped : (b x w q q' twice : Bool) (k : ℕ) (amount : ℤ) → k ≡ number_of (cond b 20 (cond (x && w) 0 21)) q' → (q ≡ true → q' ≡ true) → 0 < k →
    refused k ≡ desk_answer (cond b 20 (cond (not (x && q && w)) 21 (cond twice 9 0))) amount
unfolding number_of desk_answer
stopped true x w q q' twice k amount e h l = rw e
stopped false false w q q' twice k amount e h l = rw e
stopped false true false true q' twice k amount e h l = rw e
stopped false true false false q' twice k amount e h l = rw e
stopped false true true q true twice k amount e h l = absurd (omega arith)
stopped false true true false false twice k amount e h l = rw e
stopped false true true true false twice k amount e h l = absurd (clash (h refl) refl)

-- ---- what the walk cites
module _ (ts : List Tally) (ps : List ℕ) (m n g : ℕ) where
  -- After i records k is the number of the first refusal; where there is none, keys and shares are those of the i records.
  pub record Taken (i k : ℕ) (keys : List ℕ) (shares : List ℤ) : Type 0 where
    number : k ≡ number_of (head_refusal m n g ps (length ts)) (records_in_range m n (records_of (take i ts)))
    rows : k ≡ 0 → Rows ts ps g i keys shares

  -- No refusal after i records.
  open_still : (i k : ℕ) (keys : List ℕ) (shares : List ℤ) → Taken i k keys shares → k ≡ 0 → Opened n ps (length ts) × (records_in_range m n (records_of (take i ts)) ≡ true)
  open_still i k keys shares t z =
      let (h, q) = number_zero (head_refusal m n g ps (length ts)) (records_in_range m n (records_of (take i ts))) (sym t.number ∙ z) in
      (head_none m n g ps (length ts) h, q)

  pub taken_first : (k : ℕ) → k ≡ head_refusal m n g ps (length ts) → Taken 0 k (replicate 1000 0) (replicate 1000 (pos 0))
  unfolding records_in_range records_of
  taken_first k e = record {
    number = e ∙ number_none (head_refusal m n g ps (length ts));
    rows = λ z. record {
      keys_long = length-replicate {A = ℕ} 1000 0;
      shares_long = length-replicate 1000 (pos 0);
      key = λ t l. absurd (omega arith);
      worth = λ t l. absurd (omega arith);
      bag = λ t l. absurd (omega arith);
      revision = λ t l. absurd (omega arith);
    };
  }

  pub taken_takes : (i k : ℕ) (keys : List ℕ) (shares : List ℤ) → i < length ts → Taken i k keys shares → k ≡ 0 → Takes n ps i
  taken_takes i k keys shares l t z =
      let (o, q) = open_still i k keys shares t z in
      record { few = omega (arith, o.few); long = o.long; priced = o.priced }

  pub taken_next : (i k k' : ℕ) (keys keys' : List ℕ) (shares shares' : List ℤ) → i < length ts → Taken i k keys shares → Took ps m n g k i (record_of (get_or ts i none)) keys keys' shares shares' k' →
      Taken (i + 1) k' keys' shares'
  taken_next i k k' keys keys' shares shares' l t p = record {
    number = p.number ∙ ap (λ (x : ℕ). with_number m n x (record_of (get_or ts i none))) t.number
        ∙ number_more m n (head_refusal m n g ps (length ts)) (records_in_range m n (records_of (take i ts))) (record_of (get_or ts i none))
        ∙ ap (number_of (head_refusal m n g ps (length ts)))
        (sym (ranged_snoc m n (records_of (take i ts)) (record_of (get_or ts i none)))
        ∙ ap (records_in_range m n) (sym (records_snoc (take i ts) (get_or ts i none)) ∙ ap records_of (sym (take-suc ts i none l) ∙ ap (λ (j : ℕ). take j ts) (sym (add-one i)))));
    rows = λ z. let z' = number_was m n k (record_of (get_or ts i none)) (sym p.number ∙ z) in
        rows_next ts ps g i keys keys' shares shares' (taken_takes i k keys shares l t z').few (t.rows z') (p.kept z);
  }

  -- A refusal after i records is the model's.
  pub taken_stopped : (i k : ℕ) (keys : List ℕ) (shares : List ℤ) → Taken i k keys shares → 0 < k → refused k ≡ reconciled m n g ps (records_of ts)
  unfolding reconciled desk_refusals first_met head_refusal head_in_range
  taken_stopped i k keys shares t l =
      rw (length-records ts)
      (stopped (ltb (length ps) n) ((leb 1 m && leb m max_grocers) && (leb 1 n && leb n max_offers) && up_to max_price n ps && leb (length ts) max_tallies) (ltb g m)
      (records_in_range m n (records_of ts)) (records_in_range m n (records_of (take i ts))) (counted_twice (counted_records (records_of ts))) k
      (serial_amount ps g (standing_records (records_of ts))) t.number (ranged_take m n i ts) l)

  module _ (i k : ℕ) (keys : List ℕ) (shares : List ℤ) (e : i + 0 ≡ length ts) (t : Taken i k keys shares) where
    all_taken_lem : take i ts ≡ ts
    all_taken_lem = take_all i ts (omega arith)

    -- No refusal: every record is in range.
    each_in : k ≡ 0 → (u : ℕ) → u < i → record_in_range m n (record_of (get_or ts u none)) ≡ true
    each_in z u l = ranged_at m n ts (ap (λ (l : List Tally). records_in_range m n (records_of l)) (sym all_taken_lem) ∙ (open_still i k keys shares t z).1) u (omega arith)

    worth_abs : k ≡ 0 → (u : ℕ) → u < i → nat_abs (share ps g (record_of (get_or ts u none))) ≤ 999_989_900_001
    worth_abs z u l =
        let r = record_of (get_or ts u none) in
        let o = (open_still i k keys shares t z).0 in
        share_abs ps g r (up_at max_price n ps r.place o.priced (place_in m n r (each_in z u l))) (count_in m n r (each_in z u l))

    pub taken_sums : k ≡ 0 → Summable i keys shares
    taken_sums z = record {
      few = omega (arith, (open_still i k keys shares t z).0.few);
      keys_long = (t.rows z).keys_long;
      shares_long = (t.rows z).shares_long;
      small = λ u l. rw ((t.rows z).worth u l) (worth_abs z u l);
    }

    -- The keys are those of what the rule looks at.
    pub taken_keys : k ≡ 0 → KeysOf (counted_records (records_of ts)) keys i
    unfolding counted_records count_key bag_key record_key
    taken_keys z = record {
      size = length-records ts ∙ sym e ∙ plus_none i;
      inside = record {
        offer = λ u l. let q : u < i = below u l in rw (record_at_lem ts u) (omega (arith, place_in m n (record_of (get_or ts u none)) (each_in z u q), (open_still i k keys shares t z).0.offers));
        bag = λ u l. rw (record_at_lem ts u) ((t.rows z).bag u (below u l));
        revision = λ u l. rw (record_at_lem ts u) ((t.rows z).revision u (below u l));
      };
      key = λ u l. rw (record_at_lem ts u) ((t.rows z).key u l);
    }
      where
        plus_none : (i : ℕ) → i + 0 ≡ i
        plus_none i = omega arith

        below : (u : ℕ) → u < length (records_of ts) → u < i
        below u l = omega (arith, length-records ts)

    -- The shares that stand come to the model's amount.
    stands_sum : k ≡ 0 → sum integers (counted_records (records_of ts)).size (λ u. only integers (stands (counted_records (records_of ts)) u) (get_or shares u (pos 0)))
        ≡ serial_amount ps g (standing_records (records_of ts))
    unfolding counted_records
    stands_sum z =
        sum_cong integers (length (records_of ts)) (λ u. only integers (stands (counted_records (records_of ts)) u) (get_or shares u (pos 0)))
        (λ u. only integers (stands (counted_records (records_of ts)) u && eqb (record_in (records_of ts) u).grocer g) ((record_in (records_of ts) u).count *ℤ pos (get_or ps (record_in (records_of ts) u).place 0)))
        (λ u l. ap (only integers (stands (counted_records (records_of ts)) u)) ((t.rows z).worth u (omega (arith, length-records ts)))
        ∙ only_both (stands (counted_records (records_of ts)) u) (eqb (get_or ts u none).grocer g) ((get_or ts u none).count *ℤ pos (get_or ps (get_or ts u none).place 0))
        ∙ ap (λ (r : TallyRecord). only integers (stands (counted_records (records_of ts)) u && eqb r.grocer g) (r.count *ℤ pos (get_or ps r.place 0))) (sym (record_at_lem ts u)))
        ∙ sym (serial_standing ps g (records_of ts))

    -- The answer is the model's.
    pub taken_last : (r : Result ℤ Refusal) → k ≡ 0 → r ≡ settled (counted_records (records_of ts)) shares → answer_of r ≡ reconciled m n g ps (records_of ts)
    unfolding reconciled desk_refusals first_met head_refusal head_in_range
    taken_last r z said =
        ap answer_of said
        ∙ in_order (ltb (length ps) n) ((leb 1 m && leb m max_grocers) && (leb 1 n && leb n max_offers) && up_to max_price n ps && leb (length ts) max_tallies) (ltb g m)
        (records_in_range m n (records_of ts)) (counted_records (records_of ts)) shares (serial_amount ps g (standing_records (records_of ts)))
        (sym z ∙ t.number ∙ ap (λ (l : List Tally). number_of (head_refusal m n g ps (length ts)) (records_in_range m n (records_of l))) all_taken_lem) (stands_sum z)
        ∙ ap (λ (x : ℕ). desk_answer (cond (ltb (length ps) n) 20
        (cond (not (((leb 1 m && leb m max_grocers) && (leb 1 n && leb n max_offers) && up_to max_price n ps && leb x max_tallies) && records_in_range m n (records_of ts) && ltb g m)) 21
        (cond (counted_twice (counted_records (records_of ts))) 9 0))) (serial_amount ps g (standing_records (records_of ts)))) (sym (length-records ts))

-- ---- an amount that is owed is in range
abbrev amount_of : DeskAnswer → ℤ
amount_of (owed z) = z
amount_of (refused k) = pos 0

-- What is owed is the amount, and nothing refuses.
owed_is : (k : ℕ) (x z : ℤ) → desk_answer k x ≡ owed z → (k ≡ 0) × (x ≡ z)
unfolding desk_answer
owed_is zero x z e = (refl, ap amount_of e)
owed_is (suc k) x z e = let q : ◌≡◌ {A = ℕ} 0 1 = cc in absurd (omega arith)

-- Nothing refuses: 20 and 21 are not met.
none_met : (b q tw : Bool) → ◌≡◌ {A = ℕ} (cond b 20 (cond (not q) 21 (cond tw 9 0))) 0 → (b ≡ false) × (q ≡ true)
none_met true q tw z = absurd (omega arith)
none_met false false tw z = absurd (omega arith)
none_met false true tw z = (refl, refl)

pub amounts_in_range : (m n g : ℕ) (ps : List ℕ) (rs : List TallyRecord) (z : ℤ) → reconciled m n g ps rs ≡ owed z → nat_abs z ≤ max_amount
unfolding reconciled desk_refusals first_met
amounts_in_range m n g ps rs z e =
    let (none, is) = owed_is _ (serial_amount ps g (standing_records rs)) z e in
    let (long, ok) = none_met (ltb (length ps) n) ((leb 1 m && leb m max_grocers) && (leb 1 n && leb n max_offers) && up_to max_price n ps && leb (length rs) max_tallies && records_in_range m n rs && ltb g m)
    (counted_twice (counted_records rs)) none in
    let s = each_of ((leb 1 m && leb m max_grocers) ∷ (leb 1 n && leb n max_offers) ∷ up_to max_price n ps ∷ leb (length rs) max_tallies ∷ records_in_range m n rs ∷ ltb g m ∷ []) ok in
    let few : length rs ≤ 1000 = leb-true (length rs) 1000 s.1.1.1.0 in
    rw (← is, serial_standing ps g rs)
    (omega (
      arith,
      sum_abs (length rs) 999_989_900_001
          (λ t. only integers (stands (counted_records rs) t && eqb (record_in rs t).grocer g) ((record_in rs t).count *ℤ pos (get_or ps (record_in rs t).place 0)))
          (λ t l. let r = record_in rs t in let h = ranged_in m n rs s.1.1.1.1.0 t l in
          only_abs (stands (counted_records rs) t && eqb r.grocer g) (r.count *ℤ pos (get_or ps r.place 0)) 999_989_900_001
          (product_abs r.count (get_or ps r.place 0) (count_in m n r h) (up_at max_price n ps r.place s.1.1.0 (place_in m n r h)))),
    ))
