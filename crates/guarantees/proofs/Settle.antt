-- What settle prints are the amounts owed. Assumes nothing.
use mathlib.Core.Path.{◌≡◌, refl, sym, ap, ap₂, ◌∙◌}
use mathlib.Core.Bool.{false}
use mathlib.Core.List.{List, [], ◌∷◌, ◌++◌}
use Prim.Native.Nat.{ℕ, zero, suc, ◌+◌, ◌-◌, ◌*◌, ◌/◌, ◌%◌, ◌^◌, ◌<◌, ◌≤◌}
use native.Mathlib.Omega.{arith}
use native.Mathlib.Nat.{pow-suc, mul-one}
use lib.Dec.{eqb, ltb}
use lib.IntN.{ℤ, pos, negsuc, neg_ℤ, nat_abs}
use lib.ListN.{get_or, length, take, drop}
use lib.Seq.{get_or-take, length-take-le}
use borrow.Author.Tests.{eqb-true, eqb-false, lt-ltb, ne_eqb, ltb-true, ltb-false}
use Rattle.laws.proofs.Bools.{split}
use Rattle.model.specs.Words.{owner_words, message_count, step_count}
use Rattle.model.specs.Tables.{JobTables, job_of, lent_short, any_short}
use Rattle.model.specs.Run.{RunAnswer, finished, reported, ran}
use Rattle.format.specs.Job.{Head, head_of}
use Rattle.format.specs.Blocks.{block_count}
use Rattle.format.specs.File.{read_head, decode}
use Rattle.format.specs.Refusals.{file_refusal}
use Rattle.format.specs.Tables.{read_refusal}
use Rattle.printing.specs.Accepted.{owed_by_file, Accepted}
use Rattle.printing.specs.Cents.{Half, half_of, cents}
use Rattle.printing.specs.Printed.{job_read, digits_of, decimal, signed_decimal, line, amounts_text, grocer_lines, amount_in, settled_text, blank_job, blank_state, run_text, job_text, printed}
use Rattle.guarantees.specs.Settle.{value_of, amount_of, lines_before, text_before, Settle}
use Rattle.guarantees.proofs.Ascii.{printed_ascii}
use Rattle.printing.proofs.Blank.{blank_state_lem, blank_totals, read_by_file, printed_refusal, printed_job}
use Rattle.printing.proofs.Long.{long_printed, cut_printed}
use Rattle.printing.proofs.Rounding.{none_below, rounding}
use Rattle.printing.proofs.Digits.{below_power}
use Rattle.format.proofs.Accept.{long, accepted_range}
use Rattle.laws.proofs.Tables.{cell_in}
use Rattle.model.proofs.PriceLists.{same_steps_lem}
use Rattle.model.proofs.Demand3.{demand3_run}
use Rattle.printing.proofs.ListText.{list_text}
use Rattle.printing.proofs.Accepted.{accepted}

-- ---- a printed number is the number

value_more : (s : List ℕ) (d n : ℕ) → value_of (s ++ (d ∷ [])) n ≡ 10 * value_of s n + (d - 48)
unfolding value_of
value_more [] d n = refl
value_more (c ∷ s) d n = value_more s d (10 * n + (c - 48))

value_digits : (k n : ℕ) → n < 10 ^ suc k → value_of (digits_of (suc k) n) 0 ≡ n
unfolding digits_of value_of
value_digits zero n h = rw (lt-ltb n 10 (omega arith)) (omega arith)
value_digits (suc k) n h =
    split (ltb n 10)
    (λ e. rw e (omega arith))
    (λ e. rw e (value_more (digits_of (suc k) (n / 10)) (48 + n % 10) 0 ∙ omega (arith, value_digits k (n / 10) (omega (arith, pow-suc 10 (suc k))))))

number_reads : (n : ℕ) → value_of (decimal n) 0 ≡ n
unfolding decimal
number_reads n = value_digits n n (below_power n)

-- A number's digits begin with one.
begins : (k n : ℕ) → (c : ℕ) × (s : List ℕ) × (digits_of (suc k) n ≡ c ∷ s) × (48 ≤ c)
unfolding digits_of
begins zero n =
    split (ltb n 10)
    (λ e. (48 + n, [], rw e, omega arith))
    (λ e. (48 + n % 10, [], rw e, omega arith))
begins (suc k) n =
    split (ltb n 10)
    (λ e. (48 + n, [], rw e, omega arith))
    (λ e. let (c, s, f, h) = begins k (n / 10) in (c, s ++ ((48 + n % 10) ∷ []), rw (e, f), h))

-- A text that begins with a digit says the number of its digits.
plain_amount : (t s : List ℕ) (c : ℕ) → t ≡ c ∷ s → 48 ≤ c → amount_of t ≡ pos (value_of t 0)
unfolding amount_of
plain_amount t s c e h = rw (e, ne_eqb c 45 (λ z. omega arith))

amount_reads : (z : ℤ) → amount_of (signed_decimal z) ≡ z
unfolding signed_decimal decimal
amount_reads (pos n) =
    let (c, s, e, h) = begins n n in
    plain_amount (digits_of (suc n) n) s c e h ∙ ap pos (number_reads n)
amount_reads (negsuc n) = unfold amount_of in ap (λ (m : ℕ). neg_ℤ (pos m)) (number_reads (suc n))

-- ---- there is no `-0`

-- The digits of a number above 0 begin with one from 1 to 9.
leads : (k n : ℕ) → 1 ≤ n → n < 10 ^ suc k → (d : ℕ) × (t : List ℕ) × (digits_of (suc k) n ≡ d ∷ t) × (49 ≤ d) × (d ≤ 57)
unfolding digits_of
leads zero n some small = (48 + n, [], rw (lt-ltb n 10 (omega arith)), omega arith, omega arith)
leads (suc k) n some small =
    split (ltb n 10)
    (λ e. let l = ltb-true n 10 e in (48 + n, [], rw e, omega arith, omega arith))
    (λ e.
    let l = ltb-false n 10 e in
    let (d, t, f, a, b) = leads k (n / 10) (omega arith) (omega (arith, pow-suc 10 (suc k))) in
    (d, t ++ ((48 + n % 10) ∷ []), rw (e, f), a, b))

-- So a number that begins with 0 is 0 itself.
leading_zero : (n : ℕ) (s : List ℕ) → decimal n ≡ 48 ∷ s → (n ≡ 0) × (s ≡ [])
unfolding decimal digits_of
leading_zero n s e =
    split (eqb n 0)
    (λ q. let z : n ≡ 0 = eqb-true n 0 q in (z, ap (drop 1) (sym e ∙ ap decimal z)))
    (λ q.
    let ne : n ≡ 0 → ⊥ = eqb-false n 0 q in
    let (d, t, f, a, b) = leads n n (omega arith) (below_power n) in
    absurd (omega (arith, ap (λ (l : List ℕ). get_or l 0 0) (sym f ∙ e), a)))

-- A minus sign stands in front of them alone.
signed_minus : (z : ℤ) (s : List ℕ) → signed_decimal z ≡ 45 ∷ s → (d : ℕ) × (t : List ℕ) × (s ≡ d ∷ t) × (49 ≤ d) × (d ≤ 57)
unfolding signed_decimal decimal
signed_minus (pos n) s e =
    let (c, t, f, h) = begins n n in
    absurd (omega (arith, ap (λ (l : List ℕ). get_or l 0 0) (sym f ∙ e), h))
signed_minus (negsuc n) s e =
    let (d, t, f, a, b) = leads (suc n) (suc n) (omega arith) (below_power (suc n)) in
    (d, t, ap (drop 1) (sym e) ∙ f, a, b)

no_cent_lem : (h : Half) (z : ℤ) → nat_abs z < 5 → signed_decimal (cents h z) ≡ 48 ∷ []
unfolding signed_decimal decimal digits_of
no_cent_lem h z l = rw (none_below h z l)

-- ---- the lines

-- The amounts of the lists and of the first m grocers alone count.
amounts_cong : (r : Half) (l : ℕ) (a b : ℕ → ℤ) → ((q : ℕ) → q < suc l → a q ≡ b q) → amounts_text r l a ≡ amounts_text r l b
unfolding amounts_text
amounts_cong r zero a b h = ap (λ (z : ℤ). signed_decimal (cents r z)) (h 0 (omega arith))
amounts_cong r (suc l) a b h =
    ap₂ (λ (x : List ℕ) (z : ℤ). x ++ (32 ∷ signed_decimal (cents r z))) (amounts_cong r l a b (λ q k. h q (omega arith))) (h (suc l) (omega arith))

lines_cong : (r : Half) (l m : ℕ) (a b : ℕ → ℕ → ℤ) → ((g q : ℕ) → g < m → q < suc l → a g q ≡ b g q) → grocer_lines r l m a ≡ grocer_lines r l m b
unfolding grocer_lines
lines_cong r l zero a b h = refl
lines_cong r l (suc m) a b h =
    ap₂ (λ (x y : List ℕ). x ++ line (decimal m) y) (lines_cong r l m a b (λ g q k. h g q (omega arith))) (amounts_cong r l (a m) (b m) (λ q. h m q (omega arith)))

pub text_cong : (y l m : ℕ) (a b : ℕ → ℕ → ℤ) (w c n : ℕ) → ((g q : ℕ) → g < m → q < suc l → a g q ≡ b g q) → settled_text y l m a w c n ≡ settled_text y l m b w c n
unfolding settled_text
text_cong y l m a b w c n h = rw (lines_cong (half_of y) l m a b h)

-- With one list they are those of before.
lines_before_lem : (r : Half) (m : ℕ) (a : ℕ → ℕ → ℤ) → grocer_lines r 0 m a ≡ lines_before r m (λ g. a g 0)
unfolding grocer_lines lines_before amounts_text
lines_before_lem r zero a = refl
lines_before_lem r (suc m) a = rw (lines_before_lem r m a)

text_before_lem : (y l m : ℕ) (a : ℕ → ℕ → ℤ) (w c n : ℕ) → l ≡ 0 → settled_text y l m a (w * suc l) c n ≡ text_before y m (λ g. a g 0) w c n
unfolding settled_text text_before
text_before_lem y l m a w c n e = ap (λ (x : ℕ). settled_text y x m a (w * suc x) c n) e ∙ rw (lines_before_lem (half_of y) m a, mul-one w)

module _ (file : List ℕ) (ok : file_refusal file ≡ 0) where
  read_ok : read_refusal file blank_job ≡ 0
  read_ok = read_by_file file ∙ ok

  pub given : Accepted file blank_job
  given = accepted file blank_job read_ok

  abbrev job : JobTables
  job = job_read file blank_job

  lent_ok : any_short job blank_state ≡ false
  unfolding any_short lent_short job_read
  lent_ok =
      let s = (accepted_range file ok).sizes in
      rw (given.settles.whole, given.settles.bags, blank_state_lem job s.boxes_most s.grocers_most s.offers_most s.lists_most, blank_totals job given.settles.in_range)

  -- The run is not refused: its answer is the words of the job's entries, one for each list, its messages and its steps,
  answer_is : (ran job blank_state [] []).answer ≡ finished (owner_words (job_of job) * suc job.lists) (message_count (job_of job)) (step_count (job_of job))
  unfolding reported
  answer_is =
      let same = same_steps_lem job in
      (given.run blank_state [] []).answer ∙ rw lent_ok (λ i. finished (same.all_words i) (same.messages i) (same.steps i))

  -- and each statement is what the file says is owed.
  amount_is : (g q : ℕ) → g < (decode file).head.grocers → q < suc (decode file).head.lists →
      amount_in (decode file).head.lists (ran job blank_state [] []).tables.statement g q ≡ owed_by_file (decode file) g q
  unfolding job_read amount_in
  amount_is g q h m =
      (demand3_run job given.settles blank_state [] []).statements lent_ok (g * suc (decode file).head.lists + q) (cell_in g (decode file).head.grocers (suc (decode file).head.lists) q h m)
      ∙ given.sums g q m

  settled_is : printed file ≡ settled_text (decode file).head.cycle (decode file).head.lists (decode file).head.grocers (owed_by_file (decode file))
      (owner_words (job_of job) * suc (decode file).head.lists) (message_count (job_of job)) (step_count (job_of job))
  unfolding job_text run_text job_read
  settled_is =
      let h = (decode file).head in
      printed_job file ok
      ∙ ap (λ (a : RunAnswer). run_text h.cycle h.lists h.grocers a (ran job blank_state [] []).tables.statement) answer_is
      ∙ text_cong h.cycle h.lists h.grocers (amount_in h.lists (ran job blank_state [] []).tables.statement) (owed_by_file (decode file))
      (owner_words (job_of job) * suc h.lists) (message_count (job_of job)) (step_count (job_of job)) amount_is

  before_is : get_or file 14 0 ≡ 0 → printed file ≡ text_before (decode file).head.cycle (decode file).head.grocers (λ g. owed_by_file (decode file) g 0)
      (owner_words (job_of job)) (message_count (job_of job)) (step_count (job_of job))
  before_is e =
      settled_is
      ∙ text_before_lem (decode file).head.cycle (decode file).head.lists (decode file).head.grocers (owed_by_file (decode file)) (owner_words (job_of job)) (message_count (job_of job)) (step_count (job_of job))
      (unfold decode read_head in e)

-- The first n bytes of a file say the file's length, if they are a file.
cut_is : (file : List ℕ) (n : ℕ) → file_refusal file ≡ 0 → n < length file → file_refusal (take n file) ≡ 0 → ⊥
unfolding decode read_head
cut_is file n ok h cut =
    let whole = long file ok in
    let part = long (take n file) cut in
    let size = length-take-le n file (omega arith) in
    let same : (i : ℕ) → i < 15 → get_or (take n file) i 0 ≡ get_or file i 0 = λ i l. get_or-take n file i 0 (omega arith) in
    let w : (p : ℕ) → p < 14 → get_or (take n file) p 0 + 256 * get_or (take n file) (p + 1) 0 ≡ get_or file p 0 + 256 * get_or file (p + 1) 0 =
    λ p l. ap₂ (λ (a b : ℕ). a + 256 * b) (same p (omega arith)) (same (p + 1) (omega arith)) in
    let heads : (decode (take n file)).head ≡ (decode file).head =
    λ i. head_of (same 4 (omega arith) i) (w 6 (omega arith) i) (w 8 (omega arith) i) (w 10 (omega arith) i) (w 12 (omega arith) i) (same 14 (omega arith) i) in
    omega (arith, part ∙ ap (λ (x : Head). 512 * block_count x) heads ∙ sym whole, size, h)

pub settle : Settle
settle = record {
  accepted = settled_is;
  lines = list_text;
  one_list = before_is;
  refused = printed_refusal;
  cut = cut_is;
  too_long = long_printed;
  enough = λ file. cut_printed file 52_225 (omega arith);
  ascii = printed_ascii;
  reads = number_reads;
  reads_amount = λ h z. amount_reads (cents h z);
  no_leading_zero = leading_zero;
  rounded = rounding;
  no_cent = no_cent_lem;
  minus = λ h z. signed_minus (cents h z);
}
