-- The table of ◆ cases holds. Assumes nothing.
use mathlib.Core.Path.{◌≡◌, refl, sym, ap, ap₂, ◌∙◌}
use mathlib.Core.Bool.{true, false}
use mathlib.Core.List.{[], ◌∷◌}
use Prim.Native.Nat.{ℕ, zero, suc, ◌+◌, ◌*◌, ◌<◌, ◌≤◌}
use native.Mathlib.Omega.{arith}
use native.Mathlib.Nat.{mul-le-mul}
use lib.IntN.{ℤ, pos}
use lib.ListN.{get_or}
use Rattle.laws.specs.Below.{naturals, integers, sum, only, any, all, find}
use Rattle.laws.specs.Checks.{first_met}
use Rattle.laws.specs.Tables.{tabulate, word}
use Rattle.model.specs.Job.{Job, plain_sum}
use Rattle.model.specs.Words.{owner_words, message_count, step_count}
use Rattle.recount.specs.Recount.{loose, same_bag, superseded, stands, counted_twice}
use Rattle.model.specs.Tables.{job_of, evening_of}
use Rattle.model.specs.Cases.{job_e}
use Rattle.model.specs.ListCases.{two_lists}
use Rattle.format.specs.Codes.{is_place, is_code, value, code_number, written, drop_zeros, name_of, same_offer}
use Rattle.format.specs.Job.{Head, bad_sizes, bad_offer, bad_owner, bad_tally, bad_price, bad_records, price_on, names, place_of, shared, unnamed, counted_tallies}
use Rattle.format.specs.Blocks.{list_blocks, block_count, first_sum, second_sum}
use Rattle.format.specs.File.{encode, decode}
use Rattle.format.specs.Refusals.{job_refusal, file_refusal}
use Rattle.printing.specs.Cents.{half_of, edge, nearest, cents}
use Rattle.printing.specs.Accepted.{owed_by_file, Holds}
use Rattle.printing.specs.Printed.{job_read, digits_of, decimal, signed_decimal, line, amounts_text, grocer_lines, settled_text, blank_job, printed}
use Rattle.guarantees.specs.Cases.{code, alone, file_e, two_lists_e, two_issuers, recounted, text_e, text_two, Cases}
use Rattle.model.proofs.Step.{range, in_handed}
use Rattle.model.proofs.EveningJob.{one_evening_lem}
use Rattle.model.proofs.Quiet.{no_tallies_words, no_tallies_steps}
use Rattle.format.proofs.Range.{sizes_in}
use Rattle.format.proofs.Same.{place_same}
use Rattle.printing.proofs.OneJob.{holds_same, one_job_lem, same_evening}
use Rattle.format.proofs.Write.{written_accepted, read_back}
use Rattle.guarantees.proofs.Settle.{given, text_cong, settle}
use Rattle.model.proofs.Cases as Settlement
use Rattle.model.proofs.PriceLists.{same_steps_lem}
use Rattle.model.proofs.Edges.{edges}

-- ---- codes and sums

zeros : code_number (code (48 ∷ 48 ∷ 48 ∷ [])) ≡ 0
unfolding code_number value
zeros = refl

zeros_dropped : drop_zeros (written (code (48 ∷ 48 ∷ 48 ∷ []))) ≡ 48 ∷ []
unfolding drop_zeros written tabulate
zeros_dropped = refl

agree : same_offer (name_of 0 (code (48 ∷ 52 ∷ 49 ∷ 50 ∷ []))) (name_of 0 (code (52 ∷ 49 ∷ 50 ∷ []))) ≡ true
unfolding same_offer code_number value
agree = refl

apart : same_offer (name_of 0 (code (52 ∷ 49 ∷ 50 ∷ 48 ∷ []))) (name_of 0 (code (52 ∷ 49 ∷ 50 ∷ []))) ≡ false
unfolding same_offer code_number value
apart = refl

issuers_apart : same_offer (name_of 0 (code (52 ∷ 49 ∷ 50 ∷ []))) (name_of 1 (code (52 ∷ 49 ∷ 50 ∷ []))) ≡ false
unfolding same_offer code_number value
issuers_apart = refl

issuers_agree : same_offer (name_of 1 (code (48 ∷ 52 ∷ 49 ∷ 50 ∷ []))) (name_of 1 (code (52 ∷ 49 ∷ 50 ∷ []))) ≡ true
unfolding same_offer code_number value
issuers_agree = refl

-- ---- 5521 of two issuers

two_written : job_refusal (two_issuers 1 2 2) ≡ 0
unfolding two_issuers job_refusal first_met bad_sizes bad_records bad_offer bad_owner bad_tally bad_price is_code is_place names shared unnamed place_of counted_tallies counted_twice loose same_bag same_offer code_number value find any all
two_written = refl

two_owed_0 : owed_by_file (two_issuers 1 2 2) 0 0 ≡ pos 300
unfolding two_issuers owed_by_file price_on place_of counted_tallies stands superseded loose same_bag names same_offer code_number value find any sum only integers
two_owed_0 = refl

two_owed_1 : owed_by_file (two_issuers 1 2 2) 1 0 ≡ pos 700
unfolding two_issuers owed_by_file price_on place_of counted_tallies stands superseded loose same_bag names same_offer code_number value find any sum only integers
two_owed_1 = refl

two_unknown : job_refusal (two_issuers 1 2 3) ≡ 8
unfolding two_issuers job_refusal first_met bad_sizes bad_records bad_offer bad_owner bad_tally bad_price is_code is_place names shared unnamed place_of counted_tallies counted_twice loose same_bag same_offer code_number value find any all
two_unknown = refl

two_shared : job_refusal (two_issuers 2 2 2) ≡ 7
unfolding two_issuers job_refusal first_met bad_sizes bad_records bad_offer bad_owner bad_tally bad_price is_code is_place names shared unnamed place_of counted_tallies counted_twice loose same_bag same_offer code_number value find any all
two_shared = refl

-- ---- a bag counted twice

recount-written : job_refusal (recounted 0 1) ≡ 0
unfolding recounted job_refusal first_met bad_sizes bad_records bad_offer bad_owner bad_tally bad_price is_code is_place names shared unnamed place_of counted_tallies counted_twice loose same_bag same_offer code_number value find any all
recount-written = refl

recount_owed : owed_by_file (recounted 0 1) 0 0 ≡ pos 40
unfolding recounted owed_by_file price_on place_of counted_tallies stands superseded loose same_bag names same_offer code_number value find any sum only integers
recount_owed = refl

recount_owed_first : owed_by_file (recounted 9 3) 0 0 ≡ pos 50
unfolding recounted owed_by_file price_on place_of counted_tallies stands superseded loose same_bag names same_offer code_number value find any sum only integers
recount_owed_first = refl

recount_twice : job_refusal (recounted 3 3) ≡ 9
unfolding recounted job_refusal first_met bad_sizes bad_records bad_offer bad_owner bad_tally bad_price is_code is_place names shared unnamed place_of counted_tallies counted_twice loose same_bag same_offer code_number value find any all
recount_twice = refl

ten_digits : is_code (code (48 ∷ 49 ∷ 50 ∷ 51 ∷ 52 ∷ 53 ∷ 54 ∷ 55 ∷ 56 ∷ 57 ∷ [])) ≡ true
unfolding is_code is_place all
ten_digits = refl

no_digits : is_code (code []) ≡ false
unfolding is_code is_place all
no_digits = refl

eleven_digits : is_code (code (48 ∷ 49 ∷ 50 ∷ 51 ∷ 52 ∷ 53 ∷ 54 ∷ 55 ∷ 56 ∷ 57 ∷ 48 ∷ [])) ≡ false
unfolding is_code is_place all
eleven_digits = refl

byte_0_first : first_sum (alone 0) ≡ 255
unfolding first_sum sum naturals
byte_0_first = refl

byte_0_second : second_sum (alone 0) ≡ 64_019
unfolding second_sum sum naturals
byte_0_second = refl

byte_507_first : first_sum (alone 507) ≡ 255
unfolding first_sum sum naturals
byte_507_first = refl

byte_507_second : second_sum (alone 507) ≡ 255
unfolding second_sum sum naturals
byte_507_second = refl

-- ---- E

-- The writer takes E's job, and so its file is accepted.
pub e_written : job_refusal file_e ≡ 0
unfolding file_e job_refusal first_met bad_sizes bad_records bad_offer bad_owner bad_tally bad_price is_code is_place names shared unnamed place_of counted_tallies counted_twice loose same_bag same_offer code_number value find any all
e_written = refl

pub e_accepted : file_refusal (encode file_e) ≡ 0
e_accepted = written_accepted file_e e_written

e_owed_0 : owed_by_file file_e 0 0 ≡ pos 2250
unfolding file_e owed_by_file price_on place_of counted_tallies stands superseded loose same_bag names same_offer code_number value find any sum only integers
e_owed_0 = refl

e_owed_1 : owed_by_file file_e 1 0 ≡ pos 2500
unfolding file_e owed_by_file price_on place_of counted_tallies stands superseded loose same_bag names same_offer code_number value find any sum only integers
e_owed_1 = refl

-- Two numbers are below 2, four below 4.
below_2 : (P : ℕ → Type 0) → P 0 → P 1 → (i : ℕ) → i < 2 → P i
below_2 P a b zero l = a
below_2 P a b (suc zero) l = b
below_2 P a b (suc (suc i)) l = absurd (omega arith)

below_4 : (P : ℕ → Type 0) → P 0 → P 1 → P 2 → P 3 → (i : ℕ) → i < 4 → P i
below_4 P a b c d zero l = a
below_4 P a b c d (suc zero) l = b
below_4 P a b c d (suc (suc zero)) l = c
below_4 P a b c d (suc (suc (suc zero))) l = d
below_4 P a b c d (suc (suc (suc (suc i)))) l = absurd (omega arith)

e_tables : Holds file_e job_e
unfolding file_e job_of word place_of names same_offer code_number value find any tabulate
e_tables = record {
  boxes = refl;
  grocers = refl;
  offers = refl;
  tallies = refl;
  lists = refl;
  list_price = λ q o l. absurd (omega (arith, l));
  price = below_2 (λ o. (job_of job_e).price o ≡ (file_e.offer o).price) refl refl;
  offer_owner = below_2 (λ o. (job_of job_e).offer_owner o ≡ (file_e.offer o).owner) refl refl;
  grocer_owner = below_2 (λ g. (job_of job_e).grocer_owner g ≡ file_e.grocer_owner g) refl refl;
  tally_grocer = below_4 (λ t. (job_of job_e).tally_grocer t ≡ (file_e.tally t).grocer) refl refl refl refl;
  tally_box = below_4 (λ t. get_or job_e.tally_box t 0 ≡ (file_e.tally t).box) refl refl refl refl;
  tally_bag = below_4 (λ t. get_or job_e.tally_bag t 0 ≡ (file_e.tally t).bag) refl refl refl refl;
  tally_revision = below_4 (λ t. get_or job_e.tally_revision t 0 ≡ (file_e.tally t).revision) refl refl refl refl;
  tally_count = below_4 (λ t. (job_of job_e).tally_count t ≡ (file_e.tally t).count) refl refl refl refl;
  tally_offer = below_4 (λ t. (job_of job_e).tally_offer t ≡ place_of file_e t) refl refl refl refl;
}

-- ---- what `settle` prints for E

-- The numbers that E's file says.
e_head : (decode (encode file_e)).head ≡ file_e.head
e_head = (read_back file_e e_written).head

-- The job that the reader leaves of E's file is E.
e_holds : Holds file_e (job_read (encode file_e) blank_job)
e_holds =
    let back = read_back file_e e_written in
    holds_same (decode (encode file_e)) file_e back (place_same (decode (encode file_e)) file_e back e_written) (job_read (encode file_e) blank_job) (given (encode file_e) e_accepted).holds

e_same : job_of (job_read (encode file_e) blank_job) ≡ job_of job_e
e_same = one_job_lem file_e (job_read (encode file_e) blank_job) job_e e_holds e_tables

e_evening : evening_of (job_read (encode file_e) blank_job) ≡ job_of job_e
e_evening = same_evening file_e (job_read (encode file_e) blank_job) job_e e_holds e_tables ∙ one_evening_lem job_e refl

e_amount : (g q : ℕ) → q < 1 → owed_by_file (decode (encode file_e)) g q ≡ plain_sum (job_of job_e) g
unfolding file_e
e_amount g q h =
    let L : (decode (encode file_e)).head.lists ≡ 0 = ap (λ (x : Head). x.lists) e_head in
    sym ((given (encode file_e) e_accepted).sums g q (omega (arith, h)))
    ∙ ap₂ (λ (j : Job) (n : ℕ). plain_sum j n) e_evening (ap (λ (l : ℕ). g * suc l + q) L ∙ omega (arith, h))

e_text : settled_text 0 0 2 (λ g q. plain_sum (job_of job_e) g) 3 3 10 ≡ text_e
unfolding settled_text grocer_lines amounts_text line decimal digits_of signed_decimal half_of cents nearest edge only naturals
e_text = rw ((Settlement.cases).e_amount_0, (Settlement.cases).e_amount_1)

-- The same numbers, amounts, words, messages and steps are the same text.
text_same : {y y' l l' m m' w w' c c' n n' : ℕ} (f : ℕ → ℕ → ℤ) → y ≡ y' → l ≡ l' → m ≡ m' → w ≡ w' → c ≡ c' → n ≡ n' → settled_text y l m f w c n ≡ settled_text y' l' m' f w' c' n'
text_same f x k a c d e = λ i. settled_text (x i) (k i) (a i) f (c i) (d i) (e i)

e_printed : printed (encode file_e) ≡ text_e
unfolding file_e
e_printed =
    settle.accepted (encode file_e) e_accepted
    ∙ text_same (owed_by_file (decode (encode file_e))) (ap (λ (h : Head). h.cycle) e_head) (ap (λ (h : Head). h.lists) e_head) (ap (λ (h : Head). h.grocers) e_head)
    (ap₂ (λ (j : Job) (h : Head). owner_words j * suc h.lists) e_same e_head ∙ ap (λ (w : ℕ). w * 1) (Settlement.cases).e_words)
    (ap message_count e_same ∙ (Settlement.cases).e_messages) (ap step_count e_same ∙ (Settlement.cases).e_steps)
    ∙ text_cong 0 0 2 (owed_by_file (decode (encode file_e))) (λ g q. plain_sum (job_of job_e) g) 3 3 10 (λ g q h. e_amount g q)
    ∙ e_text

-- ---- E with an additional list

lists_written : job_refusal two_lists_e ≡ 0
unfolding two_lists_e job_refusal first_met bad_sizes bad_records bad_offer bad_owner bad_tally bad_price is_code is_place names shared unnamed place_of counted_tallies counted_twice loose same_bag same_offer code_number value find any all
lists_written = refl

lists_accepted : file_refusal (encode two_lists_e) ≡ 0
lists_accepted = written_accepted two_lists_e lists_written

lists_owed_0 : (owed_by_file two_lists_e 0 0 ≡ pos 2250) × (owed_by_file two_lists_e 0 1 ≡ pos 500)
unfolding two_lists_e owed_by_file price_on place_of counted_tallies stands superseded loose same_bag names same_offer code_number value find any sum only integers
lists_owed_0 = (refl, refl)

lists_owed_1 : (owed_by_file two_lists_e 1 0 ≡ pos 2500) × (owed_by_file two_lists_e 1 1 ≡ pos 400)
unfolding two_lists_e owed_by_file price_on place_of counted_tallies stands superseded loose same_bag names same_offer code_number value find any sum only integers
lists_owed_1 = (refl, refl)

-- One number is below 1.
only_one : (P : ℕ → Type 0) → P 0 → (q : ℕ) → q < 1 → P q
only_one P a zero l = a
only_one P a (suc q) l = absurd (omega arith)

lists_tables : Holds two_lists_e two_lists
unfolding two_lists_e job_of word place_of names same_offer code_number value find any tabulate
lists_tables = record {
  boxes = refl;
  grocers = refl;
  offers = refl;
  tallies = refl;
  lists = refl;
  list_price = λ q o l m. only_one (λ q. get_or two_lists.price (suc q * 2 + o) 0 ≡ two_lists_e.list_price q o)
      (below_2 (λ o. get_or two_lists.price (1 * 2 + o) 0 ≡ two_lists_e.list_price 0 o) refl refl o m) q l;
  price = below_2 (λ o. (job_of two_lists).price o ≡ (two_lists_e.offer o).price) refl refl;
  offer_owner = below_2 (λ o. (job_of two_lists).offer_owner o ≡ (two_lists_e.offer o).owner) refl refl;
  grocer_owner = below_2 (λ g. (job_of two_lists).grocer_owner g ≡ two_lists_e.grocer_owner g) refl refl;
  tally_grocer = below_4 (λ t. (job_of two_lists).tally_grocer t ≡ (two_lists_e.tally t).grocer) refl refl refl refl;
  tally_box = below_4 (λ t. get_or two_lists.tally_box t 0 ≡ (two_lists_e.tally t).box) refl refl refl refl;
  tally_bag = below_4 (λ t. get_or two_lists.tally_bag t 0 ≡ (two_lists_e.tally t).bag) refl refl refl refl;
  tally_revision = below_4 (λ t. get_or two_lists.tally_revision t 0 ≡ (two_lists_e.tally t).revision) refl refl refl refl;
  tally_count = below_4 (λ t. (job_of two_lists).tally_count t ≡ (two_lists_e.tally t).count) refl refl refl refl;
  tally_offer = below_4 (λ t. (job_of two_lists).tally_offer t ≡ place_of two_lists_e t) refl refl refl refl;
}

lists_head : (decode (encode two_lists_e)).head ≡ two_lists_e.head
lists_head = (read_back two_lists_e lists_written).head

lists_holds : Holds two_lists_e (job_read (encode two_lists_e) blank_job)
lists_holds =
    let back = read_back two_lists_e lists_written in
    holds_same (decode (encode two_lists_e)) two_lists_e back (place_same (decode (encode two_lists_e)) two_lists_e back lists_written) (job_read (encode two_lists_e) blank_job)
    (given (encode two_lists_e) lists_accepted).holds

lists_same : job_of (job_read (encode two_lists_e) blank_job) ≡ job_of two_lists
lists_same = one_job_lem two_lists_e (job_read (encode two_lists_e) blank_job) two_lists lists_holds lists_tables

lists_evening : evening_of (job_read (encode two_lists_e) blank_job) ≡ evening_of two_lists
lists_evening = same_evening two_lists_e (job_read (encode two_lists_e) blank_job) two_lists lists_holds lists_tables

lists_amount : (g q : ℕ) → q < 2 → owed_by_file (decode (encode two_lists_e)) g q ≡ plain_sum (evening_of two_lists) (g * 2 + q)
unfolding two_lists_e
lists_amount g q h =
    let L : (decode (encode two_lists_e)).head.lists ≡ 1 = ap (λ (x : Head). x.lists) lists_head in
    sym ((given (encode two_lists_e) lists_accepted).sums g q (omega (arith, h, L)))
    ∙ ap₂ (λ (j : Job) (n : ℕ). plain_sum j n) lists_evening (ap (λ (l : ℕ). g * suc l + q) L)

-- The four amounts, grocer by grocer.
sum_0 : plain_sum (evening_of two_lists) 0 ≡ pos 2250
unfolding Settlement.computed
sum_0 = refl

sum_2 : plain_sum (evening_of two_lists) 2 ≡ pos 2500
unfolding Settlement.computed
sum_2 = refl

sum_3 : plain_sum (evening_of two_lists) 3 ≡ pos 400
unfolding Settlement.computed
sum_3 = refl

lists_text : settled_text 0 1 2 (λ g q. plain_sum (evening_of two_lists) (g * 2 + q)) 6 3 10 ≡ text_two
unfolding settled_text grocer_lines amounts_text line decimal digits_of signed_decimal half_of cents nearest edge only naturals
lists_text = rw (sum_0, (Settlement.list_examples).second_sum_lem, sum_2, sum_3)

lists_printed : printed (encode two_lists_e) ≡ text_two
unfolding two_lists_e
lists_printed =
    settle.accepted (encode two_lists_e) lists_accepted
    ∙ text_same (owed_by_file (decode (encode two_lists_e)))
    (ap (λ (h : Head). h.cycle) lists_head) (ap (λ (h : Head). h.lists) lists_head) (ap (λ (h : Head). h.grocers) lists_head)
    (ap₂ (λ (j : Job) (h : Head). owner_words j * suc h.lists) lists_same lists_head ∙ ap (λ (w : ℕ). w * 2) (Settlement.list_examples).entries)
    (ap message_count lists_same ∙ sym (same_steps_lem two_lists).messages ∙ (Settlement.list_examples).messages)
    (ap step_count lists_same ∙ sym (same_steps_lem two_lists).steps ∙ (Settlement.list_examples).steps)
    ∙ text_cong 0 1 2 (owed_by_file (decode (encode two_lists_e))) (λ g q. plain_sum (evening_of two_lists) (g * 2 + q)) 6 3 10 (λ g q h. lists_amount g q)
    ∙ lists_text

-- No job in range has a longer file: four blocks of prices a list, seven lists.
no_longer : (h : Head) → bad_sizes h ≡ false → block_count h ≤ 102
no_longer h ok =
    let s = sizes_in h ok in
    let few : list_blocks h.offers ≤ 4 = omega arith in
    omega (arith, mul-le-mul {n₂ = 7} {m₂ = 4} s.lists_most few)

pub cases : Cases
unfolding job_of
cases = record {
  zeros = zeros;
  zeros_dropped = zeros_dropped;
  agree = agree;
  apart = apart;
  issuers_apart = issuers_apart;
  issuers_agree = issuers_agree;
  two_accepted = written_accepted (two_issuers 1 2 2) two_written;
  two_owed_0 = two_owed_0;
  two_owed_1 = two_owed_1;
  two_unknown = two_unknown;
  two_shared = two_shared;
  recount_accepted = written_accepted (recounted 0 1) recount-written;
  recount_owed = recount_owed;
  recount_owed_first = recount_owed_first;
  recount_twice = recount_twice;
  ten_digits = ten_digits;
  no_digits = no_digits;
  eleven_digits = eleven_digits;
  e_accepted = e_accepted;
  e_owed_0 = e_owed_0;
  e_owed_1 = e_owed_1;
  e_tables = e_tables;
  e_printed = e_printed;
  lists_accepted = lists_accepted;
  lists_owed_0 = lists_owed_0;
  lists_owed_1 = lists_owed_1;
  lists_printed = lists_printed;
  lists = Settlement.list_examples;
  settlement = Settlement.cases;
  edges = edges;
  quiet = λ f ok none. (no_tallies_words (job_of f) (range f (in_handed f ok)) none, no_tallies_steps (job_of f) (range f (in_handed f ok)) none);
  byte_0_first = byte_0_first;
  byte_0_second = byte_0_second;
  byte_507_first = byte_507_first;
  byte_507_second = byte_507_second;
  longest = refl;
  no_longer = no_longer;
}
