-- What `settle` prints for a job file, byte for byte.
use Rattle.std.specs.Prelude.{◌≡◌, cond, List, [], ◌∷◌, ◌++◌, ℕ, zero, suc, ◌+◌, ◌*◌, ◌/◌, ◌%◌, ltb, ℤ, pos, negsuc, get_or, replicate}
use Rattle.model.specs.Tables.{JobTables, bag_tables, StateTables, state_tables}
use Rattle.model.specs.Run.{RunAnswer, finished, refused, ran}
use Rattle.format.specs.File.{decode}
use Rattle.printing.specs.Cents.{Half, away, even, half_of, cents}
use Rattle.format.specs.Tables.{ReadAnswer, sizes, refused as not_read, ReaderTables, offer_tables, tally_tables, file_tables, reader_tables, read_result}

-- The job's tables after the reader has read a file into the tables l: K, M, N, T and the number of additional lists as it answers them, the
-- words it stored, bags and revisions among them, and the places it found; no digits and no issuers.
unfoldable pub job_read : List ℕ → ReaderTables → JobTables
job_read file l =
    let h = (decode file).head in
    let r = (read_result file l).tables in
    let o = r.job.offers in
    let t = r.job.tallies in
    bag_tables h.boxes h.grocers h.offers h.tallies h.lists o.price o.owner r.job.grocer_owner
    t.grocer t.box r.tally_offer t.count t.bag t.revision

-- The last k decimal digits of n in ASCII; all of them, without leading zeros, where k are enough.
unfoldable pub digits_of : ℕ → ℕ → List ℕ
digits_of zero n = []
digits_of (suc k) n = cond (ltb n 10) ((48 + n) ∷ []) (digits_of k (n / 10) ++ ((48 + n % 10) ∷ []))

-- A number in decimal: n + 1 digits are enough for n.
unfoldable pub decimal : ℕ → List ℕ
decimal n = digits_of (suc n) n

-- A whole number: negative ones with a minus sign.
unfoldable pub signed_decimal : ℤ → List ℕ
signed_decimal (pos n) = decimal n
signed_decimal (negsuc n) = 45 ∷ decimal (suc n)

-- A line: a name, a space, a value and the end of the line.
unfoldable pub line : List ℕ → List ℕ → List ℕ
line name value = name ++ (32 ∷ value) ++ (10 ∷ [])

-- A grocer's amounts in whole cents, an exact half by the rule h: that of the first price list, and those of the additional lists "after the first
-- on the grocer's line, a space before each" (02 §9). `amount q` is that of list q, in tenths.
unfoldable pub amounts_text : Half → (lists : ℕ) → (ℕ → ℤ) → List ℕ
amounts_text h zero amount = signed_decimal (cents h (amount 0))
amounts_text h (suc l) amount = amounts_text h l amount ++ (32 ∷ signed_decimal (cents h (amount (suc l))))

-- The lines of the first m grocers: number and amounts; `amount g q` is that of grocer g on list q.
unfoldable pub grocer_lines : Half → (lists m : ℕ) → (ℕ → ℕ → ℤ) → List ℕ
grocer_lines h lists zero amount = []
grocer_lines h lists (suc m) amount = grocer_lines h lists m amount ++ line (decimal m) (amounts_text h lists (amount m))

-- The words of the output, in ASCII: "words",
abbrev pub words_name : List ℕ
words_name = 119 ∷ 111 ∷ 114 ∷ 100 ∷ 115 ∷ []

-- "messages",
abbrev pub messages_name : List ℕ
messages_name = 109 ∷ 101 ∷ 115 ∷ 115 ∷ 97 ∷ 103 ∷ 101 ∷ 115 ∷ []

-- "steps",
abbrev pub steps_name : List ℕ
steps_name = 115 ∷ 116 ∷ 101 ∷ 112 ∷ 115 ∷ []

-- "refused".
abbrev pub refused_name : List ℕ
refused_name = 114 ∷ 101 ∷ 102 ∷ 117 ∷ 115 ∷ 101 ∷ 100 ∷ []

-- A settled job: the grocers' lines, by the rule of its cycle, then the words and messages sent and the steps accepted.
unfoldable pub settled_text : (cycle lists grocers : ℕ) → (amount : ℕ → ℕ → ℤ) → (words messages steps : ℕ) → List ℕ
settled_text cycle lists grocers amount words messages steps =
    grocer_lines (half_of cycle) lists grocers amount
    ++ line words_name (decimal words) ++ line messages_name (decimal messages) ++ line steps_name (decimal steps)

-- "one line of `refused`, a space and the number".
unfoldable pub refused_text : ℕ → List ℕ
refused_text n = line refused_name (decimal n)

-- The buffers that settle lends the reader, as long as the largest job needs,
unfoldable pub blank_job : ReaderTables
blank_job =
    reader_tables
    (file_tables
    (offer_tables (replicate 4_000 0) (replicate 500 0) (replicate 5_500 0) (replicate 500 0))
    (replicate 255 0)
    (tally_tables (replicate 1_000 0) (replicate 1_000 0) (replicate 11_000 0) (replicate 1_000 (pos 0)) (replicate 1_000 0) (replicate 1_000 0)
    (replicate 1_000 0)))
    (replicate 1_000 0)

-- and the run.
unfoldable pub blank_state : StateTables
blank_state =
    state_tables (replicate 64_000 0) (replicate 64_000 0) (replicate 10_040 (pos 0)) (replicate 10_040 (pos 0))
    (replicate 2_040 (pos 0)) (replicate 1_536 0) (replicate 1 0)

-- The amount of grocer g on list q in a table of statements, a grocer's lists side by side.
unfoldable pub amount_in : (lists : ℕ) → List ℤ → ℕ → ℕ → ℤ
amount_in lists statement g q = get_or statement (g * suc lists + q) (pos 0)

-- What is printed of a run, by its cycle, its additional price lists and grocers, its answer and the statements it leaves.
unfoldable pub run_text : (cycle lists grocers : ℕ) → RunAnswer → List ℤ → List ℕ
run_text cycle lists grocers (finished words messages steps) statement =
    settled_text cycle lists grocers (amount_in lists statement) words messages steps
run_text cycle lists grocers (refused number) statement = refused_text number

-- What is printed of a job and its cycle: the run with no choices, lent no buffer for the places of its steps.
unfoldable pub job_text : ℕ → JobTables → List ℕ
job_text cycle f = let o = ran f blank_state [] [] in run_text cycle f.lists f.grocers o.answer o.tables.statement

-- What is printed once a file is read.
unfoldable pub read_text : List ℕ → ReadAnswer → List ℕ
read_text file (sizes head) = job_text head.cycle (job_read file blank_job)
read_text file (not_read number) = refused_text number

-- What `settle` prints: it "reads a job file from standard input, runs it with no choices and prints".
unfoldable pub printed : List ℕ → List ℕ
printed file = read_text file (read_result file blank_job).answer

-- What the grocers' lines come to with one price list and with several.
pub record ListText : Type 0 where
  -- Without additional lists a line is as before there were any: the grocer's number and its amount, which is its word of the statements.
  pub first : (h : Half) (m : ℕ) (amount : ℕ → ℕ → ℤ) →
      grocer_lines h 0 (suc m) amount ≡ grocer_lines h 0 m amount ++ line (decimal m) (signed_decimal (cents h (amount m 0)))
  pub word : (statement : List ℤ) (g : ℕ) → amount_in 0 statement g 0 ≡ get_or statement g (pos 0)
  -- Two lists, 2,250 and 500 tenths for grocer 0, 2,500 and 400 for grocer 1: the lines "0 225 50" and "1 250 40".
  pub two : grocer_lines away 1 2 (amount_in 1 (pos 2_250 ∷ pos 500 ∷ pos 2_500 ∷ pos 400 ∷ []))
      ≡ 48 ∷ 32 ∷ 50 ∷ 50 ∷ 53 ∷ 32 ∷ 53 ∷ 48 ∷ 10 ∷ 49 ∷ 32 ∷ 50 ∷ 53 ∷ 48 ∷ 32 ∷ 52 ∷ 48 ∷ 10 ∷ []
  -- Each amount by the rule of the cycle: 25, −4 and −25 tenths are "3 0 -3" by the old rule and "2 0 -2" by the new one.
  pub old : amounts_text away 2 (amount_in 2 (pos 25 ∷ negsuc 3 ∷ negsuc 24 ∷ []) 0) ≡ 51 ∷ 32 ∷ 48 ∷ 32 ∷ 45 ∷ 51 ∷ []
  pub new : amounts_text even 2 (amount_in 2 (pos 25 ∷ negsuc 3 ∷ negsuc 24 ∷ []) 0) ≡ 50 ∷ 32 ∷ 48 ∷ 32 ∷ 45 ∷ 50 ∷ []
