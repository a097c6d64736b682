-- What `settle` prints for a job file are the amounts owed, in whole cents.
use Rattle.std.specs.Prelude.{◌≡◌, Bool, true, cond, ◌&&◌, List, [], ◌∷◌, ◌++◌, ℕ, zero, suc, ◌+◌}
use Rattle.std.specs.Prelude.{◌-◌, ◌*◌, ◌≤◌, ◌<◌, eqb, leb, ℤ, pos, neg_ℤ, nat_abs, get_or, length, take}
use Rattle.laws.specs.Checks.{any_of}
use Rattle.model.specs.Words.{owner_words, message_count, step_count}
use Rattle.model.specs.Tables.{job_of}
use Rattle.format.specs.File.{decode}
use Rattle.format.specs.Refusals.{file_refusal}
use Rattle.printing.specs.Cents.{Half, half_of, cents, Cents}
use Rattle.printing.specs.Printed.{job_read, decimal, signed_decimal, line, words_name, messages_name, steps_name}
use Rattle.printing.specs.Printed.{settled_text, refused_text, blank_job, printed, ListText}
use Rattle.printing.specs.Accepted.{owed_by_file}

-- The number that digits say.
unfoldable pub value_of : List ℕ → ℕ → ℕ
value_of [] n = n
value_of (d ∷ ds) n = value_of ds (10 * n + (d - 48))

-- The amount that a text says: after a minus sign a negative one.
unfoldable pub amount_of : List ℕ → ℤ
amount_of [] = pos 0
amount_of (c ∷ s) = cond (eqb c 45) (neg_ℤ (pos (value_of s 0))) (pos (value_of (c ∷ s) 0))

-- A byte of what is printed: the end of a line, a space, a minus sign, a digit or a small letter of ASCII.
unfoldable pub is_printed : ℕ → Bool
is_printed c = any_of (eqb c 10 ∷ eqb c 32 ∷ eqb c 45 ∷ (leb 48 c && leb c 57) ∷ (leb 97 c && leb c 122) ∷ [])

-- The lines of before 02 §9, of the first m grocers: number and amount,
unfoldable pub lines_before : Half → ℕ → (ℕ → ℤ) → List ℕ
lines_before h zero owed = []
lines_before h (suc m) owed = lines_before h m owed ++ line (decimal m) (signed_decimal (cents h (owed m)))

-- and a settled job's text of before it.
unfoldable pub text_before : (cycle grocers : ℕ) → (ℕ → ℤ) → (words messages steps : ℕ) → List ℕ
text_before cycle grocers owed words messages steps =
    lines_before (half_of cycle) grocers owed
    ++ line words_name (decimal words) ++ line messages_name (decimal messages) ++ line steps_name (decimal steps)

-- What is printed is what the file says is owed, or its refusal.
pub record Settle : Type 0 where
  -- An accepted file: each grocer's line says, in whole cents by the rule of the file's cycle, what the file says is owed on each price list; then
  -- the words of the owner tables, one for each list, the messages, and 2 × K + 2 × (messages) steps.
  pub accepted : (file : List ℕ) → file_refusal file ≡ 0 →
      printed file
      ≡ settled_text (decode file).head.cycle (decode file).head.lists (decode file).head.grocers (owed_by_file (decode file))
      (owner_words (job_of (job_read file blank_job)) * suc (decode file).head.lists)
      (message_count (job_of (job_read file blank_job)))
      (step_count (job_of (job_read file blank_job)))
  -- What these lines are with one list and with several.
  pub lines : ListText
  -- A file with byte 14 = 0, which those of before have, is printed as before there were several lists.
  pub one_list : (file : List ℕ) → file_refusal file ≡ 0 → get_or file 14 0 ≡ 0 →
      printed file
      ≡ text_before (decode file).head.cycle (decode file).head.grocers (λ g. owed_by_file (decode file) g 0)
      (owner_words (job_of (job_read file blank_job)))
      (message_count (job_of (job_read file blank_job)))
      (step_count (job_of (job_read file blank_job)))
  -- A refused file: its number and nothing else.
  pub refused : (file : List ℕ) → (file_refusal file ≡ 0 → ⊥) → printed file ≡ refused_text (file_refusal file)
  -- Cut short anywhere, an accepted file is refused.
  pub cut : (file : List ℕ) (n : ℕ) → file_refusal file ≡ 0 → n < length file → file_refusal (take n file) ≡ 0 → ⊥
  -- An input that is longer than the longest file, of 52,224 bytes, is refused with 1,
  pub too_long : (file : List ℕ) → 52_224 < length file → printed file ≡ refused_text 1
  -- so that no more than 52,225 bytes of an input need be read.
  pub enough : (file : List ℕ) → printed (take 52_225 file) ≡ printed file
  -- Whatever the file, each byte that is printed is ASCII: the end of a line, a space, a minus sign, a digit or a small letter.
  pub ascii : (file : List ℕ) (p : ℕ) → p < length (printed file) → is_printed (get_or (printed file) p 0) ≡ true
  -- A printed number is the number, and a printed amount the cents of the amount.
  pub reads : (n : ℕ) → value_of (decimal n) 0 ≡ n
  pub reads_amount : (h : Half) (z : ℤ) → amount_of (signed_decimal (cents h z)) ≡ cents h z
  -- Numbers have no leading zeros: one that begins with 0 is 0 itself, and behind a minus sign stands no 0 (`minus`).
  pub no_leading_zero : (n : ℕ) (s : List ℕ) → decimal n ≡ 48 ∷ s → (n ≡ 0) × (s ≡ [])
  -- Which are the nearest, an exact half away from zero or, from cycle 500, to the even cent.
  pub rounded : Cents
  -- There is no `-0`: an amount of less than half a cent is printed as `0`, and behind a minus sign stands a digit from 1 to 9.
  pub no_cent : (h : Half) (z : ℤ) → nat_abs z < 5 → signed_decimal (cents h z) ≡ 48 ∷ []
  pub minus : (h : Half) (z : ℤ) (s : List ℕ) → signed_decimal (cents h z) ≡ 45 ∷ s → (d : ℕ) × (t : List ℕ) × (s ≡ d ∷ t) × (49 ≤ d) × (d ≤ 57)
