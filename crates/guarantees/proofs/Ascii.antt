-- What settle prints is ASCII. Assumes nothing.
use mathlib.Core.Path.{◌≡◌, refl}
use mathlib.Core.Bool.{true, ◌||◌}
use mathlib.Core.List.{List, [], ◌∷◌, ◌++◌}
use Prim.Native.Nat.{ℕ, zero, suc, ◌+◌, ◌/◌, ◌%◌, ◌<◌}
use native.Mathlib.Omega.{arith}
use lib.Dec.{eqb, ltb}
use lib.IntN.{ℤ, pos, negsuc}
use lib.ListN.{get_or, length}
use borrow.Author.Tests.{le-leb, ltb-true}
use Rattle.laws.proofs.Bools.{split, or_true}
use Rattle.model.specs.Run.{RunAnswer, finished, refused}
use Rattle.format.specs.Tables.{ReadAnswer, sizes, refused as not_read, read_result}
use Rattle.printing.specs.Cents.{Half, half_of, cents}
use Rattle.printing.specs.Printed.{digits_of, decimal, signed_decimal, line, amounts_text, grocer_lines, amount_in, words_name, messages_name}
use Rattle.printing.specs.Printed.{steps_name, refused_name, settled_text, refused_text, blank_job, run_text, job_text, read_text, printed}
use Rattle.guarantees.specs.Settle.{is_printed}

-- Every byte of a text is one that is printed, as a tuple.
abbrev Plain : List ℕ → Type 0
Plain [] = Unit
Plain (c ∷ s) = (is_printed c ≡ true) × Plain s

each : (s : List ℕ) → Plain s → (p : ℕ) → p < length s → is_printed (get_or s p 0) ≡ true
each [] h p l = absurd (omega arith)
each (c ∷ s) h zero l = h.0
each (c ∷ s) h (suc p) l = each s h.1 p (omega arith)

both : (s t : List ℕ) → Plain s → Plain t → Plain (s ++ t)
both [] t a b = b
both (c ∷ s) t a b = (a.0, both s t a.1 b)

digit : (n : ℕ) → n < 10 → is_printed (48 + n) ≡ true
unfolding is_printed
digit n l = rw (le-leb 48 (48 + n) (omega arith), le-leb (48 + n) 57 (omega arith), or_true (eqb (48 + n) 10 || eqb (48 + n) 32 || eqb (48 + n) 45))

digits : (k n : ℕ) → Plain (digits_of k n)
unfolding digits_of
digits zero n = tt
digits (suc k) n =
    split (ltb n 10)
    (λ e. rw e (digit n (ltb-true n 10 e), tt))
    (λ e. rw e (both (digits_of k (n / 10)) ((48 + n % 10) ∷ []) (digits k (n / 10)) (digit (n % 10) (omega arith), tt)))

number : (n : ℕ) → Plain (decimal n)
unfolding decimal
number n = digits (suc n) n

amount : (z : ℤ) → Plain (signed_decimal z)
unfolding signed_decimal is_printed
amount (pos n) = number n
amount (negsuc n) = (refl, number (suc n))

lined : (name value : List ℕ) → Plain name → Plain value → Plain (line name value)
unfolding line is_printed
lined name value a b = both (name ++ (32 ∷ value)) (10 ∷ []) (both name (32 ∷ value) a (refl, b)) (refl, tt)

amounts : (h : Half) (l : ℕ) (owed : ℕ → ℤ) → Plain (amounts_text h l owed)
unfolding amounts_text is_printed
amounts h zero owed = amount (cents h (owed 0))
amounts h (suc l) owed = both (amounts_text h l owed) (32 ∷ signed_decimal (cents h (owed (suc l)))) (amounts h l owed) (refl, amount (cents h (owed (suc l))))

grocers : (h : Half) (l m : ℕ) (owed : ℕ → ℕ → ℤ) → Plain (grocer_lines h l m owed)
unfolding grocer_lines
grocers h l zero owed = tt
grocers h l (suc m) owed =
    both (grocer_lines h l m owed) (line (decimal m) (amounts_text h l (owed m))) (grocers h l m owed)
    (lined (decimal m) (amounts_text h l (owed m)) (number m) (amounts h l (owed m)))

-- A settled job,
settled : (cycle l m : ℕ) (owed : ℕ → ℕ → ℤ) (words messages steps : ℕ) → Plain (settled_text cycle l m owed words messages steps)
unfolding settled_text is_printed
settled cycle l m owed words messages steps =
    both (grocer_lines (half_of cycle) l m owed ++ line words_name (decimal words) ++ line messages_name (decimal messages)) (line steps_name (decimal steps))
    (both (grocer_lines (half_of cycle) l m owed ++ line words_name (decimal words)) (line messages_name (decimal messages))
    (both (grocer_lines (half_of cycle) l m owed) (line words_name (decimal words)) (grocers (half_of cycle) l m owed)
    (lined words_name (decimal words) (refl, (refl, (refl, (refl, (refl, tt))))) (number words)))
    (lined messages_name (decimal messages) (refl, (refl, (refl, (refl, (refl, (refl, (refl, (refl, tt)))))))) (number messages)))
    (lined steps_name (decimal steps) (refl, (refl, (refl, (refl, (refl, tt))))) (number steps))

-- and a refusal.
no_job : (n : ℕ) → Plain (refused_text n)
unfolding refused_text is_printed
no_job n = lined refused_name (decimal n) (refl, (refl, (refl, (refl, (refl, (refl, (refl, tt))))))) (number n)

of_run : (cycle l m : ℕ) (a : RunAnswer) (statement : List ℤ) → Plain (run_text cycle l m a statement)
unfolding run_text
of_run cycle l m (finished words messages steps) statement = settled cycle l m (amount_in l statement) words messages steps
of_run cycle l m (refused n) statement = no_job n

of_answer : (file : List ℕ) (a : ReadAnswer) → Plain (read_text file a)
unfolding read_text job_text
of_answer file (sizes head) = of_run _ _ _ _ _
of_answer file (not_read n) = no_job n

pub printed_ascii : (file : List ℕ) (p : ℕ) → p < length (printed file) → is_printed (get_or (printed file) p 0) ≡ true
printed_ascii file = each (printed file) (unfold printed in of_answer file (read_result file blank_job).answer)
