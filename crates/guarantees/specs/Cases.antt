-- The whole table of ◆ cases, in 01's order, and the cases of names with issuers (02 §2).
use Rattle.std.specs.Prelude.{◌≡◌, List, [], ◌∷◌, true, false, cond, ℕ, ◌*◌, ◌≤◌, eqb, get_or, length, pos, negsuc}
use Rattle.model.specs.Words.{owner_words, step_count}
use Rattle.model.specs.Tables.{JobTables, job_of}
use Rattle.model.specs.Ranges.{job_in_range}
use Rattle.format.specs.Codes.{Code, is_code, code_number, written, drop_zeros, name_of, same_offer}
use Rattle.format.specs.Job.{Head, head_of, FileJob, Offer, Tally, bad_sizes}
use Rattle.format.specs.Refusals.{job_refusal, file_refusal}
use Rattle.format.specs.Blocks.{block_count, first_sum, second_sum}
use Rattle.format.specs.File.{encode}
use Rattle.format.specs.Tables.{largest}
use Rattle.printing.specs.Accepted.{owed_by_file, Holds}
use Rattle.printing.specs.Printed.{printed}
use Rattle.model.specs.Cases as Settlement
use Rattle.model.specs.Edges.{Edges}
use Rattle.model.specs.ListCases.{ListExamples}

-- A code by its digits.
abbrev pub code : List ℕ → Code
code l = record { size = length l; digit = λ k. get_or l k 0 }

-- Of a block's bytes the one at place p alone is 255.
abbrev pub alone : ℕ → ℕ → ℕ
alone p q = cond (eqb q p) 255 0

-- E's offers: "00412" 500 owner 0, "77" 1250 owner 1, both of issuer 0.
abbrev pub offers_e : List Offer
offers_e =
    record { price = 500; owner = 0; code = code (48 ∷ 48 ∷ 52 ∷ 49 ∷ 50 ∷ []); issuer = 0 } ∷
    record { price = 1250; owner = 1; code = code (55 ∷ 55 ∷ []); issuer = 0 } ∷ []

-- Its tallies (grocer, box, code, count): (0,0,"412",3) (1,0,"077",2) (0,1,"77",−1) (0,1,"0412",4).
abbrev pub tallies_e : List Tally
tallies_e =
    record { grocer = 0; box = 0; code = code (52 ∷ 49 ∷ 50 ∷ []); count = pos 3; issuer = 0; bag = 0; revision = 0 } ∷
    record { grocer = 1; box = 0; code = code (48 ∷ 55 ∷ 55 ∷ []); count = pos 2; issuer = 0; bag = 0; revision = 0 } ∷
    record { grocer = 0; box = 1; code = code (55 ∷ 55 ∷ []); count = negsuc 0; issuer = 0; bag = 0; revision = 0 } ∷
    record { grocer = 0; box = 1; code = code (48 ∷ 52 ∷ 49 ∷ 50 ∷ []); count = pos 4; issuer = 0; bag = 0; revision = 0 } ∷ []

-- E as its file says it, with a number of additional price lists and their prices: K 2, grocer owners 1, 0, cycle 0.
abbrev pub listed_file_e : (lists : ℕ) → (ℕ → ℕ → ℕ) → FileJob
listed_file_e lists prices =
    record {
      head = head_of 2 2 2 4 0 lists;
      offer = λ i. get_or offers_e i (record { price = 0; owner = 0; code = code []; issuer = 0 });
      grocer_owner = λ i. get_or (1 ∷ 0 ∷ []) i 0;
      list_price = prices;
      tally = λ i. get_or tallies_e i (record { grocer = 0; box = 0; code = code []; count = pos 0; issuer = 0; bag = 0; revision = 0 });
    }

-- E with one price list,
unfoldable pub file_e : FileJob
file_e = listed_file_e 0 (λ q i. 0)

-- and with an additional one (02 §9): 100 for offer 0, 200 for offer 1.
unfoldable pub two_lists_e : FileJob
two_lists_e = listed_file_e 1 (λ q i. get_or (100 ∷ 200 ∷ []) i 0)

-- "A dairy and a soap maker both printed offer 5521": an offer 5521 of this issuer, at this price.
abbrev pub offer5521 : (issuer price : ℕ) → Offer
offer5521 s p = record { price = p; owner = 0; code = code (53 ∷ 53 ∷ 50 ∷ 49 ∷ []); issuer = s }

-- This grocer hands in one coupon of offer 5521 of this issuer.
abbrev pub tally5521 : (grocer issuer : ℕ) → Tally
tally5521 g s = record { grocer = g; box = 0; code = code (53 ∷ 53 ∷ 50 ∷ 49 ∷ []); count = pos 1; issuer = s; bag = 0; revision = 0 }

-- K 1, two grocers; two offers 5521, of these issuers, at 300 and 700; grocer 0 hands in a coupon of the first, grocer 1 one of the second.
unfoldable pub two_issuers : (first second tallied : ℕ) → FileJob
two_issuers a b c =
    record {
      head = head_of 1 2 2 2 0 0;
      offer = λ i. get_or (offer5521 a 300 ∷ offer5521 b 700 ∷ []) i (offer5521 0 0);
      grocer_owner = λ i. 0;
      list_price = λ q i. 0;
      tally = λ i. get_or (tally5521 0 a ∷ tally5521 1 c ∷ []) i (tally5521 0 0);
    }

-- Grocer 0's bag 7 of offer "412", whose price is 10, counted by box 0 to 5 coupons and by box 1 to 4, as these revisions. Offer and grocer are box 1's.
unfoldable pub recounted : (first second : ℕ) → FileJob
recounted a b =
    record {
      head = head_of 2 1 1 2 0 0;
      offer = λ i. record { price = 10; owner = 1; code = code (52 ∷ 49 ∷ 50 ∷ []); issuer = 0 };
      grocer_owner = λ i. 1;
      list_price = λ q i. 0;
      tally = λ i. get_or (
          record { grocer = 0; box = 0; code = code (52 ∷ 49 ∷ 50 ∷ []); count = pos 5; issuer = 0; bag = 7; revision = a } ∷
          record { grocer = 0; box = 1; code = code (48 ∷ 52 ∷ 49 ∷ 50 ∷ []); count = pos 4; issuer = 0; bag = 7; revision = b } ∷ []) i
          (record { grocer = 0; box = 0; code = code []; count = pos 0; issuer = 0; bag = 0; revision = 0 });
    }

-- What is printed for E, a line each: "0 225", "1 250", "words 3", "messages 3", "steps 10".
abbrev pub text_e : List ℕ
text_e =
    48 ∷ 32 ∷ 50 ∷ 50 ∷ 53 ∷ 10
    ∷ 49 ∷ 32 ∷ 50 ∷ 53 ∷ 48 ∷ 10
    ∷ 119 ∷ 111 ∷ 114 ∷ 100 ∷ 115 ∷ 32 ∷ 51 ∷ 10
    ∷ 109 ∷ 101 ∷ 115 ∷ 115 ∷ 97 ∷ 103 ∷ 101 ∷ 115 ∷ 32 ∷ 51 ∷ 10
    ∷ 115 ∷ 116 ∷ 101 ∷ 112 ∷ 115 ∷ 32 ∷ 49 ∷ 48 ∷ 10 ∷ []

-- What is printed for E with the additional list: "0 225 50", "1 250 40", "words 6", "messages 3", "steps 10".
abbrev pub text_two : List ℕ
text_two =
    48 ∷ 32 ∷ 50 ∷ 50 ∷ 53 ∷ 32 ∷ 53 ∷ 48 ∷ 10
    ∷ 49 ∷ 32 ∷ 50 ∷ 53 ∷ 48 ∷ 32 ∷ 52 ∷ 48 ∷ 10
    ∷ 119 ∷ 111 ∷ 114 ∷ 100 ∷ 115 ∷ 32 ∷ 54 ∷ 10
    ∷ 109 ∷ 101 ∷ 115 ∷ 115 ∷ 97 ∷ 103 ∷ 101 ∷ 115 ∷ 32 ∷ 51 ∷ 10
    ∷ 115 ∷ 116 ∷ 101 ∷ 112 ∷ 115 ∷ 32 ∷ 49 ∷ 48 ∷ 10 ∷ []

-- The table.
pub record Cases : Type 0 where
  -- "000" is 0.
  pub zeros : code_number (code (48 ∷ 48 ∷ 48 ∷ [])) ≡ 0
  pub zeros_dropped : drop_zeros (written (code (48 ∷ 48 ∷ 48 ∷ []))) ≡ 48 ∷ []
  -- "0412" and "412" agree; "4120" does not.
  pub agree : same_offer (name_of 0 (code (48 ∷ 52 ∷ 49 ∷ 50 ∷ []))) (name_of 0 (code (52 ∷ 49 ∷ 50 ∷ []))) ≡ true
  pub apart : same_offer (name_of 0 (code (52 ∷ 49 ∷ 50 ∷ 48 ∷ []))) (name_of 0 (code (52 ∷ 49 ∷ 50 ∷ []))) ≡ false
  -- 02 §2: "412" of issuer 1 is another offer than "412" of issuer 0, and "0412" of issuer 1 the same as "412" of issuer 1.
  pub issuers_apart : same_offer (name_of 0 (code (52 ∷ 49 ∷ 50 ∷ []))) (name_of 1 (code (52 ∷ 49 ∷ 50 ∷ []))) ≡ false
  pub issuers_agree : same_offer (name_of 1 (code (48 ∷ 52 ∷ 49 ∷ 50 ∷ []))) (name_of 1 (code (52 ∷ 49 ∷ 50 ∷ []))) ≡ true
  -- 5521 of issuers 1 and 2, both tallied, settle to two amounts; a known number under another issuer is 8; one number twice under one issuer is 7.
  pub two_accepted : file_refusal (encode (two_issuers 1 2 2)) ≡ 0
  pub two_owed_0 : owed_by_file (two_issuers 1 2 2) 0 0 ≡ pos 300
  pub two_owed_1 : owed_by_file (two_issuers 1 2 2) 1 0 ≡ pos 700
  pub two_unknown : job_refusal (two_issuers 1 2 3) ≡ 8
  pub two_shared : job_refusal (two_issuers 2 2 2) ≡ 7
  -- 02 §3: of a bag counted twice the higher revision is paid, whichever box and record it is in; one revision twice is 9.
  pub recount_accepted : file_refusal (encode (recounted 0 1)) ≡ 0
  pub recount_owed : owed_by_file (recounted 0 1) 0 0 ≡ pos 40
  pub recount_owed_first : owed_by_file (recounted 9 3) 0 0 ≡ pos 50
  pub recount_twice : job_refusal (recounted 3 3) ≡ 9
  -- Without ◆: 10 digits pass; 0 or 11 do not.
  pub ten_digits : is_code (code (48 ∷ 49 ∷ 50 ∷ 51 ∷ 52 ∷ 53 ∷ 54 ∷ 55 ∷ 56 ∷ 57 ∷ [])) ≡ true
  pub no_digits : is_code (code []) ≡ false
  pub eleven_digits : is_code (code (48 ∷ 49 ∷ 50 ∷ 51 ∷ 52 ∷ 53 ∷ 54 ∷ 55 ∷ 56 ∷ 57 ∷ 48 ∷ [])) ≡ false
  -- E's file is accepted, and what it says is owed; its tables have each tally's place by its code.
  pub e_accepted : file_refusal (encode file_e) ≡ 0
  pub e_owed_0 : owed_by_file file_e 0 0 ≡ pos 2250
  pub e_owed_1 : owed_by_file file_e 1 0 ≡ pos 2500
  pub e_tables : Holds file_e Settlement.job_e
  -- What `settle` prints for it.
  pub e_printed : printed (encode file_e) ≡ text_e
  -- 02 §9: with an additional list of 100 and 200 its file is accepted, and each grocer is owed an amount on each list.
  pub lists_accepted : file_refusal (encode two_lists_e) ≡ 0
  pub lists_owed_0 : (owed_by_file two_lists_e 0 0 ≡ pos 2250) × (owed_by_file two_lists_e 0 1 ≡ pos 500)
  pub lists_owed_1 : (owed_by_file two_lists_e 1 0 ≡ pos 2500) × (owed_by_file two_lists_e 1 1 ≡ pos 400)
  -- What `settle` prints for it: "0 225 50", "1 250 40", "words 6", "messages 3", "steps 10".
  pub lists_printed : printed (encode two_lists_e) ≡ text_two
  -- Lists, words, steps and packed tables of E with one list and with several.
  pub lists : ListExamples
  -- E's amounts, words and steps; T = 0 for K 2; one tally in another box; the same tally twice; the largest amount and its negative.
  pub settlement : Settlement.Cases
  -- Without ◆: both sides of each limit, the order of refusals, choices and the places of the steps picked.
  pub edges : Edges
  -- T = 0: 2 × K steps, no words, whatever the job.
  pub quiet : (f : JobTables) → job_in_range f ≡ true → f.tallies ≡ 0 → (owner_words (job_of f) ≡ 0) × (step_count (job_of f) ≡ 2 * f.boxes)
  -- Byte 0 alone 255: sums 255 and 64,019. Byte 507 alone 255: 255 and 255.
  pub byte_0_first : first_sum (alone 0) ≡ 255
  pub byte_0_second : second_sum (alone 0) ≡ 64_019
  pub byte_507_first : first_sum (alone 507) ≡ 255
  pub byte_507_second : second_sum (alone 507) ≡ 255
  -- Without ◆: the longest file has 102 blocks, and no job in range has a longer one.
  pub longest : block_count largest ≡ 102
  pub no_longer : (h : Head) → bad_sizes h ≡ false → block_count h ≤ 102
