-- The first number that passes, and the place that an added tally finds. Assumes nothing.
use mathlib.Core.Path.{◌≡◌, sym}
use mathlib.Core.Bool.{Bool, true, false}
use Prim.Native.Nat.{ℕ, zero, suc, ◌<◌}
use native.Mathlib.Omega.{arith}
use lib.Dec.{eqb}
use borrow.Author.Tests.{eqb-true, eqb-false}
use Rattle.laws.specs.Below.{any, find}
use Rattle.laws.proofs.Below.{any_at, find_cong}
use Rattle.laws.proofs.Bools.{split}
use Rattle.format.specs.Codes.{name_of, is_code, name_number}
use Rattle.format.specs.Job.{Head, Tally, offer_name}
use Rattle.format.specs.Tables.{ReaderTables, file_job_of}
use Rattle.late_rules.specs.Edit.{place_found}
use Rattle.late_checks.specs.Named.{is_number, NamesLent}
use Rattle.format.proofs.Codes.{same_name}

pub find_first : (n : ℕ) (p : ℕ → Bool) (i : ℕ) → i < n → p i ≡ true → any i p ≡ false → find n p ≡ i
unfolding find
find_first zero p i l h e = absurd (omega arith)
find_first (suc n) p i l h e =
    split (eqb i n)
    (λ q. let same : i ≡ n = eqb-true i n q in rw (rw same at e, rw same at h) (sym same))
    (λ q. let ne = eqb-false i n q in let k : i < n = omega arith in rw (any_at n p i k h) (find_first n p i k h e))

-- The place of an added tally's offer is the one found by the number of its name.
pub found_is : (h : Head) (l : ReaderTables) (x : Tally) → is_code x.code ≡ true → NamesLent h.offers l.job.offers.code l.job.offers.issuer →
    find h.offers (is_number l.job.offers.code l.job.offers.issuer (name_number (name_of x.issuer x.code))) ≡ place_found h l x
unfolding is_number place_found file_job_of
found_is h l x ok s =
    find_cong h.offers _ _ (λ i q. sym (same_name (offer_name (file_job_of h l.job) i) (name_of x.issuer x.code) (s.code i q) ok))
