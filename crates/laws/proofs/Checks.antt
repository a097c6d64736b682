-- Laws of several tests at once, and of refusals in a fixed order: what each of them says. Assumes nothing.
use mathlib.Core.Path.{◌≡◌, refl, ◌∙◌}
use mathlib.Core.Bool.{Bool, true, false, cond, ◌||◌, ◌&&◌}
use mathlib.Core.List.{List, [], ◌∷◌, ◌++◌}
use Prim.Native.Nat.{ℕ}
use native.Mathlib.Omega.{arith}
use lib.Dec.{ltb}
use borrow.Author.Tests.{ltb-true}
use Rattle.laws.proofs.Bools.{and_true, and_one, and_l, and_r, or_off}
use Rattle.laws.specs.Checks.{any_from, any_of, all_from, all_of, first_met}

-- Each of the tests is v, as a tuple.
abbrev pub Each : Bool → List Bool → Type 0
Each v [] = Unit
Each v (b ∷ bs) = (b ≡ v) × Each v bs

both : (a b : Bool) → (a && b) ≡ true → (a ≡ true) × (b ≡ true)
both true b h = (refl, h)
both false true h = (h, refl)
both false false h = (h, h)

none_from : (a : Bool) (bs : List Bool) → any_from a bs ≡ false → (a ≡ false) × Each false bs
none_from a [] h = (h, tt)
none_from a (b ∷ bs) h =
    let r = none_from (a || b) bs h in
    let n = or_off a b r.0 in
    (n.0, (n.1, r.1))

-- Where no test holds, each is false.
pub none_of : (bs : List Bool) → any_of bs ≡ false → Each false bs
none_of [] h = tt
none_of (b ∷ bs) h = none_from b bs h

all_from_lem : (a : Bool) (bs : List Bool) → all_from a bs ≡ true → (a ≡ true) × Each true bs
all_from_lem a [] h = (h, tt)
all_from_lem a (b ∷ bs) h =
    let r = all_from_lem (a && b) bs h in
    let n = both a b r.0 in
    (n.0, (n.1, r.1))

-- Where all hold, each is true.
pub each_of : (bs : List Bool) → all_of bs ≡ true → Each true bs
each_of [] h = tt
each_of (b ∷ bs) h = all_from_lem b bs h

every_from : (a : Bool) (bs : List Bool) → a ≡ true → Each true bs → all_from a bs ≡ true
every_from a [] e h = e
every_from a (b ∷ bs) e h = every_from (a && b) bs (rw (e, h.0)) h.1

-- And the other way round.
pub all_each : (bs : List Bool) → Each true bs → all_of bs ≡ true
all_each [] h = refl
all_each (b ∷ bs) h = every_from b bs h.0 h.1

nothing_from : (a : Bool) (bs : List Bool) → a ≡ false → Each false bs → any_from a bs ≡ false
nothing_from a [] e h = e
nothing_from a (b ∷ bs) e h = nothing_from (a || b) bs (rw (e, h.0)) h.1

pub any_each : (bs : List Bool) → Each false bs → any_of bs ≡ false
any_each [] h = refl
any_each (b ∷ bs) h = nothing_from b bs h.0 h.1

first_left : (a : Bool) (cs : List Bool) → Each true cs → all_from a cs ≡ a
first_left a [] h = refl
first_left a (c ∷ cs) h = first_left (a && c) cs h.1 ∙ rw h.0 (and_one a)

left_from : (a : Bool) (bs : List Bool) (x : Bool) (cs : List Bool) → a ≡ true → Each true bs → Each true cs → all_from a (bs ++ x ∷ cs) ≡ x
left_from a [] x cs e h k = first_left (a && x) cs k ∙ rw e
left_from a (b ∷ bs) x cs e h k = left_from (a && b) bs x cs (and_true e h.0) h.1 k

-- Where all tests but one hold, that one decides.
pub one_left : (bs : List Bool) (x : Bool) (cs : List Bool) → Each true bs → Each true cs → all_of (bs ++ x ∷ cs) ≡ x
one_left [] x cs h k = first_left x cs k
one_left (b ∷ bs) x cs h k = left_from b bs x cs h.0 h.1 k

-- None of the conditions is met, as a tuple.
abbrev pub Unmet : List (Bool × ℕ) → Type 0
Unmet [] = Unit
Unmet (r ∷ rs) = (r.0 ≡ false) × Unmet rs

-- No number of the list is 0.
abbrev pub numbered : List (Bool × ℕ) → Bool
numbered [] = true
numbered (r ∷ rs) = ltb 0 r.1 && numbered rs

-- A numbered condition that refuses nothing is not met, and nothing after it refuses.
off : (b : Bool) (n x : ℕ) → ltb 0 n ≡ true → cond b n x ≡ 0 → (b ≡ false) × (x ≡ 0)
off true n x p e = let l = ltb-true 0 n p in absurd (omega arith)
off false n x p e = (refl, e)

-- No refusal: no condition is met.
pub unmet : (rs : List (Bool × ℕ)) → numbered rs ≡ true → first_met rs ≡ 0 → Unmet rs
unfolding first_met
unmet [] p e = tt
unmet (r ∷ rs) p e =
    let q = off r.0 r.1 (first_met rs) (and_l (ltb 0 r.1) (numbered rs) p) e in
    (q.0, unmet rs (and_r (ltb 0 r.1) (numbered rs) p) q.1)

-- No condition is met: no refusal.
pub none_met : (rs : List (Bool × ℕ)) → Unmet rs → first_met rs ≡ 0
unfolding first_met
none_met [] u = refl
none_met (r ∷ rs) u = rw u.0 (none_met rs u.1)

-- One condition alone.
pub one_met : (b : Bool) (n : ℕ) → b ≡ true → first_met ((b, n) ∷ []) ≡ n
unfolding first_met
one_met b n e = rw e

pub one_off : (b : Bool) (n : ℕ) → b ≡ false → first_met ((b, n) ∷ []) ≡ 0
unfolding first_met
one_off b n e = rw e
