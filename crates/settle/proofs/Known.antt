-- What reads take of a reader's bytes, where those are known. Assumes nothing.
use Rattle.std.proofs.Common.{◌≡◌, ℕ, ◌+◌, ◌≤◌, List, ◌++◌, length, take, drop, sym, ap, ◌∙◌, append_assoc, append-nil, arith}
use Rattle.std.proofs.Math.Seq.{take-add, length-take-le, take_all}
use Rattle.std.proofs.lemmas.List.{take_at}
use Rattle.std.specs.Prelude.{IfSome, None, Some}
use Rattle.std.specs.declared.option.Option.{Option}
use Rattle.std.specs.Io.KnownBytes.{Consumes, IsAtEnd}
use Rattle.settle.specs.Input.{BytesRead}

-- One read and then another.
consumes_more : (a b c : Option (List ℕ)) (s t : List ℕ) → Consumes a b s → Consumes b c t → Consumes a c (s ++ t)
consumes_more None b c s t h k = tt
consumes_more (Some xs) None c s t h k = absurd h
consumes_more (Some xs) (Some ys) None s t h k = absurd k
consumes_more (Some xs) (Some ys) (Some zs) s t h k = h ∙ ap (λ (l : List ℕ). s ++ l) k ∙ sym (append_assoc s t zs)

-- A read behind the first bytes of a buffer, which stay.
pub read_more : (a b c : Option (List ℕ)) (done n : ℕ) (old new : List ℕ) → take done new ≡ take done old →
    Consumes a b (take done old) → Consumes b c (take n (drop done new)) → Consumes a c (take (done + n) new)
read_more a b c done n old new e h k = rw (take-add done n new, e) (consumes_more a b c (take done old) (take n (drop done new)) h k)

-- The reader has no byte left.
pub read_to_end : (a b : Option (List ℕ)) (n : ℕ) (buffer : List ℕ) → n ≤ length buffer → Consumes a b (take n buffer) → IsAtEnd b →
    IfSome a (λ bytes. BytesRead bytes buffer n)
unfolding BytesRead
read_to_end None b n buffer l h e = tt
read_to_end (Some xs) None n buffer l h e = absurd h
read_to_end (Some xs) (Some ys) n buffer l h e =
    let whole : xs ≡ take n buffer = h ∙ ap (λ (r : List ℕ). take n buffer ++ r) e ∙ append-nil (take n buffer) in
    rw whole (sym (take_all (length buffer) (take n buffer) (omega (arith, length-take-le n buffer l))))

-- The buffer is full.
pub read_full : (a b : Option (List ℕ)) (n : ℕ) (buffer : List ℕ) → n ≡ length buffer → Consumes a b (take n buffer) →
    IfSome a (λ bytes. BytesRead bytes buffer n)
unfolding BytesRead
read_full None b n buffer l h = tt
read_full (Some xs) None n buffer l h = absurd h
read_full (Some xs) (Some ys) n buffer l h =
    rw h (sym (take_at (take n buffer) ys (length buffer) (length-take-le n buffer (omega arith) ∙ l)))
