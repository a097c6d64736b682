-- Laws of walks over entries linked by key. Assumes nothing.
use mathlib.Core.Path.{◌≡◌, sym, ap, ◌∙◌, subst}
use mathlib.Core.List.{List}
use Prim.Native.Nat.{ℕ, ◌+◌, ◌≤◌, ◌<◌}
use native.Mathlib.Decide.{ℕ_discrete}
use native.Mathlib.Omega.{arith}
use lib.ListN.{length, get_or, set, length-set}
use lib.Seq.{get_or-set_same, get_or-set_other}
use Rattle.step_links.specs.Links.{SkipsBy, LinkedBy}

module _ (n : ℕ) (key : ℕ → ℕ) (v : ℕ) where
  -- From the end on there is none.
  skips_end : SkipsBy n key v n n
  skips_end = record { from = omega arith; to = omega arith; none = λ x l m e. omega arith; hits = λ l. absurd (omega arith) }

  -- A place of the key is the first from itself on.
  skips_here : (i : ℕ) → i < n → key i ≡ v → SkipsBy n key v i i
  skips_here i l e = record { from = omega arith; to = omega arith; none = λ x m k q. omega arith; hits = λ _. e }

  -- A place of another key is passed over.
  skips_back : (i j : ℕ) → (key i ≡ v → ⊥) → SkipsBy n key v (i + 1) j → SkipsBy n key v i j
  skips_back i j ne s = record { from = omega (arith, s.from); to = s.to; none = λ x l m. go x l m (ℕ_discrete i x); hits = s.hits }
    where
      go : (x : ℕ) → i ≤ x → x < j → Dec (i ≡ x) → key x ≡ v → ⊥
      go x l m (yes p) q = ne (ap key p ∙ q)
      go x l m (no d) q = s.none x (omega arith) m q

-- The entries from i on are linked.
pub record LinkedFrom (heads n : ℕ) (key : ℕ → ℕ) (i : ℕ) (links : List ℕ) : Type 0 where
  pub begins : (v : ℕ) → v < heads → SkipsBy n key v i (get_or links v 0)
  pub goes : (x : ℕ) → i ≤ x → x < n → SkipsBy n key (key x) (x + 1) (get_or links (heads + x) 0)

module _ (heads n : ℕ) (key : ℕ → ℕ) (links : List ℕ) where
  -- None is linked where each first place is the end.
  pub linked_none : ((v : ℕ) → v < heads → get_or links v 0 ≡ n) → LinkedFrom heads n key n links
  linked_none h = record { begins = λ v l. subst (λ (y : ℕ). SkipsBy n key v n y) (sym (h v l)) (skips_end n key v); goes = λ x l m. absurd (omega arith) }

  -- All are where those from 0 on are.
  pub linked_all : (i : ℕ) → i ≡ 0 → LinkedFrom heads n key i links → LinkedBy heads n key links
  linked_all i e h = record {
    begins = subst (λ (y : ℕ). (v : ℕ) → v < heads → SkipsBy n key v y (get_or links v 0)) e h.begins;
    goes = λ x l. h.goes x (omega arith) l;
  }

  -- One entry more, i of key w: first the place of its link is written, then the head of its key.
  module _ (i w : ℕ) (l : i < n) (e : key i ≡ w) (few : w < heads) (long : heads + n ≤ length links) (h : LinkedFrom heads n key (i + 1) links) where
    abbrev j : ℕ
    j = get_or links w 0

    abbrev mid : List ℕ
    mid = set links (heads + i) j

    abbrev after : List ℕ
    after = set mid w i

    begins_more : (v : ℕ) → v < heads → SkipsBy n key v i (get_or after v 0)
    begins_more v m = go (ℕ_discrete w v)
      where
        room : w < length mid
        room = omega (arith, length-set links (heads + i) j)

        go : Dec (w ≡ v) → SkipsBy n key v i (get_or after v 0)
        go (yes p) =
            subst (λ (y : ℕ). SkipsBy n key y i (get_or after y 0)) p
            (subst (λ (y : ℕ). SkipsBy n key w i y) (sym (get_or-set_same mid w i 0 room)) (skips_here n key w i l e))
        go (no d) =
            subst (λ (y : ℕ). SkipsBy n key v i y)
            (sym (get_or-set_other mid w v i 0 (λ p. d (sym p)) ∙ get_or-set_other links (heads + i) v j 0 (λ p. absurd (omega arith))))
            (skips_back n key v i (get_or links v 0) (λ q. d (sym e ∙ q)) (h.begins v m))

    goes_more : (x : ℕ) → i ≤ x → x < n → SkipsBy n key (key x) (x + 1) (get_or after (heads + x) 0)
    goes_more x m k =
        subst (λ (y : ℕ). SkipsBy n key (key x) (x + 1) y) (sym (get_or-set_other mid w (heads + x) i 0 (λ p. absurd (omega arith)))) (go (ℕ_discrete i x))
      where
        go : Dec (i ≡ x) → SkipsBy n key (key x) (x + 1) (get_or mid (heads + x) 0)
        go (yes p) =
            subst (λ (y : ℕ). SkipsBy n key (key y) (y + 1) (get_or mid (heads + y) 0)) p
            (subst (λ (y : ℕ). SkipsBy n key (key i) (i + 1) y) (sym (get_or-set_same links (heads + i) j 0 (omega arith))) (subst (λ (y : ℕ). SkipsBy n key y (i + 1) j) (sym e) (h.begins w few)))
        go (no d) = subst (λ (y : ℕ). SkipsBy n key (key x) (x + 1) y) (sym (get_or-set_other links (heads + i) (heads + x) j 0 (λ p. d (omega arith)))) (h.goes x (omega arith) k)

    pub linked_more : LinkedFrom heads n key i after
    linked_more = record { begins = begins_more; goes = goes_more }

-- A step of a walk over key v: from a place of the key to the next of it.
pub goes_by : (heads n : ℕ) (key : ℕ → ℕ) (links : List ℕ) (v i : ℕ) → LinkedBy heads n key links → i < n → key i ≡ v → SkipsBy n key v (i + 1) (get_or links (heads + i) 0)
goes_by heads n key links v i h l e = subst (λ (y : ℕ). SkipsBy n key y (i + 1) (get_or links (heads + i) 0)) e (h.goes i l)
