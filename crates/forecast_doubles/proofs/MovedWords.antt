-- Words moved one after the other. Assumes nothing.
use mathlib.Core.Path.{◌≡◌, refl, sym, ◌∙◌}
use mathlib.Core.Bool.{Bool, true, false, cond, ◌&&◌}
use mathlib.Core.List.{List}
use Prim.Native.Nat.{ℕ, ◌+◌, ◌≤◌, ◌<◌}
use native.Mathlib.Omega.{arith}
use native.Mathlib.Decide.{ℕ_discrete}
use lib.Dec.{eqb}
use lib.ListN.{get_or, set, length}
use lib.Seq.{get_or-set_same, get_or-set_other}
use lib.Ieee.{Float}
use Rattle.laws.specs.Masks.{bit}
use Rattle.laws.proofs.Bools.{clash, split}
use Rattle.step_places.specs.Message.{word_in, in_message}
use Rattle.forecast_rules.specs.Doubles.{zero+}
use Rattle.forecast_doubles.specs.Moves.{Moved, Copied, Zeroed, summed_in}

-- The test of word i, from what the calls read.
pub word_is : (owner mask : List ℕ) (a b i x y : ℕ) (due : Bool) → due ≡ in_message x y a b → x ≡ get_or owner i 0 → y ≡ get_or mask i 0 → due ≡ word_in owner mask a b i
unfolding word_in
word_is owner mask a b i x y due e ex ey = e ∙ rw (ex, ey)

module _ (row : ℕ) (w : ℕ → Bool) (from to : List Float) where
  -- No word yet.
  pub moved_none : Moved row 0 w from to from to
  moved_none = record {
    come = λ i l. absurd (omega arith);
    gone = λ i l. absurd (omega arith);
    stay_to = λ i l h. refl;
    stay_from = λ i l h. refl;
    out_to = λ p h. refl;
    out_from = λ p h. refl;
  }

  module _ (n : ℕ) (from₁ to₁ : List Float) (y : Moved row n w from to from₁ to₁) where
    -- A word of the row that is not passed yet is as it was.
    ahead : (i : ℕ) → n ≤ i → (k : ℕ) → k < n → row + i ≡ row + k → ⊥
    ahead i l k h e = omega arith

    -- One word that is not moved.
    pub moved_left : w n ≡ false → Moved row (n + 1) w from to from₁ to₁
    moved_left h = record {
      come = λ i l q. elim (ℕ_discrete i n) [ yes e ↦ absurd (clash (rw e at q) h) | no e ↦ y.come i (omega (arith, e)) q ];
      gone = λ i l q. elim (ℕ_discrete i n) [ yes e ↦ absurd (clash (rw e at q) h) | no e ↦ y.gone i (omega (arith, e)) q ];
      stay_to = λ i l q. elim (ℕ_discrete i n) [ yes e ↦ rw e (y.out_to (row + n) (ahead n (omega arith))) | no e ↦ y.stay_to i (omega (arith, e)) q ];
      stay_from = λ i l q. elim (ℕ_discrete i n) [ yes e ↦ rw e (y.out_from (row + n) (ahead n (omega arith))) | no e ↦ y.stay_from i (omega (arith, e)) q ];
      out_to = λ p q. y.out_to p (λ i l. q i (omega arith));
      out_from = λ p q. y.out_from p (λ i l. q i (omega arith));
    }

    -- One that is.
    module _ (from₂ to₂ : List Float) (h : w n ≡ true) (lf : row + n < length from₁) (lt : row + n < length to₁)
        (ef : from₂ ≡ set from₁ (row + n) zero+) (et : to₂ ≡ set to₁ (row + n) (get_or from₁ (row + n) zero+)) where
      to_other : (p : ℕ) → (p ≡ row + n → ⊥) → get_or to₂ p zero+ ≡ get_or to₁ p zero+
      to_other p ne = rw et (get_or-set_other to₁ (row + n) p (get_or from₁ (row + n) zero+) zero+ ne)

      from_other : (p : ℕ) → (p ≡ row + n → ⊥) → get_or from₂ p zero+ ≡ get_or from₁ p zero+
      from_other p ne = rw ef (get_or-set_other from₁ (row + n) p zero+ zero+ ne)

      to_here : get_or to₂ (row + n) zero+ ≡ get_or from (row + n) zero+
      to_here = rw et (get_or-set_same to₁ (row + n) (get_or from₁ (row + n) zero+) zero+ lt) ∙ y.out_from (row + n) (ahead n (omega arith))

      from-here : get_or from₂ (row + n) zero+ ≡ zero+
      from-here = rw ef (get_or-set_same from₁ (row + n) zero+ zero+ lf)

      pub moved_more : Moved row (n + 1) w from to from₂ to₂
      moved_more = record {
        come = λ i l q. elim (ℕ_discrete i n) [ yes e ↦ rw e to_here | no e ↦ to_other (row + i) (λ u. e (omega arith)) ∙ y.come i (omega (arith, e)) q ];
        gone = λ i l q. elim (ℕ_discrete i n) [ yes e ↦ rw e from-here | no e ↦ from_other (row + i) (λ u. e (omega arith)) ∙ y.gone i (omega (arith, e)) q ];
        stay_to = λ i l q. elim (ℕ_discrete i n) [ yes e ↦ absurd (clash h (rw e at q)) | no e ↦ to_other (row + i) (λ u. e (omega arith)) ∙ y.stay_to i (omega (arith, e)) q ];
        stay_from = λ i l q. elim (ℕ_discrete i n) [ yes e ↦ absurd (clash h (rw e at q)) | no e ↦ from_other (row + i) (λ u. e (omega arith)) ∙ y.stay_from i (omega (arith, e)) q ];
        out_to = λ p q. to_other p (λ e. q n (omega arith) e) ∙ y.out_to p (λ i l. q i (omega arith));
        out_from = λ p q. from_other p (λ e. q n (omega arith) e) ∙ y.out_from p (λ i l. q i (omega arith));
      }

    -- Either way, from the test of the word.
    module _ (from₂ to₂ : List Float) (lf : row + n < length from₁) (lt : row + n < length to₁) (due : Bool) (ed : due ≡ w n)
        (ef : from₂ ≡ cond due (set from₁ (row + n) zero+) from₁) (et : to₂ ≡ cond due (set to₁ (row + n) (get_or from₁ (row + n) zero+)) to₁) where
      left : from₂ ≡ from₁ → to₂ ≡ to₁ → w n ≡ false → Moved row (n + 1) w from to from₂ to₂
      left a b h = rw (a, b) (moved_left h)

      pub moved_next : Moved row (n + 1) w from to from₂ to₂
      moved_next = split due (λ h. moved_more from₂ to₂ (sym ed ∙ h) lf lt (rw h at ef) (rw h at et)) (λ h. left (rw h at ef) (rw h at et) (sym ed ∙ h))

module _ (at row : ℕ) (w : ℕ → Bool) (from to : List Float) where
  -- No word yet copied.
  pub copied_none : Copied at row 0 w from to to
  copied_none = record { come = λ i l. absurd (omega arith); stay = λ i l h. refl; out = λ p h. refl }

  module _ (n : ℕ) (to₁ : List Float) (y : Copied at row n w from to to₁) where
    -- One word that is not copied.
    copied_left : w n ≡ false → Copied at row (n + 1) w from to to₁
    copied_left h = record {
      come = λ i l q. elim (ℕ_discrete i n) [ yes e ↦ absurd (clash (rw e at q) h) | no e ↦ y.come i (omega (arith, e)) q ];
      stay = λ i l q. elim (ℕ_discrete i n) [ yes e ↦ rw e (y.out (row + n) (λ k l e. omega arith)) | no e ↦ y.stay i (omega (arith, e)) q ];
      out = λ p q. y.out p (λ i l. q i (omega arith));
    }

    -- One that is.
    module _ (to₂ : List Float) (lt : row + n < length to₁) where
      copied_more : w n ≡ true → to₂ ≡ set to₁ (row + n) (get_or from (at + n) zero+) → Copied at row (n + 1) w from to to₂
      copied_more h et = let other : (p : ℕ) → (p ≡ row + n → ⊥) → get_or to₂ p zero+ ≡ get_or to₁ p zero+ = λ p ne. rw et (get_or-set_other to₁ (row + n) p (get_or from (at + n) zero+) zero+ ne) in
          let here : get_or to₂ (row + n) zero+ ≡ get_or from (at + n) zero+ = rw et (get_or-set_same to₁ (row + n) (get_or from (at + n) zero+) zero+ lt) in
          record {
            come = λ i l q. elim (ℕ_discrete i n) [ yes e ↦ rw e here | no e ↦ other (row + i) (λ u. e (omega arith)) ∙ y.come i (omega (arith, e)) q ];
            stay = λ i l q. elim (ℕ_discrete i n) [ yes e ↦ absurd (clash h (rw e at q)) | no e ↦ other (row + i) (λ u. e (omega arith)) ∙ y.stay i (omega (arith, e)) q ];
            out = λ p q. other p (λ e. q n (omega arith) e) ∙ y.out p (λ i l. q i (omega arith));
          }

      left_so : to₂ ≡ to₁ → w n ≡ false → Copied at row (n + 1) w from to to₂
      left_so e h = rw e (copied_left h)

      -- Either way, from the test of the word.
      pub copied_next : (due : Bool) → due ≡ w n → to₂ ≡ cond due (set to₁ (row + n) (get_or from (at + n) zero+)) to₁ → Copied at row (n + 1) w from to to₂
      copied_next due ed et = split due (λ h. copied_more (sym ed ∙ h) (rw h at et)) (λ h. left_so (rw h at et) (sym ed ∙ h))

-- The test of word i in step 6, from what the calls read.
pub summed_is : (owner mask : List ℕ) (a c i x y : ℕ) (h : Bool) → h ≡ bit c y → x ≡ get_or owner i 0 → y ≡ get_or mask i 0 → (eqb x a && h) ≡ summed_in owner mask a c i
unfolding summed_in
summed_is owner mask a c i x y h e ex ey = rw (e, ex, ey)

module _ (row : ℕ) (w : ℕ → Bool) (l : List Float) where
  -- No word yet zeroed.
  pub zeroed_none : Zeroed row 0 w l l
  zeroed_none = record { gone = λ i l. absurd (omega arith); stay = λ i l h. refl; out = λ p h. refl }

  module _ (n : ℕ) (l₁ : List Float) (y : Zeroed row n w l l₁) where
    -- One word that stays.
    zeroed_left : w n ≡ false → Zeroed row (n + 1) w l l₁
    zeroed_left h = record {
      gone = λ i k q. elim (ℕ_discrete i n) [ yes e ↦ absurd (clash (rw e at q) h) | no e ↦ y.gone i (omega (arith, e)) q ];
      stay = λ i k q. elim (ℕ_discrete i n) [ yes e ↦ rw e (y.out (row + n) (λ k l e. omega arith)) | no e ↦ y.stay i (omega (arith, e)) q ];
      out = λ p q. y.out p (λ i k. q i (omega arith));
    }

    -- One that does not.
    module _ (l₂ : List Float) (lt : row + n < length l₁) where
      zeroed_more : w n ≡ true → l₂ ≡ set l₁ (row + n) zero+ → Zeroed row (n + 1) w l l₂
      zeroed_more h et = let other : (p : ℕ) → (p ≡ row + n → ⊥) → get_or l₂ p zero+ ≡ get_or l₁ p zero+ = λ p ne. rw et (get_or-set_other l₁ (row + n) p zero+ zero+ ne) in
          let here : get_or l₂ (row + n) zero+ ≡ zero+ = rw et (get_or-set_same l₁ (row + n) zero+ zero+ lt) in
          record {
            gone = λ i k q. elim (ℕ_discrete i n) [ yes e ↦ rw e here | no e ↦ other (row + i) (λ u. e (omega arith)) ∙ y.gone i (omega (arith, e)) q ];
            stay = λ i k q. elim (ℕ_discrete i n) [ yes e ↦ absurd (clash h (rw e at q)) | no e ↦ other (row + i) (λ u. e (omega arith)) ∙ y.stay i (omega (arith, e)) q ];
            out = λ p q. other p (λ e. q n (omega arith) e) ∙ y.out p (λ i k. q i (omega arith));
          }

      stays_so : l₂ ≡ l₁ → w n ≡ false → Zeroed row (n + 1) w l l₂
      stays_so e h = rw e (zeroed_left h)

      -- Either way, from the test of the word.
      pub zeroed_next : (due : Bool) → due ≡ w n → l₂ ≡ cond due (set l₁ (row + n) zero+) l₁ → Zeroed row (n + 1) w l l₂
      zeroed_next due ed et = split due (λ h. zeroed_more (sym ed ∙ h) (rw h at et)) (λ h. stays_so (rw h at et) (sym ed ∙ h))
