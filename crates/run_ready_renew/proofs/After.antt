-- The rows that a step can change, and these made anew. Assumes nothing.
use mathlib.Core.Path.{◌≡◌, refl, sym}
use mathlib.Core.Bool.{Bool, true, false, cond, ◌&&◌, ◌||◌, not, false≢true}
use Prim.Native.Nat.{ℕ, ◌+◌, ◌*◌, ◌≤◌, ◌<◌}
use native.Mathlib.Omega.{arith}
use lib.Dec.{eqb}
use borrow.Author.Tests.{eqb-true}
use Rattle.laws.proofs.Bools.{split}
use Rattle.run_ready.specs.declared.ReadyRows.{ReadyRows}
use Rattle.run_ready.specs.Rows.{row_of, IsRows, Renewed, HasRow}
use Rattle.run_ready_rows.proofs.ByRow.{renewed_at}

-- The rows that a step can change: its own; after a message is sent, the receiver's; after prices are multiplied, kinds 4 and 5 of the box.
unfoldable pub changes : ℕ → ℕ → ℕ → ℕ → ℕ → Bool
changes k kind a b r =
    eqb r (row_of k kind a)
    || cond (eqb kind 1 || eqb kind 4) (eqb r (row_of k (kind + 2) b))
    (cond (eqb kind 2 || eqb kind 3) (eqb r (row_of k 4 a) || eqb r (row_of k 5 a)) false)

-- Each row that a step cannot change has the places that f tells.
pub record IsRowsBut (k kind a b : ℕ) (f : ℕ → Bool) (rows : ReadyRows) : Type 0 where
  pub boxes_in : k ≤ 16
  pub right : (r : ℕ) → r < 6 * k → changes k kind a b r ≡ false → HasRow k (λ b. f (r * k + b)) r rows

module _ (k : ℕ) (f : ℕ → Bool) where
  -- Row i has the places that f tells now, and the others have what they had.
  abbrev pub RenewedIn : ℕ → ReadyRows → ReadyRows → Type 0
  RenewedIn i rows rows' = Renewed k (λ b. f (i * k + b)) i rows rows'

  -- After a step: its own row, and those that it can open, are made anew.
  module _ (kind a b : ℕ) (rows rows₁ : ReadyRows) (h : IsRowsBut k kind a b f rows) (n₁ : RenewedIn (row_of k kind a) rows rows₁) where
    few : (r : ℕ) → r < 6 * k → r < 96
    few r l = omega (arith, h.boxes_in)

    pub renewed_sent : (rows₂ : ReadyRows) → (eqb kind 1 || eqb kind 4) ≡ true → RenewedIn (row_of k (kind + 2) b) rows₁ rows₂ → IsRows k f rows₂
    unfolding changes
    renewed_sent rows₂ t n₂ = record {
      long = n₂.long;
      right = λ r l. renewed_at k f (row_of k (kind + 2) b) r rows₁ rows₂ (few r l) n₂ (λ e₂. renewed_at k f (row_of k kind a) r rows rows₁ (few r l) n₁ (λ e₁. h.right r l (rw (e₁, t, e₂))));
    }

    module _ (t : (eqb kind 1 || eqb kind 4) ≡ false) where
      pub renewed_own : (not (eqb kind 2) && not (eqb kind 3)) ≡ true → IsRows k f rows₁
      unfolding changes
      renewed_own u = record {
        long = n₁.long;
        right = λ r l. renewed_at k f (row_of k kind a) r rows rows₁ (few r l) n₁ (λ e₁. h.right r l (rw (e₁, t, neither (eqb kind 2) (eqb kind 3) u)));
      }
        where
          neither : (x y : Bool) → (not x && not y) ≡ true → (x || y) ≡ false
          neither true y u = absurd (false≢true u)
          neither false true u = absurd (false≢true u)
          neither false false u = refl

      pub renewed_multiplied : (rows₂ rows₃ : ReadyRows) → (not (eqb kind 2) && not (eqb kind 3)) ≡ false →
          RenewedIn (row_of k 4 a) rows₁ rows₂ → RenewedIn (row_of k 5 a) rows₂ rows₃ → IsRows k f rows₃
      unfolding changes
      renewed_multiplied rows₂ rows₃ u n₂ n₃ = record {
        long = n₃.long;
        right = λ r l. renewed_at k f (row_of k 5 a) r rows₂ rows₃ (few r l) n₃ (λ e₃. renewed_at k f (row_of k 4 a) r rows₁ rows₂ (few r l) n₂
            (λ e₂. renewed_at k f (row_of k kind a) r rows rows₁ (few r l) n₁ (λ e₁. h.right r l (rw (e₁, t, one_of (eqb kind 2) (eqb kind 3) u, e₂, e₃)))));
      }
        where
          one_of : (x y : Bool) → (not x && not y) ≡ false → (x || y) ≡ true
          one_of true y u = refl
          one_of false true u = refl
          one_of false false u = absurd (false≢true (sym u))

-- Kinds 1 and 4 are at most 4.
pub sent_kind : (n : ℕ) → (eqb n 1 || eqb n 4) ≡ true → n ≤ 4
sent_kind n h = split (eqb n 1) (λ e. omega (arith, eqb-true n 1 e)) (λ e. omega (arith, eqb-true n 4 (rw e at h)))
