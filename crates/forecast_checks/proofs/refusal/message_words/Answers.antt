-- `forecast_checks::refusal::message_words` meets its contract, kind by kind. Assumes nothing.
use mathlib.Core.Path.{◌≡◌, refl}
use Prim.Native.Nat.{ℕ, ◌≤◌}
use native.Mathlib.Omega.{arith}
use Rattle.forecast_rules.specs.Steps.{kind_of}
use Rattle.forecast_checks.specs.Decided.{message_words}
use Rattle.forecast_checks.proofs.Asked.{by_kind}
use Rattle.forecast_checks.proofs.refusal.message_words.Goals as goal

pub returns-in-1 : goal.returns-in-1
unfolding message_words kind_of
returns-in-1 c =
    rw c.in-1.is c.words_in.ensures

pub returns-in-4 : goal.returns-in-4
unfolding message_words kind_of
returns-in-4 c =
    rw c.in-4.is c.words_in-in-4.ensures

pub returns-in_default : goal.returns-in_default
unfolding message_words kind_of
returns-in_default c =
    let f = c.args.f.now in
    let words : ℕ → ℕ =
    λ n. message_words f.offers f.grocers f.offer_owner.now f.grocer_owner.now c.args.needs.now c.args.sharers.now (kind_of n) c.args.x.first c.args.x.second in
    let silent : (n : ℕ) → 1 ≤ n → n ≤ 6 → (n ≡ 1 → ⊥) → (n ≡ 4 → ⊥) → 0 ≡ words n =
    by_kind (λ n. (n ≡ 1 → ⊥) → (n ≡ 4 → ⊥) → 0 ≡ words n) (λ h i. absurd (h refl)) (λ h i. refl) (λ h i. refl) (λ h i. absurd (i refl)) (λ h i. refl) (λ h i. refl) in
    silent c.args.x.kind c.requires.le_kind.0 c.requires.le_kind.1 (omega arith) (omega arith)
