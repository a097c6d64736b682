-- The test from owners and masks is the model's. Assumes nothing.
use mathlib.Core.Path.{◌≡◌}
use mathlib.Core.Bool.{true}
use mathlib.Core.List.{List}
use Prim.Native.Nat.{ℕ, ◌<◌, ◌≤◌}
use native.Mathlib.Omega.{arith}
use lib.Dec.{eqb}
use lib.ListN.{get_or}
use borrow.Author.Tests.{eqb-true}
use Rattle.laws.specs.Tables.{tabulate}
use Rattle.laws.proofs.Bools.{and_l}
use Rattle.laws.proofs.Masks.{bit_mask}
use Rattle.laws.proofs.Tables.{get_d_tabulate, word_in_lem}
use Rattle.model.specs.Job.{needs, need_word, price_word}
use Rattle.model.specs.Tables.{JobTables, job_of}
use Rattle.step_places.specs.Message.{in_message, word_in}

module _ (f : JobTables) (masks : List ℕ) (a b i : ℕ) (h : b < 16) where
  -- Prices: the owner a of offer i, and another box b that needs it.
  pub price_word_lem : i < f.offers → f.offers ≤ 500 → masks ≡ tabulate 500 (need_word (job_of f)) → word_in f.offer_owner masks a b i ≡ price_word (job_of f) a b i
  unfolding word_in in_message price_word need_word job_of
  price_word_lem l n e = rw (e, get_d_tabulate 500 (need_word (job_of f)) i 0 (omega arith), bit_mask 16 b (needs (job_of f) i) h, word_in_lem f.offers f.offer_owner 0 i l)

-- A word of a message is of its owner.
pub word_owner : (owners masks : List ℕ) (a b i : ℕ) → word_in owners masks a b i ≡ true → get_or owners i 0 ≡ a
unfolding word_in in_message
word_owner owners masks a b i h = eqb-true (get_or owners i 0) a (and_l (eqb (get_or owners i 0) a) _ h)
