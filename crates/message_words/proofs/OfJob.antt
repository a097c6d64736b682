-- The tables of messages from need words and sharer words are those of the job. Assumes nothing.
use mathlib.Core.Path.{◌≡◌, sym, ap, ap₂, ◌∙◌}
use mathlib.Core.Bool.{Bool, true, false, cond, ◌&&◌, not}
use mathlib.Core.List.{List}
use Prim.Native.Nat.{ℕ, ◌<◌, ◌≤◌}
use native.Mathlib.Omega.{arith}
use lib.ListN.{get_or}
use lib.Dec.{eqb}
use Rattle.laws.specs.Masks.{bit, mask_of}
use Rattle.laws.specs.Tables.{tabulate}
use Rattle.laws.proofs.Below.{count_cong}
use Rattle.laws.proofs.Masks.{bit_mask}
use Rattle.laws.proofs.Tables.{get_d_tabulate, word_in_lem}
use Rattle.model.specs.Job.{price_word, total_word}
use Rattle.model.specs.Tables.{JobTables, job_of}
use Rattle.model.specs.Handed.{Handed}
use Rattle.model.specs.Local.{price_table, total_table}
use Rattle.job_masks.specs.Masks.{holds, holder_word}
use Rattle.message_words.specs.Messages.{between, sends, sent_table}
use Rattle.laws.proofs.Rows.{rows_cong}
use Rattle.job_masks.proofs.Holders.{need_holds, share_holds}
use Rattle.job_masks.proofs.InJob.{offers_room, grocers_room}

-- A table of messages by the owners and the masks of p is that of p.
module _ (back : Bool) (n size : ℕ) (owners : List ℕ) (p : ℕ → ℕ → Bool) (room : n ≤ size) where
  sent_cell : (a b i : ℕ) → cond back a b < 16 → i < n →
      sends back (get_or owners i 0) (get_or (tabulate size (λ k. mask_of 16 (p k))) i 0) a b
      ≡ (eqb (get_or owners i 0) (cond back b a) && (not (eqb (get_or owners i 0) (cond back a b)) && p i (cond back a b)))
  unfolding sends between
  sent_cell a b i l m =
      ap (λ (t : Bool). eqb (get_or owners i 0) (cond back b a) && (not (eqb (get_or owners i 0) (cond back a b)) && t))
      (ap (bit (cond back a b)) (get_d_tabulate size (λ k. mask_of 16 (p k)) i 0 (omega arith)) ∙ bit_mask 16 (cond back a b) (p i) l)

module _ (f : JobTables) (ok : Handed f) where
  -- The table of prices from the need words is the job's.
  pub price_sent_lem : sent_table false f.offers f.offer_owner (tabulate 500 (holder_word f.boxes f.tallies f.tally_box f.tally_offer)) ≡ price_table (job_of f)
  unfolding sent_table holder_word price_table price_word job_of
  price_sent_lem = rows_cong 16 16 _ _ (λ a b la lb. count_cong f.offers _ _ (λ o l.
      sent_cell false f.offers 500 f.offer_owner (holds f.boxes f.tallies f.tally_box f.tally_offer) (offers_room f ok) a b o lb l
      ∙ ap₂ (λ (x : ℕ) (t : Bool). eqb x a && (not (eqb x b) && t)) (sym (word_in_lem f.offers f.offer_owner 0 o l)) (need_holds f ok.bare o b)))

  -- The table of totals from the sharer words is the job's.
  pub total_sent_lem : sent_table true f.grocers f.grocer_owner (tabulate 255 (holder_word f.boxes f.tallies f.tally_box f.tally_grocer)) ≡ total_table (job_of f)
  unfolding sent_table holder_word total_table total_word job_of
  total_sent_lem = rows_cong 16 16 _ _ (λ a b la lb. count_cong f.grocers _ _ (λ g l.
      sent_cell true f.grocers 255 f.grocer_owner (holds f.boxes f.tallies f.tally_box f.tally_grocer) (grocers_room f ok) a b g la l
      ∙ ap₂ (λ (x : ℕ) (t : Bool). eqb x b && (not (eqb x a) && t)) (sym (word_in_lem f.grocers f.grocer_owner 0 g l)) (share_holds f ok.bare g a)))
