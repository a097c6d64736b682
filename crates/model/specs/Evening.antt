-- E's evening, as docs/EVENING.md tells it: what the boxes hold after each of its ten steps.
use Rattle.std.specs.Prelude.{◌≡◌, List, [], ◌∷◌, ◌++◌, ℕ, ℤ, pos, negsuc, take}
use Rattle.model.specs.Tables.{StateTables, job_of}
use Rattle.model.specs.Step.{Asked, asked}
use Rattle.model.specs.LocalLists.{local_offers, local_grocers}
use Rattle.model.specs.Cases.{job_e, tables_in_turn}

-- The steps of E in the order of a run without choices.
abbrev pub evening_steps : List Asked
evening_steps =
    asked 1 0 1 ∷ asked 1 1 0 ∷ asked 2 0 0 ∷ asked 2 1 1 ∷ asked 3 0 1 ∷ asked 3 1 0 ∷ asked 4 0 1 ∷ asked 5 0 0 ∷ asked 5 1 1 ∷ asked 6 1 0 ∷ []

-- E's state after its first n steps.
abbrev pub evening_after : ℕ → StateTables
evening_after n = tables_in_turn job_e (take n evening_steps)

-- The prices that box 0 and box 1 know, those on their way to each, by offer, and the words sent.
abbrev pub prices_held : StateTables → List ℕ
prices_held t = t.known ++ t.price_transit ++ t.sent

-- The working totals, of box 0 of grocers 1 and 0, of box 1 of grocer 0; the totals on their way likewise, by sender; and the statements, by grocer.
abbrev pub amounts_held : StateTables → List ℤ
amounts_held t = t.working ++ t.total_transit ++ t.statement

-- The evening, step by step.
pub record Evening : Type 0 where
  -- At the start each box knows the prices of its own offers.
  pub prices_0 : prices_held (evening_after 0) ≡ 500 ∷ 0 ∷ 0 ∷ 1250 ∷ 0 ∷ 0 ∷ 0 ∷ 0 ∷ 0 ∷ []
  pub amounts_0 : amounts_held (evening_after 0) ≡ pos 0 ∷ pos 0 ∷ pos 0 ∷ pos 0 ∷ pos 0 ∷ pos 0 ∷ pos 0 ∷ pos 0 ∷ []
  -- After step 1, kind 1 of box 0 and box 1.
  pub prices_1 : prices_held (evening_after 1) ≡ 500 ∷ 0 ∷ 0 ∷ 1250 ∷ 0 ∷ 0 ∷ 500 ∷ 0 ∷ 1 ∷ []
  pub amounts_1 : amounts_held (evening_after 1) ≡ pos 0 ∷ pos 0 ∷ pos 0 ∷ pos 0 ∷ pos 0 ∷ pos 0 ∷ pos 0 ∷ pos 0 ∷ []
  -- After step 2, kind 1 of box 1 and box 0.
  pub prices_2 : prices_held (evening_after 2) ≡ 500 ∷ 0 ∷ 0 ∷ 1250 ∷ 0 ∷ 1250 ∷ 500 ∷ 0 ∷ 2 ∷ []
  pub amounts_2 : amounts_held (evening_after 2) ≡ pos 0 ∷ pos 0 ∷ pos 0 ∷ pos 0 ∷ pos 0 ∷ pos 0 ∷ pos 0 ∷ pos 0 ∷ []
  -- After step 3, kind 2 of box 0.
  pub prices_3 : prices_held (evening_after 3) ≡ 500 ∷ 0 ∷ 0 ∷ 1250 ∷ 0 ∷ 1250 ∷ 500 ∷ 0 ∷ 2 ∷ []
  pub amounts_3 : amounts_held (evening_after 3) ≡ pos 0 ∷ pos 1500 ∷ pos 0 ∷ pos 0 ∷ pos 0 ∷ pos 0 ∷ pos 0 ∷ pos 0 ∷ []
  -- After step 4, kind 2 of box 1.
  pub prices_4 : prices_held (evening_after 4) ≡ 500 ∷ 0 ∷ 0 ∷ 1250 ∷ 0 ∷ 1250 ∷ 500 ∷ 0 ∷ 2 ∷ []
  pub amounts_4 : amounts_held (evening_after 4) ≡ pos 0 ∷ pos 1500 ∷ negsuc 1249 ∷ pos 0 ∷ pos 0 ∷ pos 0 ∷ pos 0 ∷ pos 0 ∷ []
  -- After step 5, kind 3 of box 0 and box 1.
  pub prices_5 : prices_held (evening_after 5) ≡ 500 ∷ 1250 ∷ 0 ∷ 1250 ∷ 0 ∷ 0 ∷ 500 ∷ 0 ∷ 2 ∷ []
  pub amounts_5 : amounts_held (evening_after 5) ≡ pos 2500 ∷ pos 1500 ∷ negsuc 1249 ∷ pos 0 ∷ pos 0 ∷ pos 0 ∷ pos 0 ∷ pos 0 ∷ []
  -- After step 6, kind 3 of box 1 and box 0.
  pub prices_6 : prices_held (evening_after 6) ≡ 500 ∷ 1250 ∷ 500 ∷ 1250 ∷ 0 ∷ 0 ∷ 0 ∷ 0 ∷ 2 ∷ []
  pub amounts_6 : amounts_held (evening_after 6) ≡ pos 2500 ∷ pos 1500 ∷ pos 750 ∷ pos 0 ∷ pos 0 ∷ pos 0 ∷ pos 0 ∷ pos 0 ∷ []
  -- After step 7, kind 4 of box 0 and box 1.
  pub prices_7 : prices_held (evening_after 7) ≡ 500 ∷ 1250 ∷ 500 ∷ 1250 ∷ 0 ∷ 0 ∷ 0 ∷ 0 ∷ 3 ∷ []
  pub amounts_7 : amounts_held (evening_after 7) ≡ pos 2500 ∷ pos 0 ∷ pos 750 ∷ pos 0 ∷ pos 1500 ∷ pos 0 ∷ pos 0 ∷ pos 0 ∷ []
  -- After step 8, kind 5 of box 0.
  pub prices_8 : prices_held (evening_after 8) ≡ 500 ∷ 1250 ∷ 500 ∷ 1250 ∷ 0 ∷ 0 ∷ 0 ∷ 0 ∷ 3 ∷ []
  pub amounts_8 : amounts_held (evening_after 8) ≡ pos 0 ∷ pos 0 ∷ pos 750 ∷ pos 0 ∷ pos 1500 ∷ pos 0 ∷ pos 0 ∷ pos 2500 ∷ []
  -- After step 9, kind 5 of box 1.
  pub prices_9 : prices_held (evening_after 9) ≡ 500 ∷ 1250 ∷ 500 ∷ 1250 ∷ 0 ∷ 0 ∷ 0 ∷ 0 ∷ 3 ∷ []
  pub amounts_9 : amounts_held (evening_after 9) ≡ pos 0 ∷ pos 0 ∷ pos 0 ∷ pos 0 ∷ pos 1500 ∷ pos 0 ∷ pos 750 ∷ pos 2500 ∷ []
  -- After step 10, kind 6 of box 1 and box 0.
  pub prices_10 : prices_held (evening_after 10) ≡ 500 ∷ 1250 ∷ 500 ∷ 1250 ∷ 0 ∷ 0 ∷ 0 ∷ 0 ∷ 3 ∷ []
  pub amounts_10 : amounts_held (evening_after 10) ≡ pos 0 ∷ pos 0 ∷ pos 0 ∷ pos 0 ∷ pos 0 ∷ pos 0 ∷ pos 2250 ∷ pos 2500 ∷ []
  -- The local books of both boxes: offers, and grocers, their own first.
  pub offers_0 : local_offers (job_of job_e) 0 ≡ 0 ∷ 1 ∷ []
  pub offers_1 : local_offers (job_of job_e) 1 ≡ 1 ∷ 0 ∷ []
  pub grocers_0 : local_grocers (job_of job_e) 0 ≡ 1 ∷ 0 ∷ []
  pub grocers_1 : local_grocers (job_of job_e) 1 ≡ 0 ∷ []
