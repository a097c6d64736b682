-- Words and messages: how many a step, a list of steps and a whole job send.
use Rattle.std.specs.Prelude.{◌≡◌, List, [], ◌∷◌, ◌&&◌, ℕ, ◌+◌, ◌*◌, length, eqb}
use Rattle.std.specs.Int.Count.{ones}
use Rattle.laws.specs.Below.{sum, only, naturals, count}
use Rattle.laws.specs.Masks.{without}
use Rattle.model.specs.Job.{Job, need_word, sharer_word, price_word, total_word, prices_due, totals_due}
use Rattle.model.specs.Steps.{Kind, send_prices, multiply_own, receive_prices, send_totals, add_own, receive_totals, Step, list_of, has_step}

-- The sum of f over the steps of a list.
unfoldable pub over : (Kind → ℕ → ℕ → ℕ) → List Step → ℕ
over f [] = 0
over f (x ∷ xs) = f x.kind x.first x.second + over f xs

module _ (j : Job) where
  -- The length of the message that a step sends: one price for each offer in it, or one part total for each grocer.
  unfoldable pub words_of : Kind → ℕ → ℕ → ℕ
  words_of send_prices a b = count j.offers (price_word j a b)
  words_of multiply_own a b = 0
  words_of receive_prices a b = 0
  words_of send_totals a b = count j.grocers (total_word j a b)
  words_of add_own a b = 0
  words_of receive_totals a b = 0

  -- How many words for the price of offer o to box c a step sends: 1 where the offer stands in its message, else 0.
  unfoldable pub price_to : ℕ → ℕ → Kind → ℕ → ℕ → ℕ
  price_to o c send_prices a b = only naturals (eqb b c && price_word j a b o) 1
  price_to o c multiply_own a b = 0
  price_to o c receive_prices a b = 0
  price_to o c send_totals a b = 0
  price_to o c add_own a b = 0
  price_to o c receive_totals a b = 0

  -- How many words for the part total of grocer g from box c a step sends: 1 where the grocer stands in its message, else 0.
  unfoldable pub total_from : ℕ → ℕ → Kind → ℕ → ℕ → ℕ
  total_from g c send_prices a b = 0
  total_from g c multiply_own a b = 0
  total_from g c receive_prices a b = 0
  total_from g c send_totals a b = only naturals (eqb a c && total_word j a b g) 1
  total_from g c add_own a b = 0
  total_from g c receive_totals a b = 0

  -- The words of a whole job by the owner tables: the ones in the need words and the sharer words, the owner's bit left out.
  unfoldable pub owner_words : ℕ
  owner_words =
      sum naturals j.offers (λ o. ones (without (j.offer_owner o) (need_word j o)))
      + sum naturals j.grocers (λ g. ones (without (j.grocer_owner g) (sharer_word j g)))

  -- The number of messages of a job, of prices and of totals.
  unfoldable pub message_count : ℕ
  message_count =
      sum naturals j.boxes (λ a. count j.boxes (λ b. prices_due j a b))
      + sum naturals j.boxes (λ a. count j.boxes (λ b. totals_due j a b))

  -- A job has 2 × K + 2 × (messages) steps. `StepsCounted` says that the steps it has are so many.
  unfoldable pub step_count : ℕ
  step_count = 2 * j.boxes + 2 * message_count

-- How many messages a step sends.
unfoldable pub messages_of : Kind → ℕ → ℕ → ℕ
messages_of send_prices a b = 1
messages_of multiply_own a b = 0
messages_of receive_prices a b = 0
messages_of send_totals a b = 1
messages_of add_own a b = 0
messages_of receive_totals a b = 0

-- The steps the job has, counted one by one, are 2 × K + 2 × (messages).
unfoldable pub StepsCounted : Job → Type 0
StepsCounted j = length (list_of j.boxes (has_step j)) ≡ step_count j
