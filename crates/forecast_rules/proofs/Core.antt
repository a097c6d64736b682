-- The closed form is what the steps do: a permitted step takes the state of d to the state of d and that step. Assumes nothing.
use mathlib.Core.Path.{◌≡◌, refl, sym, subst}
use mathlib.Core.Bool.{true, false, ◌||◌, not}
use Prim.Native.Nat.{ℕ, ◌<◌}
use native.Mathlib.Omega.{arith}
use lib.Dec.{eqb}
use Rattle.laws.specs.Below.{naturals, sum, only, count}
use Rattle.laws.proofs.Bools.{split, and_l, and_r, and_false, or_false, eqb_same, no_true, clash}
use Rattle.laws.proofs.Below.{all_at}
use Rattle.laws.proofs.Sums.{sum_none, table_one}
use Rattle.model.specs.Job.{price_word, total_word}
use Rattle.forecast_rules.specs.Lines.{Forecast}
use Rattle.forecast_rules.specs.Steps.{Kind, send_values, receive_values, add_lines, send_parts, receive_parts, sum_own, kind_number, Steps, State, mark, fits, has_step, all_due, ready, fresh, effect}
use Rattle.forecast_rules.specs.Boxes.{knows, value_on_way, gone, part_on_way, part_held, sent_of, state_by_rules, Closed}
use Rattle.model.proofs.Range.{InRange}
use Rattle.model.proofs.Marks.{sent_other}
use Rattle.forecast_rules.proofs.Machine.{Permit, first<, second<, one_box_lem}
use Rattle.forecast_rules.proofs.Values as W
use Rattle.forecast_rules.proofs.Parts as P

-- Two states are equal when their tables are, word by word.
pub state_eq : (s t : State) →
    ((b o : ℕ) → s.known b o ≡ t.known b o) → ((b o : ℕ) → s.value_transit b o ≡ t.value_transit b o) →
    ((b g : ℕ) → s.part b g ≡ t.part b g) → ((b g : ℕ) → s.part_transit b g ≡ t.part_transit b g) → ((b g : ℕ) → s.held b g ≡ t.held b g) →
    ((g : ℕ) → s.forecast g ≡ t.forecast g) → s.done ≡ t.done → s.sent ≡ t.sent → s ≡ t
state_eq s t k p w q h m e n =
    λ i. record { known = λ b o. k b o i; value_transit = λ b o. p b o i; part = λ b g. w b g i; part_transit = λ b g. q b g i; held = λ b g. h b g i; forecast = λ g. m g i; done = e i; sent = n i }

module _ (f : Forecast) where
  pub fresh_form : fresh f ≡ state_by_rules f (λ k a b. false)
  unfolding fresh state_by_rules knows value_on_way gone part_on_way part_held sent_of only naturals
  fresh_form =
      state_eq (fresh f) (state_by_rules f (λ k a b. false))
      (λ b o. rw (and_false, or_false))
      (λ b o. simp (and_false))
      (λ b g. refl)
      (λ b g. simp (and_false))
      (λ b g. simp (and_false))
      (λ g. refl)
      refl
      (sym (sum_none naturals f.job.boxes (λ a. sum naturals f.job.boxes (sent_of f (λ k a b. false) a)) (λ a l.
      sum_none naturals f.job.boxes (sent_of f (λ k a b. false) a) (λ b m. refl))))

  module _ (d : Steps) (a b : ℕ) where
    sent_values : a < f.job.boxes → b < f.job.boxes → d send_values a b ≡ false →
        (effect f (state_by_rules f d) send_values a b).sent ≡ (state_by_rules f (mark d send_values a b)).sent
    unfolding effect state_by_rules mark kind_number sent_of only naturals
    sent_values la lb h =
        sym (table_one naturals f.job.boxes f.job.boxes a b (sent_of f d) (sent_of f (mark d send_values a b)) (count f.job.offers (price_word f.job a b)) la lb
        (simp (eqb_same, h) (omega arith))
        (λ i k ne. simp (sent_other a b i k ne)))

    sent_parts : a < f.job.boxes → b < f.job.boxes → d send_parts a b ≡ false →
        (effect f (state_by_rules f d) send_parts a b).sent ≡ (state_by_rules f (mark d send_parts a b)).sent
    unfolding effect state_by_rules mark kind_number sent_of only naturals
    sent_parts la lb h =
        sym (table_one naturals f.job.boxes f.job.boxes a b (sent_of f d) (sent_of f (mark d send_parts a b)) (count f.job.grocers (total_word f.job a b)) la lb
        (simp (eqb_same, h) (omega arith))
        (λ i k ne. simp (sent_other a b i k ne)))

  module _ (r : InRange f.job) (d : Steps) (c : Closed f d) where
    -- The steps that wait for an undone one are undone.
    not_yet : (k : Kind) (a b : ℕ) (k' : Kind) (a' b' : ℕ) → d k a b ≡ false → (ready f d k' a' b' ≡ true → d k a b ≡ true) → d k' a' b' ≡ false
    not_yet k a b k' a' b' h p = no_true (d k' a' b') (λ q. clash (p (c.in_order k' a' b' q)) h)

    -- Nothing has left a box that has not added up.
    still_here : (a : ℕ) → d add_lines a a ≡ false → (g : ℕ) → gone f d a g ≡ false
    unfolding gone ready
    still_here a h g =
        split (eqb (f.job.grocer_owner g) a)
        (λ e. rw e (not_yet add_lines a a sum_own a a h (λ q. and_l (d add_lines a a) _ q)))
        (λ e. rw e (not_yet add_lines a a send_parts a (f.job.grocer_owner g) h (λ q. q)))

    -- A box whose due part sum has not arrived has not summed.
    unsummed : (a b : ℕ) → has_step f receive_parts a b ≡ true → d receive_parts a b ≡ false → d sum_own a a ≡ false
    unfolding ready all_due
    unsummed a b h n =
        not_yet receive_parts a b sum_own a a n
        (λ q. rw h at (all_at f.job.boxes (λ c. not (has_step f receive_parts a c) || d receive_parts a c) b (second< f receive_parts a b h) (and_r (d add_lines a a) _ q)))

    pub step_form : (k : Kind) (a b : ℕ) → Permit f d k a b → effect f (state_by_rules f d) k a b ≡ state_by_rules f (mark d k a b)
    unfolding effect state_by_rules mark kind_number knows value_on_way gone part_on_way part_held sent_of ready has_step fits
    step_form send_values a b p =
        state_eq (effect f (state_by_rules f d) send_values a b) (state_by_rules f (mark d send_values a b))
        (λ x o. refl)
        (W.send_transit f d a b p.new (not_yet send_values a b receive_values b a p.new (λ q. q)))
        (λ x g. refl) (λ x g. refl) (λ x g. refl) (λ g. refl) refl
        (sent_values d a b (first< f send_values a b p.has) (second< f send_values a b p.has) p.new)
    step_form receive_values a b p =
        state_eq (effect f (state_by_rules f d) receive_values a b) (state_by_rules f (mark d receive_values a b))
        (W.receive_known f d a b p.is_ready p.new)
        (W.receive_transit f d a b p.is_ready p.new)
        (λ x g. refl) (λ x g. refl) (λ x g. refl) (λ g. refl) refl refl
    step_form add_lines a b p =
        subst (λ (b : ℕ). d add_lines a b ≡ false → effect f (state_by_rules f d) add_lines a b ≡ state_by_rules f (mark d add_lines a b)) (one_box_lem f a b p.has)
        (λ h. state_eq (effect f (state_by_rules f d) add_lines a a) (state_by_rules f (mark d add_lines a a))
        (λ x o. refl) (λ x o. refl)
        (P.add_part f d a a r p.is_ready (still_here a h))
        (λ x g. refl) (λ x g. refl) (λ g. refl) refl refl)
        p.new
    step_form send_parts a b p =
        state_eq (effect f (state_by_rules f d) send_parts a b) (state_by_rules f (mark d send_parts a b))
        (λ x o. refl) (λ x o. refl)
        (P.send_part f d a b)
        (P.send_transit f d a b p.is_ready p.new (not_yet send_parts a b receive_parts b a p.new (λ q. q)))
        (λ x g. refl) (λ g. refl) refl
        (sent_parts d a b (first< f send_parts a b p.has) (second< f send_parts a b p.has) p.new)
    step_form receive_parts a b p =
        state_eq (effect f (state_by_rules f d) receive_parts a b) (state_by_rules f (mark d receive_parts a b))
        (λ x o. refl) (λ x o. refl) (λ x g. refl)
        (P.receive_transit f d a b)
        (P.receive_held f d a b p.is_ready p.new (unsummed a b p.has p.new))
        (λ g. refl) refl refl
    step_form sum_own a b p =
        subst (λ (b : ℕ). d sum_own a b ≡ false → effect f (state_by_rules f d) sum_own a b ≡ state_by_rules f (mark d sum_own a b)) (one_box_lem f a b p.has)
        (λ h. state_eq (effect f (state_by_rules f d) sum_own a a) (state_by_rules f (mark d sum_own a a))
        (λ x o. refl) (λ x o. refl)
        (P.sum_part f d a a)
        (λ x g. refl)
        (P.sum_held f d a a)
        (P.sum_forecast f d a a r (first< f sum_own a b p.has) (and_l (d add_lines a a) _ p.is_ready) (and_r (d add_lines a a) _ p.is_ready) h)
        refl refl)
        p.new

  pub effect_done : (s : State) (k : Kind) (a b : ℕ) → (effect f s k a b).done ≡ mark s.done k a b
  unfolding effect
  effect_done s send_values a b = refl
  effect_done s receive_values a b = refl
  effect_done s add_lines a b = refl
  effect_done s send_parts a b = refl
  effect_done s receive_parts a b = refl
  effect_done s sum_own a b = refl
