-- Tables and states of a forecast: what is written is read again, and a state of the closed form has nothing outside the bounds. Assumes nothing.
use mathlib.Core.Path.{◌≡◌, refl, sym, ap, ◌∙◌}
use mathlib.Core.Bool.{Bool, false, cond, ◌&&◌, not}
use mathlib.Core.List.{List}
use Prim.Native.Nat.{ℕ, ◌≤◌}
use lib.Dec.{ltb}
use borrow.Author.Tests.{ne_eqb, ltb-true, ltb-false, lt-ltb}
use Rattle.laws.proofs.Bools.{split, and_true, and_false, clash, cond_same}
use Rattle.laws.proofs.Tables.{cell_recell, word_overwrite}
use Rattle.model.specs.Job.{shares}
use Rattle.forecast_rules.specs.Doubles.{zero+}
use Rattle.forecast_rules.specs.Lines.{Forecast, offer_value, forecast_sum, part_sum}
use Rattle.forecast_rules.specs.Steps.{Kind, send_values, receive_values, add_lines, send_parts, receive_parts, sum_own, kind_number, kind_of, Steps, State}
use Rattle.forecast_rules.specs.Boxes.{knows, value_on_way, gone, part_on_way, part_held, state_by_rules, Closed, Sound}
use Rattle.forecast_rules.specs.Tables.{StateTables, from_marks, to_marks, view, store}
use Rattle.model.proofs.Range.{InRange}
use Rattle.model.proofs.Tables.{marks_back, needs_out, shares_out}
use Rattle.forecast_rules.proofs.Machine.{kind_back, first<, second<}
use Rattle.forecast_rules.proofs.Core.{state_eq}
use Rattle.forecast_rules.proofs.Parts.{part_none}
use Rattle.forecast_rules.proofs.Sums.{add_up_none}
use Rattle.model.specs.Steps as Money

-- Money's kind of the same number has that number.
pub same_number : (q : Kind) → Money.kind_number (Money.kind_of (kind_number q)) ≡ kind_number q
unfolding Money.kind_number Money.kind_of kind_number
same_number send_values = refl
same_number receive_values = refl
same_number add_lines = refl
same_number send_parts = refl
same_number receive_parts = refl
same_number sum_own = refl

-- What is marked is what was to be marked, of steps that have a place.
pub marks_read : (k : ℕ) (d : Steps) (marks : List ℕ) (q : Kind) (a b : ℕ) → from_marks k (to_marks k d marks) q a b ≡ (ltb a k && (ltb b k && d q a b))
unfolding from_marks to_marks
marks_read k d marks q a b =
    marks_back k (λ q a b. d (kind_of (Money.kind_number q)) a b) marks (Money.kind_of (kind_number q)) a b
    ∙ rw (same_number q, kind_back q)

-- The state s inside the forecast's bounds, and 0 outside.
unfoldable pub clip : Forecast → State → State
clip f s = record {
  known = λ b o. cond (ltb b f.job.boxes && ltb o f.job.offers) (s.known b o) zero+;
  value_transit = λ b o. cond (ltb b f.job.boxes && ltb o f.job.offers) (s.value_transit b o) zero+;
  part = λ b g. cond (ltb b f.job.boxes && ltb g f.job.grocers) (s.part b g) zero+;
  part_transit = λ b g. cond (ltb b f.job.boxes && ltb g f.job.grocers) (s.part_transit b g) zero+;
  held = λ b g. cond (ltb b f.job.boxes && ltb g f.job.grocers) (s.held b g) zero+;
  forecast = λ g. cond (ltb g f.job.grocers) (s.forecast g) zero+;
  done = λ k a b. ltb a f.job.boxes && (ltb b f.job.boxes && s.done k a b);
  sent = s.sent;
}

pub view_store : (f : Forecast) (s : State) (t : StateTables) → view f (store f s t) ≡ clip f s
unfolding view store clip
view_store f s t =
    state_eq (view f (store f s t)) (clip f s)
    (cell_recell f.job.boxes f.job.offers s.known t.known zero+)
    (cell_recell f.job.boxes f.job.offers s.value_transit t.value_transit zero+)
    (cell_recell f.job.boxes f.job.grocers s.part t.part zero+)
    (cell_recell f.job.boxes f.job.grocers s.part_transit t.part_transit zero+)
    (cell_recell f.job.boxes f.job.grocers s.held t.held zero+)
    (word_overwrite f.job.grocers s.forecast t.forecast zero+)
    (λ i k a b. marks_read f.job.boxes s.done t.done k a b i)
    (word_overwrite 1 (λ i. s.sent) t.sent 0 0)

-- What stands outside the bounds is +0.0: an offer outside has no lines, and so has a grocer.
module _ (f : Forecast) (r : InRange f.job) (no_value : (o : ℕ) → f.job.offers ≤ o → offer_value f o ≡ zero+) where
  forecast_out : (g : ℕ) → ltb g f.job.grocers ≡ false → forecast_sum f g ≡ zero+
  unfolding forecast_sum
  forecast_out g e =
      add_up_none f.job.boxes (shares f.job g) (λ b. part_sum f b g) (λ b l. shares_out f.job r b g (rw e (and_false (ltb b f.job.boxes))))

  clip_form : (d : Steps) → Closed f d → clip f (state_by_rules f d) ≡ state_by_rules f d
  unfolding clip state_by_rules knows value_on_way
  clip_form d c =
      state_eq (clip f (state_by_rules f d)) (state_by_rules f d)
      (λ b o. split (ltb b f.job.boxes && ltb o f.job.offers)
      (λ e. rw e)
      (λ e. rw e (split (ltb o f.job.offers)
      (λ h. simp (ne_eqb (f.job.offer_owner o) b (λ q. clash (and_true (lt-ltb b f.job.boxes (rw q at (r.owner< o (ltb-true o f.job.offers h)))) h) e), needs_out f.job r b o e))
      (λ h. simp (no_value o (ltb-false o f.job.offers h), cond_same)))))
      (λ b o. split (ltb b f.job.boxes && ltb o f.job.offers)
      (λ e. rw e)
      (λ e. simp (e, needs_out f.job r b o e, and_false)))
      (λ b g. outside (d add_lines b b && not (gone f d b g)) b g) (λ b g. outside (part_on_way f d b g) b g) (λ b g. outside (part_held f d b g) b g)
      (λ g. split (ltb g f.job.grocers) (λ e. rw e) (λ e. rw (e, forecast_out g e) (sym (cond_same (d sum_own (f.job.grocer_owner g) (f.job.grocer_owner g)) zero+))))
      (λ i k a b. marks k a b i)
      refl
    where
      outside : (t : Bool) (b g : ℕ) →
          cond (ltb b f.job.boxes && ltb g f.job.grocers) (cond t (part_sum f b g) zero+) zero+ ≡ cond t (part_sum f b g) zero+
      outside t b g =
          split (ltb b f.job.boxes && ltb g f.job.grocers)
          (λ e. rw e)
          (λ e. rw (e, part_none f b g (shares_out f.job r b g e)) (sym (cond_same t zero+)))

      marks : (k : Kind) (a b : ℕ) → (ltb a f.job.boxes && (ltb b f.job.boxes && d k a b)) ≡ d k a b
      marks k a b =
          split (d k a b)
          (λ e. simp (e, lt-ltb a f.job.boxes (first< f k a b (c.steps k a b e)), lt-ltb b f.job.boxes (second< f k a b (c.steps k a b e))))
          (λ e. simp (e, and_false))

  pub held_form : (s : State) → Sound f s → clip f s ≡ s
  held_form s o = ap (clip f) o.form ∙ clip_form s.done o.closed ∙ sym o.form
