-- The conditions that are left to ask of the present job, one after the other. Assumes nothing.
use mathlib.Core.Path.{◌≡◌, refl, sym, ap, ◌∙◌}
use mathlib.Core.Bool.{Bool, true, false, cond, ◌&&◌, ◌||◌, not}
use mathlib.Core.List.{List, [], ◌∷◌}
use Prim.Native.Nat.{ℕ, suc, ◌*◌, ◌≤◌}
use native.Mathlib.Omega.{arith}
use lib.IntN.{ℤ}
use Rattle.laws.specs.Checks.{first_met}
use Rattle.laws.specs.Limits.{max_amount}
use Rattle.laws.specs.Tables.{tabulate}
use Rattle.laws.proofs.Bools.{split, or_off}
use Rattle.model.specs.Handed.{handed_tables, Standing, Handed}
use Rattle.model.specs.Job.{sharer_word}
use Rattle.model.specs.PackedTotals.{totals_length}
use Rattle.model.specs.Ranges.{Settles, around, totals_in_range}
use Rattle.model.specs.Tables.{JobTables, StateTables, job_of, evening_of, state_lengths, totals_short, any_short}
use Rattle.model.proofs.Handed.{handed_evening, handed-whole, handed_in}
use Rattle.model.proofs.ListTotals.{list_totals_lem}
use Rattle.model.proofs.Step.{JobIn, job_in_lem, in_handed, range}
use Rattle.model.proofs.Whole.{JobWhole, job_whole}
use Rattle.job_masks.specs.Masks.{Placed, holder_word}
use Rattle.job_masks.proofs.Holders.{sharer_words}
use Rattle.job_masks.proofs.InJob.{placed_offers, placed_grocers, owned_grocers}
use Rattle.book_places.specs.Spots.{CountIn, start_by}
use Rattle.book_places.proofs.Joined.{length_model}
use Rattle.late_rules.specs.Late.{left_by_run}
use Rattle.late_rules.proofs.Left.{short_not}
use Rattle.late_finished.specs.Present.{PresentState, shorter, packed_rules, state_rules}

-- 20 and 21 where a table is shorter than the edited job needs, and where none is.
module _ (own edited : ℕ) (working totals : List ℤ) where
  pub short_edited : shorter edited working totals ≡ true → 20 ≡ first_met (packed_rules own edited working totals)
  unfolding first_met packed_rules
  short_edited e = split (shorter own working totals) (λ b. rw b) (λ b. rw (b, e))

  pub long_edited : (r : ℕ) → r ≡ first_met ((shorter own working totals, 20) ∷ (not (around max_amount own working && around max_amount own totals), 21) ∷ []) →
      shorter edited working totals ≡ false → r ≡ first_met (packed_rules own edited working totals)
  unfolding first_met packed_rules
  long_edited r h e = h ∙ split (shorter own working totals) (λ b. rw b) (λ b. rw (b, e))

-- The job with the boxes of the tallies that stand.
module _ (f : JobTables) (z : Settles f) (boxes : List ℕ) (st : Standing f boxes) where
  abbrev g : JobTables
  g = handed_tables f boxes

  in_hand : Handed g
  in_hand = handed_in f boxes st z.in_range

  limits : JobIn f
  limits = job_in_lem f (in_handed f z.in_range)

  whole : JobWhole g
  whole = job_whole g (handed-whole f boxes st z.whole)

  pub grocers_placed : Placed f.boxes f.tallies 255 boxes f.tally_grocer
  grocers_placed = placed_grocers g in_hand whole

  pub offers_placed : Placed f.boxes f.tallies 500 boxes f.tally_offer
  offers_placed = placed_offers g in_hand whole

  module _ (share : List ℕ) (es : share ≡ tabulate 255 (holder_word f.boxes f.tallies boxes f.tally_grocer)) where
    shares_are : share ≡ tabulate 255 (sharer_word (job_of g))
    shares_are = es ∙ sharer_words g refl

    pub counted : CountIn f.grocers f.grocer_owner share × ((f.boxes ≤ 16) × (f.lists ≤ 7))
    counted =
        let o = owned_grocers g in_hand whole share (sharer_word (job_of g)) shares_are in (
          record { m_in = omega (arith, limits.grocers≤); owners_long = o.owner_long; words_long = o.mask_long; owner_in = o.owner< },
          (limits.boxes≤, limits.lists≤),
        )

    -- The packed length is the evening's.
    pub length_is : start_by f.grocers f.grocer_owner share f.boxes * suc f.lists ≡ totals_length (evening_of f)
    length_is =
        ap (λ (n : ℕ). n * suc f.lists) (length_model g in_hand.bare (range g in_hand.inside) limits.grocers≤ share shares_are)
        ∙ sym (list_totals_lem g).packed_length
        ∙ ap totals_length (handed_evening f boxes st)

module _ (f : JobTables) (s : StateTables) (boxes : List ℕ) (p : PresentState f s boxes) (own edited r : ℕ) (eo : own ≡ totals_length (evening_of f))
    (er : r ≡ first_met (packed_rules own edited s.working s.total_transit)) where
  abbrev short : Bool
  short = totals_short (evening_of f) (state_lengths s) || shorter edited s.working s.total_transit

  abbrev out : Bool
  out = not (totals_in_range (evening_of f) s)

  packed_is : r ≡ cond short 20 (cond out 21 0)
  unfolding first_met packed_rules totals_short totals_in_range state_lengths
  packed_is = er ∙ rw eo

  -- Neither is met.
  neither : (a b : Bool) → cond {A = ℕ} a 20 (cond b 21 0) ≡ 0 → (a ≡ false) × (b ≡ false)
  neither true b h = absurd (omega arith)
  neither false true h = absurd (omega arith)
  neither false false h = (refl, refl)

  -- One of the first two is met.
  pub met_packed : (r ≡ 0 → ⊥) → r ≡ first_met (state_rules f edited s)
  unfolding first_met state_rules
  met_packed n = packed_is ∙ split short (λ b. rw b) (λ b. split out (λ v. rw (b, v)) (λ v. absurd (n (packed_is ∙ rw (b, v)))))

  module _ (e : r ≡ 0) where
    off : (short ≡ false) × (out ≡ false)
    off = neither short out (sym packed_is ∙ e)

    pub nothing_short : any_short f s ≡ false
    nothing_short = short_not f p.settles s p.long (or_off (totals_short (evening_of f) (state_lengths s)) (shorter edited s.working s.total_transit) off.0).0

    -- 30 decides.
    pub left_on : (t : Bool) → t ≡ left_by_run f s → t ≡ true → 0 ≡ first_met (state_rules f edited s)
    unfolding first_met state_rules
    left_on t et b = rw (off.0, off.1, sym et, b)

    pub left_off : (t : Bool) → t ≡ left_by_run f s → t ≡ false → 30 ≡ first_met (state_rules f edited s)
    unfolding first_met state_rules
    left_off t et b = rw (off.0, off.1, sym et, b)
