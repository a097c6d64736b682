-- `late_checks::judge::by_places` meets its contract. Assumes nothing.
use mathlib.Core.Path.{◌≡◌, refl, sym, ap, ap₂, subst, ◌∙◌}
use mathlib.Core.Bool.{true, false, cond}
use mathlib.Core.List.{List}
use Prim.Native.Nat.{ℕ, ◌*◌, ◌<◌}
use native.Mathlib.Omega.{arith}
use lib.Dec.{lit<}
use lib.IntN.{ℤ, pos}
use Rattle.laws.specs.Tables.{tabulate}
use Rattle.laws.proofs.Signed.{read32}
use Rattle.recount.specs.Recount.{counted_twice}
use Rattle.model.specs.Handed.{handed_tables, Standing, Handed}
use Rattle.model.specs.Job.{sharer_word}
use Rattle.model.specs.PackedTotals.{totals_length}
use Rattle.model.specs.Ranges.{job_in_range}
use Rattle.model.specs.Tables.{JobTables, counted_of, job_of, evening_of, job_lengths, job_short, bags_short}
use Rattle.book_places.specs.Spots.{start_by}
use Rattle.late_checks.specs.Held.{Holds}
use Rattle.refusals.specs.Numbers.{number_of, number}
use Rattle.refusals.proofs.Numbers.{number_positive}
use Rattle.late_checks.specs.Judged.{job_then}
use Rattle.model.proofs.Handed.{handed_in, handed-whole, handed_evening}
use Rattle.model.proofs.Lent.{JobLong, job_long, bags_long}
use Rattle.model.proofs.ListTotals.{list_totals_lem}
use Rattle.model.proofs.Step.{job_in_lem, range}
use Rattle.model.proofs.Whole.{JobWhole, job_whole}
use Rattle.job_masks.proofs.Holders.{sharer_words}
use Rattle.job_masks.proofs.InJob.{placed_grocers}
use Rattle.book_places.proofs.Joined.{length_model}
use Rattle.step_refusal.proofs.Refused.{count_in}
use Rattle.late_checks.proofs.Places.{present_of, with_columns, Agree, evening_alike, range_alike, nine_alone, met_nine, met_none, whole_with, bags_with}
use Rattle.late_checks.proofs.judge.by_places.Goals as goal

pub edited-grocers-requires : goal.edited-grocers-requires
unfolding job_lengths
edited-grocers-requires c =
    let present : JobTables =
    present_of c.args.w c.args.tables.now in
    let long16 : JobLong present.grocers present.offers present.tallies present.lists (job_lengths present) =
    job_long present (job_lengths present) c.requires.whole in
    (lit< tt, (c.requires.edit.shaped, long16.tally_grocer))

pub edited-boxes-requires : goal.edited-boxes-requires
unfolding job_lengths
edited-boxes-requires c =
    let present : JobTables =
    present_of c.args.w c.args.tables.now in
    let long16 : JobLong present.grocers present.offers present.tallies present.lists (job_lengths present) =
    job_long present (job_lengths present) c.requires.whole in
    (lit< tt, (c.requires.edit.shaped, long16.tally_box))

pub edited-offers-requires : goal.edited-offers-requires
unfolding job_lengths
edited-offers-requires c =
    let present : JobTables =
    present_of c.args.w c.args.tables.now in
    let long16 : JobLong present.grocers present.offers present.tallies present.lists (job_lengths present) =
    job_long present (job_lengths present) c.requires.whole in
    (lit< tt, (c.requires.edit.shaped, long16.tally_offer))

pub edited-counts-requires : goal.edited-counts-requires
unfolding job_lengths
edited-counts-requires c =
    let present : JobTables =
    present_of c.args.w c.args.tables.now in
    let long16 : JobLong present.grocers present.offers present.tallies present.lists (job_lengths present) =
    job_long present (job_lengths present) c.requires.whole in
    (lit< tt, (c.requires.edit.shaped, long16.tally_count))

pub edited-bags-requires : goal.edited-bags-requires
unfolding job_lengths
edited-bags-requires c =
    let present : JobTables =
    present_of c.args.w c.args.tables.now in
    (lit< tt, (c.requires.edit.shaped, (bags_long present (job_lengths present) c.requires.bags).tally_bag))

pub edited-revisions-requires : goal.edited-revisions-requires
unfolding job_lengths
edited-revisions-requires c =
    let present : JobTables =
    present_of c.args.w c.args.tables.now in
    (lit< tt, (c.requires.edit.shaped, (bags_long present (job_lengths present) c.requires.bags).tally_revision))

pub returns-in-Err : goal.returns-in-Err
unfolding job_then
returns-in-Err c =
    let present : JobTables =
    present_of c.args.w c.args.tables.now in
    let then : JobTables =
    job_then c.args.w c.args.place (present) in
    let copied : JobTables =
    with_columns then c.edited-grocers.result c.edited-boxes.result c.edited-offers.result c.edited-counts.result
    c.edited-bags.result c.edited-revisions.result in
    let counts_held : Holds 1 c.args.w.shape.place c.args.w.shape.last (pos 0) (λ k. c.args.w.tally.count) c.args.tables.now.tally_count.now c.edited-counts.result =
    subst (λ (v : ℤ). Holds 1 c.args.w.shape.place c.args.w.shape.last (pos 0) (λ k. v) c.args.tables.now.tally_count.now c.edited-counts.result)
    (read32 c.args.w.tally.count c.struct_told-1.given.1.1.0.1) (c.edited-counts.ensures (pos 0)) in
    let agree : Agree then c.edited-grocers.result c.edited-boxes.result
    c.edited-offers.result c.edited-counts.result c.edited-bags.result c.edited-revisions.result =
    let few = c.requires.edit.most in
    record {
      grocer = λ i q. (c.edited-grocers.ensures 0).words i (omega arith);
      box = λ i q. (c.edited-boxes.ensures 0).words i (omega arith);
      offer = λ i q. (c.edited-offers.ensures 0).words i (omega arith);
      count = λ i q. counts_held.words i (omega arith);
      bag = λ i q. (c.edited-bags.ensures 0).words i (omega arith);
      revision = λ i q. (c.edited-revisions.ensures 0).words i (omega arith);
    } in
    let whole : job_short copied (job_lengths copied) ≡ false =
    let few = c.requires.edit.most in
    whole_with present c.args.w.sizes.tallies _ _ _ _ _ _ c.requires.whole
    (omega (arith, (c.edited-grocers.ensures 0).long)) (omega (arith, (c.edited-boxes.ensures 0).long))
    (omega (arith, (c.edited-offers.ensures 0).long)) (omega (arith, (c.edited-counts.ensures (pos 0)).long)) in
    let bags : bags_short copied (job_lengths copied) ≡ false =
    let few = c.requires.edit.most in
    bags_with present c.args.w.sizes.tallies _ _ _ _ _ _ (omega (arith, (c.edited-bags.ensures 0).long)) (omega (arith, (c.edited-revisions.ensures 0).long)) in
    let told : number c.job_refusal.result ≡ cond (counted_twice (counted_of then)) 9 0 =
    nine_alone then _ _ _ _ _ _ agree _ c.job_refusal.ensures.value whole bags c.requires.in_range in
    let twice : counted_twice (counted_of then) ≡ true = met_nine _ _ told (let some : 0 < number_of c.in-Err.field-0 = number_positive c.in-Err.field-0 in rw c.in-Err.is (λ z. omega (arith, some, z))) in
    record { met_is = rw twice; place_is = tt; words_is = rw twice }

pub sharers-sharers-requires : goal.sharers-sharers-requires
unfolding job_then
sharers-sharers-requires c =
    let present : JobTables =
    present_of c.args.w c.args.tables.now in
    let then : JobTables =
    job_then c.args.w c.args.place (present) in
    let copied : JobTables =
    with_columns then c.edited-grocers.result c.edited-boxes.result c.edited-offers.result c.edited-counts.result
    c.edited-bags.result c.edited-revisions.result in
    let counts_held : Holds 1 c.args.w.shape.place c.args.w.shape.last (pos 0) (λ k. c.args.w.tally.count) c.args.tables.now.tally_count.now c.edited-counts.result =
    subst (λ (v : ℤ). Holds 1 c.args.w.shape.place c.args.w.shape.last (pos 0) (λ k. v) c.args.tables.now.tally_count.now c.edited-counts.result)
    (read32 c.args.w.tally.count c.struct_told-1.given.1.1.0.1) (c.edited-counts.ensures (pos 0)) in
    let agree : Agree then c.edited-grocers.result c.edited-boxes.result
    c.edited-offers.result c.edited-counts.result c.edited-bags.result c.edited-revisions.result =
    let few = c.requires.edit.most in
    record {
      grocer = λ i q. (c.edited-grocers.ensures 0).words i (omega arith);
      box = λ i q. (c.edited-boxes.ensures 0).words i (omega arith);
      offer = λ i q. (c.edited-offers.ensures 0).words i (omega arith);
      count = λ i q. counts_held.words i (omega arith);
      bag = λ i q. (c.edited-bags.ensures 0).words i (omega arith);
      revision = λ i q. (c.edited-revisions.ensures 0).words i (omega arith);
    } in
    let whole : job_short copied (job_lengths copied) ≡ false =
    let few = c.requires.edit.most in
    whole_with present c.args.w.sizes.tallies _ _ _ _ _ _ c.requires.whole
    (omega (arith, (c.edited-grocers.ensures 0).long)) (omega (arith, (c.edited-boxes.ensures 0).long))
    (omega (arith, (c.edited-offers.ensures 0).long)) (omega (arith, (c.edited-counts.ensures (pos 0)).long)) in
    let standing : List ℕ =
    c.job_refusal.new.standing in
    let stand : Standing copied (standing) =
    c.in-Ok.ensures.standing in
    let in_range_lem : job_in_range copied ≡ true =
    range_alike then _ _ _ _ _ _ agree ∙ c.requires.in_range in
    let handed : JobTables =
    handed_tables copied (standing) in
    let in_hand : Handed (handed) =
    handed_in copied standing stand (in_range_lem) in
    let whole_hand : JobWhole (handed) =
    job_whole handed (handed-whole copied standing stand whole) in
    placed_grocers handed in_hand (whole_hand)

pub box_start-places-requires : goal.box_start-places-requires
unfolding job_then
box_start-places-requires c =
    let present : JobTables =
    present_of c.args.w c.args.tables.now in
    let then : JobTables =
    job_then c.args.w c.args.place (present) in
    let copied : JobTables =
    with_columns then c.edited-grocers.result c.edited-boxes.result c.edited-offers.result c.edited-counts.result
    c.edited-bags.result c.edited-revisions.result in
    let counts_held : Holds 1 c.args.w.shape.place c.args.w.shape.last (pos 0) (λ k. c.args.w.tally.count) c.args.tables.now.tally_count.now c.edited-counts.result =
    subst (λ (v : ℤ). Holds 1 c.args.w.shape.place c.args.w.shape.last (pos 0) (λ k. v) c.args.tables.now.tally_count.now c.edited-counts.result)
    (read32 c.args.w.tally.count c.struct_told-1.given.1.1.0.1) (c.edited-counts.ensures (pos 0)) in
    let agree : Agree then c.edited-grocers.result c.edited-boxes.result
    c.edited-offers.result c.edited-counts.result c.edited-bags.result c.edited-revisions.result =
    let few = c.requires.edit.most in
    record {
      grocer = λ i q. (c.edited-grocers.ensures 0).words i (omega arith);
      box = λ i q. (c.edited-boxes.ensures 0).words i (omega arith);
      offer = λ i q. (c.edited-offers.ensures 0).words i (omega arith);
      count = λ i q. counts_held.words i (omega arith);
      bag = λ i q. (c.edited-bags.ensures 0).words i (omega arith);
      revision = λ i q. (c.edited-revisions.ensures 0).words i (omega arith);
    } in
    let whole : job_short copied (job_lengths copied) ≡ false =
    let few = c.requires.edit.most in
    whole_with present c.args.w.sizes.tallies _ _ _ _ _ _ c.requires.whole
    (omega (arith, (c.edited-grocers.ensures 0).long)) (omega (arith, (c.edited-boxes.ensures 0).long))
    (omega (arith, (c.edited-offers.ensures 0).long)) (omega (arith, (c.edited-counts.ensures (pos 0)).long)) in
    let standing : List ℕ =
    c.job_refusal.new.standing in
    let stand : Standing copied (standing) =
    c.in-Ok.ensures.standing in
    let in_range_lem : job_in_range copied ≡ true =
    range_alike then _ _ _ _ _ _ agree ∙ c.requires.in_range in
    let handed : JobTables =
    handed_tables copied (standing) in
    let in_hand : Handed (handed) =
    handed_in copied standing stand (in_range_lem) in
    let whole_hand : JobWhole (handed) =
    job_whole handed (handed-whole copied standing stand whole) in
    let sharers_are : c.sharers-sharers.result ≡ tabulate 255 (sharer_word (job_of handed)) =
    c.sharers-sharers.ensures ∙ sharer_words handed refl in (
      rw c.from.ensures (count_in handed in_hand whole_hand c.sharers-sharers.result sharers_are),
      (job_in_lem handed in_hand.inside).boxes≤,
    )

pub width_of-requires : goal.width_of-requires
unfolding job_then
width_of-requires c =
    let present : JobTables =
    present_of c.args.w c.args.tables.now in
    let then : JobTables =
    job_then c.args.w c.args.place (present) in
    let copied : JobTables =
    with_columns then c.edited-grocers.result c.edited-boxes.result c.edited-offers.result c.edited-counts.result
    c.edited-bags.result c.edited-revisions.result in
    let counts_held : Holds 1 c.args.w.shape.place c.args.w.shape.last (pos 0) (λ k. c.args.w.tally.count) c.args.tables.now.tally_count.now c.edited-counts.result =
    subst (λ (v : ℤ). Holds 1 c.args.w.shape.place c.args.w.shape.last (pos 0) (λ k. v) c.args.tables.now.tally_count.now c.edited-counts.result)
    (read32 c.args.w.tally.count c.struct_told-1.given.1.1.0.1) (c.edited-counts.ensures (pos 0)) in
    let agree : Agree then c.edited-grocers.result c.edited-boxes.result
    c.edited-offers.result c.edited-counts.result c.edited-bags.result c.edited-revisions.result =
    let few = c.requires.edit.most in
    record {
      grocer = λ i q. (c.edited-grocers.ensures 0).words i (omega arith);
      box = λ i q. (c.edited-boxes.ensures 0).words i (omega arith);
      offer = λ i q. (c.edited-offers.ensures 0).words i (omega arith);
      count = λ i q. counts_held.words i (omega arith);
      bag = λ i q. (c.edited-bags.ensures 0).words i (omega arith);
      revision = λ i q. (c.edited-revisions.ensures 0).words i (omega arith);
    } in
    let standing : List ℕ =
    c.job_refusal.new.standing in
    let stand : Standing copied (standing) =
    c.in-Ok.ensures.standing in
    let in_range_lem : job_in_range copied ≡ true =
    range_alike then _ _ _ _ _ _ agree ∙ c.requires.in_range in
    let handed : JobTables =
    handed_tables copied (standing) in
    let in_hand : Handed (handed) =
    handed_in copied standing stand (in_range_lem) in
    (job_in_lem handed in_hand.inside).lists≤

pub returns : goal.returns
unfolding job_then
returns c =
    let present : JobTables =
    present_of c.args.w c.args.tables.now in
    let then : JobTables =
    job_then c.args.w c.args.place (present) in
    let copied : JobTables =
    with_columns then c.edited-grocers.result c.edited-boxes.result c.edited-offers.result c.edited-counts.result
    c.edited-bags.result c.edited-revisions.result in
    let counts_held : Holds 1 c.args.w.shape.place c.args.w.shape.last (pos 0) (λ k. c.args.w.tally.count) c.args.tables.now.tally_count.now c.edited-counts.result =
    subst (λ (v : ℤ). Holds 1 c.args.w.shape.place c.args.w.shape.last (pos 0) (λ k. v) c.args.tables.now.tally_count.now c.edited-counts.result)
    (read32 c.args.w.tally.count c.struct_told-1.given.1.1.0.1) (c.edited-counts.ensures (pos 0)) in
    let agree : Agree then c.edited-grocers.result c.edited-boxes.result
    c.edited-offers.result c.edited-counts.result c.edited-bags.result c.edited-revisions.result =
    let few = c.requires.edit.most in
    record {
      grocer = λ i q. (c.edited-grocers.ensures 0).words i (omega arith);
      box = λ i q. (c.edited-boxes.ensures 0).words i (omega arith);
      offer = λ i q. (c.edited-offers.ensures 0).words i (omega arith);
      count = λ i q. counts_held.words i (omega arith);
      bag = λ i q. (c.edited-bags.ensures 0).words i (omega arith);
      revision = λ i q. (c.edited-revisions.ensures 0).words i (omega arith);
    } in
    let whole : job_short copied (job_lengths copied) ≡ false =
    let few = c.requires.edit.most in
    whole_with present c.args.w.sizes.tallies _ _ _ _ _ _ c.requires.whole
    (omega (arith, (c.edited-grocers.ensures 0).long)) (omega (arith, (c.edited-boxes.ensures 0).long))
    (omega (arith, (c.edited-offers.ensures 0).long)) (omega (arith, (c.edited-counts.ensures (pos 0)).long)) in
    let bags : bags_short copied (job_lengths copied) ≡ false =
    let few = c.requires.edit.most in
    bags_with present c.args.w.sizes.tallies _ _ _ _ _ _ (omega (arith, (c.edited-bags.ensures 0).long)) (omega (arith, (c.edited-revisions.ensures 0).long)) in
    let told : number c.job_refusal.result ≡ cond (counted_twice (counted_of then)) 9 0 =
    nine_alone then _ _ _ _ _ _ agree _ c.job_refusal.ensures.value whole bags c.requires.in_range in
    let standing : List ℕ =
    c.job_refusal.new.standing in
    let stand : Standing copied (standing) =
    c.in-Ok.ensures.standing in
    let in_range_lem : job_in_range copied ≡ true =
    range_alike then _ _ _ _ _ _ agree ∙ c.requires.in_range in
    let handed : JobTables =
    handed_tables copied (standing) in
    let in_hand : Handed (handed) =
    handed_in copied standing stand (in_range_lem) in
    let sharers_are : c.sharers-sharers.result ≡ tabulate 255 (sharer_word (job_of handed)) =
    c.sharers-sharers.ensures ∙ sharer_words handed refl in
    let places_are : c.from-2.result ≡ totals_length (job_of handed) =
    c.from-2.ensures
    ∙ c.box_start-places.ensures.0
    ∙ ap (λ (m : ℕ). start_by m handed.grocer_owner c.sharers-sharers.result handed.boxes) c.from.ensures
    ∙ length_model handed in_hand.bare (range handed in_hand.inside) (job_in_lem handed in_hand.inside).grocers≤ c.sharers-sharers.result (sharers_are) in
    let length_is : c.words_at-words.result ≡ totals_length (evening_of then) =
    c.words_at-words.ensures.0
    ∙ ap₂ (λ (x y : ℕ). x * y) places_are c.width_of.ensures.0
    ∙ sym (list_totals_lem handed).packed_length
    ∙ ap totals_length (handed_evening copied standing stand ∙ evening_alike then _ _ _ _ _ _ agree) in
    let once : counted_twice (counted_of then) ≡ false = met_none _ _ told (rw c.in-Ok.is) in
    record { met_is = rw once; place_is = refl; words_is = rw once length_is }
