-- `file_blocks::records::bad_records` meets its contract. Assumes nothing.
use Rattle.std.proofs.Common.{rules}
use mathlib.Core.Path.{◌≡◌, ◌∙◌, sym, ap}
use mathlib.Core.List.{List}
use Prim.Native.Nat.{ℕ}
use Rattle.laws.specs.Below.{any}
use Rattle.format.specs.Job.{bad_owner, bad_price}
use Rattle.format.specs.Blocks.{BlockKind}
use Rattle.format.specs.File.{decode}
use Rattle.format.specs.Refusals.{bad_record}
use Rattle.file_blocks.proofs.ByPlace.{tested_by}
use Rattle.file_blocks.proofs.DueBlocks.{due_zero, due_one, due_two, due_four, due_three}
use Rattle.file_blocks.proofs.Places.{header_in, offers_in, owners_in, prices_in, tallies_in}
use Rattle.file_blocks.proofs.records.bad_records.Goals as goal

-- The records of a block of kind b.
of_kind : (f : List ℕ) (n : ℕ) {a b : BlockKind} → a ≡ b → any n (bad_record (decode f) b) ≡ any n (bad_record (decode f) a)
of_kind f n e = sym (ap (λ (b : BlockKind). any n (bad_record (decode f) b)) e)

pub returns-in-Header : goal.returns-in-Header
returns-in-Header c =
    header_in _ _ ∙ of_kind _ _ (due_zero c.requires.head_value.1 c.in-Header.is)

pub returns-in-Offers : goal.returns-in-Offers
returns-in-Offers c =
    let d = due_one c.requires.head_value.1 c.in-Offers.is in
    tested_by _ _ c.any_by.ensures (λ i b l e. search rules) ∙ offers_in _ _ c.requires.head_value.0 _ _ d.1 d.2 ∙ of_kind _ _ d.0

pub returns-in-Grocers : goal.returns-in-Grocers
unfolding bad_owner
returns-in-Grocers c =
    let d = due_two c.requires.head_value.1 c.in-Grocers.is in
    tested_by _ _ c.any_by-in-Grocers.ensures (λ i b l e. search rules) ∙ owners_in _ _ c.requires.head_value.0 _ _ d.1 ∙ of_kind _ _ d.0

pub returns-in-Tallies : goal.returns-in-Tallies
returns-in-Tallies c =
    let d = due_three c.requires.head_value.1 c.in-Tallies.is in
    tested_by _ _ c.any_by-in-Tallies.ensures (λ i b l e. search rules) ∙ tallies_in _ _ c.requires.head_value.0 _ _ d.1 d.2 ∙ of_kind _ _ d.0

pub returns-in-Prices : goal.returns-in-Prices
unfolding bad_price
returns-in-Prices c =
    let (q, b, i, p, n) = due_four c.requires.head_value.1 c.in-Prices.is in
    tested_by _ _ c.any_by-in-Prices.ensures (λ i b l e. search rules) ∙ prices_in c.args.f.now _ _ q b p n ∙ of_kind _ _ i
