-- `file_blocks::fill::offer_number` meets its contract. Assumes nothing.
use mathlib.Core.Path.{ap, ◌∙◌}
use native.Mathlib.Omega.{arith}
use Rattle.format.specs.Codes.{is_code}
use Rattle.file_blocks.proofs.RecordWords.{offer_code_lem, offer_name_lem}
use Rattle.file_blocks.proofs.fill.offer_number.Goals as goal

pub name_at-requires : goal.name_at-requires
name_at-requires c =
    record {
      at_in_bounds = (omega (arith, c.record_at-at.ensures, c.requires.i_bound.1), c.word16.ensures.1);
      at_value = ap is_code (offer_code_lem c.args.f.now c.args.i c.record_at-at.ensures) ∙ c.requires.code;
    }

pub returns : goal.returns
returns c =
    c.name_at.ensures ∙ offer_name_lem c.args.f.now c.args.i c.record_at-at.ensures c.word16.result c.word16.ensures.0
