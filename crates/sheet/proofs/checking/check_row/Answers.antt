use Rattle.std.proofs.Common.{◌∙◌, ap₂}
use Rattle.sheet.specs.Standing.{lists_fields, lists_fit}
use Rattle.sheet.specs.Verdicts.{through}
use Rattle.sheet.proofs.Checks.{row_fits}
use Rattle.sheet.proofs.checking.check_row.Goals as goal

pub check_lists-requires : goal.check_lists-requires
check_lists-requires c =
    ap₂ lists_fit (c.as_slice.ensures.value ∙ c.rank.ensures) (c.as_slice-2.ensures.value ∙ c.rank-2.ensures) ∙ row_fits c.args.codes.now c.requires

pub returns : goal.returns
returns c =
    c.check_lists.ensures
    ∙ ap₂ (λ b s. through c.args.reading.sheet.now c.args.reading.kind (lists_fields b s) c.args.at)
    (c.as_slice.ensures.value ∙ c.rank.ensures) (c.as_slice-2.ensures.value ∙ c.rank-2.ensures)
