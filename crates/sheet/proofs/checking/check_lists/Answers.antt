use Rattle.std.proofs.Common.{◌∙◌}
use Rattle.sheet.specs.Sheets.{kind_fields}
use Rattle.sheet.specs.Verdicts.{through}
use Rattle.sheet.proofs.Checks.{given_by}
use Rattle.sheet.proofs.checking.check_lists.Goals as goal

pub returns : goal.returns
returns c =
    c.expect_kind.ensures
    ∙ given_by c.args.buyers.now c.args.sellers.now
    (λ p o b s. through c.args.reading.sheet.now c.args.reading.kind (kind_fields p o b s) c.args.at)
    c.count_pairs-pairs.ensures.pairs c.clear.ensures.rule c.front.ensures c.front-2.ensures
