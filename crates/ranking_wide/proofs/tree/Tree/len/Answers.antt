use Rattle.std.proofs.Common.{length, ap, ◌∙◌, arith}
use Rattle.ranking_wide.specs.Leaves.{laid}
use Rattle.ranking_wide.proofs.Counting.{sum_laid}
use Rattle.ranking_wide.proofs.tree.Tree.len.Goals as goal

pub count-requires : goal.count-requires
count-requires c =
    omega (arith, sum_laid c.deref.result.now, ap (λ ls. length (laid ls)) c.deref.ensures.value, c.requires)

pub returns : goal.returns
returns c = c.count.ensures ∙ sum_laid c.deref.result.now ∙ ap (λ ls. length (laid ls)) c.deref.ensures.value
