use Rattle.std.proofs.Common.{arith}
use Rattle.ranking.proofs.Reps.{slot_rep}
use Rattle.ranking.proofs.Lifts.{balance_heavy, balance_light}
use Rattle.ranking.proofs.tree.balance.Goals as goal

pub weight-requires : goal.weight-requires
weight-requires c = slot_rep c.args.nodes.now c.args.far c.requires.right c.requires.parts.second

pub weight-requires-2 : goal.weight-requires-2
weight-requires-2 c = slot_rep c.args.nodes.now c.args.near c.requires.left c.requires.parts.first

pub returns-then-weight : goal.returns-then-weight
returns-then-weight c =
    λ t u p. balance_heavy c.args.hand p c.weight-2.ensures.value c.weight.ensures.value
    (omega arith) (c.lift.ensures t u p)

pub returns : goal.returns
returns c =
    λ t u p. balance_light c.args.hand p c.weight-2.ensures.value c.weight.ensures.value
    (omega arith) (c.join.ensures t u p)
