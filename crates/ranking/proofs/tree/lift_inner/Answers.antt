use Rattle.ranking.proofs.Reps.{slot_rep}
use Rattle.ranking.proofs.Lifts.{held, trio_first, trio_second, trio_third, trio_last}
use Rattle.ranking.proofs.tree.lift_inner.Goals as goal

pub slice_copy_out-top : goal.slice_copy_out-top
slice_copy_out-top c =
    slot_rep c.args.nodes.now c.args.inner c.requires.trees.middle c.requires.trees.trio.second c.requires.some

pub join-requires : goal.join-requires
join-requires c = held (trio_first c.args.hand c.requires.trees.trio c.requires.some c.inner.ensures)

pub join-requires-2 : goal.join-requires-2
join-requires-2 c =
    held (trio_second c.args.hand c.requires.trees.trio c.requires.some c.inner.ensures c.outer.ensures
    c.join.auto.nodes c.join.ensures)

pub join-requires-3 : goal.join-requires-3
join-requires-3 c =
    held (trio_third c.args.hand c.requires.trees.trio c.requires.some c.inner.ensures c.outer.ensures
    c.join.auto.nodes c.join.ensures c.join-2.auto.nodes c.join-2.ensures)

pub returns : goal.returns
returns c =
    λ t u v p. trio_last c.args.hand p c.requires.some c.inner.ensures c.outer.ensures
    c.join.auto.nodes c.join.ensures c.join-2.auto.nodes c.join-2.ensures c.join-3.ensures
