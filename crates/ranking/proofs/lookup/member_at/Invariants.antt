use Rattle.std.proofs.Common.{◌≡◌, ◌<◌}
use Rattle.ranking.specs.Balance.{picked}
use Rattle.ranking.specs.Slots.{Stands, size_at}
use Rattle.ranking.specs.Tree.{Tree}
use Rattle.ranking.proofs.lookup.member_at.Given as goal

-- what is looked for is in the tree at the slot, at the place that is left
abbrev pub invariant-loop-slot : goal.invariant-loop-slot
invariant-loop-slot l =
    (l.slot < 65536) × (l.left < 65536)
    × ((t : Tree) → Stands l.nodes l.root t → (u : Tree) × Stands l.nodes l.slot u × (picked l.left u ≡ picked l.place t))

abbrev pub decreases-loop-slot : goal.decreases-loop-slot
decreases-loop-slot l = size_at l.nodes l.slot
