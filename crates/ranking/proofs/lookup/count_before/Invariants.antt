use Rattle.std.proofs.Common.{◌≡◌, ◌+◌, ◌<◌}
use Rattle.ranking.specs.Balance.{passed}
use Rattle.ranking.specs.Keys.{follows}
use Rattle.ranking.specs.Slots.{Stands, size_at}
use Rattle.ranking.specs.Tree.{Tree}
use Rattle.ranking.proofs.lookup.count_before.Given as goal

-- what is left to count is in the tree at the slot
abbrev pub invariant-loop-slot : goal.invariant-loop-slot
invariant-loop-slot l =
    (l.slot < 65536) × (l.count < 65536)
    × ((t : Tree) → Stands l.nodes l.root t → (u : Tree) × Stands l.nodes l.slot u
    × (l.count + passed (follows l.side l.nodes l.limit) u ≡ passed (follows l.side l.nodes l.limit) t))

abbrev pub decreases-loop-slot : goal.decreases-loop-slot
decreases-loop-slot l = size_at l.nodes l.slot
