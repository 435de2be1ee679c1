use Rattle.std.proofs.Common.{◌≡◌, drop}
use Rattle.std.specs.List.{slice_get}
use Rattle.ranking_wide.specs.Leaves.{laid}
use Rattle.ranking_wide.specs.Trees.{keys_of, leaves_of}
use Rattle.ranking_wide.proofs.tree.Tree.key_at.Given as goal

-- the keys of the leaves that are left have the one that is looked for at the place that is left
abbrev pub invariant-loop-leaf : goal.invariant-loop-leaf
invariant-loop-leaf l = slice_get (laid (drop l.leaf-index (leaves_of l.self))) l.left ≡ slice_get (keys_of l.self) l.place
