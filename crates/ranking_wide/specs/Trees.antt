-- What the keys of a side's tree are.
use Rattle.std.specs.Prelude.{◌≡◌, ℕ, ◌+◌, ◌*◌, ◌<◌, List, length, vec_items}
use Rattle.ranking_wide.specs.declared.leaf.Leaf.{Leaf}
use Rattle.ranking_wide.specs.declared.tree.Tree.{Tree}
use Rattle.ranking_wide.specs.Leaves.{laid}

abbrev pub leaves_of : Tree → List Leaf
leaves_of t = vec_items t.leaves

-- the keys of a tree, in order
abbrev pub keys_of : Tree → List ℕ
keys_of t = laid (leaves_of t)

-- a tree with a place for one key more: leaves that could not be joined would hold more keys than there are
abbrev pub Roomy : Tree → Type 0
Roomy t = 2 * length (keys_of t) + 33 < 33 * t.most

-- a tree has come to hold ks
pub record Held (was t : Tree) (ks : List ℕ) : Type 0 where
  pub keys : keys_of t ≡ ks
  pub most : t.most ≡ was.most
