-- What always holds of a kind's slots and roots: each side's tree is in the order of ranks and balanced, no
-- member is in a tree twice or in both, and a slot in neither counts 0.
use Rattle.std.specs.Prelude.{◌≡◌, ℕ, ◌+◌, ◌<◌, ◌≤◌, List, map, length}
use Rattle.ranking.specs.declared.node.Node.{Node}
use Rattle.ranking.specs.declared.ranked.Side.{Side}
use Rattle.ranking.specs.declared.ranked.Ranked.{Ranked}
use Rattle.ranking.specs.declared.sides.Sides.{Sides}
use Rattle.ranking.specs.Tree.{Tree, tree_of, in_order, at}
use Rattle.ranking.specs.Balance.{Balanced}
use Rattle.ranking.specs.Keys.{ranked_at, ahead, Sorted}
use Rattle.ranking.specs.Sides.{opposite, of_side}
use Rattle.ranking.specs.Slots.{Rep, times}

-- the tree below a slot: no deeper than there are slots
abbrev pub tree_at : List Node → ℕ → Tree
tree_at ns i = tree_of (length ns) ns i

abbrev pub side_tree : Side → List Node → Sides ℕ → Tree
side_tree s ns r = tree_at ns (of_side s r)

pub record Kept (s : Side) (ns : List Node) (r : Sides ℕ) : Type 0 where
  pub rep : Rep ns (of_side s r) (side_tree s ns r)
  pub sorted : Sorted (ahead s ns) (in_order (side_tree s ns r))
  pub even : Balanced (side_tree s ns r)
  pub apart : (k : ℕ) → times k (side_tree s ns r) + times k (side_tree (opposite s) ns r) ≤ 1
  pub free : (k : ℕ) → times k (side_tree s ns r) + times k (side_tree (opposite s) ns r) ≡ 0 → (at ns k).count ≡ 0

pub record Sound (ns : List Node) (r : Sides ℕ) : Type 0 where
  pub few : length ns ≤ 65535
  pub sides : (s : Side) → Kept s ns r

-- the members of a side with their numbers, in the order of the tree
abbrev pub list_of : Side → List Node → Sides ℕ → List Ranked
list_of s ns r = map (ranked_at ns) (in_order (side_tree s ns r))

-- a member that there is, and that is in neither tree
pub record Fresh (ns : List Node) (r : Sides ℕ) (m : ℕ) : Type 0 where
  pub sound : Sound ns r
  pub within : m < length ns
  pub free : (at ns m).count ≡ 0

-- a side's list has become xs, and the other's has not changed
pub record Booked (s : Side) (ns : List Node) (r : Sides ℕ) (os : List Node) (q : Sides ℕ)
    (xs : List Ranked) : Type 0 where
  pub sound : Sound os q
  pub this : list_of s os q ≡ xs
  pub other : list_of (opposite s) os q ≡ list_of (opposite s) ns r
