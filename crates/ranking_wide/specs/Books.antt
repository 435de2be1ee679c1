-- What a kind's order book holds: for each side the ranked list, from its tree.
use Rattle.std.specs.Prelude.{ℕ, List, [], ◌∷◌, map, length, vec_len}
use Rattle.ranking_wide.specs.declared.book.Book.{Book}
use Rattle.ranking.specs.declared.ranked.Side.{Side}
use Rattle.ranking.specs.declared.ranked.Ranked.{Ranked}
use Rattle.ranking_wide.specs.declared.tree.Tree.{Tree}
use Rattle.ranking_wide.specs.Keys.{ranked_of}
use Rattle.ranking_wide.specs.Leaves.{part}
use Rattle.ranking.specs.Sides.{of_side}
use Rattle.ranking_wide.specs.Trees.{keys_of, leaves_of}

-- how many members there are, on a side or not
unfoldable pub members : Book → ℕ
members b = vec_len b.entries

unfoldable pub tree : Side → Book → Tree
tree s b = of_side s b.trees

-- the members of a side with their numbers, in the order of the tree
unfoldable pub listed : Side → Book → List Ranked
unfolding tree
listed s b = map (ranked_of s) (keys_of (tree s b))

-- how many nodes stand one below the other on the way to a key: the root and a leaf
abbrev pub way : List ℕ → ℕ
way [] = 0
way (k ∷ ks) = 2

abbrev pub depth : Side → Book → ℕ
depth s b = way (keys_of (tree s b))

-- the counts of the leaves of a side's tree
unfoldable pub counts : Side → Book → List ℕ
unfolding tree
counts s b = map (λ l. length (part l)) (leaves_of (tree s b))
