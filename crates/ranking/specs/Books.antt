-- What a kind's order book holds: for each side the ranked list, from its tree.
use Rattle.std.specs.Prelude.{◌≡◌, ℕ, true, List, [], ◌∷◌, map, vec_items, vec_len}
use Rattle.std.specs.List.{AllByRecursion}
use Rattle.orders.specs.declared.money.Cents.{Cents}
use Rattle.ranking.specs.declared.book.Book.{Book}
use Rattle.ranking.specs.declared.ranked.Side.{Side}
use Rattle.ranking.specs.declared.ranked.Ranked.{Ranked}
use Rattle.ranking.specs.Keys.{ranked_at}
use Rattle.ranking.specs.Ranks.{before, own}
use Rattle.ranking.specs.Sound.{side_tree}
use Rattle.ranking.specs.Tree.{Tree, in_order, height}

-- how many members there are, in a tree or not
unfoldable pub members : Book → ℕ
members b = vec_len b.nodes

unfoldable pub tree : Side → Book → Tree
tree s b = side_tree s (vec_items b.nodes) b.roots

-- the members of a side with their numbers, in the order of the tree
unfoldable pub listed : Side → Book → List Ranked
unfolding tree
listed s b = map (ranked_at (vec_items b.nodes)) (in_order (tree s b))

-- how many nodes stand one below the other at most
abbrev pub depth : Side → Book → ℕ
depth s b = height (tree s b)

-- each comes before all that are after it
abbrev pub Ordered : Side → List Ranked → Type 0
Ordered s [] = Unit {0}
Ordered s (x ∷ xs) = AllByRecursion (λ y. before s own x y ≡ true) xs × Ordered s xs

abbrev pub ranked_as : ℕ → Cents → Ranked
ranked_as m c = record { member = m; cents = c }
