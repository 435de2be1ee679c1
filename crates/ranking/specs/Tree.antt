-- A tree of members, and the tree that the slots of a row make. Slot m is member m's: its node names the slots of its
-- left and right child, 65535 for none, counts the members below it with itself, and has the member's cents.
use Rattle.std.specs.Prelude.{ℕ, zero, suc, ◌+◌, max, cond, List, [], ◌∷◌, ◌++◌, ◌==◌, slice_index_or}
use Rattle.ranking.specs.declared.node.Node.{Node}

pub data Tree : Type 0 where
  leaf : Tree
  node : Tree → ℕ → Tree → Tree

abbrev pub size : Tree → ℕ
size leaf = 0
size (node l m r) = size l + size r + 1

-- how many nodes stand one below the other at most
abbrev pub height : Tree → ℕ
height leaf = 0
height (node l m r) = suc (max (height l) (height r))

abbrev pub in_order : Tree → List ℕ
in_order leaf = []
in_order (node l m r) = in_order l ++ m ∷ in_order r

-- a slot in no tree
abbrev pub blank : Node
blank = record { left = 0; right = 0; count = 0; cents = record { 0 = 0 } }

abbrev pub at : List Node → ℕ → Node
at ns i = slice_index_or ns i blank

-- the tree below a slot, as far down as the first number says
unfoldable pub tree_of : ℕ → List Node → ℕ → Tree
tree_of zero ns i = leaf
tree_of (suc n) ns i =
    cond (i == 65535) leaf (node (tree_of n ns (at ns i).left) i (tree_of n ns (at ns i).right))
