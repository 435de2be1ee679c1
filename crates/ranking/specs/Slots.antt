-- When the slots of a row hold a tree, for the contracts of the private functions: what they ask holds of some tree, and
-- what they leave is said of every tree that the slots held.
use Rattle.std.specs.Prelude.{◌≡◌, ℕ, ◌+◌, ◌<◌, ◌≤◌, cond, List, length, ◌==◌, ◌≢◌}
use Rattle.ranking.specs.declared.node.Node.{Node}
use Rattle.ranking.specs.Tree.{Tree, leaf, node, size, at}

-- how often a member is in a tree
abbrev pub here : ℕ → ℕ → ℕ
here k m = cond (k == m) 1 0

abbrev pub times : ℕ → Tree → ℕ
times k leaf = 0
times k (node l m r) = times k l + times k r + here k m

-- slot i and those below it make the tree
abbrev pub Rep : List Node → ℕ → Tree → Type 0
Rep ns i leaf = i ≡ 65535
Rep ns i (node l m r) =
    (i ≡ m) × (m < length ns) × (m < 65535) × ((at ns m).count ≡ size l + size r + 1) × Rep ns (at ns m).left l
    × Rep ns (at ns m).right r

-- the size of the tree at slot i, as the slots have it
abbrev pub size_at : List Node → ℕ → ℕ
size_at ns i = cond (i == 65535) 0 (at ns i).count

-- no slot, or one of the row
abbrev pub Slot : List Node → ℕ → Type 0
Slot ns i = (i ≢ 65535) → i < length ns

-- a tree in which each member is at most once
pub record Stands (ns : List Node) (i : ℕ) (t : Tree) : Type 0 where
  pub rep : Rep ns i t
  pub apart : (k : ℕ) → times k t ≤ 1
  pub fits : size t < 65536

pub record Held (ns : List Node) (i : ℕ) : Type 0 where
  pub tree : Tree
  pub stands : Stands ns i tree

-- two trees and a slot between them, to be made one
pub record Parts (ns : List Node) (m : ℕ) (i j : ℕ) (t u : Tree) : Type 0 where
  pub first : Rep ns i t
  pub second : Rep ns j u
  pub apart : (k : ℕ) → times k t + times k u + here k m ≤ 1
  pub within : m < length ns
  pub below : m < 65535
  pub fits : size t + size u + 1 < 65536

pub record HeldParts (ns : List Node) (m : ℕ) (i j : ℕ) : Type 0 where
  pub left : Tree
  pub right : Tree
  pub parts : Parts ns m i j left right

-- slot i holds the tree t now, no slot has changed but those of the tree u, and no member's cents
pub record Became (was ns : List Node) (i : ℕ) (t u : Tree) : Type 0 where
  pub rep : Rep ns i t
  pub rest : (k : ℕ) → times k u ≡ 0 → at ns k ≡ at was k
  pub kept : (k : ℕ) → (at ns k).cents ≡ (at was k).cents

-- three trees and two slots between them
pub record Trio (ns : List Node) (m x i j o : ℕ) (t u v : Tree) : Type 0 where
  pub first : Rep ns i t
  pub second : Rep ns j u
  pub third : Rep ns o v
  pub apart : (k : ℕ) → times k t + times k u + times k v + here k m + here k x ≤ 1
  pub within : (m < length ns) × (x < length ns)
  pub below : (m < 65535) × (x < 65535)
  pub fits : size t + size u + size v + 2 < 65536

pub record HeldTrio (ns : List Node) (m x i j o : ℕ) : Type 0 where
  pub left : Tree
  pub middle : Tree
  pub right : Tree
  pub trio : Trio ns m x i j o left middle right

-- a tree, and a slot that is to go into it
pub record Room (ns : List Node) (m i : ℕ) : Type 0 where
  pub tree : Tree
  pub parts : Parts ns m i 65535 tree leaf

-- two trees that share no member
pub record Pair (ns : List Node) (i j : ℕ) (t u : Tree) : Type 0 where
  pub first : Rep ns i t
  pub second : Rep ns j u
  pub apart : (k : ℕ) → times k t + times k u ≤ 1
  pub fits : size t + size u < 65536

pub record HeldPair (ns : List Node) (i j : ℕ) : Type 0 where
  pub left : Tree
  pub right : Tree
  pub pair : Pair ns i j left right
