-- What the code does to a tree, on trees in place of slots: the private functions are held to these, and the laws of
-- their lists and their balance are proved. A tree is balanced if nowhere the one child weighs more than three times
-- the other; its weight is one more than its size.
use Rattle.std.specs.Prelude.{ℕ, ◌+◌, ◌-◌, ◌*◌, ◌≤◌, Bool, true, false, cond, Some, None, Option, ◌==◌, nat_lt}
use Rattle.orders.specs.declared.money.Cents.{Cents}
use Rattle.ranking.specs.declared.node.Node.{Node}
use Rattle.ranking.specs.declared.node.Hand.{Hand}
use Rattle.ranking.specs.declared.node.Hand.TheVariants.{Left, Right}
use Rattle.ranking.specs.Tree.{Tree, leaf, node, size}

abbrev pub weight : Tree → ℕ
weight t = size t + 1

abbrev pub Balanced : Tree → Type 0
Balanced leaf = Unit {0}
Balanced (node l m r) =
    (weight l ≤ 3 * weight r) × (weight r ≤ 3 * weight l) × Balanced l × Balanced r

-- a node with one child on a hand, the far one, and one on the other
abbrev pub node_of : Hand → ℕ → ℕ → ℕ → Cents → Node
node_of Left near far n c = record { left = far; right = near; count = n; cents = c }
node_of Right near far n c = record { left = near; right = far; count = n; cents = c }

abbrev pub outer_at : Hand → Node → ℕ
outer_at Left n = n.left
outer_at Right n = n.right

abbrev pub inner_at : Hand → Node → ℕ
inner_at Left n = n.right
inner_at Right n = n.left

-- the same of trees
abbrev pub fork : Hand → Tree → ℕ → Tree → Tree
fork Left near m far = node far m near
fork Right near m far = node near m far

abbrev pub left_of : Tree → Tree
left_of leaf = leaf
left_of (node l m r) = l

abbrev pub right_of : Tree → Tree
right_of leaf = leaf
right_of (node l m r) = r

abbrev pub top_of : Tree → ℕ
top_of leaf = 0
top_of (node l m r) = m

abbrev pub outer_of : Hand → Tree → Tree
outer_of Left t = left_of t
outer_of Right t = right_of t

abbrev pub inner_of : Hand → Tree → Tree
inner_of Left t = right_of t
inner_of Right t = left_of t

-- the far child's root goes above m, or that of its inner child
abbrev pub single : Hand → Tree → ℕ → Tree → Tree
single h near m far = fork h (fork h near m (inner_of h far)) (top_of far) (outer_of h far)

abbrev pub double : Hand → Tree → ℕ → Tree → ℕ → Tree → Tree
double h near m inner x outer =
    fork h (fork h near m (inner_of h inner)) (top_of inner) (fork h (outer_of h inner) x outer)

-- a far child that is too heavy goes up
unfoldable pub lifted : Hand → Tree → ℕ → Tree → Tree
lifted h near m far =
    cond (nat_lt (weight (inner_of h far)) (2 * weight (outer_of h far)))
    (single h near m far)
    (double h near m (inner_of h far) (top_of far) (outer_of h far))

-- m between two trees of which only the far one may be too heavy
unfoldable pub balanced : Hand → Tree → ℕ → Tree → Tree
balanced h near m far = cond (nat_lt (3 * weight near) (weight far)) (lifted h near m far) (fork h near m far)

-- where a member is that comes before, or does not come before, the root
abbrev pub hand_of : Bool → Hand
hand_of true = Left
hand_of false = Right

abbrev pub other : Hand → Hand
other Left = Right
other Right = Left

-- m put in before the first member of which the test is true
unfoldable pub grown : (ℕ → Bool) → ℕ → Tree → Tree
grown p m leaf = node leaf m leaf
grown p m (node l x r) = cond (p x) (balanced Left r x (grown p m l)) (balanced Right l x (grown p m r))

unfoldable pub first_of : Tree → ℕ
first_of leaf = 0
first_of (node leaf m r) = m
first_of (node (node a x b) m r) = first_of (node a x b)

unfoldable pub rest_of : Tree → Tree
rest_of leaf = leaf
rest_of (node leaf m r) = r
rest_of (node (node a x b) m r) = balanced Right (rest_of (node a x b)) m r

unfoldable pub glued : Tree → Tree → Tree
glued l leaf = l
glued l (node a x b) = balanced Left (rest_of (node a x b)) (first_of (node a x b)) l

-- m taken out, where the test is true of the members after it
unfoldable pub shrunk : (ℕ → Bool) → ℕ → Tree → Tree
shrunk p m leaf = leaf
shrunk p m (node l x r) =
    cond (m == x) (glued l r) (cond (p x) (balanced Right (shrunk p m l) x r) (balanced Left (shrunk p m r) x l))

-- how many members are passed on the way to the first of which the test is not true
unfoldable pub passed : (ℕ → Bool) → Tree → ℕ
passed p leaf = 0
passed p (node l x r) = cond (p x) (size l + 1 + passed p r) (passed p l)

-- the member at a place
unfoldable pub picked : ℕ → Tree → Option ℕ
picked k leaf = None
picked k (node l x r) =
    cond (nat_lt k (size l)) (picked k l) (cond (k == size l) (Some x) (picked (k - (size l + 1)) r))
