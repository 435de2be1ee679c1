-- The leaves of a side's tree, and the keys that they hold. A leaf's keys are in ascending order, none of them below the
-- leaf's own low number, and each below the next leaf's.
use Rattle.std.specs.Prelude.{◌≡◌, ℕ, suc, ◌+◌, ◌^◌, ◌<◌, ◌≤◌, Bool, cond, not, List, [], ◌∷◌, ◌++◌, length, take, drop, filter, ◌==◌, nat_lt, slice_index, slice_index_or}
use Rattle.std.specs.List.{AllByRecursion}
use Rattle.ranking_wide.specs.declared.leaf.Leaf.{Leaf}

abbrev pub part : Leaf → List ℕ
part l = l.keys.items

-- the keys of all leaves
abbrev pub laid : List Leaf → List ℕ
laid [] = []
laid (l ∷ ls) = part l ++ laid ls

-- a key put in before the first that is greater
abbrev pub placed : ℕ → List ℕ → List ℕ
placed k [] = k ∷ []
placed k (x ∷ xs) = cond (nat_lt k x) (k ∷ x ∷ xs) (x ∷ placed k xs)

abbrev pub without : ℕ → List ℕ → List ℕ
without k xs = filter (λ x. not (x == k)) xs

-- a leaf has come to hold ks, and has the low number that it had
pub record Changed (was l : Leaf) (ks : List ℕ) : Type 0 where
  pub low : l.low ≡ was.low
  pub held : part l ≡ ks

-- a full leaf and its halves
pub record Parted (was l u : Leaf) : Type 0 where
  pub lower : Changed was l (take 16 (part was))
  pub upper : part u ≡ drop 16 (part was)
  pub low : u.low ≡ slice_index (part was) 16

-- where the leaves begin, or hi where there is none
abbrev pub from : List Leaf → ℕ → ℕ
from [] hi = hi
from (l ∷ ls) hi = l.low

-- each is below all that are after it
abbrev pub Ascending : List ℕ → Type 0
Ascending [] = Unit {0}
Ascending (x ∷ xs) = AllByRecursion (λ y. x < y) xs × Ascending xs

-- a leaf whose keys are below hi
pub record Filled (l : Leaf) (hi : ℕ) : Type 0 where
  pub few : length (part l) ≤ 32
  pub low : l.low ≤ hi
  pub within : AllByRecursion (λ k. (l.low ≤ k) × (k < hi)) (part l)
  pub rises : Ascending (part l)

-- leaves one after another, up to hi
abbrev pub Spans : List Leaf → ℕ → Type 0
Spans [] hi = Unit {0}
Spans (l ∷ ls) hi = Filled l (from ls hi) × Spans ls hi

-- what always holds of a tree's leaves: they part the numbers of keys among them, and there is place for the most of them
pub record Grown (ls : List Leaf) (most places : ℕ) : Type 0 where
  pub spans : Spans ls (2 ^ 48)
  pub root : from ls 1 ≡ 0
  pub fits : length ls ≤ most
  pub place : most ≤ places

-- a leaf that stands where there is none
abbrev pub blank : Leaf
blank = record { low = 0; keys = record { items = [] } }

-- whether the keys of two leaves fit into one
abbrev pub fit : Leaf × Leaf → Bool
fit p = not (nat_lt 32 (length (part p.0) + length (part p.1)))

-- the leaf in whose range a key is
pub record Found (k : ℕ) (ls : List Leaf) (hi i : ℕ) : Type 0 where
  pub inside : i < length ls
  pub low : (slice_index_or ls i blank).low ≤ k
  pub next : k < from (drop (suc i) ls) hi
