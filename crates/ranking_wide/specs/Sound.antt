-- What always holds of a kind's book: the keys of a side's tree are those of the members that are on the side, each once,
-- with the number that the member has, and the tree has place for the keys of all members.
use Rattle.std.specs.Prelude.{◌≡◌, ℕ, suc, ◌+◌, ◌*◌, ◌/◌, ◌%◌, ◌<◌, ◌≤◌, Bool, cond, List, length, Some, None, count_by, Option, nat_eq, nat_lt, slice_index_or}
use Rattle.std.specs.List.{AllByRecursion}
use Rattle.orders.specs.declared.entry.Entry.{Entry}
use Rattle.orders.specs.declared.entry.Entry.TheVariants.{Nothing, Bid, Ask}
use Rattle.orders.specs.declared.money.Cents.{Cents}
use Rattle.ranking.specs.declared.ranked.Side.{Side}
use Rattle.ranking.specs.declared.ranked.Side.TheVariants.{Buyers, Sellers}
use Rattle.ranking.specs.declared.sides.Sides.{Sides}
use Rattle.ranking.specs.Sides.{of_side}
use Rattle.ranking_wide.specs.declared.tree.Tree.{Tree}
use Rattle.ranking_wide.specs.Keys.{worth}
use Rattle.ranking.specs.Ranks.{on_side}
use Rattle.ranking_wide.specs.Trees.{keys_of}

-- the entry with which a member stands on a side
abbrev pub entry_on : Side → Cents → Entry
entry_on Buyers c = Bid c
entry_on Sellers c = Ask c

-- one more than the cents that there are, or 0
abbrev pub mark : Option Cents → ℕ
mark None = 0
mark (Some c) = suc c.0

abbrev pub mark_on : Side → Entry → ℕ
mark_on s e = mark (on_side s e)

abbrev pub is_on : Side → Entry → Bool
is_on s e = nat_lt 0 (mark_on s e)

abbrev pub member_of : ℕ → ℕ
member_of k = k % 65536

pub record Kept (s : Side) (t : Tree) (es : List Entry) : Type 0 where
  pub stands : AllByRecursion (λ k. mark_on s (slice_index_or es (member_of k) Nothing) ≡ suc (worth s (k / 65536))) (keys_of t)
  pub once : (m : ℕ) → count_by (λ k. nat_eq (member_of k) m) (keys_of t) ≡ cond (is_on s (slice_index_or es m Nothing)) 1 0
  pub many : length (keys_of t) ≡ count_by (is_on s) es
  pub place : 2 * length es + 33 < 33 * t.most
  pub narrow : 16 * t.most ≤ length es + 32

-- the trees of the buyers and of the sellers, and the members' entries
pub record Sound (ts : Sides Tree) (es : List Entry) : Type 0 where
  pub sides : (s : Side) → Kept s (of_side s ts) es
  pub few : length es ≤ 65535
