-- What a row of messages is to each of its members. A message is of the member that its first two bytes name, if it has
-- twelve bytes; any other is of nobody.
use Rattle.std.specs.Prelude.{◌≡◌, ℕ, zero, suc, ◌+◌, ◌*◌, ◌<◌, ◌≤◌, Bool, cond, ◌&&◌, List, [], ◌∷◌, length, Ok, Err, Result, ◌==◌}
use Rattle.orders.specs.declared.entry.Entry.{Entry}
use Rattle.orders.specs.declared.entry.Entry.TheVariants.{Nothing, Bid, Ask}
use Rattle.orders.specs.declared.message.Message.{Message}
use Rattle.orders.specs.declared.order.Order.{Order}
use Rattle.orders.specs.declared.refusal.Refusal.{Refusal}
use Rattle.orders.specs.Entries.{bid_in}
use Rattle.orders.specs.Taking.{Position}
use Rattle.orders.specs.Words.{word2}

abbrev pub is_of : ℕ → List ℕ → Bool
is_of i m = length m == 12 && word2 m 0 == i

-- those of a row of messages that are member i's, in their order
unfoldable pub own : ℕ → List (List ℕ) → List (List ℕ)
own i [] = []
own i (m ∷ ms) = cond (is_of i m) (m ∷ own i ms) (own i ms)

-- those of the answers to a row of messages that are to member i's
unfoldable pub own_answers : {A : Type 0} → ℕ → List (List ℕ) → List A → List A
own_answers i [] as' = []
own_answers i (m ∷ ms) [] = []
own_answers i (m ∷ ms) (a ∷ as') = cond (is_of i m) (a ∷ own_answers i ms as') (own_answers i ms as')

-- all that is bid in the first n kinds, in cents
abbrev pub bids : (ℕ → Entry) → ℕ → ℕ
bids f zero = 0
bids f (suc n) = bids f n + bid_in (f n)

-- entries by kind, with another in kind k
abbrev pub with_entry : (ℕ → Entry) → ℕ → Entry → ℕ → Entry
with_entry f k e j = cond (j == k) e (f j)

-- what an order leaves of its member's position: its entry in its kind, its number, and what is bid with it
abbrev pub moved : Position → Result Order Refusal → Position
moved p (Ok o) =
    record {
      entry = with_entry p.entry o.kind.0 o.entry;
      berths = p.berths;
      account = p.account;
      last = o.number;
      committed = o.committed.0;
    }
moved p (Err e) = p

-- what an entry needs of the berths of its kind: an ask has one to sell, a bid leaves room to count one more
abbrev pub Backed : Entry → ℕ → Type 0
Backed Nothing berths = Unit {0}
Backed (Bid c) berths = berths < 255
Backed (Ask c) berths = 1 ≤ berths

-- what is kept as the sum of the bids is their sum; it is covered by the account; and each entry is backed
pub record Sound (K : ℕ) (p : Position) : Type 0 where
  pub kept : p.committed ≡ 2 * bids p.entry K
  pub covered : 2 * bids p.entry K ≤ p.account
  pub backed : (k : ℕ) → k < K → Backed (p.entry k) (p.berths k)

-- the entry that a message would write
abbrev pub written : Message → Entry
written m = cond (m.sort == 1) (Bid (record { 0 = m.cents })) (cond (m.sort == 2) (Ask (record { 0 = m.cents })) Nothing)

-- when a message is to be taken, of K kinds and M members, by its member's position
pub record Due (K M : ℕ) (p : Position) (m : Message) : Type 0 where
  pub member_exists : m.member < M
  pub kind_exists : m.kind < K
  pub number_is_new : p.last < m.number
  pub sort_is_known : m.sort ≤ 2
  pub nothing_is_free : m.sort ≡ 0 → m.cents ≡ 0
  pub cents_least : 1 ≤ m.sort → 1 ≤ m.cents
  pub cents_most : 1 ≤ m.sort → m.cents ≤ 10000000
  pub bids_are_covered : 2 * bids (with_entry p.entry m.kind (written m)) K ≤ p.account
  pub ask_is_backed : m.sort ≡ 2 → 1 ≤ p.berths m.kind
  pub bid_is_counted : m.sort ≡ 1 → p.berths m.kind < 255
