-- What is in lent memory. Entries stand kind by kind: member m's in kind k at k × M + m, of M members. Berths stand member
-- by member: those of kind k at m × K + k, of K kinds. A taken message sets one entry, one number and one sum of bids, and
-- nothing else.
use Rattle.std.specs.Prelude.{◌≡◌, ℕ, ◌+◌, ◌*◌, ◌≤◌, cond, ◌||◌, List, length, Some, None, Ok, Err, Option, Result, nat_lt, slice_index, slice_set}
use Rattle.std.specs.Option.{unwrap_or}
use Rattle.orders.specs.declared.books.Books.{Books}
use Rattle.orders.specs.declared.entry.Entry.{Entry}
use Rattle.orders.specs.declared.order.Order.{Order}
use Rattle.orders.specs.declared.refusal.Part.{Part}
use Rattle.orders.specs.declared.refusal.Part.TheVariants.{Entries, Accounts, Berths}
use Rattle.orders.specs.declared.refusal.Refusal.{Refusal}
use Rattle.orders.specs.declared.refusal.Refusal.TheVariants.{Short}
use Rattle.orders.specs.Entries.{encoded, entry_of}
use Rattle.orders.specs.Messages.{message_of}
use Rattle.orders.specs.Taking.{Position, and_then, ruling}

pub record Held : Type 0 where
  pub entries : List ℕ
  pub numbers : List ℕ
  pub committed : List ℕ
  pub accounts : List ℕ
  pub berths : List ℕ

abbrev pub held : Books → Held
held b =
    record {
      entries = b.entries.now;
      numbers = b.numbers.now;
      committed = b.committed.now;
      accounts = b.accounts.now;
      berths = b.berths.now;
    }

-- the slices are those that were lent
pub record SameLoans (b a : Books) : Type 0 where
  pub entries : a.entries.ghost_name ≡ b.entries.ghost_name
  pub numbers : a.numbers.ghost_name ≡ b.numbers.ghost_name
  pub committed : a.committed.ghost_name ≡ b.committed.ghost_name
  pub accounts : a.accounts.ghost_name ≡ b.accounts.ghost_name
  pub berths : a.berths.ghost_name ≡ b.berths.ghost_name

-- the first part that is too short for K kinds and M members; what is kept of each member stands beside the entries
abbrev pub lacking : ℕ → ℕ → Held → Option Part
lacking K M h =
    cond (nat_lt (length h.entries) (K * M) || (nat_lt (length h.numbers) M || nat_lt (length h.committed) M)) (Some Entries)
    (cond (nat_lt (length h.accounts) M) (Some Accounts)
    (cond (nat_lt (length h.berths) (K * M)) (Some Berths) None))

-- none is too short
pub record Fits (K M : ℕ) (h : Held) : Type 0 where
  pub entries : K * M ≤ length h.entries
  pub numbers : M ≤ length h.numbers
  pub committed : M ≤ length h.committed
  pub accounts : M ≤ length h.accounts
  pub berths : K * M ≤ length h.berths

-- a member's entries by kind
abbrev pub entry_at : ℕ → List ℕ → ℕ → ℕ → Entry
entry_at M codes m k = entry_of (slice_index codes (k * M + m))

abbrev pub position : ℕ → ℕ → Held → ℕ → Position
position K M h m =
    record {
      entry = entry_at M h.entries m;
      berths = λ k. slice_index h.berths (m * K + k);
      account = slice_index h.accounts m;
      last = slice_index h.numbers m;
      committed = slice_index h.committed m;
    }

abbrev pub unless_short : {A : Type 0} → Option Part → Result A Refusal → Result A Refusal
unless_short None r = r
unless_short (Some p) r = Err (Short p)

-- what the bytes of a message are judged to be
abbrev pub judged : ℕ → ℕ → Held → List ℕ → Result Order Refusal
judged K M h bytes =
    unless_short (lacking K M h) (and_then (message_of bytes) (λ m. ruling K M (position K M h) m))

abbrev pub entries_after : ℕ → List ℕ → Result Order Refusal → List ℕ
entries_after M codes (Ok o) = slice_set codes (o.kind.0 * M + o.member.0) (unwrap_or (encoded o.entry) 0)
entries_after M codes (Err e) = codes

abbrev pub numbers_after : List ℕ → Result Order Refusal → List ℕ
numbers_after numbers (Ok o) = slice_set numbers o.member.0 o.number
numbers_after numbers (Err e) = numbers

abbrev pub committed_after : List ℕ → Result Order Refusal → List ℕ
committed_after committed (Ok o) = slice_set committed o.member.0 o.committed.0
committed_after committed (Err e) = committed

-- what is in memory after a message
abbrev pub held_after : ℕ → ℕ → Held → List ℕ → Held
held_after K M h m =
    record {
      entries = entries_after M h.entries (judged K M h m);
      numbers = numbers_after h.numbers (judged K M h m);
      committed = committed_after h.committed (judged K M h m);
      accounts = h.accounts;
      berths = h.berths;
    }

abbrev pub answer : {A : Type 0} → Result A Refusal → Result (Unit {0}) Refusal
answer (Ok x) = Ok tt
answer (Err e) = Err e
