-- What becomes of a message. All that decides is the message and the position of its own member: the number of its last
-- taken message, its account, for each kind its entry and its berths, and what it bids in all kinds together, which is
-- kept beside them, in half cents.
use Rattle.std.specs.Prelude.{ℕ, ◌+◌, ◌-◌, ◌*◌, cond, Ok, Err, Result, ◌==◌, nat_le, nat_lt}
use Rattle.orders.specs.declared.entry.Entry.{Entry}
use Rattle.orders.specs.declared.entry.Entry.TheVariants.{Nothing, Bid, Ask}
use Rattle.orders.specs.declared.message.Message.{Message}
use Rattle.orders.specs.declared.order.Order.{Order}
use Rattle.orders.specs.declared.refusal.Refusal.{Refusal}
use Rattle.orders.specs.declared.refusal.Refusal.TheVariants.{NoMember, OldNumber, NoKind, NoSort, OutOfRange, Uncovered, Full, Unbacked}
use Rattle.orders.specs.Range.{in_range}
use Rattle.orders.specs.Entries.{bid_in}

pub record Position : Type 0 where
  pub entry : ℕ → Entry
  pub berths : ℕ → ℕ
  pub account : ℕ
  pub last : ℕ
  pub committed : ℕ

-- the entry that a sort and cents ask for
abbrev pub asked : ℕ → ℕ → Result Entry Refusal
asked sort cents =
    cond (sort == 0) (cond (cents == 0) (Ok Nothing) (Err OutOfRange))
    (cond (sort == 1) (cond (in_range cents) (Ok (Bid (record { 0 = cents }))) (Err OutOfRange))
    (cond (sort == 2) (cond (in_range cents) (Ok (Ask (record { 0 = cents }))) (Err OutOfRange)) (Err NoSort)))

-- what is bid in all kinds with an entry in kind k in place of the one there
abbrev pub committed_with : Position → ℕ → Entry → ℕ
committed_with p k e = (p.committed - 2 * bid_in (p.entry k)) + 2 * bid_in e

-- the same, if the account and the berths of kind k allow the entry
abbrev pub allowed : Position → ℕ → Entry → Result ℕ Refusal
allowed p k Nothing = Ok (committed_with p k Nothing)
allowed p k (Bid c) =
    cond (nat_le (committed_with p k (Bid c)) p.account)
    (cond (nat_lt (p.berths k) 255) (Ok (committed_with p k (Bid c))) (Err Full)) (Err Uncovered)
allowed p k (Ask c) = cond (nat_lt 0 (p.berths k)) (Ok (committed_with p k (Ask c))) (Err Unbacked)

abbrev pub and_then : {A B : Type 0} → Result A Refusal → (A → Result B Refusal) → Result B Refusal
and_then (Ok x) f = f x
and_then (Err e) f = Err e

abbrev pub order_of : Position → Message → Entry → ℕ → Order
order_of p m e committed =
    record {
      member = record { 0 = m.member };
      number = m.number;
      kind = record { 0 = m.kind };
      entry = e;
      replaced = p.entry m.kind;
      committed = record { 0 = committed };
    }

-- the order that a message for an existing kind is, or why it is not taken
abbrev pub entering : Position → Message → Result Order Refusal
entering p m =
    and_then (asked m.sort m.cents) (λ e. and_then (allowed p m.kind e) (λ c. Ok (order_of p m e c)))

-- the same for any message of the position's member, of K kinds
abbrev pub ruling_at : ℕ → Position → Message → Result Order Refusal
ruling_at K p m =
    cond (nat_lt p.last m.number) (cond (nat_lt m.kind K) (entering p m) (Err NoKind)) (Err OldNumber)

-- the same for any message, by the positions of M members
abbrev pub ruling : ℕ → ℕ → (ℕ → Position) → Message → Result Order Refusal
ruling K M positions m = cond (nat_lt m.member M) (ruling_at K (positions m.member) m) (Err NoMember)
