-- An entry is what a member has in a kind: nothing, a bid or an ask of 1 to 10,000,000 cents. In memory and in files it
-- is one number: 0 for nothing, 2^24 + cents for a bid, 2 × 2^24 + cents for an ask. A kind's row of entries has one for
-- each member; a number that stands for no entry is read there as nothing.
use Rattle.std.specs.Prelude.{◌≡◌, ℕ, ◌+◌, ◌-◌, ◌*◌, cond, ◌&&◌, List, map, take, drop, Some, None, Option, Result, IfOk, ◌==◌, nat_le, nat_lt}
use Rattle.std.specs.Option.{unwrap_or, ok_or}
use Rattle.orders.specs.Range.{in_range}
use Rattle.orders.specs.declared.entry.Entry.{Entry}
use Rattle.orders.specs.declared.entry.Entry.TheVariants.{Nothing, Bid, Ask}
use Rattle.orders.specs.declared.entry.UnknownCode.{UnknownCode}
use Rattle.orders.specs.declared.refusal.Refusal.{Refusal}
use Rattle.orders.specs.declared.refusal.Refusal.TheVariants.{OutOfRange}

abbrev pub encoded : Entry → Option ℕ
encoded Nothing = Some 0
encoded (Bid c) = cond (in_range c.0) (Some (16777216 + c.0)) None
encoded (Ask c) = cond (in_range c.0) (Some (33554432 + c.0)) None

abbrev pub decoded : ℕ → Option Entry
decoded n =
    cond (n == 0) (Some Nothing)
    (cond (nat_lt 16777216 n && nat_le n 26777216) (Some (Bid (record { 0 = n - 16777216 })))
    (cond (nat_lt 33554432 n && nat_le n 43554432) (Some (Ask (record { 0 = n - 33554432 }))) None))

-- an entry to its number, or a number to its entry; and the other way leads back
abbrev pub Encodes : Entry → Result ℕ Refusal → Type 0
Encodes entry r = (r ≡ ok_or (encoded entry) OutOfRange) × IfOk r (λ code. decoded code ≡ Some entry)

abbrev pub Decodes : ℕ → Result Entry UnknownCode → Type 0
Decodes code r = (r ≡ ok_or (decoded code) (record { 0 = code })) × IfOk r (λ entry. encoded entry ≡ Some code)

abbrev pub entry_of : ℕ → Entry
entry_of n = unwrap_or (decoded n) Nothing

abbrev pub row_of : List ℕ → List Entry
row_of ns = map entry_of ns

-- kind k's row of entries, of M members
abbrev pub kind_row : ℕ → List ℕ → ℕ → List Entry
kind_row M codes k = row_of (take M (drop (k * M) codes))

-- what an entry bids, in cents
abbrev pub bid_in : Entry → ℕ
bid_in Nothing = 0
bid_in (Bid c) = c.0
bid_in (Ask c) = 0
