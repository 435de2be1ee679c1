-- What a member's account and berths are worth to it, in half cents: a berth of a kind is worth what the member wrote there,
-- as a bid or as an ask; where it wrote nothing, no berth of the kind changes hands with it.
use Rattle.std.specs.Prelude.{ℕ, ◌+◌, ◌*◌, List, sum_by}
use Rattle.orders.specs.declared.entry.Entry.{Entry}
use Rattle.orders.specs.declared.entry.Entry.TheVariants.{Nothing, Bid, Ask}

-- 0 nothing, 1 a bid, 2 an ask; and its cents
abbrev pub sort_of : Entry → ℕ
sort_of Nothing = 0
sort_of (Bid c) = 1
sort_of (Ask c) = 2

abbrev pub cents_in : Entry → ℕ
cents_in Nothing = 0
cents_in (Bid c) = c.0
cents_in (Ask c) = c.0

-- an account and berths of the kinds ks, each kind's berths at the cents of the entry there
abbrev pub worth : (ℕ → Entry) → List ℕ → ℕ → (ℕ → ℕ) → ℕ
worth entries ks account berths = account + sum_by (λ k. 2 * cents_in (entries k) * berths k) ks
