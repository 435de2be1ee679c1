-- A kind's row has an entry for each member: nothing, a bid or an ask. Its buyers and its sellers are ranked, and their
-- numbers, in the order of ranks, give the outcome. A member's rank is how many of its side come before it; it trades if
-- that is below the number of trades. Equal numbers go by a tie number of the member, of which no two are the same.
use Rattle.std.specs.Prelude.{◌≡◌, ℕ, suc, ◌+◌, ◌<◌, Bool, false, cond, List, [], ◌∷◌, length, is_some, Some, None, count_by, Option, nat_lt, slice_index_or, slice_set}
use Rattle.std.specs.List.{range_with_len}
use Rattle.orders.specs.declared.money.Cents.{Cents}
use Rattle.orders.specs.declared.entry.Entry.{Entry}
use Rattle.orders.specs.declared.entry.Entry.TheVariants.{Nothing, Bid, Ask}
use Rattle.ranking.specs.declared.ranked.Side.{Side}
use Rattle.ranking.specs.declared.ranked.Side.TheVariants.{Buyers, Sellers}
use Rattle.ranking.specs.declared.ranked.Ranked.{Ranked}
use Rattle.ranking.specs.Ranks.{before, on_side, ranked}
use Rattle.clearing.specs.declared.outcome.Outcome.{Outcome}
use Rattle.clearing.specs.Rule.{cents_of, pairs, cleared, trades_in, buyers_pay, sellers_get}

-- no two members of a row have one tie number
abbrev pub Apart : (ℕ → ℕ) → List Entry → Type 0
Apart tie row = (i j : ℕ) → i < length row → j < length row → tie i ≡ tie j → i ≡ j

-- bids and asks in the order of ranks
abbrev pub bids : (ℕ → ℕ) → List Entry → List ℕ
bids tie row = cents_of (ranked Buyers tie row)

abbrev pub asks : (ℕ → ℕ) → List Entry → List ℕ
asks tie row = cents_of (ranked Sellers tie row)

abbrev pub pairs_in : (ℕ → ℕ) → List Entry → ℕ
pairs_in tie row = pairs (bids tie row) (asks tie row)

abbrev pub outcome : (ℕ → ℕ) → List Entry → Outcome
outcome tie row = cleared (bids tie row) (asks tie row)

-- a member's number on a side, where it stands there
abbrev pub number : Side → List Entry → ℕ → Option Cents
number s row i = on_side s (slice_index_or row i Nothing)

-- how many stand on a side
abbrev pub stands_on : Side → Entry → Bool
stands_on s e = is_some (on_side s e)

abbrev pub how_many : Side → List Entry → ℕ
how_many s row = count_by (stands_on s) row

abbrev pub standing : ℕ → Cents → Ranked
standing i c = record { member = i; cents = c }

-- how many of a side come before x, of a row whose first entry is member m's
abbrev pub one_before : Side → (ℕ → ℕ) → Ranked → ℕ → Option Cents → ℕ
one_before s tie x m None = 0
one_before s tie x m (Some c) = cond (before s tie (standing m c) x) 1 0

unfoldable pub before_from : Side → (ℕ → ℕ) → Ranked → ℕ → List Entry → ℕ
before_from s tie x m [] = 0
before_from s tie x m (e ∷ es) = one_before s tie x m (on_side s e) + before_from s tie x (suc m) es

abbrev pub rank : Side → (ℕ → ℕ) → List Entry → Ranked → ℕ
rank s tie row x = before_from s tie x 0 row

-- whether a member trades
abbrev pub trades_with : Side → (ℕ → ℕ) → List Entry → ℕ → Option Cents → Bool
trades_with s tie row i None = false
trades_with s tie row i (Some c) = nat_lt (rank s tie row (standing i c)) (trades_in (outcome tie row))

abbrev pub buys : (ℕ → ℕ) → List Entry → ℕ → Bool
buys tie row i = trades_with Buyers tie row i (number Buyers row i)

abbrev pub sells : (ℕ → ℕ) → List Entry → ℕ → Bool
sells tie row i = trades_with Sellers tie row i (number Sellers row i)

-- what each buyer who trades pays, and each seller gets, in half cents
abbrev pub pays : (ℕ → ℕ) → List Entry → ℕ
pays tie row = buyers_pay (outcome tie row)

abbrev pub gets : (ℕ → ℕ) → List Entry → ℕ
gets tie row = sellers_get (outcome tie row)

abbrev pub members : List Entry → List ℕ
members row = range_with_len 0 (length row)

-- the row with another entry of member i
abbrev pub with_bid : List Entry → ℕ → Cents → List Entry
with_bid row i c = slice_set row i (Bid c)

abbrev pub with_ask : List Entry → ℕ → Cents → List Entry
with_ask row i c = slice_set row i (Ask c)

-- whether member i would buy with a bid, and what it would pay; and so with an ask
abbrev pub buys_with : (ℕ → ℕ) → List Entry → ℕ → Cents → Bool
buys_with tie row i c = buys tie (with_bid row i c) i

abbrev pub pays_with : (ℕ → ℕ) → List Entry → ℕ → Cents → ℕ
pays_with tie row i c = pays tie (with_bid row i c)

abbrev pub sells_with : (ℕ → ℕ) → List Entry → ℕ → Cents → Bool
sells_with tie row i c = sells tie (with_ask row i c) i

abbrev pub gets_with : (ℕ → ℕ) → List Entry → ℕ → Cents → ℕ
gets_with tie row i c = gets tie (with_ask row i c)
