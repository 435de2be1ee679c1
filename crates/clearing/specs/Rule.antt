-- The rule of a kind, over its ranked bids and asks. The pairs are the first ranks at which the ask is at most the bid.
-- The price from the next bid and ask is half their sum; it serves if there are both and it lies between the ask and
-- the bid of the last pair, ends allowed. If it serves, all pairs trade at it. Otherwise all but the last pair trade:
-- buyers pay the last pair's bid, sellers get its ask, and the rest goes to the fund. Where nothing trades, prices are
-- 0. Bids and asks are in cents and prices in half cents, so that half a sum of cents is that sum in half cents.
use Rattle.std.specs.Prelude.{ℕ, zero, suc, ◌+◌, ◌-◌, ◌*◌, ◌^◌, Bool, cond, ◌&&◌, List, [], ◌∷◌, map, length, Some, None, Option, ◌==◌, nat_le, nat_lt, slice_index}
use Rattle.orders.specs.declared.money.HalfCents.{HalfCents}
use Rattle.ranking.specs.declared.ranked.Side.{Side}
use Rattle.ranking.specs.declared.ranked.Side.TheVariants.{Buyers, Sellers}
use Rattle.ranking.specs.declared.ranked.Ranked.{Ranked}
use Rattle.clearing.specs.declared.outcome.Outcome.{Outcome}
use Rattle.clearing.specs.declared.outcome.Outcome.TheVariants.{NoTrade, OnePrice, TwoPrices}

-- the numbers of a ranked list, in the order of ranks
abbrev pub cents_of : List Ranked → List ℕ
cents_of xs = map (λ (x : Ranked). x.cents.0) xs

-- how many ranks from 0 up have a bid and an ask that is at most the bid
unfoldable pub pairs : List ℕ → List ℕ → ℕ
pairs [] asks = 0
pairs (b ∷ bids) [] = 0
pairs (b ∷ bids) (a ∷ asks) = cond (nat_le a b) (suc (pairs bids asks)) 0

-- the bid or the ask of a rank
abbrev pub at_rank : List ℕ → ℕ → ℕ
at_rank xs r = slice_index xs r

abbrev pub half_cents : ℕ → HalfCents
half_cents n = record { 0 = n }

-- the price half way between the bid and the ask of a rank, where there are both
abbrev pub middle_at : ℕ → List ℕ → List ℕ → Option HalfCents
middle_at r bids asks =
    cond (nat_lt r (length bids) && nat_lt r (length asks)) (Some (half_cents (at_rank bids r + at_rank asks r))) None

-- a price serves if it lies between the last pair's ask and its bid
abbrev pub serves : ℕ → ℕ → ℕ → Bool
serves ask price bid = nat_le ask price && nat_le price bid

-- all pairs but the last, whose rank is n, at its bid and its ask: nothing, where it is the only one
abbrev pub all_but_last : ℕ → ℕ → ℕ → Outcome
all_but_last n bid ask = cond (n == 0) NoTrade (TwoPrices n (half_cents bid) (half_cents ask))

-- the outcome, from the last pair's rank, its bid and its ask in half cents, and the price from the next, if there is one
abbrev pub settled : ℕ → ℕ → ℕ → Option HalfCents → Outcome
settled last bid ask None = all_but_last last bid ask
settled last bid ask (Some price) = cond (serves ask price.0 bid) (OnePrice (suc last) price) (all_but_last last bid ask)

-- the outcome of so many pairs
abbrev pub outcome_of : ℕ → List ℕ → List ℕ → Outcome
outcome_of zero bids asks = NoTrade
outcome_of (suc last) bids asks =
    settled last (2 * at_rank bids last) (2 * at_rank asks last) (middle_at (suc last) bids asks)

-- the outcome of ranked bids and asks
abbrev pub cleared : List ℕ → List ℕ → Outcome
cleared bids asks = outcome_of (pairs bids asks) bids asks

-- an outcome's numbers: how many trade, what each buyer pays, what each seller gets, what the fund gets
abbrev pub trades_in : Outcome → ℕ
trades_in NoTrade = 0
trades_in (OnePrice n price) = n
trades_in (TwoPrices n bid ask) = n

abbrev pub buyers_pay : Outcome → ℕ
buyers_pay NoTrade = 0
buyers_pay (OnePrice n price) = price.0
buyers_pay (TwoPrices n bid ask) = bid.0

abbrev pub sellers_get : Outcome → ℕ
sellers_get NoTrade = 0
sellers_get (OnePrice n price) = price.0
sellers_get (TwoPrices n bid ask) = ask.0

-- what each member of a side who trades pays or gets
abbrev pub price_of : Side → Outcome → ℕ
price_of Buyers o = buyers_pay o
price_of Sellers o = sellers_get o

abbrev pub fund_gets : Outcome → ℕ
fund_gets o = trades_in o * (buyers_pay o - sellers_get o)

-- a sum of half cents, where it fits 64 bits
abbrev pub fitting : ℕ → Option HalfCents
fitting n = cond (nat_lt n (2 ^ 64)) (Some (half_cents n)) None
